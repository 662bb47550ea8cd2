use Rattle.std.proofs.Common.{arith}
use Rattle.std.proofs.lemmas.Bool.Decides.{nat_tests}
use Rattle.router_core.specs.Sending.{psnp_listing}
use Rattle.router_core.proofs.SendLaws.{psnp_step}
use Rattle.router_core.proofs.sending.push_psnps.Goals as goal

pub cuts-preserved : goal.cuts-preserved
cuts-preserved c =
    psnp_step c.args.conf.now c.args.link (psnp_listing c.args.conf.now.system) c.cuts.out c.push_psnp.new.out _ c.cuts.rest.now c.split_at.result.0.now c.split_at.result.1.now c.min.result
    c.cuts.invariant (grind (arith, nat_tests, c.is_empty.ensures)) (grind (arith, nat_tests, c.min.ensures)) c.split_at.ensures.front c.split_at.ensures.back c.in_ok-push_psnp.ensures
