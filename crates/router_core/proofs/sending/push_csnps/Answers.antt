use Rattle.std.proofs.Common.{refl, arith}
use Rattle.router_core.specs.Sending.{conf_alone}
use Rattle.router_core.proofs.SendLaws.{csnp_step, csnp_end}
use Rattle.router_core.proofs.sending.push_csnps.Goals as goal

pub cuts-preserved : goal.cuts-preserved
cuts-preserved c =
    csnp_step c.args.conf.now c.args.link (conf_alone c.args.conf.now) c.cuts.out c.push_csnp.new.out _ c.cuts.start c.cuts.rest.now c.split_at.result.0.now c.split_at.result.1.now _
    c.cuts.invariant (omega (arith, c.cuts-test.true)) c.split_at.ensures.front c.split_at.ensures.back c.in_ok-push_csnp.ensures c.id_after-start.result c.id_after-start.ensures

pub returns : goal.returns
returns c =
    csnp_end c.args.conf.now c.args.link (conf_alone c.args.conf.now) c.cuts.out c.push_csnp-2.new.out _ c.cuts.start _ c.cuts.rest.now c.cuts.invariant (omega (arith, c.cuts-test.false)) refl c.in_ok-push_csnp-2.ensures
