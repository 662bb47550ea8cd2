use Rattle.std.proofs.Common.{arith}
use Rattle.router_core.proofs.SendLaws.{psnp_whole}
use Rattle.router_core.proofs.framing.psnp_front.Goals as goal

pub returns-clause-whole : goal.returns-clause-whole
returns-clause-whole c = λ rows long. psnp_whole c.args.level c.args.source rows c.front_octets.result _ c.args.listed c.front_octets.ensures.spelled long (omega (arith, long))
