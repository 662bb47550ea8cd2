use Rattle.std.proofs.Common.{◌∙◌}
use Rattle.bier_tunnel.proofs.WayLemmas.{prefix-is}
use Rattle.bier_tunnel.proofs.fib.Fib.prefix_of.Goals as goal

pub returns-clause-prefix : goal.returns-clause-prefix
returns-clause-prefix c r g u are = c.prefix_to.ensures ∙ prefix-is r g u c.args.self.now are c.args.target c.args.sd
