use Rattle.std.proofs.Common.{take}
use Rattle.bier_tunnel.proofs.StepLemmas.{AreSteps}
use Rattle.bier_tunnel.proofs.first_steps.first_steps.Given as goal

abbrev pub invariant-loop-edge : goal.invariant-loop-edge
invariant-loop-edge l = AreSteps l.nodes l.u (take l.edge-index l.edge-items) l.steps.items
