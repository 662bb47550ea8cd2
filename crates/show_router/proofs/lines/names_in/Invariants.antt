use Rattle.std.proofs.Common.{◌≡◌, length}
use Rattle.show_router.proofs.lines.names_in.Given as goal

abbrev pub invariant-loop-router : goal.invariant-loop-router
invariant-loop-router l = length l.names ≡ l.router-index
