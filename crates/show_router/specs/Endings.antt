-- How a question ends that has no answer.
use Rattle.std.specs.Prelude.{◌≡◌}
use Rattle.wire_base.specs.declared.status.Status.{Status}
use Rattle.wire_base.specs.declared.status.Status.TheVariants as status
use Rattle.show_router.specs.declared.ending.NoAnswer.{NoAnswer}
use Rattle.show_router.specs.declared.ending.NoAnswer.TheVariants.{Refused, Stopped}

-- with a line and that status; or memory ran out
abbrev pub Ends : Status → NoAnswer → Type 0
Ends why (Refused told line) = told ≡ why
Ends why (Stopped told) = told ≡ status.Memory
