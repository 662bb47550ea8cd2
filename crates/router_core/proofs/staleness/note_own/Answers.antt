use Rattle.std.proofs.Common.{subst}
use Rattle.router_core.specs.Keeping.{MayKeep}
use Rattle.router_core.proofs.KeepLaws.{own_noted}
use Rattle.router_core.proofs.staleness.note_own.Goals as goal

pub returns-in-Some : goal.returns-in-Some
returns-in-Some c = λ b next kept same. own_noted b next c.in-Some.kept (subst (MayKeep b) c.in-Some.is kept) same
