use Rattle.std.proofs.Common.{subst, sym}
use Rattle.router_core.specs.Keeping.{MayKeep}
use Rattle.router_core.proofs.staleness.may_go_stale.Goals as goal

pub returns-in-None : goal.returns-in-None
returns-in-None c = λ _ b next kept same. subst (MayKeep next) (sym c.in-None.is) tt

pub returns-in-Some : goal.returns-in-Some
returns-in-Some c = λ yes b next kept same. c.noted.ensures yes b next (subst (MayKeep b) c.in-Some.is kept) same
