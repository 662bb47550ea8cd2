use Rattle.std.proofs.Common.{◌≡◌, drop, map, take}
use Rattle.std.specs.List.{AllByRecursion}
use Rattle.laws_router.specs.State.{IssuesAlone}
use Rattle.domain_core.specs.Quiet.{spent_from}
use Rattle.domain_core.proofs.quiet.spent_answer.Given as goal

-- none of the routers so far is spent, and each issues its own LSP alone
abbrev pub invariant-loop-place : goal.invariant-loop-place
invariant-loop-place l = record {
  left : spent_from l.place (map (λ r. r.control) (drop l.place l.routers)) ≡ spent_from 0 (map (λ r. r.control) l.routers);
  issued : AllByRecursion IssuesAlone (map (λ r. r.control) (take l.place l.routers));
}
