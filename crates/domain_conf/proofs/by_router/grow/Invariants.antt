use Rattle.std.proofs.Common.{◌≡◌, ℕ, ◌+◌, ◌-◌, [], get_or, vec_len}
use Rattle.domain_conf.proofs.by_router.grow.Given as goal

-- the groups are unchanged, and further ones are empty
abbrev pub invariant-groups : goal.invariant-groups
invariant-groups g l = (i : ℕ) → get_or l.groups.items i [] ≡ get_or l.initial.groups.items i []

abbrev pub decreases-groups : goal.decreases-groups
decreases-groups g l = (l.router + 1) - vec_len l.groups
