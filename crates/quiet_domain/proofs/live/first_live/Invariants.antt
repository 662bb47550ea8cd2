use Rattle.std.proofs.Common.{◌≡◌, drop, find}
use Rattle.quiet_domain.specs.Live.{is_live}
use Rattle.quiet_domain.proofs.live.first_live.Given as goal

-- none of the entries so far is live
abbrev pub invariant-entries : goal.invariant-entries
invariant-entries l = find is_live (drop l.place l.store.entries) ≡ find is_live (drop l.first l.store.entries)
