use Rattle.std.proofs.Common.{◌≡◌, drop}
use Rattle.wire_base.specs.model.Place.{id_of, sub_in}
use Rattle.laws_quiet.specs.Cover.{is_own}
use Rattle.domain_core.proofs.cover.is_own.Given as goal

-- none of the sub-domains so far is this one
abbrev pub invariant-loop-sub : goal.invariant-loop-sub
invariant-loop-sub l = is_own (id_of (sub_in (drop l.sub-index l.subs) l.sd)) l.id ≡ is_own (id_of (sub_in l.subs l.sd)) l.id
