use Rattle.std.proofs.Common.{◌∙◌, ◌/◌, ◌+◌, Some, ℕ, ap}
use Rattle.wire_base.specs.model.BitSet.{intersection}
use Rattle.bier_bits.specs.Sets.{has_both}
use Rattle.bier_bits.proofs.Marks.{shared_marks}
use Rattle.bier_bits.proofs.Places.{from_shared, found_among, none_among, none_apart, first_apart}
use Rattle.bier_bits.proofs.bit_string.BitString.first_shared_from.Goals as goal

pub returns-in_err-place-clause-first : goal.returns-in_err-place-clause-first
returns-in_err-place-clause-first g c = c.from_residual.ensures ∙
    none_among g.row.W 0 c.self.inside.lanes (has_both c.self.inside.lanes c.other.inside.lanes) (intersection c.args.self.now c.args.other.now) c.self.told
    (from_shared g.row.W c.self.inside.lanes c.other.inside.lanes c.args.self.now c.args.other.now c.self.view_is c.other.view_is) c.in_err-place.ensures

pub returns-clause-first : goal.returns-clause-first
returns-clause-first g c =
    found_among g.row.W 0 c.in_ok-place.place c.self.inside.lanes (has_both c.self.inside.lanes c.other.inside.lanes) (intersection c.args.self.now c.args.other.now) c.self.told
    (from_shared g.row.W c.self.inside.lanes c.other.inside.lanes c.args.self.now c.args.other.now c.self.view_is c.other.view_is) c.in_ok-place.ensures

pub first_shared-requires-clause-none : goal.first_shared-requires-clause-none
first_shared-requires-clause-none g c =
    none_apart g.row.W c.args.bp (c.from-from.result / 64) c.self.inside.lanes c.other.inside.lanes c.args.self.now c.args.other.now c.self.view_is c.other.view_is c.requires.low c.requires.high (ap (λ (n : ℕ). n / 64) c.from-from.ensures) c.requires.apart

pub returns-clause-apart : goal.returns-clause-apart
returns-clause-apart g c = first_apart g.row.W c.self.inside.lanes c.args.self.now c.args.other.now (Some (c.in_ok-place.place + 1)) c.self.view_is (returns-clause-first g c)

pub first_shared-requires-clause-shared : goal.first_shared-requires-clause-shared
first_shared-requires-clause-shared g c = shared_marks c.self.inside.marks c.other.inside.marks c.self.inside.lanes c.other.inside.lanes c.self.invariant c.other.invariant
