use Rattle.std.proofs.Common.{◌≡◌, [], refl, ap, ◌∙◌}
use Rattle.bier_bits.specs.Sets.{has_place, members_of}
use Rattle.bier_bits.proofs.Places.{from_start, found_among, no_first, none_among, taken_first_is}
use Rattle.bier_bits.proofs.bit_string.BitString.take_first.Goals as goal

pub returns-in_err-place-clause-taken : goal.returns-in_err-place-clause-taken
returns-in_err-place-clause-taken g c =
    let empty : c.args.self.now ≡ [] = no_first c.args.self.now (none_among g.row.W 0 c.self.inside.lanes (has_place c.self.inside.lanes) c.args.self.now c.self.told (from_start g.row.W c.self.inside.lanes c.args.self.now c.self.view_is) c.in_err-place.ensures.place) in
    rw c.from_residual.ensures (empty, ap (members_of g.row.W) c.in_err-place.ensures.left ∙ c.self.view_is ∙ empty)

pub returns-clause-taken : goal.returns-clause-taken
returns-clause-taken g c =
    taken_first_is g.row.W c.in_ok-place.place c.self.inside.lanes c.take_place.new.words c.args.self.now _ c.self.view_is refl
    (found_among g.row.W 0 c.in_ok-place.place c.self.inside.lanes (has_place c.self.inside.lanes) c.args.self.now c.self.told (from_start g.row.W c.self.inside.lanes c.args.self.now c.self.view_is) c.in_ok-place.ensures.place) c.in_ok-place.ensures.left
