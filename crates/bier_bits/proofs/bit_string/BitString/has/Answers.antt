use Rattle.std.proofs.Common.{arith, ◌*◌, inl, inr}
use Rattle.bier_bits.proofs.WordLaws.{has_none, has_past, has_here}
use Rattle.bier_bits.proofs.bit_string.BitString.has.Goals as goal

pub returns-then-bp-width : goal.returns-then-bp-width
returns-then-bp-width g c = elim c.then-bp-width.either [
  | inl past ↦ has_past (64 * g.row.W) c.args.bp c.args.self.now c.width.ensures.ordered (omega (arith, past, c.width.ensures.value))
  | inr none ↦ has_none (64 * g.row.W) c.args.bp c.args.self.now c.width.ensures.ordered none.1
]

pub returns : goal.returns
returns g c = has_here g.row.W c.args.bp c.from-place.result c.self.inside.lanes c.args.self.now c.self.view_is (omega (arith, c.from-place.ensures, c.if-bp-eq0.false)) (omega (arith, c.if-bp-width.false, c.width.ensures.value))
