use Rattle.std.proofs.Common.{refl, sym, ◌∙◌, ap, subst, arith}
use Rattle.std.specs.List.{list_any}
use Rattle.std.proofs.lemmas.List.{take_all}
use Rattle.wire_base.specs.model.BitSet.{has_member, IsWithin}
use Rattle.wire_base.specs.model.Place.{bits_of}
use Rattle.bier_bits.specs.Any.{bsl_of, positions_of}
use Rattle.bfr_edge.proofs.GroupLaws.{named, bits-whole}
use Rattle.bfr_edge.proofs.EnterLaws.{member-more, member-same}
use Rattle.bfr_edge.proofs.enter.bits_of_set.Goals as goal
use Rattle.bfr_edge.proofs.enter.bits_of_set.Goals.{in-Some, in_default}

pub loop-id-preserved : goal.loop-id-preserved
loop-id-preserved c =
    let so_far = c.loop-id.invariant in
    elim c.match-place_in.branch [
      | in-Some w ↦ record {
        bsl = ap bsl_of w.bits-is ∙ w.set.ensures.bsl ∙ so_far.bsl;
        members = λ p. member-more c.args.triple p c.loop-id.id-index _ w.in-Some.bp c.args.ids.now (positions_of c.loop-id.bits) (positions_of c.match-place_in.bits) (omega (arith, c.loop-id-test.true)) refl (sym w.in-Some.ensures.value) (so_far.members p) (ap positions_of w.bits-is ∙ w.set.ensures.positions);
      }
      | in_default w ↦ record {
        bsl = ap bsl_of w.bits-is ∙ so_far.bsl;
        members = λ p. ap (λ b. has_member p (positions_of b)) w.bits-is ∙ member-same c.args.triple p c.loop-id.id-index _ c.args.ids.now (positions_of c.loop-id.bits) (omega (arith, c.loop-id-test.true)) refl (sym w.in_default.ensures.value) (so_far.members p);
      }
    ]

pub returns-clause-positions : goal.returns-clause-positions
returns-clause-positions c =
    let so_far = c.loop-id.invariant in
    bits-whole c.args.triple c.args.ids.now (positions_of c.loop-id.bits) c.requires.zero
    (subst (λ bsl. IsWithin 0 (bits_of bsl) (positions_of c.loop-id.bits)) so_far.bsl c.bsl-bsl.ensures.ordered)
    (λ p. so_far.members p ∙ ap (λ l. list_any (named c.args.triple p) l) (take_all c.loop-id.id-index c.args.ids.now (omega (arith, c.loop-id-test.false))))
