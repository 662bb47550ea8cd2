use Rattle.std.proofs.Common.{◌≡◌, ◌++◌, ℕ, List, filter, ap, ◌∙◌, arith}
use Rattle.wire_base.specs.model.BitSet.{has_member, up_to}
use Rattle.wire_base.specs.model.Place.{bits_of}
use Rattle.bier_bits.specs.Any.{positions_of}
use Rattle.domain_core.specs.Cover.{reached_at}
use Rattle.domain_core.proofs.CoverLaws.{reached_all}
use Rattle.domain_core.proofs.cover.Entrance.push_reached.Goals as goal

pub returns : goal.returns
returns c =
    let last : c.loop-position.position ≡ bits_of c.bsl.result = omega (arith, c.bits-position-end.ensures) in
    c.loop-position.invariant.ids
    ∙ ap (λ (n : ℕ). c.args.ids.now ++ reached_at c.args.self.now c.args.triple (filter (λ p. has_member p (positions_of c.args.bits.now)) (up_to n))) (last ∙ ap bits_of c.bsl.ensures.value)
    ∙ ap (λ (ks : List ℕ). c.args.ids.now ++ ks) (reached_all c.args.self.now c.args.triple (positions_of c.args.bits.now) _ c.bsl.ensures.ordered)
