use Rattle.std.proofs.Common.{◌≡◌, ◌∙◌, ◌+◌, ◌++◌, ◌∷◌, [], ℕ, List, map, filter, ap, arith}
use Rattle.wire_base.specs.model.BitSet.{has_member}
use Rattle.wire_base.specs.model.Place.{bits_of, id_at}
use Rattle.bier_bits.specs.Any.{positions_of}
use Rattle.domain_model.specs.Moves.{listed}
use Rattle.domain_model.proofs.IdLaws.{ids_up_to, ids_more, ids_all}
use Rattle.command_node.proofs.node_command.texts.ids_listed.Goals as goal

pub loop-position-preserved : goal.loop-position-preserved
loop-position-preserved c =
    c.in_ok-push_id.ensures
    ∙ ap (λ (l : List ℕ). l ++ listed (map (id_at c.args.triple) (filter (λ p. has_member p (positions_of c.args.bits.now)) ((c.loop-position.position + 1) ∷ [])))) c.loop-position.invariant
    ∙ ids_more c.args.triple (positions_of c.args.bits.now) c.loop-position.position

pub returns : goal.returns
returns c =
    let last : c.loop-position.position ≡ bits_of c.bsl.result = omega (arith, c.bits-position-end.ensures) in
    c.loop-position.invariant
    ∙ ap (ids_up_to c.args.triple (positions_of c.args.bits.now)) (last ∙ ap bits_of c.bsl.ensures.value)
    ∙ ids_all c.args.triple (positions_of c.args.bits.now) _ c.bsl.ensures.ordered
