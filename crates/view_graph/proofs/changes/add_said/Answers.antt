use Rattle.std.proofs.Common.{slice_get, sym, ap, ◌∙◌, arith}
use Rattle.wire_base.specs.model.View.{Claim}
use Rattle.view_graph.specs.Renewal.{has}
use Rattle.view_graph.proofs.NodeClaimLaws.{read_get, sits_there, sits_within}
use Rattle.view_graph.proofs.changes.add_said.Goals as goal

pub offset_bounds-nodes-place : goal.offset_bounds-nodes-place
offset_bounds-nodes-place c = omega (arith, sits_within c.args.nodes.now c.index_of-place.result c.args.system.now (sym c.is_at.ensures ∙ c.if-not-is_at.false), c.requires.few)

pub bounds-nodes-place : goal.bounds-nodes-place
bounds-nodes-place c = sits_within c.args.nodes.now c.index_of-place.result c.args.system.now (sym c.is_at.ensures ∙ c.if-not-is_at.false)

pub returns-clause-noted : goal.returns-clause-noted
returns-clause-noted c = λ _ said says. record {
  claim = c.args.claim.now;
  node = c.index-nodes-place.result;
  says = says;
  at_place = ap (slice_get c.args.nodes.now) (sym c.index_of-place.ensures) ∙ read_get c.args.nodes.now c.index_of-place.result c.index-nodes-place.result (sits_within c.args.nodes.now c.index_of-place.result c.args.system.now (sym c.is_at.ensures ∙ c.if-not-is_at.false)) c.index-nodes-place.is;
  system = sits_there c.args.nodes.now c.index_of-place.result c.index-nodes-place.result c.args.system.now c.index-nodes-place.is (sym c.is_at.ensures ∙ c.if-not-is_at.false);
  subs = sym c.as_slice.ensures ∙ c.are_same_subs.ensures.0 c.if-not-are_same_subs.false ∙ c.as_slice-2.ensures ∙ ap (λ (x : Claim). x.subs) c.claim.view_is;
  ends = c.in_ok-add_all.ensures.ends;
  own = λ away. c.in_ok-add_all.ensures.own (ap (has c.add_all.new.places.items) c.index_of-place.ensures ∙ away);
}
