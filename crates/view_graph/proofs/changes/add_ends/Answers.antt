use mathlib.Core.Bool.{true≢false}
use Rattle.std.proofs.Common.{ℕ, List, Vec, Global, sym, ap, ◌∙◌}
use Rattle.view_graph.specs.Renewal.{has}
use Rattle.view_graph.proofs.ChangeLaws.{ends_step}
use Rattle.view_graph.proofs.changes.add_ends.Goals as goal
use Rattle.view_graph.proofs.changes.add_ends.Goals.{then-not-leads_to+in_ok-add_place, else-not-leads_to}

pub edges-preserved : goal.edges-preserved
edges-preserved c = elim c.if-not-leads_to.branch [
  | then-not-leads_to+in_ok-add_place w ↦ record {
    stays = λ i away. c.edges.invariant.stays i (w.in_ok-add_place.ensures.stays i (sym (ap (λ ps. has ps i) (ap items_of w.places-is)) ∙ away));
    ends = λ i there away. ends_step c.args.edges.now c.args.others.now c.edges.edge-index _ c.edges.places.items w.add_place.new.places.items c.edges-test.true w.in_ok-add_place.ensures.stays (λ a. absurd (true≢false (sym w.in_ok-add_place.ensures.there ∙ a))) c.edges.invariant.ends i there (sym (ap (λ ps. has ps i) (ap items_of w.places-is)) ∙ away);
  }
  | else-not-leads_to w ↦ record {
    stays = λ i away. c.edges.invariant.stays i (sym (ap (λ ps. has ps i) (ap items_of w.places-is)) ∙ away);
    ends = λ i there away. ends_step c.args.edges.now c.args.others.now c.edges.edge-index _ c.edges.places.items c.edges.places.items c.edges-test.true (λ j h. h) (λ _. sym c.leads_to.ensures ∙ w.if-not-leads_to.false) c.edges.invariant.ends i there (sym (ap (λ ps. has ps i) (ap items_of w.places-is)) ∙ away);
  }
]
  where
    items_of : Vec ℕ Global → List ℕ
    items_of v = v.items
