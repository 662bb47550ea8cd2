use Rattle.std.proofs.Common.{List, Vec, Global, sym, ap, ◌∙◌, drop}
use Rattle.wire_base.specs.model.View.{Claim, claim_of, with_known}
use Rattle.view_graph.proofs.FragmentLaws.{begins_at, other_more, other_less}
use Rattle.view_graph.proofs.claims.other_claims.Goals as goal
use Rattle.view_graph.proofs.claims.other_claims.Goals.{then-is_other+in_ok-push_claim, else-is_other}

pub push_claim-requires-clause-begins : goal.push_claim-requires-clause-begins
push_claim-requires-clause-begins c = begins_at c.args.store.now.entries c.systems.place c.at-entry.result.now c.at-entry.ensures

pub systems-preserved : goal.systems-preserved
systems-preserved c = elim c.if-is_other.branch [
  | then-is_other+in_ok-push_claim w ↦
      other_more c.args.conf.now.kinds c.args.conf.now.system c.args.store.now.entries c.systems.place c.at-entry.result.now _ c.systems.claims.items c.if-is_other.claims.items
      c.len.ensures.database.in_order c.at-entry.ensures (sym c.is_other.ensures ∙ w.if-is_other.true) (ap (λ k. with_known k (claim_of (drop c.systems.place c.args.store.now.entries) c.at-entry.result.now)) w.as_slice.ensures) c.systems.invariant (ap items_of w.claims-is ∙ w.in_ok-push_claim.ensures)
  | else-is_other w ↦
      ap items_of w.claims-is ∙ other_less c.args.conf.now.kinds c.args.conf.now.system c.args.store.now.entries c.systems.place c.at-entry.result.now c.systems.claims.items c.at-entry.ensures (sym c.is_other.ensures ∙ w.if-is_other.false) c.systems.invariant
]
  where
    items_of : Vec Claim Global → List Claim
    items_of v = v.items
