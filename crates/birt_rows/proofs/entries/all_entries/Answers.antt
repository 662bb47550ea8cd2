use Rattle.std.proofs.Common.{ℕ, Bool, List, true, false, ◌&&◌, ◌++◌, ◌∷◌, [], filter, slice_index_or, ap, sym, ◌∙◌, subst}
use Rattle.std.specs.List.{range_with_len}
use Rattle.birt_rows.specs.declared.entries.Entry.{Entry}
use Rattle.birt_rows.specs.Entries.{AreEntries}
use Rattle.birt_rows.proofs.OwnerLemmas.{range_kept, range_skipped}
use Rattle.birt_rows.proofs.RowLemmas.{entries-more}
use Rattle.birt_rows.proofs.entries.all_entries.Goals as goal
use Rattle.birt_rows.proofs.entries.all_entries.Goals.{then-is_entry+in_ok-entry_of+in_ok-push, else-is_entry}

pub loop-node-preserved : goal.loop-node-preserved
loop-node-preserved c =
    let p : ℕ → Bool = λ x. slice_index_or c.args.seen.now x true && slice_index_or c.args.covers.now x false in
    let P : List ℕ → List Entry → Type 0 = λ xs es. AreEntries c.args.ends.now c.args.nodes.now c.args.u xs es in
    elim c.if-is_entry.branch [
      | then-is_entry+in_ok-entry_of+in_ok-push w ↦
          let more = entries-more c.args.ends.now c.args.nodes.now c.args.u (filter p (range_with_len 0 c.loop-node.node)) c.loop-node.entries.items c.loop-node.node w.in_ok-entry_of.field-0 c.loop-node.invariant w.in_ok-entry_of.ensures in
          subst (λ xs. P xs c.if-is_entry.entries.items) (sym (range_kept p c.loop-node.node (sym c.is_entry.ensures ∙ w.if-is_entry.true)))
          (subst (λ es. P (filter p (range_with_len 0 c.loop-node.node) ++ c.loop-node.node ∷ []) es) (sym (ap (λ v. v.items) w.entries-is ∙ w.in_ok-push.ensures.items)) more)
      | else-is_entry w ↦
          subst (λ xs. P xs c.if-is_entry.entries.items) (sym (range_skipped p c.loop-node.node (sym c.is_entry.ensures ∙ w.if-is_entry.false)))
          (subst (λ es. P (filter p (range_with_len 0 c.loop-node.node)) es) (sym (ap (λ v. v.items) w.entries-is)) c.loop-node.invariant)
    ]
