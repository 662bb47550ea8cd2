use Rattle.std.proofs.Common.{◌∙◌, sym, ap}
use Rattle.wire_base.specs.FirstLists.{extend_last}
use Rattle.birt_rows.proofs.RowLemmas.{row-kept, row-pushed}
use Rattle.birt_rows.proofs.row_set.push_row.Goals as goal
use Rattle.birt_rows.proofs.row_set.push_row.Goals.{then-is_beyond+in_ok-push, else-is_beyond}

pub loop-entry-preserved : goal.loop-entry-preserved
loop-entry-preserved c = elim c.if-is_beyond.branch [
  | then-is_beyond+in_ok-push w ↦
      w.stored-is
      ∙ w.in_ok-push.ensures.ok
      ∙ ap (extend_last c.entry-item.result.first) c.loop-entry.invariant
      ∙ row-pushed c.in-Some.d c.loop-entry.entry-index c.args.entries.now c.entry-item.result c.args.stored.now c.loop-entry-test.true c.entry-item.is (sym c.is_beyond.ensures ∙ w.if-is_beyond.true)
  | else-is_beyond w ↦
      w.stored-is
      ∙ c.loop-entry.invariant
      ∙ row-kept c.in-Some.d c.loop-entry.entry-index c.args.entries.now c.entry-item.result c.args.stored.now c.loop-entry-test.true c.entry-item.is (sym c.is_beyond.ensures ∙ w.if-is_beyond.false)
]
