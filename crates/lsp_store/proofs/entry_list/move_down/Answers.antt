use Rattle.std.proofs.Common.{◌<◌, length, arith}
use Rattle.std.proofs.lemmas.List.Edits.{map_over_more}
use Rattle.lsp_store.specs.EntryLists.{moved_down}
use Rattle.lsp_store.proofs.entry_list.move_down.Goals as goal

pub indexes-preserved : goal.indexes-preserved
indexes-preserved c =
    let lt : c.indexes.place < length c.args.order.now.items = omega (arith, c.indexes-test.true, c.len-place-end.ensures, c.args.order.now.ok.0) in
    rw c.moved_down.ensures (map_over_more (moved_down c.args.removed) c.args.order.now.items c.indexes.order.items c.indexes.place c.index.result.now lt c.indexes.invariant c.index.ensures)
