use Rattle.std.proofs.Common.{◌≡◌, ◌++◌, map, take, drop}
use Rattle.lsp_store.specs.EntryLists.{moved_down}
use Rattle.lsp_store.proofs.entry_list.move_down.Given as goal

-- the indexes before the place are moved down
abbrev pub invariant-indexes : goal.invariant-indexes
invariant-indexes l = l.order.items ≡ map (moved_down l.removed) (take l.place l.fn.order.items) ++ drop l.place l.fn.order.items
