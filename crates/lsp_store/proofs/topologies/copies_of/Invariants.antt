use Rattle.std.proofs.Common.{◌≡◌, take}
use Rattle.lsp_store.proofs.topologies.copies_of.Given as goal

abbrev pub invariant-entries : goal.invariant-entries
invariant-entries l = l.copied.items ≡ take l.place l.list.entries
