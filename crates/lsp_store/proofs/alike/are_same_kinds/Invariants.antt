use Rattle.std.proofs.Common.{◌≡◌, length, take}
use Rattle.lsp_store.proofs.alike.are_same_kinds.Given as goal

abbrev pub invariant-kinds : goal.invariant-kinds
invariant-kinds l = (length l.a ≡ length l.b) × (take l.place l.a ≡ take l.place l.b)
