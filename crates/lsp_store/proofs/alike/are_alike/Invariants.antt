use Rattle.std.proofs.Common.{◌≡◌, length, take, map}
use Rattle.lsp_store.specs.Topologies.{as_read}
use Rattle.lsp_store.proofs.alike.are_alike.Given as goal

abbrev pub invariant-entries : goal.invariant-entries
invariant-entries l = (length l.a ≡ length l.b.entries) × (map as_read (take l.place l.a) ≡ map as_read (take l.place l.b.entries))
