-- LSPs on which the comparison of LSDBs is tested.
use Rattle.std.specs.Prelude.{ℕ, List, [], ◌∷◌}
use Rattle.wire_base.specs.declared.addresses.LspId.{LspId}
use Rattle.wire_base.specs.declared.entry.Entry.{Entry}
use Rattle.wire_base.specs.model.Control.{purge}

-- the fragment 0 of a router
abbrev pub id : ℕ → LspId
id n = record { system = record { 0 = 0 ∷ 0 ∷ 0 ∷ 0 ∷ 0 ∷ n ∷ [] }; pseudonode = 0; fragment = 0 }

-- an LSP of that router, with a sequence number, a lifetime and contents
abbrev pub lsp : ℕ → ℕ → ℕ → List ℕ → Entry
lsp n seq life content = record { id = id n; seq = seq; life = life; hold = 0; sum = 7; flags = 3; content = content }

-- an LSDB with the LSPs of two routers
abbrev pub both : List Entry
both = lsp 1 1 1200 (1 ∷ []) ∷ lsp 2 5 1100 (2 ∷ 3 ∷ []) ∷ []

-- the same after some seconds
abbrev pub later : List Entry
later = lsp 1 1 1100 (1 ∷ []) ∷ lsp 2 5 1000 (2 ∷ 3 ∷ []) ∷ []

-- other contents under the same sequence number
abbrev pub confused : List Entry
confused = lsp 1 1 1200 (1 ∷ []) ∷ lsp 2 5 1100 (2 ∷ 4 ∷ []) ∷ []

-- one LSP, and the purge of the other
abbrev pub purged : List Entry
purged = lsp 1 1 1200 (1 ∷ []) ∷ purge (id 2) 6 ∷ []

-- one LSP alone
abbrev pub alone : List Entry
alone = lsp 1 1 1200 (1 ∷ []) ∷ []
