-- A router's own LSP after a sequence number (ISO/IEC 10589, 7.3.16.1).
use Rattle.std.specs.Prelude.{ℕ, ◌+◌, ◌==◌, ◌||◌, Bool, List, if◌then◌else◌}
use Rattle.wire_base.specs.declared.conf.RouterConf.{RouterConf}
use Rattle.wire_base.specs.declared.entry.Entry.{Entry}
use Rattle.wire_base.specs.model.Control.{Flood, entry_in, fragment_0, purge, seq_of}
use Rattle.wire_base.specs.model.Flooding.{last_sequence}
use Rattle.wire_base.specs.model.OwnLsp.{own_lsp}

-- what is originated after a sequence number; after the last one, its purge
unfoldable pub own_past : RouterConf → List Bool → ℕ → Entry
own_past r up s = if s == last_sequence then purge (fragment_0 r.system) s else own_lsp r up (s + 1)

-- whether the sequence number space is exhausted then
abbrev pub spent_past : Bool → ℕ → Bool
spent_past spent s = spent || (s == last_sequence)

-- the sequence number of a router's own LSP in an LSDB, and the own LSP after it
abbrev pub own_seq : RouterConf → List Entry → ℕ
own_seq r es = seq_of (entry_in es (fragment_0 r.system))

abbrev pub own_next : RouterConf → Flood → List Entry → Entry
own_next r f es = own_past r f.up (own_seq r es)
