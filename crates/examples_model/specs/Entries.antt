-- Entries and summaries of the LSP of router 1.
use Rattle.std.specs.Prelude.{ℕ, [], ◌∷◌}
use Rattle.wire_base.specs.declared.entry.Entry.{Entry}
use Rattle.wire_base.specs.declared.triple.Summary.{Summary}
use Rattle.wire_base.specs.model.Control.{purge}
use Rattle.examples_model.specs.Domains.{lsp}

-- with a sequence number, a lifetime and a checksum
abbrev pub live : ℕ → ℕ → ℕ → Entry
live seq life sum = record { id = lsp 1; seq = seq; life = life; hold = 0; sum = sum; flags = 3; content = 1 ∷ 0 ∷ [] }

abbrev pub dead : ℕ → Entry
dead seq = purge (lsp 1) seq

abbrev pub holding : ℕ → Entry
holding seconds = record (dead 7) { hold = seconds }

abbrev pub told : ℕ → ℕ → ℕ → Summary
told seq life sum = record { life = life; id = lsp 1; seq = seq; sum = sum }
