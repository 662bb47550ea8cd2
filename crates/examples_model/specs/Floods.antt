-- Flood states and PDUs on which flooding is tested. Router 9 has two links, both up, and no flag.
use Rattle.std.specs.Prelude.{ℕ, zero, suc, Bool, true, false, List, [], ◌∷◌, fold}
use Rattle.wire_base.specs.declared.entry.Entry.{Entry}
use Rattle.wire_base.specs.declared.triple.Summary.{Summary}
use Rattle.wire_base.specs.model.Pdu.{Head, Pdu, row_tlvs}
use Rattle.wire_base.specs.model.Control.{Flood, FlagRow, Control}
use Rattle.wire_base.specs.model.OwnLsp.{own_lsp}
use Rattle.wire_base.specs.model.Flooding.{LspAnswer, on_lsp, SnpAnswer, on_csnp, on_psnp, on_pdu, send, first_control, lsp_of, tick, end_up, end_down}
use Rattle.examples_model.specs.Domains.{lsp, system, pair_a, pair_b}

abbrev pub no_flag : Flood
no_flag = record { own = system 9; up = true ∷ true ∷ []; due = false ∷ false ∷ []; rows = [] }

abbrev pub flags : ℕ → List Bool → List Bool → FlagRow
flags n srm ssn = record { id = lsp n; srm = srm; ssn = ssn }

-- the header of an LSP of a system, with a sequence number, a lifetime and a checksum
abbrev pub head : ℕ → ℕ → ℕ → ℕ → Head
head n seq life sum = record { life = life; id = lsp n; seq = seq; sum = sum; flags = 3 }

abbrev pub summary : ℕ → ℕ → ℕ → ℕ → Summary
summary n seq life sum = record { life = life; id = lsp n; seq = seq; sum = sum }

abbrev pub content : List ℕ
content = 1 ∷ 0 ∷ []

-- an LSP on the first link
abbrev pub heard : List Entry → Bool → Head → LspAnswer
heard entries spent h = on_lsp no_flag entries 0 h content spent

-- a PSNP, and a CSNP from one system to another, on the first link
abbrev pub told_by : List Entry → List Summary → SnpAnswer
told_by entries rows = on_psnp no_flag entries 0 (row_tlvs rows) false

abbrev pub told_whole : List Entry → ℕ → ℕ → List Summary → SnpAnswer
told_whole entries from to rows = on_csnp no_flag entries 0 (lsp from) (lsp to) (row_tlvs rows) false

-- an entry of a system, with a sequence number, a lifetime and a checksum
abbrev pub entry : ℕ → ℕ → ℕ → ℕ → Entry
entry n seq life sum = record { id = lsp n; seq = seq; life = life; hold = 0; sum = sum; flags = 3; content = content }

-- the pair: router B after it received all that A sends
abbrev pub hears : Control → Pdu → Control
hears c p = (on_pdu c 0 p).control

abbrev pub hears_all : Control → List Pdu → Control
hears_all c ps = fold hears c ps

-- both start, A sends, B receives and sends, A receives and sends
abbrev pub b_heard : Control
b_heard = hears_all (first_control pair_b) (send (first_control pair_a) 0).sent

abbrev pub a_heard : Control
a_heard = hears_all (send (first_control pair_a) 0).control (send b_heard 0).sent

abbrev pub b_settled : Control
b_settled = hears_all (send b_heard 0).control (send a_heard 0).sent

-- five seconds later
abbrev pub ticks : ℕ → Control → Control
ticks zero c = c
ticks (suc n) c = (tick (ticks n c)).control

abbrev pub b_after_five : Control
b_after_five = ticks 5 (hears (first_control pair_b) (lsp_of (own_lsp pair_a (true ∷ []) 1)))

-- a router whose first interface went down and up
abbrev pub flapped : Control → Control
flapped c = (end_up (end_down c 0).control 0).control

-- A of the pair with one entry of that lifetime, and no flag
abbrev pub aging : Entry → ℕ → Control
aging e life =
    record {
      conf = pair_a;
      flood = record { own = system 1; up = true ∷ []; due = false ∷ []; rows = [] };
      entries = record e { life = life } ∷ [];
      spent = false;
    }
