-- Stacks of MPLS labels (RFC 3032, 2.1).
use Rattle.std.specs.Prelude.{◌≡◌, ℕ, zero, suc, ◌+◌, ◌*◌, ◌/◌, ◌%◌, ◌<◌, ◌≤◌, List, [], ◌∷◌, ◌++◌, length, drop, Result, Ok, Err, ◌==◌, if◌then◌else◌}
use Rattle.byteorder.specs.Endian.{big_bytes}
use Rattle.wire_base.specs.declared.faults.StackFault.{StackFault}
use Rattle.wire_base.specs.declared.faults.StackFault.TheVariants as faults
use Rattle.wire_base.specs.model.Fields.{◌>>=◌, number_at}

-- An entry of a stack: the label value of 20 bits, the traffic class of three and the TTL of eight.
pub record LabelEntry : Type 0 where
  pub value : ℕ
  pub tc : ℕ
  pub ttl : ℕ

-- each field has its width
abbrev pub EntryFits : LabelEntry → Type 0
EntryFits entry = (entry.value < 1048576) × (entry.tc < 8) × (entry.ttl < 256)

-- the 32-bit word of an entry; s is 1 at the bottom of the stack, else 0
abbrev pub entry_word : LabelEntry → ℕ → ℕ
entry_word entry s = entry.value * 4096 + entry.tc * 512 + s * 256 + entry.ttl

-- the encoding of a stack: the last entry is the bottom
abbrev pub stack : List LabelEntry → List ℕ
stack [] = []
stack (entry ∷ []) = big_bytes 4 (entry_word entry 1)
stack (entry ∷ entries) = big_bytes 4 (entry_word entry 0) ++ stack entries

-- at least one entry and at most that many, each within its width
abbrev pub StackFits : ℕ → List LabelEntry → Type 0
StackFits most [] = ⊥
StackFits most (entry ∷ []) = (1 ≤ most) × EntryFits entry
StackFits zero (entry ∷ entries) = ⊥
StackFits (suc most) (entry ∷ entries) = EntryFits entry × StackFits most entries

-- octets begin with that stack
abbrev pub IsStack : ℕ → List LabelEntry → List ℕ → Type 0
IsStack most entries octets = StackFits most entries × (octets ≡ stack entries ++ drop (4 * length entries) octets)

-- the entry that a word encodes
abbrev pub entry_of : ℕ → LabelEntry
entry_of word = record { value = word / 4096; tc = word / 512 % 8; ttl = word % 256 }

abbrev pub is_bottom : ℕ → ℕ
is_bottom word = word / 256 % 2

-- entries above those that were parsed
abbrev pub below : List LabelEntry → Result (List LabelEntry × List ℕ) StackFault → Result (List LabelEntry × List ℕ) StackFault
below entries (Ok read) = Ok (entries ++ read.0, read.1)
below entries (Err fault) = Err fault

-- A stack of at most that many entries, and the octets after it, or the first rule that is broken: the octets end
-- before the bottom, none of these entries is the bottom.
unfoldable pub stack_at : ℕ → List ℕ → Result (List LabelEntry × List ℕ) StackFault
stack_at zero octets = Err faults.Deep
stack_at (suc most) octets = do
  word ← number_at faults.NoBottom 4 octets
  if is_bottom word.0 == 1 then Ok (entry_of word.0 ∷ [], word.1) else below (entry_of word.0 ∷ []) (stack_at most word.1)
