-- The lines of a hop text: `bsl L` first, `self K` second, then `row K NAME` lines, then `packet IDS` lines.
use Rattle.std.specs.Prelude.{ℕ, ◌≡◌, Bool, List, [], ◌∷◌, ◌==◌, nat_lt, length, is_some, Result, Ok, Err, codes, if◌then◌else◌, Option, Some, None, false}
use Rattle.std.specs.List.{list_any}
use Rattle.std.specs.Str.{bytes_eq}
use Rattle.wire_base.specs.declared.limits.TheConstants.{LINE_LIMIT}
use Rattle.wire_base.specs.declared.bsl.Bsl.{Bsl}
use Rattle.wire_base.specs.model.Place.{bits_of, bsl_with}
use Rattle.wire_base.specs.model.BitSet.{IsWithin}
use Rattle.bier_bits.specs.Any.{any_of, bsl_of, positions_of}
use Rattle.replay_text.specs.declared.fault.TextFault.{TextFault}
use Rattle.replay_text.specs.declared.fault.TextFault.TheVariants.{Word, Number, Name, LineLong}
use Rattle.replay_text.specs.declared.hop.HopRow.{HopRow}
use Rattle.replay_text.specs.declared.hop.HopState.{HopState}
use Rattle.replay_text.specs.declared.hop.HopLine.{HopLine}
use Rattle.replay_text.specs.declared.hop.HopLine.TheVariants as line
use Rattle.wire_base.specs.model.Fields.{◌>>=◌}
use Rattle.replay_text.specs.Reading.{or_fault}
use Rattle.replay_text.specs.Pieces.{words_of, only_word, two_words}
use Rattle.wire_base.specs.model.Configuration.{is_name}
use Rattle.replay_text.specs.Tokens.{number_of}
use Rattle.replay_text.specs.Ids.{id_of, ids_of}

abbrev pub length_said : Option Bsl → Result HopLine TextFault
length_said None = Err Number
length_said (Some bsl) = Ok (line.Length bsl)

-- the BitStringLength with that many bits
abbrev pub length_of : ℕ → Result HopLine TextFault
length_of n = length_said (bsl_with n)

unfoldable pub length_line : HopState → List (List ℕ) → Result HopLine TextFault
length_line state args = do
  text ← or_fault Word (only_word args)
  if is_some state.bsl then Err Word else (or_fault Number (number_of text) >>= length_of)

-- the BitStringLength, if `self` may follow
abbrev pub for_own : HopState → Result Bsl TextFault
for_own state = if is_some state.own then Err Word else or_fault Word state.bsl

abbrev pub own_in : ℕ → ℕ → Result HopLine TextFault
own_in bound n = if nat_lt bound n then Err Number else Ok (line.Own n)

unfoldable pub own_line : HopState → List (List ℕ) → Result HopLine TextFault
own_line state args = do
  text ← or_fault Word (only_word args)
  bsl ← for_own state
  n ← or_fault Number (number_of text)
  own_in (bits_of bsl) n

-- the BitStringLength, if rows or packets may follow
abbrev pub for_rows : HopState → Result Bsl TextFault
for_rows state = if is_some state.own then or_fault Word state.bsl else Err Word

abbrev pub has_row : List HopRow → ℕ → Bool
has_row rows id = list_any (λ (row : HopRow). row.id == id) rows

unfoldable pub row_line : HopState → List (List ℕ) → Result HopLine TextFault
row_line state args = do
  texts ← or_fault Word (two_words args)
  bsl ← for_rows state
  if state.packets then Err Word else (do
    id ← or_fault Number (id_of (bits_of bsl) texts.0)
    if has_row state.rows id then Err Number else
        if is_name texts.1 then Ok (line.Row (record { id = id; name = texts.1 })) else Err Name)

-- a packet of a length for those ids
abbrev pub packet_of : Bsl → List ℕ → HopLine
packet_of bsl ids = line.Packet (any_of bsl ids)

-- a packet of that length
abbrev pub IsPacketOf : Bsl → HopLine → Type 0
IsPacketOf bsl line.Empty = ⊥
IsPacketOf bsl (line.Length length) = ⊥
IsPacketOf bsl (line.Own own) = ⊥
IsPacketOf bsl (line.Row row) = ⊥
IsPacketOf bsl (line.Packet bits) = bsl_of bits ≡ bsl

unfoldable pub packet_line : HopState → List (List ℕ) → Result HopLine TextFault
packet_line state args = do
  text ← or_fault Word (only_word args)
  bsl ← for_rows state
  ids ← or_fault Number (ids_of (bits_of bsl) text)
  Ok (packet_of bsl ids)

unfoldable pub words_line : HopState → List ℕ → List (List ℕ) → Result HopLine TextFault
words_line state word args =
    if bytes_eq word (codes "bsl") then length_line state args else
    if bytes_eq word (codes "self") then own_line state args else
    if bytes_eq word (codes "row") then row_line state args else
    if bytes_eq word (codes "packet") then packet_line state args else
    Err Word

-- what a line contains in a state, or its first error
abbrev pub line_of_words : HopState → List (List ℕ) → Result HopLine TextFault
line_of_words state [] = Ok line.Empty
line_of_words state (word ∷ args) = words_line state word args

-- whether a line is a comment
abbrev pub is_comment : List ℕ → Bool
is_comment [] = false
is_comment (c ∷ text) = c == 35

-- a line of at most 16,384 octets that is not a comment, by its words
unfoldable pub hop_line : List ℕ → HopState → Result HopLine TextFault
hop_line text state =
    if nat_lt LINE_LIMIT (length text) then Err LineLong else
    if is_comment text then Ok line.Empty else
    line_of_words state (words_of text)

-- A packet's ids ascend from 1 to the BitStringLength.
abbrev pub IsOrdered : HopLine → Type 0
IsOrdered line.Empty = Unit {0}
IsOrdered (line.Length bsl) = Unit {0}
IsOrdered (line.Own own) = Unit {0}
IsOrdered (line.Row row) = Unit {0}
IsOrdered (line.Packet bits) = IsWithin 0 (bits_of (bsl_of bits)) (positions_of bits)
