-- The arguments of a schedule's lines. Each reading takes the words that are left, and returns the value of the first
-- and the words after it, or the argument's error.
use Rattle.std.specs.Prelude.{ℕ, List, [], ◌∷◌, ◌++◌, ◌==◌, length, nat_lt, position, Option, Some, None, option_map, option_and_then, Result, Ok, Err, if◌then◌else◌}
use Rattle.std.specs.Result.{result_ok}
use Rattle.std.specs.Str.{bytes_eq}
use Rattle.hex.specs.Hex.{decode_of}
use Rattle.wire_base.specs.declared.bsl.Bsl.{Bsl}
use Rattle.wire_base.specs.declared.limits.TheConstants.{LAST_LABEL}
use Rattle.wire_base.specs.model.Fields.{◌>>=◌}
use Rattle.wire_base.specs.model.Hop.{distinct, has}
use Rattle.wire_base.specs.model.Place.{bsl_with}
use Rattle.replay_text.specs.declared.fault.TextFault.{TextFault}
use Rattle.replay_text.specs.declared.fault.TextFault.TheVariants.{Word, Number, Name, Hex}
use Rattle.replay_text.specs.Reading.{or_fault}
use Rattle.replay_text.specs.Pieces.{pieces}
use Rattle.replay_text.specs.Tokens.{number_of}
use Rattle.replay_text.specs.Ids.{id_of}

-- the words, if there are that many
abbrev pub counted : ℕ → List (List ℕ) → Result (List (List ℕ)) TextFault
counted n words = if length words == n then Ok words else Err Word

abbrev pub and_words : {X : Type 0} → List (List ℕ) → X → Result (X × List (List ℕ)) TextFault
and_words more x = Ok (x, more)

-- the first word, read in that way
abbrev pub argument : {X : Type 0} → TextFault → (List ℕ → Option X) → List (List ℕ) → Result (X × List (List ℕ)) TextFault
argument fault reading [] = Err Word
argument fault reading (word ∷ more) = or_fault fault (reading word) >>= and_words more

-- ---- single words

-- the index of the router with that name
abbrev pub place_of : List (List ℕ) → List ℕ → Option ℕ
place_of names word = position (λ name. bytes_eq name word) names

abbrev pub at_most : ℕ → ℕ → Option ℕ
at_most bound n = if nat_lt bound n then None else Some n

-- a number up to the bound
abbrev pub number_to : ℕ → List ℕ → Option ℕ
number_to bound word = option_and_then (at_most bound) (number_of word)

abbrev pub at_least : ℕ → ℕ → Option ℕ
at_least bound n = if nat_lt n bound then None else Some n

-- a number between the bounds
abbrev pub number_from : ℕ → ℕ → List ℕ → Option ℕ
number_from least most word = option_and_then (at_least least) (number_to most word)

-- the BitStringLength
abbrev pub length_from : List ℕ → Option Bsl
length_from word = option_and_then bsl_with (number_of word)

-- the numbers that texts encode, each up to the bound
unfoldable pub numbers_to : ℕ → List (List ℕ) → Option (List ℕ)
numbers_to bound [] = Some []
numbers_to bound (text ∷ more) = option_and_then (λ n. option_map (λ ns. n ∷ ns) (numbers_to bound more)) (number_to bound text)

-- the list with that number appended, if it is new
abbrev pub with_new : List ℕ → ℕ → List ℕ
with_new ids id = if has ids id then ids else ids ++ id ∷ []

-- IDS: numbers up to 65,535 separated by commas, in any order, or `-` for none. A repeated id counts once, at its first
-- occurrence.
unfoldable pub listed_ids : List ℕ → Option (List ℕ)
listed_ids word = if bytes_eq word (45 ∷ []) then Some [] else option_map distinct (numbers_to 65535 (pieces 44 word))

-- the octets that pairs of hexadecimal digits encode, in upper or lower case
abbrev pub octets_of_digits : List ℕ → Option (List ℕ)
octets_of_digits word = result_ok (decode_of word)

-- PAYLOAD: an even number of hexadecimal digits, at most 4,000, or `-` for none
unfoldable pub payload_of : List ℕ → Option (List ℕ)
payload_of word = if bytes_eq word (45 ∷ []) then Some [] else if nat_lt 4000 (length word) then None else octets_of_digits word

-- ---- arguments

abbrev pub name_at : List (List ℕ) → List (List ℕ) → Result (ℕ × List (List ℕ)) TextFault
name_at names words = argument Name (place_of names) words

abbrev pub number_at : ℕ → List (List ℕ) → Result (ℕ × List (List ℕ)) TextFault
number_at bound words = argument Number (number_to bound) words

abbrev pub length_at : List (List ℕ) → Result (Bsl × List (List ℕ)) TextFault
length_at words = argument Number length_from words

-- an MPLS label that isn't reserved (RFC 3032, 2.1)
abbrev pub label_at : List (List ℕ) → Result (ℕ × List (List ℕ)) TextFault
label_at words = argument Number (number_from 16 LAST_LABEL) words

-- a TTL, above 0
abbrev pub ttl_at : List (List ℕ) → Result (ℕ × List (List ℕ)) TextFault
ttl_at words = argument Number (id_of 255) words

abbrev pub ids_at : List (List ℕ) → Result (List ℕ × List (List ℕ)) TextFault
ids_at words = argument Number listed_ids words

abbrev pub payload_at : List (List ℕ) → Result (List ℕ × List (List ℕ)) TextFault
payload_at words = argument Hex payload_of words
