-- Lists of ids, and their text.
use Rattle.std.specs.Prelude.{ℕ, ◌≡◌, ◌<◌, ◌^◌, List, [], ◌∷◌, ◌++◌, ◌==◌, ◌||◌, nat_lt, Option, Some, None, option_and_then, if◌then◌else◌}
use Rattle.std.specs.List.{flat_map}
use Rattle.std.specs.Str.{bytes_eq}
use Rattle.std.specs.Fmt.{decimal}
use Rattle.wire_base.specs.model.BitSet.{with_member, IsWithin}
use Rattle.replay_text.specs.Pieces.{pieces}
use Rattle.replay_text.specs.Tokens.{number_of}

-- the number, if it is from 1 to the bound
abbrev pub in_range : ℕ → ℕ → Option ℕ
in_range bound n = if (n == 0) || nat_lt bound n then None else Some n

unfoldable pub id_of : ℕ → List ℕ → Option ℕ
id_of bound text = option_and_then (in_range bound) (number_of text)

-- the set with the ids that the parts spell
unfoldable pub ids_after : ℕ → List ℕ → List (List ℕ) → Option (List ℕ)
ids_after bound set [] = Some set
ids_after bound set (piece ∷ more) = option_and_then (λ id. ids_after bound (with_member id set) more) (id_of bound piece)

-- IDS: numbers from 1 to the bound separated by commas, or `-` for none. A repeated id counts once.
unfoldable pub ids_of : ℕ → List ℕ → Option (List ℕ)
ids_of bound text = if bytes_eq text (45 ∷ []) then Some [] else ids_after bound [] (pieces 44 text)

-- the ids separated by commas, or `-` for none
abbrev pub ids_text : List ℕ → List ℕ
ids_text [] = 45 ∷ []
ids_text (id ∷ ids) = decimal id ++ flat_map (λ next. 44 ∷ decimal next) ids

-- If ids ascend from 1 to a bound of 16 bits, parsing their text returns them.
abbrev pub AreReadAgain : List ℕ → Type 0
AreReadAgain ids = (bound : ℕ) → bound < 2 ^ 16 → IsWithin 0 bound ids → ids_of bound (ids_text ids) ≡ Some ids
