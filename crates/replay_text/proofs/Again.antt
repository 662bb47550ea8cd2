-- Ascending ids are read again from their text.
use Rattle.std.proofs.Common.{◌≡◌, ℕ, ◌+◌, ◌-◌, ◌*◌, ◌^◌, ◌<◌, ◌≤◌, true, false, eqb, List, [], ◌∷◌, ◌++◌, length, map, get_or, Some, refl, sym, ap, ◌∙◌, arith, append-nil, append_assoc, inl, inr}
use Rattle.std.specs.Prelude.{All, option_and_then}
use Rattle.std.specs.List.{flat_map}
use Rattle.std.specs.Str.{bytes_eq}
use Rattle.std.specs.Str.Parse.{AllDigits, digits_value_after}
use Rattle.std.specs.Char.{digit_value, is_ascii_digit}
use Rattle.std.specs.Int.{IsInRange}
use Rattle.std.specs.Fmt.{decimal}
use Rattle.std.proofs.lemmas.Bool.{cases_Bool, ne_eqb, le-ltb, le-leb}
use Rattle.std.proofs.lemmas.Fmt.{decimal_is_IsNumeral, length-decimal-le}
use Rattle.std.proofs.lemmas.Str.{digit_value_digit}
use Rattle.std.proofs.lemmas.Str.Parse.{digit_from_value}
use Rattle.std.proofs.lemmas.List.Elements.{All-cons}
use Rattle.std.proofs.lemmas.List.Splits.{slice_split_none, slice_split_at}
use Rattle.std.proofs.lemmas.Slice.Eq.{bytes_eq-Decides}
use Rattle.wire_base.specs.model.BitSet.{IsWithin, with_member}
use Rattle.replay_text.specs.Pieces.{pieces}
use Rattle.replay_text.specs.Tokens.{number_of, number_after}
use Rattle.replay_text.specs.Ids.{id_of, ids_of, ids_after, AreReadAgain}
use Rattle.replay_text.proofs.Spelled.{id_back}

is_digit : (c : ℕ) → IsInRange 48 57 c → is_ascii_digit c ≡ true
is_digit c range = rw (le-leb 48 c range.0, le-leb c 57 range.1) refl

digits_read : (n : ℕ) (ds : List ℕ) → AllDigits 10 ds → number_after n ds ≡ Some (digits_value_after 10 n ds)
digits_read n [] all = refl
digits_read n (c ∷ cs) all =
    let range = digit_from_value c all.0 in
    let value : c - 48 ≡ digit_value c = omega (arith, digit_value_digit c range) in
    rw (is_digit c range) (ap (λ (k : ℕ). number_after (n * 10 + k) cs) value ∙ digits_read (n * 10 + digit_value c) cs all.1)

number_again : (n : ℕ) → n < 2 ^ 16 → number_of (decimal n) ≡ Some n
unfolding number_of
number_again n small =
    let digits = decimal_is_IsNumeral n (omega arith) in
    let short = length-decimal-le 10 n (omega arith) (omega arith) (omega arith) in
    rw (ne_eqb (length (decimal n)) 0 (λ e. omega (arith, e, digits.0.0)), le-ltb 10 (length (decimal n)) short) (digits_read 0 (decimal n) digits.0.1 ∙ ap (λ (k : ℕ). Some k) digits.1)

no_comma : (ds : List ℕ) → AllDigits 10 ds → All (λ x. eqb x 44 ≡ false) ds
no_comma [] all = λ k d lt. absurd (omega arith)
no_comma (c ∷ cs) all = All-cons (λ (x : ℕ). eqb x 44 ≡ false) c cs (ne_eqb c 44 (λ e. omega (arith, e, (digit_from_value c all.0).0))) (no_comma cs all.1)

pieces_again : (low bound id : ℕ) (ids : List ℕ) → bound < 2 ^ 16 → IsWithin low bound (id ∷ ids) → pieces 44 (decimal id ++ flat_map (λ next. 44 ∷ decimal next) ids) ≡ decimal id ∷ map decimal ids
pieces_again low bound id [] small is =
    ap (pieces 44) (append-nil (decimal id)) ∙ slice_split_none (λ b. eqb b 44) (decimal id) (no_comma (decimal id) (decimal_is_IsNumeral id (omega (arith, is.1))).0.1)
pieces_again low bound id (next ∷ ids) small is =
    slice_split_at (λ b. eqb b 44) (decimal id) 44 (decimal next ++ flat_map (λ next. 44 ∷ decimal next) ids) (no_comma (decimal id) (decimal_is_IsNumeral id (omega (arith, is.1))).0.1) refl
    ∙ ap (λ (ps : List (List ℕ)). decimal id ∷ ps) (pieces_again id bound next ids small is.2)

-- ---- the set

with_end : (low high p : ℕ) (xs : List ℕ) → IsWithin low high xs → high < p → with_member p xs ≡ xs ++ p ∷ []
with_end low high p [] is lt = refl
with_end low high p (x ∷ xs) is lt = rw (le-ltb p x (omega (arith, is.1)), ne_eqb p x (λ e. omega (arith, is.1))) (ap (λ (l : List ℕ). x ∷ l) (with_end x high p xs is.2 lt))

within_end : (low high p : ℕ) (xs : List ℕ) → IsWithin low high xs → low ≤ high → high < p → IsWithin low p (xs ++ p ∷ [])
within_end low high p [] is le lt = (omega arith, omega arith, tt)
within_end low high p (x ∷ xs) is le lt = (is.0, omega (arith, is.1), within_end x high p xs is.2 (omega (arith, is.1)) lt)

set_again : (low bound : ℕ) (set ids : List ℕ) → bound < 2 ^ 16 → IsWithin 0 low set → IsWithin low bound ids → ids_after bound set (map decimal ids) ≡ Some (set ++ ids)
unfolding ids_after
set_again low bound set [] small has is = ap (λ (s : List ℕ). Some s) (sym (append-nil set))
set_again low bound set (id ∷ ids) small has is =
    let read : id_of bound (decimal id) ≡ Some id = id_back bound (decimal id) id (number_again id (omega (arith, is.1))) (omega (arith, is.0)) is.1 in
    ap (option_and_then (λ id. ids_after bound (with_member id set) (map decimal ids))) read
    ∙ ap (λ (s : List ℕ). ids_after bound s (map decimal ids)) (with_end 0 low id set has is.0)
    ∙ set_again id bound (set ++ id ∷ []) ids small (within_end 0 low id set has (omega arith) is.0) is.2
    ∙ ap (λ (s : List ℕ). Some s) (append_assoc set (id ∷ []) ids)

-- a text that begins with a digit isn't `-`
no_dash : (ds rest : List ℕ) → 0 < length ds → AllDigits 10 ds → bytes_eq (ds ++ rest) (45 ∷ []) ≡ false
no_dash [] rest some all = absurd (omega arith)
no_dash (c ∷ cs) rest some all = elim (cases_Bool (bytes_eq (c ∷ cs ++ rest) (45 ∷ []))) [
  | inl holds ↦
      let same = (bytes_eq-Decides (c ∷ cs ++ rest) (45 ∷ [])).0 holds in
      absurd (omega (arith, ap (λ (l : List ℕ). get_or l 0 0) same, (digit_from_value c all.0).0))
  | inr fails ↦ fails
]

pub are_read_again : (ids : List ℕ) → AreReadAgain ids
unfolding ids_of
are_read_again [] bound small is = refl
are_read_again (id ∷ ids) bound small is =
    let digits = decimal_is_IsNumeral id (omega (arith, is.1)) in
    rw (no_dash (decimal id) (flat_map (λ next. 44 ∷ decimal next) ids) digits.0.0 digits.0.1)
    (ap (ids_after bound []) (pieces_again 0 bound id ids small is) ∙ set_again 0 bound [] (id ∷ ids) small tt is)
