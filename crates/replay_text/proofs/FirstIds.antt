-- The number at the front of a list of ids, digit by digit.
use Rattle.std.proofs.Common.{◌≡◌, ◌≢◌, ℕ, ◌+◌, ◌-◌, ◌*◌, ◌<◌, ◌≤◌, true, false, eqb, ltb, ◌||◌, List, [], ◌∷◌, ◌++◌, length, take, drop, get_or, Option, Some, None, ◌⊎◌, All, refl, sym, ap, ◌∙◌, arith, length-append, inl, inr}
use Rattle.std.specs.Prelude.{option_and_then, slice_index}
use Rattle.std.specs.List.{onto_first}
use Rattle.std.specs.Char.{is_ascii_digit}
use Rattle.std.specs.Option.{unwrap_or}
use Rattle.std.proofs.lemmas.Bool.{cases_Bool, cases_lt, cond_both, ne_eqb, le-ltb, lt-ltb, true≢false}
use Rattle.std.proofs.lemmas.List.{take-append-drop, drop_more, take_more, take_all, length-take-le}
use Rattle.std.proofs.lemmas.List.Elements.{All-cons, All-head, All-tail}
use Rattle.std.proofs.lemmas.List.Splits.{length-slice_split, slice_split-cons_no}
use Rattle.replay_text.specs.Pieces.{pieces, more_pieces, FirstIs, FirstBefore}
use Rattle.replay_text.specs.Tokens.{number_of, number_after, IsShortNumber}
use Rattle.replay_text.specs.Ids.{id_of, in_range}
use Rattle.replay_text.proofs.Cutting.{cut_at, cut_none}
use Rattle.replay_text.proofs.Spelled.{id_back}

same_number : (n v : ℕ) → Some n ≡ Some v → n ≡ v
same_number n v is = ap (λ (o : Option ℕ). unwrap_or o 0) is

-- one digit more
pub digit_more : (n v : ℕ) (l : List ℕ) (c : ℕ) → number_after n l ≡ Some v → is_ascii_digit c ≡ true → number_after n (l ++ c ∷ []) ≡ Some (v * 10 + (c - 48))
digit_more n v [] c so_far digit = rw digit (ap (λ (m : ℕ). Some (m * 10 + (c - 48))) (same_number n v so_far))
digit_more n v (x ∷ xs) c so_far digit = elim (cases_Bool (is_ascii_digit x)) [
  | inl holds ↦ let rest : number_after (n * 10 + (x - 48)) xs ≡ Some v = rw holds at so_far in rw holds (digit_more (n * 10 + (x - 48)) v xs c rest digit)
  | inr fails ↦ let bad : None ≡ Some v = rw fails at so_far in absurd cc
]

pub digit_taken : (text : List ℕ) (i v : ℕ) → i < length text → number_after 0 (take i text) ≡ Some v → is_ascii_digit (get_or text i 0) ≡ true → number_after 0 (take (i + 1) text) ≡ Some (v * 10 + (get_or text i 0 - 48))
digit_taken text i v lt so_far digit = ap (number_after 0) (take_more text i 0 lt) ∙ digit_more 0 v (take i text) (get_or text i 0) so_far digit

-- an octet that is no digit
digit_missing : (n : ℕ) (l : List ℕ) (c : ℕ) (more : List ℕ) → is_ascii_digit c ≡ false → number_after n (l ++ c ∷ more) ≡ None
digit_missing n [] c more fails = rw fails refl
digit_missing n (x ∷ xs) c more fails = cond_both (is_ascii_digit x) (number_after (n * 10 + (x - 48)) (xs ++ c ∷ more)) None (λ o. o ≡ None) (λ holds. digit_missing (n * 10 + (x - 48)) xs c more fails) (λ no_digit. refl)

plain : (x : ℕ) → is_ascii_digit x ≡ true → eqb x 44 ≡ false
plain x digit = ne_eqb x 44 (λ e. let bad : is_ascii_digit 44 ≡ true = ap is_ascii_digit (sym e) ∙ digit in true≢false (sym bad))

digits_plain : (n v : ℕ) (l : List ℕ) → number_after n l ≡ Some v → All (λ x. eqb x 44 ≡ false) l
digits_plain n v [] is = λ k d lt. absurd (omega arith)
digits_plain n v (x ∷ xs) is = elim (cases_Bool (is_ascii_digit x)) [
  | inl holds ↦ let rest : number_after (n * 10 + (x - 48)) xs ≡ Some v = rw holds at is in All-cons (λ (x : ℕ). eqb x 44 ≡ false) x xs (plain x holds) (digits_plain (n * 10 + (x - 48)) v xs rest)
  | inr fails ↦ let bad : None ≡ Some v = rw fails at is in absurd cc
]

shape : (parts : List (List ℕ)) → 0 < length parts → (head : List ℕ) × (more : List (List ℕ)) × (parts ≡ head ∷ more)
shape [] some = absurd (omega arith)
shape (head ∷ more) some = (head, more, refl)

-- a part that goes on after its front
longer : (front : List ℕ) (c : ℕ) (rest : List ℕ) → All (λ x. eqb x 44 ≡ false) front → eqb c 44 ≡ false → (head : List ℕ) × (more : List (List ℕ)) × (pieces 44 (front ++ c ∷ rest) ≡ (front ++ c ∷ head) ∷ more)
longer [] c rest none goes =
    let s = shape (pieces 44 rest) (omega (arith, length-slice_split (λ b. eqb b 44) rest)) in
    (s.0, s.1, slice_split-cons_no (λ b. eqb b 44) c rest goes ∙ ap (onto_first c) s.2)
longer (x ∷ xs) c rest none goes =
    let s = longer xs c rest (All-tail (λ (y : ℕ). eqb y 44 ≡ false) x xs none) goes in
    (s.0, s.1, slice_split-cons_no (λ b. eqb b 44) x (xs ++ c ∷ rest) (All-head (λ (y : ℕ). eqb y 44 ≡ false) x xs none) ∙ ap (onto_first x) s.2)

no_number : (l : List ℕ) (c : ℕ) (head : List ℕ) → (length l < 10 → is_ascii_digit c ≡ false) → number_of (l ++ c ∷ head) ≡ None
unfolding number_of
no_number l c head ends =
    let text = l ++ c ∷ head in
    let long : length text ≡ length l + (length head + 1) = omega (arith, length-append l (c ∷ head)) in
    elim (cases_lt (length l) 10) [
      | inl small ↦ cond_both (eqb (length text) 0 || ltb 10 (length text)) None (number_after 0 text) (λ o. o ≡ None) (λ t. refl) (λ f. digit_missing 0 l c head (ends small))
      | inr large ↦ rw (ne_eqb (length text) 0 (λ e. omega (arith, e, long)), lt-ltb 10 (length text) (omega (arith, long, large))) refl
    ]

pub first_fails : (text : List ℕ) (i v : ℕ) → i < length text → i ≤ 10 → number_after 0 (take i text) ≡ Some v → get_or text i 0 ≢ 44 → (i < 10 → is_ascii_digit (slice_index text i) ≡ false) → FirstIs 44 text (λ piece. number_of piece ≡ None)
first_fails text i v lt few value goes ends =
    let c = get_or text i 0 in
    let whole : text ≡ take i text ++ c ∷ drop (i + 1) text = sym (take-append-drop i text) ∙ ap (λ (l : List ℕ). take i text ++ l) (drop_more text i 0 lt) in
    let s = longer (take i text) c (drop (i + 1) text) (digits_plain 0 v (take i text) value) (ne_eqb c 44 goes) in
    record { piece = take i text ++ c ∷ s.0; more = s.1; split = ap (pieces 44) whole ∙ s.2; is = no_number (take i text) c s.0 (λ small. ends (omega (arith, length-take-le i text (omega (arith, lt)), small))) }

pub first_whole : (text : List ℕ) (i v : ℕ) → i ≡ length text → i ≤ 10 → number_after 0 (take i text) ≡ Some v → FirstBefore 44 text None (IsShortNumber v)
first_whole text i v is few value =
    let digits : number_after 0 text ≡ Some v = ap (number_after 0) (sym (take_all i text (omega (arith, is)))) ∙ value in
    record { piece = text; split = cut_none 44 text (digits_plain 0 v text digits); is = record { few = omega (arith, few, is); value = digits } }

pub first_part : (text after : List ℕ) (i v : ℕ) → i < length text → i ≤ 10 → number_after 0 (take i text) ≡ Some v → get_or text i 0 ≡ 44 → after ≡ drop (i + 1) text → FirstBefore 44 text (Some after) (IsShortNumber v)
first_part text after i v lt few value comma rest =
    record { piece = take i text; split = cut_at 44 i text lt (digits_plain 0 v (take i text) value) comma ∙ ap (λ (l : List ℕ). take i text ∷ pieces 44 l) (sym rest); is = record { few = omega (arith, few, length-take-le i text (omega (arith, lt))); value = value } }

-- ---- the id

number_back : (n : ℕ) (piece : List ℕ) → IsShortNumber n piece → 0 < length piece → number_of piece ≡ Some n
unfolding number_of
number_back n piece is some = rw (ne_eqb (length piece) 0 (λ e. omega (arith, e, some)), le-ltb 10 (length piece) is.few) is.value

has_digits : (n : ℕ) (piece : List ℕ) → IsShortNumber n piece → 1 ≤ n → 0 < length piece
has_digits n [] is low = absurd (omega (arith, same_number 0 n is.value, low))
has_digits n (x ∷ xs) is low = omega arith

id_some : (bound n : ℕ) (piece : List ℕ) → IsShortNumber n piece → 1 ≤ n → n ≤ bound → id_of bound piece ≡ Some n
id_some bound n piece is low high = id_back bound piece n (number_back n piece is (has_digits n piece is low)) low high

id_none : (bound n : ℕ) (piece : List ℕ) → IsShortNumber n piece → in_range bound n ≡ None → id_of bound piece ≡ None
unfolding id_of number_of
id_none bound n [] is out = refl
id_none bound n (x ∷ xs) is out = ap (option_and_then (in_range bound)) (number_back n (x ∷ xs) is (omega arith)) ∙ out

-- ---- the id at the front of a list

out_of_range : (bound n : ℕ) → (n ≡ 0) ⊎ (bound < n) → in_range bound n ≡ None
out_of_range bound n (inl none) = rw none refl
out_of_range bound n (inr above) = rw (ne_eqb n 0 (λ e. omega (arith, e, above)), lt-ltb bound n above) refl

pub id_fails : (bound : ℕ) (text : List ℕ) → FirstIs 44 text (λ piece. number_of piece ≡ None) → FirstIs 44 text (λ piece. id_of bound piece ≡ None)
unfolding id_of
id_fails bound text first = record { piece = first.piece; more = first.more; split = first.split; is = ap (option_and_then (in_range bound)) first.is }

pub id_out : (bound n : ℕ) (text : List ℕ) (rest : Option (List ℕ)) → FirstBefore 44 text rest (IsShortNumber n) → (n ≡ 0) ⊎ (bound < n) → FirstIs 44 text (λ piece. id_of bound piece ≡ None)
id_out bound n text rest first out = record { piece = first.piece; more = more_pieces 44 rest; split = first.split; is = id_none bound n first.piece first.is (out_of_range bound n out) }

pub id_in : (bound n : ℕ) (text : List ℕ) (rest : Option (List ℕ)) → FirstBefore 44 text rest (IsShortNumber n) → 1 ≤ n → n ≤ bound → FirstBefore 44 text rest (λ piece. id_of bound piece ≡ Some n)
id_in bound n text rest first low high = record { piece = first.piece; split = first.split; is = id_some bound n first.piece first.is low high }
