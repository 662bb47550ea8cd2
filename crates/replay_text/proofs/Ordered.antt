-- The ids of a packet line ascend from 1 to the length.
use Rattle.std.proofs.Common.{◌≡◌, ℕ, zero, suc, ◌<◌, ◌≤◌, Bool, true, false, cond, ltb, List, [], ◌∷◌, length, Option, Some, None, Result, Ok, Err, refl, subst, arith, inl, inr}
use Rattle.std.specs.Prelude.{IfSome, IfOk, is_some, codes, option_and_then}
use Rattle.std.specs.Str.{bytes_eq}
use Rattle.std.proofs.lemmas.Bool.{cases_eq, cases_order, cases_Bool, eq-eqb, ne_eqb, lt-ltb, le-ltb, ltb-false}
use Rattle.wire_base.specs.declared.limits.TheConstants.{LINE_LIMIT}
use Rattle.wire_base.specs.declared.bsl.Bsl.{Bsl}
use Rattle.wire_base.specs.declared.bsl.Bsl.TheVariants as lengths
use Rattle.wire_base.specs.model.BitSet.{with_member, IsWithin}
use Rattle.wire_base.specs.model.Place.{bits_of, bsl_with}
use Rattle.wire_base.specs.model.Fields.{◌>>=◌}
use Rattle.bier_bits.specs.Any.{any_of, bsl_of, positions_of}
use Rattle.replay_text.specs.declared.fault.TextFault.{TextFault}
use Rattle.replay_text.specs.declared.fault.TextFault.TheVariants.{Word, Number}
use Rattle.replay_text.specs.declared.hop.HopState.{HopState}
use Rattle.replay_text.specs.declared.hop.HopLine.{HopLine}
use Rattle.replay_text.specs.declared.hop.HopLine.TheVariants as says
use Rattle.replay_text.specs.Reading.{or_fault, Gives}
use Rattle.replay_text.specs.Pieces.{pieces, words_of, only_word, two_words}
use Rattle.wire_base.specs.model.Configuration.{is_name}
use Rattle.replay_text.specs.Tokens.{number_of}
use Rattle.replay_text.specs.Ids.{id_of, in_range, ids_of, ids_after}
use Rattle.replay_text.specs.Hop.{IsOrdered, hop_line, line_of_words, words_line, length_line, length_of, own_line, row_line, packet_line, for_own, for_rows, has_row, is_comment, length_said}

within_with : (low high p : ℕ) (xs : List ℕ) → low < p → p ≤ high → IsWithin low high xs → IsWithin low high (with_member p xs)
within_with low high p [] above below is = (above, below, tt)
within_with low high p (x ∷ xs) above below is = elim (cases_order p x) [
  | inl same ↦ rw (le-ltb p x (omega arith), eq-eqb p x same) is
  | inr other ↦ elim other [
    | inl lt ↦ rw (lt-ltb p x lt) (above, below, (lt, is.1, is.2))
    | inr gt ↦ rw (le-ltb p x (omega arith), ne_eqb p x (λ e. omega arith)) (is.0, is.1, within_with x high p xs gt below is.2)
  ]
]

in_range_within : (bound n : ℕ) → IfSome (in_range bound n) (λ id. (0 < id) × (id ≤ bound))
in_range_within bound n = elim (cases_eq n 0) [
  | inl same ↦ rw (eq-eqb n 0 same) tt
  | inr other ↦ elim (cases_Bool (ltb bound n)) [
    | inl over ↦ rw (ne_eqb n 0 other, over) tt
    | inr fits ↦ rw (ne_eqb n 0 other, fits) (pos n other, ltb-false bound n fits)
  ]
]
  where
    pos : (n : ℕ) → (n ≡ 0 → ⊥) → 0 < n
    pos zero other = absurd (other refl)
    pos (suc n) other = omega arith

id_within : (bound : ℕ) (text : List ℕ) → IfSome (id_of bound text) (λ id. (0 < id) × (id ≤ bound))
unfolding id_of
id_within bound text = go (number_of text)
  where
    go : (o : Option ℕ) → IfSome (option_and_then (in_range bound) o) (λ id. (0 < id) × (id ≤ bound))
    go None = tt
    go (Some n) = in_range_within bound n

ids_within : (bound : ℕ) (set : List ℕ) (texts : List (List ℕ)) → IsWithin 0 bound set → IfSome (ids_after bound set texts) (IsWithin 0 bound)
unfolding ids_after
ids_within bound set [] is = is
ids_within bound set (text ∷ more) is = go (id_of bound text) (id_within bound text) (λ id low high. ids_within bound (with_member id set) more (within_with 0 bound id set low high is))
  where
    go : (o : Option ℕ) → IfSome o (λ id. (0 < id) × (id ≤ bound)) → ((id : ℕ) → 0 < id → id ≤ bound → IfSome (ids_after bound (with_member id set) more) (IsWithin 0 bound)) → IfSome (option_and_then (λ id. ids_after bound (with_member id set) more) o) (IsWithin 0 bound)
    go None has step = tt
    go (Some id) has step = step id has.0 has.1

list_within : (bound : ℕ) (text : List ℕ) → IfSome (ids_of bound text) (IsWithin 0 bound)
unfolding ids_of
list_within bound text = elim (cases_Bool (bytes_eq text (45 ∷ []))) [
  | inl none ↦ rw none tt
  | inr some ↦ rw some (ids_within bound [] (pieces 44 text) tt)
]

-- ---- what holds of each way in which a line can be read

ok_if : {X : Type 0} (P : X → Type 0) (b : Bool) (x y : Result X TextFault) → IfOk x P → IfOk y P → IfOk (cond b x y) P
ok_if P true x y first second = first
ok_if P false x y first second = second

ok_then : {X Y : Type 0} (P : Y → Type 0) (x : Result X TextFault) (f : X → Result Y TextFault) → ((v : X) → IfOk (f v) P) → IfOk (x >>= f) P
ok_then P (Ok v) f each = each v
ok_then P (Err e) f each = tt

length_ordered : (state : HopState) (args : List (List ℕ)) → IfOk (length_line state args) IsOrdered
unfolding length_line
length_ordered state args =
    ok_then IsOrdered (or_fault Word (only_word args)) _ (λ text. ok_if IsOrdered (is_some state.bsl) _ _ tt (ok_then IsOrdered (or_fault Number (number_of text)) length_of (λ n. said (bsl_with n))))
  where
    said : (o : Option Bsl) → IfOk (length_said o) IsOrdered
    said None = tt
    said (Some bsl) = tt

own_ordered : (state : HopState) (args : List (List ℕ)) → IfOk (own_line state args) IsOrdered
unfolding own_line
own_ordered state args =
    ok_then IsOrdered (or_fault Word (only_word args)) _ (λ text. ok_then IsOrdered (for_own state) _ (λ bsl. ok_then IsOrdered (or_fault Number (number_of text)) _ (λ n. ok_if IsOrdered (ltb (bits_of bsl) n) _ _ tt tt)))

row_ordered : (state : HopState) (args : List (List ℕ)) → IfOk (row_line state args) IsOrdered
unfolding row_line
row_ordered state args =
    ok_then IsOrdered (or_fault Word (two_words args)) _ (λ texts. ok_then IsOrdered (for_rows state) _ (λ bsl. ok_if IsOrdered state.packets _ _ tt
    (ok_then IsOrdered (or_fault Number (id_of (bits_of bsl) texts.0)) _ (λ id. ok_if IsOrdered (has_row state.rows id) _ _ tt (ok_if IsOrdered (is_name texts.1) _ _ tt tt)))))

any_ordered : (bsl : Bsl) (ids : List ℕ) → IsWithin 0 (bits_of bsl) ids → IsWithin 0 (bits_of (bsl_of (any_of bsl ids))) (positions_of (any_of bsl ids))
any_ordered lengths.B64 ids is = is
any_ordered lengths.B128 ids is = is
any_ordered lengths.B256 ids is = is
any_ordered lengths.B512 ids is = is
any_ordered lengths.B1024 ids is = is
any_ordered lengths.B2048 ids is = is
any_ordered lengths.B4096 ids is = is

packet_ordered : (state : HopState) (args : List (List ℕ)) → IfOk (packet_line state args) IsOrdered
unfolding packet_line
packet_ordered state args =
    ok_then IsOrdered (or_fault Word (only_word args)) _ (λ text. ok_then IsOrdered (for_rows state) _ (λ bsl. read bsl (ids_of (bits_of bsl) text) (list_within (bits_of bsl) text)))
  where
    read : (bsl : Bsl) (o : Option (List ℕ)) → IfSome o (IsWithin 0 (bits_of bsl)) → IfOk (or_fault Number o >>= (λ ids. Ok (says.Packet (any_of bsl ids)))) IsOrdered
    read bsl None is = tt
    read bsl (Some ids) is = any_ordered bsl ids is

words_ordered : (state : HopState) (word : List ℕ) (args : List (List ℕ)) → IfOk (words_line state word args) IsOrdered
unfolding words_line
words_ordered state word args =
    ok_if IsOrdered (bytes_eq word (codes "bsl")) _ _ (length_ordered state args)
    (ok_if IsOrdered (bytes_eq word (codes "self")) _ _ (own_ordered state args)
    (ok_if IsOrdered (bytes_eq word (codes "row")) _ _ (row_ordered state args)
    (ok_if IsOrdered (bytes_eq word (codes "packet")) _ _ (packet_ordered state args) tt)))

pub line_ordered : (text : List ℕ) (state : HopState) → IfOk (hop_line text state) IsOrdered
unfolding hop_line
line_ordered text state = ok_if IsOrdered (ltb LINE_LIMIT (length text)) _ _ tt (ok_if IsOrdered (is_comment text) _ _ tt (words (words_of text)))
  where
    words : (ws : List (List ℕ)) → IfOk (line_of_words state ws) IsOrdered
    words [] = tt
    words (word ∷ args) = words_ordered state word args

-- what a call stored, unless memory ran out, is what reading gives
pub ordered : (result : Result Unit TextFault) (said : HopLine) (text : List ℕ) (state : HopState) → Gives (λ _. said) result (hop_line text state) → IfOk result (λ _. IsOrdered said)
ordered (Ok done) said text state gives = subst (λ (r : Result HopLine TextFault). IfOk r IsOrdered) gives (line_ordered text state)
ordered (Err e) said text state gives = tt
