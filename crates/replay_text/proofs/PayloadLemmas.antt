-- A payload's text is read again, and is at most twice as long as it may be.
use Rattle.std.proofs.Common.{◌≡◌, ℕ, ◌*◌, false, List, [], ◌∷◌, ◌++◌, length, Ok, refl, ap, ◌∙◌, arith, inl, inr}
use Rattle.std.specs.Result.{result_ok}
use Rattle.std.specs.List.{flat_map}
use Rattle.std.specs.Str.{bytes_eq}
use Rattle.std.proofs.lemmas.Bool.{cases_Bool, le-ltb}
use Rattle.std.proofs.lemmas.Slice.Eq.{bytes_eq-Decides}
use Rattle.hex.specs.Hex.{encode_with, encode_lower, decode_of, lower_digits}
use Rattle.hex.proofs.HexLemmas.{length-encode_with, decode_of-encode_lower, decode_of-ok}
use Rattle.replay_text.specs.Arguments.{payload_of, octets_of_digits}
use Rattle.replay_text.specs.Payload.{digits_of, IsPayloadReadAgain}

pub half_as_long : (text octets : List ℕ) → decode_of text ≡ Ok octets → length text ≡ 2 * length octets
half_as_long text octets is = (decode_of-ok text octets is).2

is_encoded : (octets : List ℕ) → flat_map digits_of octets ≡ encode_lower octets
unfolding encode_with
is_encoded [] = refl
is_encoded (octet ∷ octets) = ap (λ (l : List ℕ). digits_of octet ++ l) (is_encoded octets)

-- two digits aren't one `-`
no_dash : (text : List ℕ) (n : ℕ) → length text ≡ 2 * n → bytes_eq text (45 ∷ []) ≡ false
no_dash text n even = elim (cases_Bool (bytes_eq text (45 ∷ []))) [
  | inl holds ↦
      let one : length text ≡ 1 = ap length ((bytes_eq-Decides text (45 ∷ [])).0 holds) in
      absurd (omega arith)
  | inr fails ↦ fails
]

pub is_read_again : (octets : List ℕ) → IsPayloadReadAgain octets
unfolding payload_of
is_read_again [] bytes short = refl
is_read_again (octet ∷ octets) bytes short =
    let text : length (flat_map digits_of (octet ∷ octets)) ≡ 2 * length (octet ∷ octets) = ap length (is_encoded (octet ∷ octets)) ∙ length-encode_with lower_digits (octet ∷ octets) in
    rw (no_dash (flat_map digits_of (octet ∷ octets)) (length (octet ∷ octets)) text, le-ltb 4000 (length (flat_map digits_of (octet ∷ octets))) (omega (arith, text, short)))
    (ap octets_of_digits (is_encoded (octet ∷ octets)) ∙ ap result_ok (decode_of-encode_lower (octet ∷ octets) bytes))
