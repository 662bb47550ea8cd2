-- What is kept of a mask has the links that the router has.
use Rattle.std.proofs.Common.{◌≡◌, ℕ, ◌+◌, ◌*◌, ◌/◌, ◌%◌, ◌^◌, ◌<◌, ◌≤◌, eqb, Bool, true, false, List, refl, sym, ap, ◌∙◌, arith, inl, inr}
use Rattle.std.specs.Int.{bit_at}
use Rattle.std.proofs.lemmas.Bool.{cases_lt}
use Rattle.std.proofs.lemmas.Nat.Bits.{bit_at_cat_low, bit_at_above}
use Rattle.isis_flood.specs.declared.table.Bits.{Bits}
use Rattle.isis_flood.specs.Masks.{at_bit, links_in, row_of, held_mask, held_row}
use Rattle.isis_flood.proofs.MaskLaws.{links_are, links_long, links_get}

low_same : (mask i : ℕ) → i < 8 → at_bit (mask % 256) i ≡ at_bit mask i
low_same mask i low =
    let whole : mask / 256 * 2 ^ 8 + mask % 256 ≡ mask = omega arith in
    ap (λ b. eqb b 1) (sym (bit_at_cat_low (mask / 256) 8 (mask % 256) i low) ∙ ap (λ m. bit_at m i) whole)

high_none : (mask i : ℕ) → 8 ≤ i → at_bit (mask % 256) i ≡ false
high_none mask i high = ap (λ b. eqb b 1) (bit_at_above (mask % 256) 8 i (omega arith) high)

-- what isn't in a mask isn't in what is kept of it
pub held_idle : (narrow : Bool) (mask i : ℕ) → at_bit mask i ≡ false → at_bit (held_mask narrow mask) i ≡ false
held_idle true mask i none = elim (cases_lt i 8) [
  | inl low ↦ low_same mask i low ∙ none
  | inr high ↦ high_none mask i high
]
held_idle false mask i none = none

pub links_held : (narrow : Bool) (n mask : ℕ) → (narrow ≡ true → n ≤ 8) → links_in n (held_mask narrow mask) ≡ links_in n mask
links_held true n mask few =
    let long = links_long n mask in
    let most = few refl in
    links_are (mask % 256) n (links_in n mask) (sym long) (λ i lt. low_same mask i (omega (arith, lt, long, most)) ∙ sym (links_get mask i n (omega (arith, lt, long))))
links_held false n mask few = refl

pub none_held : (narrow : Bool) → held_mask narrow 0 ≡ 0
none_held true = refl
none_held false = refl

pub row_held : (narrow : Bool) (n : ℕ) (b : Bits) → (narrow ≡ true → n ≤ 8) → row_of n (held_row narrow b) ≡ row_of n b
row_held narrow n b few =
    ap (λ (l : List Bool). record { id = b.id; srm = l; ssn = links_in n (held_mask narrow b.ssn) }) (links_held narrow n b.srm few)
    ∙ ap (λ (l : List Bool). record { id = b.id; srm = links_in n b.srm; ssn = l }) (links_held narrow n b.ssn few)
