-- BFR-ids and their positions in packets of a triple.
use Rattle.std.proofs.Common.{◌≡◌, ℕ, ◌+◌, ◌*◌, ◌==◌, ◌<◌, ◌≤◌, false, Option, Some, None, refl, sym, ap, subst, ◌∙◌, inl, inr, arith}
use Rattle.std.proofs.lemmas.Bool.{eq-eqb, ne_eqb}
use Rattle.std.proofs.lemmas.Bool.Decides.{eqb_tells}
use Rattle.wire_base.specs.declared.bsl.Bsl.{Bsl}
use Rattle.wire_base.specs.declared.bsl.Bsl.TheVariants.{B64, B128, B256, B512, B1024, B2048, B4096}
use Rattle.wire_base.specs.declared.triple.Triple.{Triple}
use Rattle.wire_base.specs.model.Hop.{is_this}
use Rattle.wire_base.specs.model.Place.{bits_of, bit_position, id_at, position_in, set_identifier}

-- ---- for each length

set-at : (b : Bsl) (si p : ℕ) → 0 < p → p ≤ bits_of b → set_identifier (bits_of b) (si * bits_of b + p) ≡ si
set-at B64 si p low high = omega arith
set-at B128 si p low high = omega arith
set-at B256 si p low high = omega arith
set-at B512 si p low high = omega arith
set-at B1024 si p low high = omega arith
set-at B2048 si p low high = omega arith
set-at B4096 si p low high = omega arith

pub bit-at : (b : Bsl) (si p : ℕ) → 0 < p → p ≤ bits_of b → bit_position (bits_of b) (si * bits_of b + p) ≡ p
bit-at B64 si p low high = omega arith
bit-at B128 si p low high = omega arith
bit-at B256 si p low high = omega arith
bit-at B512 si p low high = omega arith
bit-at B1024 si p low high = omega arith
bit-at B2048 si p low high = omega arith
bit-at B4096 si p low high = omega arith

id-of : (b : Bsl) (k : ℕ) → 0 < k → set_identifier (bits_of b) k * bits_of b + bit_position (bits_of b) k ≡ k
id-of B64 k low = omega arith
id-of B128 k low = omega arith
id-of B256 k low = omega arith
id-of B512 k low = omega arith
id-of B1024 k low = omega arith
id-of B2048 k low = omega arith
id-of B4096 k low = omega arith

bit-within : (b : Bsl) (k : ℕ) → (1 ≤ bit_position (bits_of b) k) × (bit_position (bits_of b) k ≤ bits_of b)
bit-within B64 k = (omega arith, omega arith)
bit-within B128 k = (omega arith, omega arith)
bit-within B256 k = (omega arith, omega arith)
bit-within B512 k = (omega arith, omega arith)
bit-within B1024 k = (omega arith, omega arith)
bit-within B2048 k = (omega arith, omega arith)
bit-within B4096 k = (omega arith, omega arith)

-- ---- for a triple

-- an id that has a position is the one at that position
pub record IsPosition (t : Triple) (k p : ℕ) : Type 0 where
  pub id : id_at t p ≡ k
  pub low : 1 ≤ p
  pub high : p ≤ bits_of t.bsl

same : (p q : ℕ) → Some p ≡ Some q → p ≡ q
same p q e = cc

pub position-is : (t : Triple) (k p : ℕ) → position_in t k ≡ Some p → IsPosition t k p
position-is t k p q = elim (eqb_tells k 0) [
  | inl z ↦ (let w : None ≡ Some p = rw z.0 at q in cc)
  | inr z ↦ elim (eqb_tells (set_identifier (bits_of t.bsl) k) t.si) [
    | inr s ↦ (let w : None ≡ Some p = rw (z.0, s.0) at q in cc)
    | inl s ↦
        let w : Some (bit_position (bits_of t.bsl) k) ≡ Some p = rw (z.0, s.0) at q in
        let above : 0 < k = positive k z.1 in
        let id : t.si * bits_of t.bsl + bit_position (bits_of t.bsl) k ≡ k = ap (λ (n : ℕ). n * bits_of t.bsl + bit_position (bits_of t.bsl) k) (sym s.1) ∙ id-of t.bsl k above in
        subst (IsPosition t k) (same _ p w) (record { id = id; low = (bit-within t.bsl k).0; high = (bit-within t.bsl k).1 })
  ]
]
  where
    positive : (n : ℕ) → (n ≡ 0 → ⊥) → 0 < n
    positive n h = omega arith

pub position-at : (t : Triple) (p : ℕ) → 1 ≤ p → p ≤ bits_of t.bsl → position_in t (id_at t p) ≡ Some p
position-at t p low high =
    let some : id_at t p ≡ 0 → ⊥ = λ e. omega arith in
    rw (ne_eqb (id_at t p) 0 some, eq-eqb _ _ (set-at t.bsl t.si p low high)) (ap (λ (q : ℕ). Some q) (bit-at t.bsl t.si p low high))

-- whether the id at a position is a given one, by that one's position
pub position-tells : (t : Triple) (k p : ℕ) → 1 ≤ p → p ≤ bits_of t.bsl → (id_at t p == k) ≡ is_this (position_in t k) p
position-tells t k p low high = elim (eqb_tells (id_at t p) k) [
  | inl e ↦ e.0 ∙ sym (ap (λ (n : ℕ). is_this (position_in t n) p) (sym e.1) ∙ ap (λ (o : Option ℕ). is_this o p) (position-at t p low high) ∙ eq-eqb p p refl)
  | inr e ↦ e.0 ∙ sym (by (position_in t k) refl e.1)
]
  where
    by : (o : Option ℕ) → position_in t k ≡ o → (id_at t p ≡ k → ⊥) → is_this o p ≡ false
    by None q other = refl
    by (Some n) q other = ne_eqb p n (λ e. other (ap (id_at t) e ∙ (position-is t k n q).id))
