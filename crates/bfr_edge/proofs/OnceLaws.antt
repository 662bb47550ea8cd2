-- Each BFR-id of the list is in one packet, and no other id is in any.
use Rattle.std.proofs.Common.{◌≡◌, ℕ, suc, ◌==◌, ◌&&◌, ◌||◌, Bool, true, false, List, [], ◌∷◌, map, refl, ap, ◌∙◌, inl, inr, arith}
use Rattle.std.specs.List.{list_any}
use Rattle.std.proofs.Math.Bool.{or-true}
use Rattle.std.proofs.lemmas.Bool.{eq-eqb}
use Rattle.std.proofs.lemmas.Bool.Decides.{eqb_tells}
use Rattle.wire_base.specs.declared.bsl.Bsl.{Bsl}
use Rattle.wire_base.specs.model.BitSet.{has_member}
use Rattle.wire_base.specs.model.Hop.{tally, one_if}
use Rattle.wire_base.specs.model.Ingress.{id_set, sets_of, ids_of_set, packet_for, packets_for}
use Rattle.wire_base.specs.model.Place.{bits_of, set_identifier}
use Rattle.wire_base.proofs.SetLaws.{has-filter, has-with}
use Rattle.bfr_edge.proofs.GroupLaws.{Rises, none-early, has-distinct, sets-rise}

has-id_set : (k : ℕ) (ids : List ℕ) → has_member k (id_set ids) ≡ has_member k ids
has-id_set k [] = refl
has-id_set k (j ∷ ids) = has-with k j (id_set ids) ∙ ap (λ b. (k == j) || b) (has-id_set k ids)

has-mapped : (f : ℕ → ℕ) (k : ℕ) (ks : List ℕ) → has_member k ks ≡ true → has_member (f k) (map f ks) ≡ true
has-mapped f k [] is = is
has-mapped f k (j ∷ ks) is = elim (eqb_tells k j) [
  | inl same ↦ rw (eq-eqb (f k) (f j) (ap f same.1)) refl
  | inr differs ↦ rw (has-mapped f k ks (rw differs.0 at is)) (or-true (f k == f j))
]

tally-once : (x low : ℕ) (xs : List ℕ) → Rises low xs → tally (λ s. x == s) xs ≡ one_if (has_member x xs)
tally-once x low [] is = refl
tally-once x low (s ∷ xs) is = elim (eqb_tells x s) [
  | inl same ↦ rw same.0 (omega (arith, tally-once x (suc s) xs is.1, ap one_if (none-early x (suc s) xs (omega (arith, same.1)) is.1)))
  | inr differs ↦ rw differs.0 (omega (arith, tally-once x (suc s) xs is.1))
]

tally-map : {X Y : Type 0} (q : Y → Bool) (f : X → Y) (xs : List X) → tally q (map f xs) ≡ tally (λ x. q (f x)) xs
tally-map q f [] = refl
tally-map q f (x ∷ xs) = omega (arith, tally-map q f xs)

tally-same : (p q : ℕ → Bool) (xs : List ℕ) → ((x : ℕ) → p x ≡ q x) → tally p xs ≡ tally q xs
tally-same p q [] h = refl
tally-same p q (x ∷ xs) h = omega (arith, ap one_if (h x), tally-same p q xs h)

tally-never : (xs : List ℕ) → tally (λ x. false) xs ≡ 0
tally-never [] = refl
tally-never (x ∷ xs) = omega (arith, tally-never xs)

pub each-once : (sd : ℕ) (bsl : Bsl) (ids : List ℕ) (k : ℕ) → list_any (λ j. j == 0) ids ≡ false → tally (λ p. has_member k p.ids) (packets_for sd bsl ids) ≡ one_if (has_member k ids)
unfolding packets_for
each-once sd bsl ids k none =
    let f = set_identifier (bits_of bsl) in
    let sets = sets_of bsl ids in
    tally-map (λ p. has_member k p.ids) (packet_for sd bsl ids) sets
    ∙ tally-same (λ s. has_member k (ids_of_set bsl ids s)) (λ s. has_member k (id_set ids) && (f k == s)) sets (λ s. has-filter k (λ j. f j == s) (id_set ids))
    ∙ counted (has_member k (id_set ids)) refl
    ∙ ap one_if (has-id_set k ids)
  where
    counted : (b : Bool) → has_member k (id_set ids) ≡ b → tally (λ s. has_member k (id_set ids) && (set_identifier (bits_of bsl) k == s)) (sets_of bsl ids) ≡ one_if (has_member k (id_set ids))
    counted true e = rw e (tally-once (set_identifier (bits_of bsl) k) 0 (sets_of bsl ids) (sets-rise bsl ids none)
        ∙ ap one_if (has-distinct (set_identifier (bits_of bsl) k) (map (set_identifier (bits_of bsl)) (id_set ids)) ∙ has-mapped (set_identifier (bits_of bsl)) k (id_set ids) e))
    counted false e = rw e (tally-never (sets_of bsl ids))
