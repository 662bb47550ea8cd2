-- The one owner of a BFR-id.
use Rattle.std.proofs.Common.{◌≡◌, ℕ, ◌<◌, ◌==◌, ◌||◌, nat_lt, Bool, true, false, List, [], ◌∷◌, length, Option, Some, None, refl, ap, arith, sym, ◌∙◌, inl, inr, Contains, subst, filter, if◌then◌else◌}
use Rattle.std.specs.List.{range_with_len}
use Rattle.std.proofs.lemmas.Bool.{eq-eqb}
use Rattle.std.proofs.lemmas.Bool.Decides.{eqb_tells}
use Rattle.std.proofs.lemmas.Option.{same_Some}
use Rattle.wire_base.specs.declared.view.ViewNode.{ViewNode}
use Rattle.wire_base.specs.model.Graph.{owner, only, has_id_at}
use Rattle.laws_route.proofs.ChoiceLemmas.{filter-from, filter-at, Contains-range, range-within}
use Rattle.laws_route.proofs.WalkLemmas.{Contains-cases}

only-one : (xs : List ℕ) (d : ℕ) → only xs ≡ Some d → xs ≡ d ∷ []
only-one [] d q = cc
only-one (x ∷ []) d q = ap (λ y. y ∷ []) (same_Some x d q)
only-one (x ∷ y ∷ ys) d q = cc

tested : (b : Bool) (o : Option ℕ) (d : ℕ) → (if b then None else o) ≡ Some d → (b ≡ false) × (o ≡ Some d)
tested true o d q = cc
tested false o d q = (refl, q)

-- the owner is the only node with the id
pub record IsOwner (g : List ViewNode) (sd k d : ℕ) : Type 0 where
  pub within : d < length g
  pub has : has_id_at g sd k d ≡ true
  pub alone : (z : ℕ) → z < length g → has_id_at g sd k z ≡ (z == d)

pub owner-is : (g : List ViewNode) (sd k d : ℕ) → owner g sd k ≡ Some d → IsOwner g sd k d
unfolding owner
owner-is g sd k d q =
    let t = tested ((k == 0) || nat_lt 65535 k) (only (filter (has_id_at g sd k) (range_with_len 0 (length g)))) d q in
    let e = only-one (filter (has_id_at g sd k) (range_with_len 0 (length g))) d t.1 in
    let here : Contains (filter (has_id_at g sd k) (range_with_len 0 (length g))) d = subst (λ xs. Contains xs d) (sym e) (0, omega arith, refl) in
    let f = filter-from (has_id_at g sd k) (range_with_len 0 (length g)) d here in
    record {
      within = omega (arith, range-within 0 (length g) d f.0);
      has = f.1;
      alone = λ z l. alone e f.1 z l (has_id_at g sd k z) refl;
    }
  where
    none : (z : ℕ) → Contains {X = ℕ} [] z → ⊥
    none z (i, l, e) = omega arith

    alone : filter (has_id_at g sd k) (range_with_len 0 (length g)) ≡ d ∷ [] → has_id_at g sd k d ≡ true → (z : ℕ) → z < length g → (b : Bool) → has_id_at g sd k z ≡ b → has_id_at g sd k z ≡ (z == d)
    alone e h z l true p =
        let there = filter-at (has_id_at g sd k) (range_with_len 0 (length g)) z (Contains-range 0 (length g) z (omega arith) (omega arith)) p in
        elim (Contains-cases d [] z (subst (λ xs. Contains xs z) e there)) [
          | inl same ↦ p ∙ sym (eq-eqb z d (sym same))
          | inr n ↦ absurd (none z n)
        ]
    alone e h z l false p =
        elim (eqb_tells z d) [
          | inl t ↦ (let w : true ≡ false = sym h ∙ sym (ap (has_id_at g sd k) t.1) ∙ p in cc)
          | inr t ↦ p ∙ sym t.0
        ]
