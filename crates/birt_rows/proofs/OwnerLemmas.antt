-- One node after another is asked for an id.
use Rattle.std.proofs.Common.{◌≡◌, ℕ, zero, suc, ◌+◌, ◌-◌, ◌*◌, ◌/◌, ◌%◌, ◌<◌, ◌≤◌, ◌==◌, ◌||◌, ◌&&◌, nat_lt, Bool, true, false, cond, List, [], ◌∷◌, ◌++◌, length, Option, Some, None, option_and_then, filter, slice_index_or, slice_set, Contains, AllPairs, IfSome, refl, ap, arith, sym, ◌∙◌, inl, inr, add-one, append-nil, subst, if◌then◌else◌}
use Rattle.std.specs.List.{range_with_len, list_any}
use Rattle.std.proofs.lemmas.Bool.{eq-eqb, ne_eqb}
use Rattle.std.proofs.lemmas.Bool.Decides.{eqb_tells}
use Rattle.std.proofs.lemmas.List.{get_or-set_same, get_or-set_other}
use Rattle.std.proofs.lemmas.List.Elements.{filter-append}
use Rattle.std.proofs.lemmas.Option.{same_Some}
use Rattle.std.proofs.Math.ListN.{length-set}
use Rattle.wire_base.specs.declared.bsl.Bsl.{Bsl}
use Rattle.wire_base.specs.declared.bsl.Bsl.TheVariants.{B64, B128, B256, B512, B1024, B2048, B4096}
use Rattle.wire_base.specs.declared.triple.Triple.{Triple}
use Rattle.wire_base.specs.declared.view.ViewNode.{ViewNode}
use Rattle.wire_base.specs.declared.view.ViewSub.{ViewSub}
use Rattle.wire_base.specs.model.Graph.{IsNode, has_id, has_id_at, only, owner, place_in}
use Rattle.wire_base.specs.model.Hop.{is_this}
use Rattle.wire_base.specs.model.Place.{bits_of, bit_position, id_at, position_in, set_identifier}
use Rattle.laws_route.proofs.TightLemmas.{Contains-cons}
use Rattle.birt_rows.specs.declared.owner.Found.{Found}
use Rattle.birt_rows.specs.declared.owner.Found.TheVariants.{Nobody}
use Rattle.birt_rows.specs.Owner.{counted, found_in, node_position, one_more, only_one, owner_among}

range_more : (a n : ℕ) → range_with_len a (n + 1) ≡ range_with_len a n ++ (a + n) ∷ []
range_more a zero = ap (λ x. x ∷ []) (omega arith)
range_more a (suc n) =
    let h : range_with_len (a + 1) (suc n) ≡ range_with_len (a + 1) n ++ ((a + 1) + n) ∷ [] = ap (range_with_len (a + 1)) (let p : suc n ≡ n + 1 = omega arith in p) ∙ range_more (a + 1) n in
    let e : (a + 1) + n ≡ a + suc n = omega arith in
    rw add-one (ap (λ xs. a ∷ xs) (h ∙ rw e refl))

pub filter_range_more : (p : ℕ → Bool) (n : ℕ) → filter p (range_with_len 0 (n + 1)) ≡ filter p (range_with_len 0 n) ++ cond (p n) (n ∷ []) []
filter_range_more p n =
    let e : 0 + n ≡ n = omega arith in
    ap (filter p) (range_more 0 n) ∙ filter-append p (range_with_len 0 n) ((0 + n) ∷ []) ∙ rw e refl

pub range_kept : (p : ℕ → Bool) (n : ℕ) → p n ≡ true → filter p (range_with_len 0 (n + 1)) ≡ filter p (range_with_len 0 n) ++ n ∷ []
range_kept p n t = filter_range_more p n ∙ rw t refl

pub range_skipped : (p : ℕ → Bool) (n : ℕ) → p n ≡ false → filter p (range_with_len 0 (n + 1)) ≡ filter p (range_with_len 0 n)
range_skipped p n t = filter_range_more p n ∙ rw t (rw append-nil refl)

found-more : (xs : List ℕ) (y : ℕ) → found_in (xs ++ y ∷ []) ≡ one_more (found_in xs) y
found-more [] y = refl
found-more (x ∷ []) y = refl
found-more (x ∷ z ∷ zs) y = refl

pub found-kept : (p : ℕ → Bool) (n : ℕ) (f : Found) → f ≡ found_in (filter p (range_with_len 0 n)) → p n ≡ true → one_more f n ≡ found_in (filter p (range_with_len 0 (n + 1)))
found-kept p n f q t = ap (λ (g : Found). one_more g n) q ∙ sym (found-more (filter p (range_with_len 0 n)) n) ∙ ap found_in (sym (range_kept p n t))

pub found-skipped : (p : ℕ → Bool) (n : ℕ) (f : Found) → f ≡ found_in (filter p (range_with_len 0 n)) → p n ≡ false → f ≡ found_in (filter p (range_with_len 0 (n + 1)))
found-skipped p n f q t = q ∙ ap found_in (sym (range_skipped p n t))

pub only-found : (xs : List ℕ) → only_one (found_in xs) ≡ only xs
only-found [] = refl
only-found (x ∷ []) = refl
only-found (x ∷ y ∷ ys) = refl

-- The position of an id, for each length.
position-of : (b : Bsl) (si p id : ℕ) → 0 < p → p ≤ bits_of b → id ≡ si * bits_of b + p → ((id - 1) / bits_of b ≡ si) × ((id - 1) % bits_of b + 1 ≡ p)
position-of B64 si p id low high q = (omega arith, omega arith)
position-of B128 si p id low high q = (omega arith, omega arith)
position-of B256 si p id low high q = (omega arith, omega arith)
position-of B512 si p id low high q = (omega arith, omega arith)
position-of B1024 si p id low high q = (omega arith, omega arith)
position-of B2048 si p id low high q = (omega arith, omega arith)
position-of B4096 si p id low high q = (omega arith, omega arith)

id-of : (b : Bsl) (si p id : ℕ) → 0 < id → (id - 1) / bits_of b ≡ si → (id - 1) % bits_of b + 1 ≡ p → id ≡ si * bits_of b + p
id-of B64 si p id low q r = omega arith
id-of B128 si p id low q r = omega arith
id-of B256 si p id low q r = omega arith
id-of B512 si p id low q r = omega arith
id-of B1024 si p id low q r = omega arith
id-of B2048 si p id low q r = omega arith
id-of B4096 si p id low q r = omega arith

position-small : (b : Bsl) (id : ℕ) → (id - 1) % bits_of b + 1 ≤ bits_of b
position-small B64 id = omega arith
position-small B128 id = omega arith
position-small B256 id = omega arith
position-small B512 id = omega arith
position-small B1024 id = omega arith
position-small B2048 id = omega arith
position-small B4096 id = omega arith

-- whether an id is that of a position, by its own position
position-tells : (t : Triple) (p id : ℕ) → 0 < p → p ≤ bits_of t.bsl → (id == id_at t p) ≡ is_this (position_in t id) p
position-tells t p id low high =
    elim (eqb_tells id 0) [
      | inl z ↦ (let ne : id ≡ id_at t p → ⊥ = λ e. omega (arith, z.1) in rw (z.0, ne_eqb id (id_at t p) ne) refl)
      | inr z ↦
          let above : 0 < id = positive z.1 in
          elim (eqb_tells (set_identifier (bits_of t.bsl) id) t.si) [
            | inr s ↦
                let ne : id ≡ id_at t p → ⊥ = λ e. s.1 (position-of t.bsl t.si p id low high e).0 in
                rw (z.0, s.0, ne_eqb id (id_at t p) ne) refl
            | inl s ↦
                elim (eqb_tells p (bit_position (bits_of t.bsl) id)) [
                  | inl r ↦ rw (z.0, s.0, r.0, eq-eqb id (id_at t p) (id-of t.bsl t.si p id above s.1 (sym r.1))) refl
                  | inr r ↦
                      let ne : id ≡ id_at t p → ⊥ = λ e. r.1 (sym (position-of t.bsl t.si p id low high e).1) in
                      rw (z.0, s.0, r.0, ne_eqb id (id_at t p) ne) refl
                ]
          ]
    ]
  where
    positive : {n : ℕ} → (n ≡ 0 → ⊥) → 0 < n
    positive {n} h = omega arith

pub position-within : (t : Triple) (id p : ℕ) → position_in t id ≡ Some p → (0 < p) × (p ≤ bits_of t.bsl)
position-within t id p q =
    elim (eqb_tells id 0) [
      | inl z ↦ (let w : None ≡ Some p = rw z.0 at q in cc)
      | inr z ↦
          elim (eqb_tells (set_identifier (bits_of t.bsl) id) t.si) [
            | inr s ↦ (let w : None ≡ Some p = rw (z.0, s.0) at q in cc)
            | inl s ↦
                let w : Some (bit_position (bits_of t.bsl) id) ≡ Some p = rw (z.0, s.0) at q in
                let e = same_Some (bit_position (bits_of t.bsl) id) p w in
                (omega (arith, e), omega (arith, e, position-small t.bsl id))
          ]
    ]

-- where the sub-domains differ, an id is the one of the first entry of the sub-domain
is_id : Option ViewSub → ℕ → Bool
is_id None k = false
is_id (Some s) k = s.id == k

none-there : (sd k : ℕ) (subs : List ViewSub) → ((s : ViewSub) → Contains subs s → s.sd ≡ sd → ⊥) → list_any (λ s. (s.sd == sd) && (s.id == k)) subs ≡ false
none-there sd k [] h = refl
none-there sd k (s ∷ subs) h = rw (ne_eqb s.sd sd (h s (0, omega arith, refl)), none-there sd k subs (λ r c. h r (Contains-cons s subs r c))) refl

any-place : (sd k : ℕ) (subs : List ViewSub) → AllPairs (λ a b. a.sd ≡ b.sd → ⊥) subs → list_any (λ s. (s.sd == sd) && (s.id == k)) subs ≡ is_id (place_in subs sd) k
unfolding is_id
any-place sd k [] h = refl
any-place sd k (s ∷ subs) h =
    elim (eqb_tells s.sd sd) [
      | inl e ↦
          let none = none-there sd k subs (λ r c q. later r c (e.1 ∙ sym q)) in
          rw (e.0, none) (or-none (s.id == k))
      | inr e ↦ rw e.0 (any-place sd k subs (λ i j d less within. h (suc i) (suc j) d (omega arith) (omega arith)))
    ]
  where
    or-none : (b : Bool) → (b || false) ≡ b
    or-none true = refl
    or-none false = refl

    later : (r : ViewSub) → Contains subs r → s.sd ≡ r.sd → ⊥
    later r (i, l, e) q =
        let ne : s.sd ≡ (slice_index_or subs i r).sd → ⊥ = h 0 (suc i) r (omega arith) (omega arith) in
        ne (q ∙ ap (λ (z : ViewSub). z.sd) (sym e))

-- a node has the id of a position exactly where that is its position
pub has-at : (count : ℕ) (n : ViewNode) → IsNode count n → (t : Triple) (p : ℕ) → 0 < p → p ≤ bits_of t.bsl → has_id t.sd (id_at t p) n ≡ is_this (node_position t n) p
unfolding is_id
has-at count n good t p low high = any-place t.sd (id_at t p) n.subs good.subs_differ ∙ go (place_in n.subs t.sd)
  where
    go : (o : Option ViewSub) → is_id o (id_at t p) ≡ is_this (option_and_then (λ s. position_in t s.id) o) p
    go None = refl
    go (Some s) = position-tells t p s.id low high

-- one more node is counted
pub counted-more : (found : List Found) (o : Option ℕ) (node p : ℕ) (has : ℕ → Bool) → 0 < p → p ≤ length found → has node ≡ is_this o p → ((q : ℕ) → o ≡ Some q → 0 < q)
    → slice_index_or found (p - 1) Nobody ≡ found_in (filter has (range_with_len 0 node)) → slice_index_or (counted found o node) (p - 1) Nobody ≡ found_in (filter has (range_with_len 0 (node + 1)))
counted-more found None node p has low high h above q = found-skipped has node (slice_index_or found (p - 1) Nobody) q h
counted-more found (Some r) node p has low high h above q =
    elim (eqb_tells p r) [
      | inl e ↦
          let same : r - 1 ≡ p - 1 = omega (arith, e.1) in
          subst (λ i. slice_index_or (slice_set found i (one_more (slice_index_or found i Nobody) node)) (p - 1) Nobody ≡ found_in (filter has (range_with_len 0 (node + 1)))) (sym same)
          (get_or-set_same found (p - 1) (one_more (slice_index_or found (p - 1) Nobody) node) Nobody (omega arith)
          ∙ found-kept has node (slice_index_or found (p - 1) Nobody) q (h ∙ e.0))
      | inr e ↦
          let r-above = above r refl in
          let ne : p - 1 ≡ r - 1 → ⊥ = λ z. e.1 (omega arith) in
          get_or-set_other found (r - 1) (p - 1) (one_more (slice_index_or found (r - 1) Nobody) node) Nobody ne
          ∙ found-skipped has node (slice_index_or found (p - 1) Nobody) q (h ∙ e.0)
    ]

pub counted-long : (found : List Found) (o : Option ℕ) (node : ℕ) → length (counted found o node) ≡ length found
counted-long found None node = refl
counted-long found (Some p) node = length-set found (p - 1) (one_more (slice_index_or found (p - 1) Nobody) node)

pub owner-among : (g : List ViewNode) (sd k : ℕ) (f : Found) → f ≡ found_in (filter (has_id_at g sd k) (range_with_len 0 (length g))) → owner_among f k ≡ owner g sd k
unfolding owner
owner-among g sd k f q = go ((k == 0) || nat_lt 65535 k) (ap only_one q ∙ only-found (filter (has_id_at g sd k) (range_with_len 0 (length g))))
  where
    go : (b : Bool) → only_one f ≡ only (filter (has_id_at g sd k) (range_with_len 0 (length g))) → (if b then None else only_one f) ≡ (if b then None else only (filter (has_id_at g sd k) (range_with_len 0 (length g))))
    go true e = refl
    go false e = e

pub node-position-within : (t : Triple) (n : ViewNode) (o : Option ℕ) → o ≡ node_position t n → (p : ℕ) → o ≡ Some p → (0 < p) × (p ≤ bits_of t.bsl)
node-position-within t n o same p q = go (place_in n.subs t.sd) (sym same ∙ q)
  where
    go : (s : Option ViewSub) → option_and_then (λ s. position_in t s.id) s ≡ Some p → (0 < p) × (p ≤ bits_of t.bsl)
    go None e = cc
    go (Some s) e = position-within t s.id p e

pub if-some : (o : Option ℕ) (P : ℕ → Type 0) → ((p : ℕ) → o ≡ Some p → P p) → IfSome o P
if-some None P h = tt
if-some (Some p) P h = h p refl
