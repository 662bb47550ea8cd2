-- The rows from the entries.
use Rattle.std.proofs.Common.{◌≡◌, ℕ, zero, suc, ◌<◌, ◌⊎◌, inl, inr, ◌&&◌, ◌==◌, Bool, true, false, cond, List, [], ◌∷◌, ◌++◌, length, map, filter, replicate, slice_index_or, slice_set, take, ◌+◌, Option, Some, None, Contains, ◌↔◌, refl, ap, arith, sym, ◌∙◌}
use Rattle.std.specs.List.{range_with_len, filter_map}
use Rattle.std.proofs.lemmas.Bool.{cases_Bool, cases_lt}
use Rattle.std.proofs.lemmas.Bool.Decides.{eqb_tells}
use Rattle.std.proofs.lemmas.List.{get_or_default, get_or-set_same, get_or-set_other, get_or-replicate, get_or_past, length-replicate}
use Rattle.std.proofs.Math.Numerals.{suc-eq-add-one}
use Rattle.wire_base.proofs.FirstListLaws.{extend_new}
use Rattle.wire_base.specs.FirstLists.{extend_last}
use Rattle.wire_base.specs.declared.view.First.{First}
use Rattle.wire_base.specs.declared.conf.End.{End}
use Rattle.wire_base.specs.declared.conf.SubKind.{SubKind}
use Rattle.wire_base.specs.declared.conf.TableRow.{TableRow}
use Rattle.wire_base.specs.declared.triple.Triple.{Triple}
use Rattle.wire_base.specs.declared.view.ViewNode.{ViewNode}
use Rattle.wire_base.specs.model.Graph.{covers, covers_at, IsGraph}
use Rattle.wire_base.specs.model.Supporting.{IsFirst, meets, firsts}
use Rattle.wire_base.specs.model.Choice.{candidates, first_at, toward}
use Rattle.laws_route.proofs.TightLemmas.{both, both-true, Contains-cons}
use Rattle.laws_route.proofs.ChoiceLemmas.{filter-from, range-within, meets-first, way-meets, TightWay-short}
use Rattle.birt_rows.specs.declared.entries.Entry.{Entry}
use Rattle.path_tree.specs.Forward.{ForwardWay, nowhere}
use Rattle.birt_rows.specs.Entries.{IsEntry, AreEntries}
use Rattle.birt_rows.specs.Rows.{beyond, row_of_owner}
use Rattle.path_tree.proofs.ForwardLemmas.{way-same}
use Rattle.birt_rows.proofs.EntryLemmas.{first-through, through-first}

-- which nodes support a triple, as a list
pub map-covers : (kinds : List SubKind) (table : List TableRow) (t : Triple) (g : List ViewNode) (x : ℕ) → slice_index_or (map (covers kinds table t) g) x false ≡ covers_at kinds table t g x
map-covers kinds table t [] x = refl
map-covers kinds table t (n ∷ g) zero = refl
map-covers kinds table t (n ∷ g) (suc x) = map-covers kinds table t g x

-- a search over these stops nowhere
none-nowhere : (n : ℕ) (none : List Bool) → none ≡ replicate n false → (z : ℕ) → slice_index_or none z false ≡ nowhere z
none-nowhere n none same z =
    ap (λ (xs : List Bool). slice_index_or xs z false) same
    ∙ elim (cases_lt z n) [
      | inl h ↦ get_or-replicate n z false false h
      | inr h ↦ get_or_past (replicate n false) z false (omega (arith, length-replicate {A = Bool} n false))
    ]

pub entry-leads : (g : List ViewNode) (u node : ℕ) (none seen : List Bool) → none ≡ replicate (length g) false → length seen ≡ length g → node < length g
    → ((x : ℕ) → x < length g → ((slice_index_or seen x true ≡ true) ↔ ((k : ℕ) × ForwardWay g u (λ x. slice_index_or none x false) k node x)))
    → (d : ℕ) → d < length g → ((slice_index_or (slice_set seen node true) d false ≡ true) ↔ ((d ≡ node) ⊎ ((k : ℕ) × ForwardWay g u nowhere k node d)))
entry-leads g u node none seen same long within each d inside = (there, back)
  where
    stops : (z : ℕ) → slice_index_or none z false ≡ nowhere z
    stops = none-nowhere (length g) none same

    back-stops : (z : ℕ) → nowhere z ≡ slice_index_or none z false
    back-stops z = sym (stops z)

    there : slice_index_or (slice_set seen node true) d false ≡ true → (d ≡ node) ⊎ ((k : ℕ) × ForwardWay g u nowhere k node d)
    there q =
        elim (eqb_tells d node) [
          | inl s ↦ inl s.1
          | inr s ↦
              let old : slice_index_or seen d true ≡ true = get_or_default seen d true false (omega (arith, long)) ∙ sym (get_or-set_other seen node d true false s.1) ∙ q in
              let w = (each d inside).0 old in
              inr (w.0, way-same g u (λ x. slice_index_or none x false) nowhere stops w.0 node d w.1)
        ]

    back : (d ≡ node) ⊎ ((k : ℕ) × ForwardWay g u nowhere k node d) → slice_index_or (slice_set seen node true) d false ≡ true
    back (inl e) = ap (λ x. slice_index_or (slice_set seen node true) x false) e ∙ get_or-set_same seen node true false (omega (arith, long))
    back (inr w) =
        elim (eqb_tells d node) [
          | inl s ↦ ap (λ x. slice_index_or (slice_set seen node true) x false) s.1 ∙ get_or-set_same seen node true false (omega (arith, long))
          | inr s ↦
              let old = (each d inside).1 (w.0, way-same g u nowhere (λ x. slice_index_or none x false) back-stops w.0 node d w.1) in
              get_or-set_other seen node d true false s.1 ∙ get_or_default seen d false true (omega (arith, long)) ∙ old
        ]

-- one more entry
pub entries-more : (ends : List End) (g : List ViewNode) (u : ℕ) (xs : List ℕ) (es : List Entry) (x : ℕ) (e : Entry) → AreEntries ends g u xs es → IsEntry ends g u x e → AreEntries ends g u (xs ++ x ∷ []) (es ++ e ∷ [])
entries-more ends g u [] [] x e a i = (i, tt)
entries-more ends g u [] (f ∷ es) x e a i = absurd a
entries-more ends g u (y ∷ xs) [] x e a i = absurd a
entries-more ends g u (y ∷ xs) (f ∷ es) x e a i = (a.0, entries-more ends g u xs es x e a.1 i)

same-test : (a b : Bool) → (a ≡ true → b ≡ true) → (b ≡ true → a ≡ true) → a ≡ b
same-test true b h k = sym (h refl)
same-test false true h k = k refl
same-test false false h k = refl

filter-both : (p q : ℕ → Bool) (xs : List ℕ) → ((x : ℕ) → Contains xs x → p x ≡ true → q x ≡ true) → filter p (filter q xs) ≡ filter p xs
filter-both p q [] h = refl
filter-both p q (x ∷ xs) h = go (q x) (p x) refl refl (filter-both p q xs (λ y c. h y (Contains-cons x xs y c)))
  where
    go : (a b : Bool) → q x ≡ a → p x ≡ b → filter p (filter q xs) ≡ filter p xs → filter p (cond a (x ∷ filter q xs) (filter q xs)) ≡ cond b (x ∷ filter p xs) (filter p xs)
    go true true e f i = rw (f, i) refl
    go true false e f i = rw (f, i) refl
    go false true e f i = let w : false ≡ true = sym e ∙ h x (0, omega arith, refl) f in cc
    go false false e f i = i

-- the entries over which walks lead to d, as the nodes that pass a test
entries-row : (ends : List End) (g : List ViewNode) (u d : ℕ) (p : ℕ → Bool) (xs : List ℕ) (es : List Entry) → AreEntries ends g u xs es
    → ((x : ℕ) (e : Entry) → Contains xs x → IsEntry ends g u x e → beyond d e ≡ p x) → map (λ e. e.first) (filter (beyond d) es) ≡ filter_map (first_at ends g u) (filter p xs)
entries-row ends g u d p [] [] a h = refl
entries-row ends g u d p [] (e ∷ es) a h = absurd a
entries-row ends g u d p (x ∷ xs) [] a h = absurd a
entries-row ends g u d p (x ∷ xs) (e ∷ es) a h =
    let rest = entries-row ends g u d p xs es a.1 (λ y f c. h y f (Contains-cons x xs y c)) in
    rw (h x e (0, omega arith, refl) a.0) (go (p x) rest)
  where
    go : (b : Bool) → map (λ e. e.first) (filter (beyond d) es) ≡ filter_map (first_at ends g u) (filter p xs)
        → map (λ e. e.first) (cond b (e ∷ filter (beyond d) es) (filter (beyond d) es)) ≡ filter_map (first_at ends g u) (cond b (x ∷ filter p xs) (filter p xs))
    go true i = rw (a.0.names, i) refl
    go false i = i

module _ (ends : List End) (g : List ViewNode) (good : IsGraph g) (c : ℕ → Bool) (u : ℕ) (node : u < length g) (seen covers : List Bool)
    (covered : (x : ℕ) → slice_index_or covers x false ≡ c x)
    (marked : (x : ℕ) → x < length g → ((slice_index_or seen x true ≡ true) ↔ ((k : ℕ) × ForwardWay g u (λ x. slice_index_or covers x false) k u x)))
    (es : List Entry) (are : AreEntries ends g u (filter (λ x. slice_index_or seen x true && slice_index_or covers x false) (range_with_len 0 (length g))) es) where
  is_entry : ℕ → Bool
  is_entry x = slice_index_or seen x true && slice_index_or covers x false

  -- what the test of a node says
  from-test : (x : ℕ) → x < length g → is_entry x ≡ true → (c x ≡ true) × ((k : ℕ) × ForwardWay g u c k u x)
  unfolding is_entry
  from-test x within q =
      let b = both (slice_index_or seen x true) (slice_index_or covers x false) q in
      let w = (marked x within).0 b.0 in
      (sym (covered x) ∙ b.1, (w.0, way-same g u (λ x. slice_index_or covers x false) c covered w.0 u x w.1))

  to-test : (x : ℕ) → x < length g → c x ≡ true → (k : ℕ) → ForwardWay g u c k u x → is_entry x ≡ true
  unfolding is_entry
  to-test x within h k w =
      both-true (slice_index_or seen x true) (slice_index_or covers x false)
      ((marked x within).1 (k, way-same g u c (λ x. slice_index_or covers x false) (λ z. sym (covered z)) k u x w)) (covered x ∙ h)

  module _ (d : ℕ) (inside : d < length g) (supports : c d ≡ true) where
    is_first : (x : ℕ) → meets g c d (length g) u x ≡ true → IsFirst g c d u x
    is_first x q = meets-first g good c d (length g) u x node q

    meets-it : (x : ℕ) → IsFirst g c d u x → meets g c d (length g) u x ≡ true
    meets-it x f = way-meets g good c d f.steps (length g) u x node f.covers f.way (omega (arith, TightWay-short g good c d f.steps u x node f.way))

    tells : (x : ℕ) (e : Entry) → x < length g → is_entry x ≡ true → IsEntry ends g u x e → beyond d e ≡ meets g c d (length g) u x
    tells x e within q i =
        let t = from-test x within q in
        same-test (beyond d e) (meets g c d (length g) u x)
        (λ h. meets-it x (through-first g good c u d node supports x (record { covers = t.0; steps = t.1.0; way = t.1.1; beyond = (i.leads d inside).0 h })))
        (λ h. (i.leads d inside).1 (first-through g good c u d node supports x (is_first x h)).beyond)

    row-toward : map (λ e. e.first) (filter (beyond d) es) ≡ filter_map (first_at ends g u) (firsts g c d u)
    unfolding firsts is_entry
    row-toward =
        entries-row ends g u d (meets g c d (length g) u) (filter is_entry (range_with_len 0 (length g))) es are
        (λ x e h i. (
        let r = filter-from is_entry (range_with_len 0 (length g)) x h in
        tells x e (omega (arith, range-within 0 (length g) x r.0)) r.1 i))
        ∙ ap (filter_map (first_at ends g u)) (filter-both (meets g c d (length g) u) is_entry (range_with_len 0 (length g)) (λ x h q. (
        let t = first-through g good c u d node supports x (is_first x q) in
        to-test x (omega (arith, range-within 0 (length g) x h)) t.covers t.steps t.way)))

  row-some : (d : ℕ) → d < length g → (a b : Bool) → (u == d) ≡ a → c d ≡ b → row_of_owner es covers u (Some d) ≡ filter_map (first_at ends g u) (candidates g c d u)
  unfolding candidates
  row-some d inside true b p q = rw (covered d, p) refl
  row-some d inside false true p q = rw (covered d, p, q) (row-toward d inside q)
  row-some d inside false false p q = rw (covered d, p, q) refl

  pub row-is : (o : Option ℕ) → ((d : ℕ) → o ≡ Some d → d < length g) → row_of_owner es covers u o ≡ filter_map (first_at ends g u) (toward g c u o)
  row-is None within = refl
  row-is (Some d) within = row-some d (within d refl) (u == d) (c d) refl refl

-- the routers of one more entry
row-next : (d k : ℕ) (es : List Entry) (e : Entry) → k < length es → e ≡ slice_index_or es k e → beyond d e ≡ true → map (λ e. e.first) (filter (beyond d) (take (suc k) es)) ≡ map (λ e. e.first) (filter (beyond d) (take k es)) ++ e.first ∷ []
row-next d k [] e lt is here = absurd (omega (arith, lt))
row-next d zero (x ∷ es) e lt is here =
    let q : beyond d x ≡ true = ap (beyond d) (sym is) ∙ here in
    rw q (ap (λ (f : Entry). f.first ∷ []) (sym is))
row-next d (suc k) (x ∷ es) e lt is here = elim (cases_Bool (beyond d x)) [
  | inl t ↦ rw t (ap (λ (row : List First). x.first ∷ row) (row-next d k es e (omega (arith, lt)) is here))
  | inr f ↦ rw f (row-next d k es e (omega (arith, lt)) is here)
]

row-passed : (d k : ℕ) (es : List Entry) (e : Entry) → k < length es → e ≡ slice_index_or es k e → beyond d e ≡ false → map (λ e. e.first) (filter (beyond d) (take (suc k) es)) ≡ map (λ e. e.first) (filter (beyond d) (take k es))
row-passed d k [] e lt is here = absurd (omega (arith, lt))
row-passed d zero (x ∷ es) e lt is here =
    let q : beyond d x ≡ false = ap (beyond d) (sym is) ∙ here in
    rw q refl
row-passed d (suc k) (x ∷ es) e lt is here = elim (cases_Bool (beyond d x)) [
  | inl t ↦ rw t (ap (λ (row : List First). x.first ∷ row) (row-passed d k es e (omega (arith, lt)) is here))
  | inr f ↦ rw f (row-passed d k es e (omega (arith, lt)) is here)
]

-- the last of those rows, with the routers of one more entry
pub row-pushed : (d k : ℕ) (es : List Entry) (e : Entry) (rows : List (List First)) → k < length es → e ≡ slice_index_or es k e → beyond d e ≡ true → extend_last e.first (rows ++ map (λ e. e.first) (filter (beyond d) (take k es)) ∷ []) ≡ rows ++ map (λ e. e.first) (filter (beyond d) (take (k + 1) es)) ∷ []
row-pushed d k es e rows lt is here =
    let next : suc k ≡ k + 1 = suc-eq-add-one k in
    extend_new rows (map (λ e. e.first) (filter (beyond d) (take k es))) e.first
    ∙ ap (λ (row : List First). rows ++ row ∷ []) (sym (row-next d k es e lt is here))
    ∙ ap (λ (n : ℕ). rows ++ map (λ e. e.first) (filter (beyond d) (take n es)) ∷ []) next

pub row-kept : (d k : ℕ) (es : List Entry) (e : Entry) (rows : List (List First)) → k < length es → e ≡ slice_index_or es k e → beyond d e ≡ false → rows ++ map (λ e. e.first) (filter (beyond d) (take k es)) ∷ [] ≡ rows ++ map (λ e. e.first) (filter (beyond d) (take (k + 1) es)) ∷ []
row-kept d k es e rows lt is here =
    let next : suc k ≡ k + 1 = suc-eq-add-one k in
    ap (λ (row : List First). rows ++ row ∷ []) (sym (row-passed d k es e lt is here))
    ∙ ap (λ (n : ℕ). rows ++ map (λ e. e.first) (filter (beyond d) (take n es)) ∷ []) next
