-- The merge of two LSDBs: how the entries at the front decide, and what is left to the entries after them.
use Rattle.std.proofs.Common.{◌≡◌, ℕ, ◌+◌, Bool, true, false, List, [], ◌∷◌, drop, find, Option, Some, None, option_map, slice_get, refl, sym, ap, subst, ◌∙◌}
use Rattle.std.specs.List.{AllByRecursion}
use Rattle.std.proofs.lemmas.Bool.{and_from, eq-eqb}
use Rattle.std.proofs.lemmas.List.{drop_more}
use Rattle.std.proofs.lemmas.Option.{get_or_from_slice_get, slice_get_within}
use Rattle.std.proofs.lemmas.Slice.Eq.{bytes_eq-Decides}
use Rattle.std.specs.declared.cmp.Ordering.TheVariants.{Less, Equal, Greater}
use Rattle.std.specs.Ordering.{is_gt, is_lt}
use Rattle.wire_base.specs.declared.addresses.LspId.{LspId}
use Rattle.wire_base.specs.declared.entry.Entry.{Entry}
use Rattle.wire_base.specs.model.Control.{AreAscending, entry_in, id_order, ids_of, is_below, same_id}
use Rattle.wire_base.proofs.OrderLaws.{below_differs, below_from_above, below_trans, same_turned, same_from_tie, same_is}
use Rattle.quiet_domain.specs.Live.{IsDifference, IsLeastDifference, alike_by, are_alike, has_same, is_live, is_same, is_same_at}

-- ---- lookups

-- the LSP ID is below all of these
abbrev pub IsUnder : LspId → List Entry → Type 0
IsUnder id es = AllByRecursion (λ y. is_below id y ≡ true) (ids_of es)

-- no entry of an LSP ID that is below all
none_under : (es : List Entry) (id : LspId) → IsUnder id es → entry_in es id ≡ None
none_under [] id all = refl
none_under (e ∷ es) id all = rw (same_turned e.id id, below_differs id e.id all.0) (none_under es id all.1)

under_more : (es : List Entry) (x y : LspId) → is_below x y ≡ true → IsUnder y es → IsUnder x es
under_more [] x y h all = tt
under_more (e ∷ es) x y h all = (below_trans x y e.id h all.0, under_more es x y h all.1)

-- below the front of an ascending list
pub under_front : (y : Entry) (ys : List Entry) (id : LspId) → AreAscending (ids_of (y ∷ ys)) → is_below id y.id ≡ true → IsUnder id (y ∷ ys)
under_front y ys id asc h = (h, under_more ys id y.id h asc.0)

pub same_self : (id : LspId) → same_id id id ≡ true
same_self id = and_from _ _ ((bytes_eq-Decides id.system.0 id.system.0).1 refl) (and_from _ _ (eq-eqb id.pseudonode id.pseudonode refl) (eq-eqb id.fragment id.fragment refl))

-- the entry at the front
found_front : (x : Entry) (xs : List Entry) → entry_in (x ∷ xs) x.id ≡ Some x
found_front x xs = rw (same_self x.id) refl

-- ---- entries that are not live

dead_left : (x : Entry) (o : Option Entry) → is_live x ≡ false → is_same (Some x) o ≡ is_same None o
dead_left x None dead = rw dead refl
dead_left x (Some b) dead = rw dead (by (is_live b))
  where
    by : (l : Bool) → alike_by false l (has_same x b) ≡ alike_by false l false
    by true = refl
    by false = refl

dead_right : (y : Entry) (o : Option Entry) → is_live y ≡ false → is_same o (Some y) ≡ is_same o None
dead_right y None dead = rw dead refl
dead_right y (Some a) dead = rw dead (by (is_live a))
  where
    by : (l : Bool) → alike_by l false (has_same a y) ≡ alike_by l false false
    by true = refl
    by false = refl

-- at one LSP ID, the two LSDBs are compared as the entries after those at the front
pub skips_left : (x : Entry) (xs ys : List Entry) → AreAscending (ids_of (x ∷ xs)) → is_live x ≡ false → (id : LspId) → is_same_at (x ∷ xs) ys id ≡ is_same_at xs ys id
skips_left x xs ys asc dead id = by (same_id x.id id) refl
  where
    by : (b : Bool) → same_id x.id id ≡ b → is_same_at (x ∷ xs) ys id ≡ is_same_at xs ys id
    by false e = rw e refl
    by true e =
        let none : entry_in xs id ≡ None = subst (λ (i : LspId). entry_in xs i ≡ None) (same_is x.id id e) (none_under xs x.id asc.0) in
        rw (e, none) (dead_left x (entry_in ys id) dead)

pub skips_right : (xs : List Entry) (y : Entry) (ys : List Entry) → AreAscending (ids_of (y ∷ ys)) → is_live y ≡ false → (id : LspId) → is_same_at xs (y ∷ ys) id ≡ is_same_at xs ys id
skips_right xs y ys asc dead id = by (same_id y.id id) refl
  where
    by : (b : Bool) → same_id y.id id ≡ b → is_same_at xs (y ∷ ys) id ≡ is_same_at xs ys id
    by false e = rw e refl
    by true e =
        let none : entry_in ys id ≡ None = subst (λ (i : LspId). entry_in ys i ≡ None) (same_is y.id id e) (none_under ys y.id asc.0) in
        rw (e, none) (dead_right y (entry_in xs id) dead)

pub skips_both : (x : Entry) (xs : List Entry) (y : Entry) (ys : List Entry) → AreAscending (ids_of (x ∷ xs)) → AreAscending (ids_of (y ∷ ys)) → x.id ≡ y.id → are_alike x y ≡ true → (id : LspId) → is_same_at (x ∷ xs) (y ∷ ys) id ≡ is_same_at xs ys id
skips_both x xs y ys asc bsc tied alike id = by (same_id x.id id) refl
  where
    by : (b : Bool) → same_id x.id id ≡ b → is_same_at (x ∷ xs) (y ∷ ys) id ≡ is_same_at xs ys id
    by false e = rw (e, sym (ap (λ (i : LspId). same_id i id) tied) ∙ e) refl
    by true e =
        let here : x.id ≡ id = same_is x.id id e in
        let left : entry_in xs id ≡ None = subst (λ (i : LspId). entry_in xs i ≡ None) here (none_under xs x.id asc.0) in
        let right : entry_in ys id ≡ None = subst (λ (i : LspId). entry_in ys i ≡ None) (sym tied ∙ here) (none_under ys y.id bsc.0) in
        rw (e, sym (ap (λ (i : LspId). same_id i id) tied) ∙ e, left, right) alike

-- the least difference of lists that are compared alike
pub same_difference : (a b xs ys : List Entry) → ((id : LspId) → is_same_at a b id ≡ is_same_at xs ys id) → (r : Option LspId) → IsLeastDifference xs ys r → IsLeastDifference a b r
same_difference a b xs ys alike None same = λ id. alike id ∙ same id
same_difference a b xs ys alike (Some id) d = record { differs = alike id ∙ d.differs; least = λ x h. alike x ∙ d.least x h }

-- ---- entries that decide

-- neither list has an entry below the LSP ID
nothing_under : (a b : List Entry) (id : LspId) → IsUnder id a → IsUnder id b → is_same_at a b id ≡ true
nothing_under a b id h k = rw (none_under a id h, none_under b id k) refl

pub stops_left : (x : Entry) (xs ys : List Entry) → AreAscending (ids_of (x ∷ xs)) → IsUnder x.id ys → is_live x ≡ true → IsDifference (x ∷ xs) ys x.id
stops_left x xs ys asc under live = record {
  differs = rw (found_front x xs, none_under ys x.id under, live) refl;
  least = λ id h. nothing_under (x ∷ xs) ys id (under_front x xs id asc h) (under_more ys id x.id h under);
}

pub stops_right : (xs : List Entry) (y : Entry) (ys : List Entry) → AreAscending (ids_of (y ∷ ys)) → IsUnder y.id xs → is_live y ≡ true → IsDifference xs (y ∷ ys) y.id
stops_right xs y ys asc under live = record {
  differs = rw (found_front y ys, none_under xs y.id under, live) refl;
  least = λ id h. nothing_under xs (y ∷ ys) id (under_more xs id y.id h under) (under_front y ys id asc h);
}

pub stops_both : (x : Entry) (xs : List Entry) (y : Entry) (ys : List Entry) → AreAscending (ids_of (x ∷ xs)) → AreAscending (ids_of (y ∷ ys)) → x.id ≡ y.id → are_alike x y ≡ false → IsDifference (x ∷ xs) (y ∷ ys) x.id
stops_both x xs y ys asc bsc tied differ = record {
  differs = rw (found_front x xs, ap (entry_in (y ∷ ys)) tied ∙ found_front y ys) differ;
  least = λ id h. nothing_under (x ∷ xs) (y ∷ ys) id (under_front x xs id asc h) (under_front y ys id bsc (subst (λ (i : LspId). is_below id i ≡ true) tied h));
}

-- ---- one list alone

pub first_right : (es : List Entry) → AreAscending (ids_of es) → IsLeastDifference [] es (option_map (λ (e : Entry). e.id) (find is_live es))
first_right [] asc = λ id. refl
first_right (e ∷ es) asc = by (is_live e) refl (first_right es asc.1)
  where
    by : (b : Bool) → is_live e ≡ b → IsLeastDifference [] es (option_map (λ (x : Entry). x.id) (find is_live es)) → IsLeastDifference [] (e ∷ es) (option_map (λ (x : Entry). x.id) (find is_live (e ∷ es)))
    by true l rest = rw l (stops_right [] e es asc tt l)
    by false l rest = rw l (same_difference [] (e ∷ es) [] es (skips_right [] e es asc l) (option_map (λ (x : Entry). x.id) (find is_live es)) rest)

pub first_left : (es : List Entry) → AreAscending (ids_of es) → IsLeastDifference es [] (option_map (λ (e : Entry). e.id) (find is_live es))
first_left [] asc = λ id. refl
first_left (e ∷ es) asc = by (is_live e) refl (first_left es asc.1)
  where
    by : (b : Bool) → is_live e ≡ b → IsLeastDifference es [] (option_map (λ (x : Entry). x.id) (find is_live es)) → IsLeastDifference (e ∷ es) [] (option_map (λ (x : Entry). x.id) (find is_live (e ∷ es)))
    by true l rest = rw l (stops_left e es [] asc tt l)
    by false l rest = rw l (same_difference (e ∷ es) [] es [] (skips_left e es [] asc l) (option_map (λ (x : Entry). x.id) (find is_live es)) rest)

-- ---- the merge

-- Of two lists these are left, in order, and their least difference is that of the lists.
pub record IsMerging (a b left right : List Entry) : Type 0 where
  pub left_order : AreAscending (ids_of left)
  pub right_order : AreAscending (ids_of right)
  pub decides : (r : Option LspId) → IsLeastDifference left right r → IsLeastDifference a b r

-- an entry and those after it
pub entry_and_rest : (xs : List Entry) (i : ℕ) (x : Entry) → slice_get xs i ≡ Some x → x ∷ drop (i + 1) xs ≡ drop i xs
entry_and_rest xs i x at = sym (drop_more xs i x (slice_get_within xs i x at) ∙ ap (λ (z : Entry). z ∷ drop (i + 1) xs) (get_or_from_slice_get xs i x x at))

-- the first live one from a live entry on, and from one that is not
pub live_at : (xs : List Entry) (i : ℕ) (x : Entry) → slice_get xs i ≡ Some x → is_live x ≡ true → find is_live (drop i xs) ≡ Some x
live_at xs i x at live = rw (sym (entry_and_rest xs i x at), live) refl

pub dead_at : (xs : List Entry) (i : ℕ) (x : Entry) → slice_get xs i ≡ Some x → is_live x ≡ false → find is_live (drop i xs) ≡ find is_live (drop (i + 1) xs)
dead_at xs i x at dead = rw (sym (entry_and_rest xs i x at), dead) refl

module _ (a b left right : List Entry) where
  pub left_ends : IsMerging a b left right → left ≡ [] → IsLeastDifference a b (option_map (λ (e : Entry). e.id) (find is_live right))
  left_ends m none = m.decides (option_map (λ (e : Entry). e.id) (find is_live right)) (subst (λ (l : List Entry). IsLeastDifference l right (option_map (λ (e : Entry). e.id) (find is_live right))) (sym none) (first_right right m.right_order))

  pub right_ends : IsMerging a b left right → right ≡ [] → IsLeastDifference a b (option_map (λ (e : Entry). e.id) (find is_live left))
  right_ends m none = m.decides (option_map (λ (e : Entry). e.id) (find is_live left)) (subst (λ (r : List Entry). IsLeastDifference left r (option_map (λ (e : Entry). e.id) (find is_live left))) (sym none) (first_left left m.left_order))

  module _ (x y : Entry) (xs ys : List Entry) (front : x ∷ xs ≡ left) (other : y ∷ ys ≡ right) (m : IsMerging a b left right) where
    opened : IsMerging a b (x ∷ xs) (y ∷ ys)
    opened = subst (λ (l : List Entry). IsMerging a b l (y ∷ ys)) (sym front) (subst (λ (r : List Entry). IsMerging a b left r) (sym other) m)

    under_right : id_order x.id y.id ≡ Less → IsUnder x.id (y ∷ ys)
    under_right less = under_front y ys x.id opened.right_order (ap is_lt less)

    under_left : id_order x.id y.id ≡ Greater → IsUnder y.id (x ∷ xs)
    under_left greater = under_front x xs y.id opened.left_order (below_from_above x.id y.id (ap is_gt greater))

    pub less_stops : id_order x.id y.id ≡ Less → is_live x ≡ true → IsDifference a b x.id
    less_stops less live = opened.decides (Some x.id) (stops_left x xs (y ∷ ys) opened.left_order (under_right less) live)

    pub less_goes : is_live x ≡ false → IsMerging a b xs right
    less_goes dead = subst (λ (r : List Entry). IsMerging a b xs r) other (record {
      left_order = opened.left_order.1;
      right_order = opened.right_order;
      decides = λ r d. opened.decides r (same_difference (x ∷ xs) (y ∷ ys) xs (y ∷ ys) (skips_left x xs (y ∷ ys) opened.left_order dead) r d);
    })

    pub greater_stops : id_order x.id y.id ≡ Greater → is_live y ≡ true → IsDifference a b y.id
    greater_stops greater live = opened.decides (Some y.id) (stops_right (x ∷ xs) y ys opened.right_order (under_left greater) live)

    pub greater_goes : is_live y ≡ false → IsMerging a b left ys
    greater_goes dead = subst (λ (l : List Entry). IsMerging a b l ys) front (record {
      left_order = opened.left_order;
      right_order = opened.right_order.1;
      decides = λ r d. opened.decides r (same_difference (x ∷ xs) (y ∷ ys) (x ∷ xs) ys (skips_right (x ∷ xs) y ys opened.right_order dead) r d);
    })

    pub equal_stops : id_order x.id y.id ≡ Equal → are_alike x y ≡ false → IsDifference a b x.id
    equal_stops tied differ = opened.decides (Some x.id) (stops_both x xs y ys opened.left_order opened.right_order (same_from_tie x.id y.id tied) differ)

    pub equal_goes : id_order x.id y.id ≡ Equal → are_alike x y ≡ true → IsMerging a b xs ys
    equal_goes tied alike = record {
      left_order = opened.left_order.1;
      right_order = opened.right_order.1;
      decides = λ r d. opened.decides r (same_difference (x ∷ xs) (y ∷ ys) xs ys (skips_both x xs y ys opened.left_order opened.right_order (same_from_tie x.id y.id tied) alike) r d);
    }
