-- What a list of entries becomes where the entries are stored in another order than that of their indexes.
use mathlib.Core.Logic.{◌≢◌}
use Rattle.std.proofs.Common.{◌≡◌, ℕ, zero, suc, ◌+◌, ◌-◌, ◌<◌, ◌≤◌, nat_lt, Bool, true, false, if◌then◌else◌, List, [], ◌∷◌, ◌++◌, length, get_or, set, map, IfSome, slice_get, refl, sym, ap, subst, ◌∙◌, arith}
use Rattle.std.proofs.lemmas.Bool.{ltb-true, ltb-false}
use Rattle.std.proofs.lemmas.List.{length-map, length-append, get_or-map, get_or_append_left, get_or_at, get_or-set_same, get_or-set_other}
use Rattle.std.proofs.lemmas.List.Edits.{length-insert, length-remove, get_or-remove_below, get_or-remove_above}
use Rattle.std.proofs.lemmas.Option.{slice_get_read}
use Rattle.std.specs.List.{AllByRecursion, insert, remove}
use Rattle.wire_base.specs.declared.entry.Aged.{Aged}
use Rattle.wire_base.specs.declared.entry.Entry.{Entry}
use Rattle.wire_base.specs.model.Control.{aged}
use Rattle.lsp_store.specs.Places.{passed}
use Rattle.lsp_store.specs.EntryLists.{AreApart, IsOrder, at_indexes, moved_down, no_entry}

-- ---- lists of indexes

all_weaker : (P Q : ℕ → Type 0) → ((i : ℕ) → P i → Q i) → (is : List ℕ) → AllByRecursion P is → AllByRecursion Q is
all_weaker P Q f [] all = tt
all_weaker P Q f (i ∷ is) all = (f i all.0, all_weaker P Q f is all.1)

all_inserted : (P : ℕ → Type 0) (is : List ℕ) (p n : ℕ) → P n → AllByRecursion P is → AllByRecursion P (insert is p n)
all_inserted P [] zero n h all = (h, tt)
all_inserted P [] (suc p) n h all = (h, tt)
all_inserted P (i ∷ is) zero n h all = (h, all)
all_inserted P (i ∷ is) (suc p) n h all = (all.0, all_inserted P is p n h all.1)

all_removed : (P : ℕ → Type 0) (is : List ℕ) (p : ℕ) → AllByRecursion P is → AllByRecursion P (remove is p)
all_removed P [] zero all = tt
all_removed P [] (suc p) all = tt
all_removed P (i ∷ is) zero all = all.1
all_removed P (i ∷ is) (suc p) all = (all.0, all_removed P is p all.1)

all_read : (P : ℕ → Type 0) (is : List ℕ) (p k : ℕ) → AllByRecursion P is → p < length is → k ≡ get_or is p k → P k
all_read P [] p k all lt at = absurd (omega (arith, lt))
all_read P (i ∷ is) zero k all lt at = subst P (sym at) all.0
all_read P (i ∷ is) (suc p) k all lt at = all_read P is p k all.1 (omega (arith, lt)) at

all_mapped : (P Q : ℕ → Type 0) (f : ℕ → ℕ) → ((i : ℕ) → P i → Q (f i)) → (is : List ℕ) → AllByRecursion P is → AllByRecursion Q (map f is)
all_mapped P Q f h [] all = tt
all_mapped P Q f h (i ∷ is) all = (h i all.0, all_mapped P Q f h is all.1)

all_both : (P Q : ℕ → Type 0) (is : List ℕ) → AllByRecursion P is → AllByRecursion Q is → AllByRecursion (λ i. P i × Q i) is
all_both P Q [] ps qs = tt
all_both P Q (i ∷ is) ps qs = ((ps.0, qs.0), all_both P Q is ps.1 qs.1)

-- entries that are read alike
map_alike : (P : ℕ → Type 0) (f g : ℕ → Entry) → ((i : ℕ) → P i → f i ≡ g i) → (is : List ℕ) → AllByRecursion P is → map f is ≡ map g is
map_alike P f g h [] all = refl
map_alike P f g h (i ∷ is) all = ap (λ (e : Entry). e ∷ map f is) (h i all.0) ∙ ap (λ (es : List Entry). g i ∷ es) (map_alike P f g h is all.1)

map_inserted : (f : ℕ → Entry) (is : List ℕ) (p n : ℕ) → map f (insert is p n) ≡ insert (map f is) p (f n)
map_inserted f [] zero n = refl
map_inserted f [] (suc p) n = refl
map_inserted f (i ∷ is) zero n = refl
map_inserted f (i ∷ is) (suc p) n = ap (λ (es : List Entry). f i ∷ es) (map_inserted f is p n)

map_removed : (f : ℕ → Entry) (is : List ℕ) (p : ℕ) → map f (remove is p) ≡ remove (map f is) p
map_removed f [] zero = refl
map_removed f [] (suc p) = refl
map_removed f (i ∷ is) zero = refl
map_removed f (i ∷ is) (suc p) = ap (λ (es : List Entry). f i ∷ es) (map_removed f is p)

map_map : (f : ℕ → Entry) (g : ℕ → ℕ) (is : List ℕ) → map f (map g is) ≡ map (λ i. f (g i)) is
map_map f g [] = refl
map_map f g (i ∷ is) = ap (λ (es : List Entry). f (g i) ∷ es) (map_map f g is)

-- ---- reads

pub listed : (items : List Entry) (order : List ℕ) → length (at_indexes items order) ≡ length order
listed items order = length-map order (λ i. get_or items i no_entry)

pub index_within : (items : List Entry) (order : List ℕ) (p k : ℕ) → IsOrder items order → p < length order → k ≡ get_or order p k → k < length items
index_within items order p k is lt at = all_read (λ i. i < length items) order p k is.within lt at

-- the entry at a place is the one that its index leads to
pub reads : (items : List Entry) (order : List ℕ) (p k : ℕ) (e : Entry) → IsOrder items order → p < length order → k ≡ get_or order p k → e ≡ get_or items k e → e ≡ get_or (at_indexes items order) p e
reads items order p k e is lt at there =
    there ∙ any_default items k (index_within items order p k is lt at) e no_entry ∙ ap (λ i. get_or items i no_entry) at ∙ sym (get_or-map (λ i. get_or items i no_entry) order p k e lt)
  where
    any_default : (xs : List Entry) (i : ℕ) → i < length xs → (d f : Entry) → get_or xs i d ≡ get_or xs i f
    any_default [] i lt d f = absurd (omega (arith, lt))
    any_default (x ∷ xs) zero lt d f = refl
    any_default (x ∷ xs) (suc i) lt d f = any_default xs i (omega (arith, lt)) d f

-- ---- an entry is replaced

set_elsewhere : (items : List Entry) (k : ℕ) (e : Entry) (is : List ℕ) → AllByRecursion (λ j. k ≢ j) is → at_indexes (set items k e) is ≡ at_indexes items is
set_elsewhere items k e is apart = map_alike (λ j. k ≢ j) _ _ (λ j h. get_or-set_other items k j e no_entry (λ same. h (sym same))) is apart

pub replaced : (items : List Entry) (order : List ℕ) (p k : ℕ) (e : Entry) → AllByRecursion (λ i. i < length items) order → AreApart order → p < length order → k ≡ get_or order p k → at_indexes (set items k e) order ≡ set (at_indexes items order) p e
replaced items [] p k e within apart lt at = absurd (omega (arith, lt))
replaced items (i ∷ is) zero k e within apart lt at =
    subst (λ n. at_indexes (set items n e) (i ∷ is) ≡ e ∷ at_indexes items is) (sym at) (ap (λ (x : Entry). x ∷ at_indexes (set items i e) is) (get_or-set_same items i e no_entry within.0) ∙ ap (λ (xs : List Entry). e ∷ xs) (set_elsewhere items i e is apart.0))
replaced items (i ∷ is) (suc p) k e within apart lt at =
    ap (λ (x : Entry). x ∷ at_indexes (set items k e) is) (get_or-set_other items k i e no_entry (all_read (λ j. i ≢ j) is p k apart.0 (omega (arith, lt)) at))
    ∙ ap (λ (xs : List Entry). get_or items i no_entry ∷ xs) (replaced items is p k e within.1 apart.1 (omega (arith, lt)) at)

-- ---- an entry is added

pub added : (items : List Entry) (order : List ℕ) (p : ℕ) (e : Entry) → IsOrder items order → at_indexes (items ++ e ∷ []) (insert order p (length items)) ≡ insert (at_indexes items order) p e
added items order p e is =
    map_inserted (λ i. get_or (items ++ e ∷ []) i no_entry) order p (length items)
    ∙ ap (λ (x : Entry). insert (at_indexes (items ++ e ∷ []) order) p x) (get_or_at items e [] no_entry (length items) refl)
    ∙ ap (λ (xs : List Entry). insert xs p e) (map_alike (λ i. i < length items) _ _ (λ i lt. get_or_append_left items (e ∷ []) no_entry i lt) order is.within)

apart_inserted : (order : List ℕ) (p n : ℕ) → AllByRecursion (λ i. i < n) order → AreApart order → AreApart (insert order p n)
apart_inserted [] zero n below apart = (tt, tt)
apart_inserted [] (suc p) n below apart = (tt, tt)
apart_inserted (i ∷ is) zero n below apart = (all_weaker _ _ (λ j lt same. omega (arith, lt, same)) (i ∷ is) below, apart)
apart_inserted (i ∷ is) (suc p) n below apart = (all_inserted (λ j. i ≢ j) is p n (λ same. omega (arith, below.0, same)) apart.0, apart_inserted is p n below.1 apart.1)

pub added_order : (items : List Entry) (order : List ℕ) (p : ℕ) (e : Entry) → IsOrder items order → p ≤ length order → IsOrder (items ++ e ∷ []) (insert order p (length items))
added_order items order p e is le =
    let l = length-append items (e ∷ []) in
    record {
      within = all_inserted (λ i. i < length (items ++ e ∷ [])) order p (length items) (omega (arith, l)) (all_weaker _ _ (λ i h. omega (arith, h, l)) order is.within);
      apart = apart_inserted order p (length items) is.within is.apart;
      all = let m = length-insert order p (length items) le in omega (arith, l, m, is.all);
    }

-- the same for what a caller knows of the lists
pub added_as : (items pushed : List Entry) (order new : List ℕ) (p n : ℕ) (e : Entry) → IsOrder items order → pushed ≡ items ++ e ∷ [] → n ≡ length items → new ≡ insert order p n → at_indexes pushed new ≡ insert (at_indexes items order) p e
added_as items pushed order new p n e is grown at becomes = rw (grown, becomes, at) (added items order p e is)

pub added_order_as : (items pushed : List Entry) (order new : List ℕ) (p n : ℕ) (e : Entry) → IsOrder items order → p ≤ length order → pushed ≡ items ++ e ∷ [] → n ≡ length items → new ≡ insert order p n → IsOrder pushed new
added_order_as items pushed order new p n e is le grown at becomes = rw (grown, becomes, at) (added_order items order p e is le)

-- ---- an entry is removed

others_apart : (order : List ℕ) (p k : ℕ) → AreApart order → p < length order → k ≡ get_or order p k → AllByRecursion (λ j. k ≢ j) (remove order p)
others_apart [] p k apart lt at = absurd (omega (arith, lt))
others_apart (i ∷ is) zero k apart lt at = subst (λ n. AllByRecursion (λ j. n ≢ j) is) (sym at) apart.0
others_apart (i ∷ is) (suc p) k apart lt at =
    (λ same. all_read (λ j. i ≢ j) is p k apart.0 (omega (arith, lt)) at (sym same), others_apart is p k apart.1 (omega (arith, lt)) at)

down_reads : (items : List Entry) (k j : ℕ) → k < length items → (k ≢ j) × (j < length items) → get_or (remove items k) (moved_down k j) no_entry ≡ get_or items j no_entry
down_reads items k j lt h = by (nat_lt k j) refl
  where
    below : (m n : ℕ) → n ≤ m → m ≢ n → n < m
    below m n le ne = omega (arith, le, ne)

    by : (b : Bool) → nat_lt k j ≡ b → get_or (remove items k) (if b then j - 1 else j) no_entry ≡ get_or items j no_entry
    by true is = let above = ltb-true k j is in get_or-remove_above items k no_entry (j - 1) (omega (arith, above)) lt ∙ ap (λ n. get_or items n no_entry) (omega (arith, above))
    by false is = get_or-remove_below items k no_entry j (let le = ltb-false k j is in below k j le h.0) lt

pub removed : (items : List Entry) (order : List ℕ) (p k : ℕ) → IsOrder items order → p < length order → k ≡ get_or order p k → at_indexes (remove items k) (map (moved_down k) (remove order p)) ≡ remove (at_indexes items order) p
removed items order p k is lt at =
    map_map (λ i. get_or (remove items k) i no_entry) (moved_down k) (remove order p)
    ∙ map_alike (λ j. (k ≢ j) × (j < length items)) _ _ (λ j h. down_reads items k j (index_within items order p k is lt at) h) (remove order p) (all_both _ _ (remove order p) (others_apart order p k is.apart lt at) (all_removed _ order p is.within))
    ∙ map_removed (λ i. get_or items i no_entry) order p

apart_removed : (order : List ℕ) (p : ℕ) → AreApart order → AreApart (remove order p)
apart_removed [] zero apart = tt
apart_removed [] (suc p) apart = tt
apart_removed (i ∷ is) zero apart = apart.1
apart_removed (i ∷ is) (suc p) apart = (all_removed (λ j. i ≢ j) is p apart.0, apart_removed is p apart.1)

-- different indexes stay different
down_differs : (k i j : ℕ) → k ≢ i → k ≢ j → i ≢ j → moved_down k i ≢ moved_down k j
down_differs k i j a b c = by (nat_lt k i) (nat_lt k j) refl refl
  where
    by : (x y : Bool) → nat_lt k i ≡ x → nat_lt k j ≡ y → (if x then i - 1 else i) ≢ (if y then j - 1 else j)
    by true true h l = λ same. let m = ltb-true k i h in let n = ltb-true k j l in c (omega (arith, m, n, same))
    by true false h l = λ same. let m = ltb-true k i h in let n = ltb-false k j l in b (omega (arith, m, n, same))
    by false true h l = λ same. let m = ltb-false k i h in let n = ltb-true k j l in a (omega (arith, m, n, same))
    by false false h l = λ same. c same

down_apart : (k : ℕ) (is : List ℕ) → AllByRecursion (λ j. k ≢ j) is → AreApart is → AreApart (map (moved_down k) is)
down_apart k [] others apart = tt
down_apart k (i ∷ is) others apart =
    (all_mapped (λ j. (k ≢ j) × (i ≢ j)) (λ j. moved_down k i ≢ j) (moved_down k) (λ j h. down_differs k i j others.0 h.0 h.1) is (all_both _ _ is others.1 apart.0), down_apart k is others.1 apart.1)

down_within : (k n i : ℕ) → (k ≢ i) × (i < n + 1) → k < n + 1 → moved_down k i < n
down_within k n i h lt = by (nat_lt k i) refl
  where
    by : (b : Bool) → nat_lt k i ≡ b → (if b then i - 1 else i) < n
    by true is = let above = ltb-true k i is in omega (arith, above, h.1)
    by false is = let le = ltb-false k i is in omega (arith, le, h.0, lt)

pub removed_order : (items : List Entry) (order : List ℕ) (p k : ℕ) → IsOrder items order → p < length order → k ≡ get_or order p k → IsOrder (remove items k) (map (moved_down k) (remove order p))
removed_order items order p k is lt at =
    let there = index_within items order p k is lt at in
    let l = length-remove items k there in
    let others = others_apart order p k is.apart lt at in
    record {
      within = all_mapped (λ i. (k ≢ i) × (i < length items)) (λ i. i < length (remove items k)) (moved_down k) (λ i h. down_within k (length (remove items k)) i (h.0, omega (arith, h.1, l)) (omega (arith, there, l))) (remove order p) (all_both _ _ (remove order p) others (all_removed _ order p is.within));
      apart = down_apart k (remove order p) others (apart_removed order p is.apart);
      all = let m = length-map (remove order p) (moved_down k) in let n = length-remove order p lt in omega (arith, l, m, n, is.all);
    }

-- ---- a second passes

-- an entry ages where it is stored
pub second_at : (items now : List Entry) (order : List ℕ) (p k : ℕ) (x new : Entry) (answer : Aged) → IsOrder items order → at_indexes items order ≡ now → p < length order → k ≡ get_or order p k → x ≡ get_or items k x → answer ≡ aged x → new ≡ passed answer x → IfSome (slice_get now p) (λ e. (answer ≡ aged e) × (at_indexes (set items k new) order ≡ set now p (passed answer e)))
second_at items now order p k x new answer is same lt at there ages becomes =
    let long = listed items order in
    subst (λ (xs : List Entry). IfSome (slice_get xs p) (λ e. (answer ≡ aged e) × (at_indexes (set items k new) order ≡ set xs p (passed answer e)))) same (rw (slice_get_read (at_indexes items order) (length order) p x (sym long) lt (reads items order p k x is lt at there)) (
      ages,
      replaced items order p k new is.within is.apart lt at ∙ ap (λ (e : Entry). set (at_indexes items order) p e) becomes,
    ))
