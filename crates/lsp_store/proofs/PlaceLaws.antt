-- What stands at the place of an identifier, and what a list becomes there.
use Rattle.std.proofs.Common.{◌≡◌, ℕ, zero, suc, ◌<◌, ◌≤◌, Bool, true, false, if◌then◌else◌, List, [], ◌∷◌, ◌++◌, length, get_or, set, take, drop, map, length-set, Option, Some, None, IfSome, is_none, Result, Ok, Err, IfErr, OnOk, OnErr, is_ok, slice_get, le-leb, refl, sym, ap, subst, ◌∙◌, arith}
use Rattle.std.specs.Prelude.{option_to_list, unwrap_or}
use Rattle.std.proofs.lemmas.List.{length-map}
use Rattle.std.proofs.lemmas.List.Edits.{length-insert, length-remove}
use Rattle.std.proofs.lemmas.Option.{slice_get_read}
use Rattle.std.proofs.lemmas.Bool.{lt-leb}
use mathlib.Core.Bool.{false≢true, true≢false}
use Rattle.std.specs.declared.cmp.Ordering.{Ordering}
use Rattle.std.specs.declared.cmp.Ordering.TheVariants.{Less, Equal, Greater}
use Rattle.std.specs.Ordering.{is_eq, is_lt, is_gt, match_ordering}
use Rattle.std.specs.List.{AllByRecursion, insert, remove}
use Rattle.wire_base.specs.declared.limits.TheConstants.{MOST_ENTRIES}
use Rattle.wire_base.specs.declared.addresses.LspId.{LspId}
use Rattle.wire_base.specs.declared.entry.Entry.{Entry}
use Rattle.wire_base.specs.declared.entry.Aged.{Aged}
use Rattle.wire_base.specs.declared.entry.Aged.TheVariants.{Live, Expired, Held, Removed}
use Rattle.wire_base.specs.declared.faults.PutFault.{PutFault}
use Rattle.wire_base.specs.declared.faults.PutFault.TheVariants.{Full, Memory}
use Rattle.wire_base.specs.model.Control.{same_id, id_order, is_below, AreAscending, IsDatabase, ids_of, entry_in, put_entry, aged, aged_to}
use Rattle.lsp_store.specs.Places.{place_in, stands_at, IsPlace, is_new, PutAnswers, IsSecondAt, is_removed, passed}
use Rattle.wire_base.proofs.OrderLaws.{id_total, tie_is_same, below_from_above, below_trans, above_trans, above_from_below, below_differs, above_differs, same_turned}

-- ---- each element

pub all_read : (P : LspId → Type 0) (xs : List LspId) (i : ℕ) (x : LspId) → AllByRecursion P xs → i < length xs → x ≡ get_or xs i x → P x
all_read P [] i x h lt at = absurd (omega (arith, lt))
all_read P (y ∷ ys) zero x h lt at = subst (λ z. P z) (sym at) h.0
all_read P (y ∷ ys) (suc i) x h lt at = all_read P ys i x h.1 (omega (arith, lt)) at

-- ---- halving

-- where an identifier is above the one at a place, its own place is higher
pub above_place : (xs : List LspId) (i : ℕ) (x : LspId) (id : LspId) → AreAscending xs → i < length xs → x ≡ get_or xs i x → is_gt (id_order id x) ≡ true → i < place_in xs id
above_place [] i x id asc lt at gt = absurd (omega (arith, lt))
above_place (y ∷ ys) zero x id asc lt at gt = first (id_order id y) (subst (λ z. is_gt (id_order id z) ≡ true) at gt)
  where
    first : (o : Ordering) → is_gt o ≡ true → 0 < match_ordering o 0 0 (suc (place_in ys id))
    first Less h = absurd (false≢true h)
    first Equal h = absurd (false≢true h)
    first Greater h = omega arith
above_place (y ∷ ys) (suc i) x id asc lt at gt =
    later (id_order id y) (above_trans id x y gt (all_read (λ z. is_below y z ≡ true) ys i x asc.0 (omega (arith, lt)) at)) (above_place ys i x id asc.1 (omega (arith, lt)) at gt)
  where
    later : (o : Ordering) → is_gt o ≡ true → i < place_in ys id → suc i < match_ordering o 0 0 (suc (place_in ys id))
    later Less h k = absurd (false≢true h)
    later Equal h k = absurd (false≢true h)
    later Greater h k = omega (arith, k)

-- where it isn't, its own place is at most that one
pub not_above_place : (xs : List LspId) (i : ℕ) (x : LspId) (id : LspId) → i < length xs → x ≡ get_or xs i x → is_gt (id_order id x) ≡ false → place_in xs id ≤ i
not_above_place [] i x id lt at gt = absurd (omega (arith, lt))
not_above_place (y ∷ ys) zero x id lt at gt = first (id_order id y) (subst (λ z. is_gt (id_order id z) ≡ false) at gt)
  where
    first : (o : Ordering) → is_gt o ≡ false → match_ordering o 0 0 (suc (place_in ys id)) ≤ 0
    first Less h = omega arith
    first Equal h = omega arith
    first Greater h = absurd (true≢false h)
not_above_place (y ∷ ys) (suc i) x id lt at gt = later (id_order id y) (not_above_place ys i x id (omega (arith, lt)) at gt)
  where
    later : (o : Ordering) → place_in ys id ≤ i → match_ordering o 0 0 (suc (place_in ys id)) ≤ suc i
    later Less k = omega arith
    later Equal k = omega arith
    later Greater k = omega (arith, k)

pub place_within : (ids : List LspId) (id : LspId) → place_in ids id ≤ length ids
place_within [] id = omega arith
place_within (x ∷ xs) id = more (id_order id x) (place_within xs id)
  where
    more : (o : Ordering) → place_in xs id ≤ length xs → match_ordering o 0 0 (suc (place_in xs id)) ≤ suc (length xs)
    more Less k = omega arith
    more Equal k = omega arith
    more Greater k = omega (arith, k)

-- ---- what stands there

pub stands_read : (xs : List LspId) (i : ℕ) (x : LspId) (id : LspId) → i < length xs → x ≡ get_or xs i x → stands_at xs i id ≡ same_id x id
stands_read [] i x id lt at = absurd (omega (arith, lt))
stands_read (y ∷ ys) zero x id lt at = ap (λ z. same_id z id) (sym at)
stands_read (y ∷ ys) (suc i) x id lt at = stands_read ys i x id (omega (arith, lt)) at

pub stands_past : (xs : List LspId) (i : ℕ) (id : LspId) → length xs ≤ i → stands_at xs i id ≡ false
stands_past [] i id le = refl
stands_past (y ∷ ys) zero id le = absurd (omega (arith, le))
stands_past (y ∷ ys) (suc i) id le = stands_past ys i id (omega (arith, le))

pub stands_within : (ids : List LspId) (i : ℕ) (id : LspId) → stands_at ids i id ≡ true → i < length ids
stands_within [] i id h = absurd (false≢true h)
stands_within (x ∷ xs) zero id h = omega arith
stands_within (x ∷ xs) (suc i) id h = omega (arith, stands_within xs i id h)

-- what is above one identifier, and stands behind it
stands_above : (x : LspId) (xs : List LspId) (n : ℕ) (id : LspId) → AllByRecursion (λ y. is_below x y ≡ true) xs → stands_at xs n id ≡ true → is_gt (id_order id x) ≡ true
stands_above x [] n id all h = absurd (false≢true h)
stands_above x (y ∷ ys) zero id all h = ap is_gt (id_total.congr id y x (tied (id_order id y) (tie_is_same id y ∙ same_turned id y ∙ h))) ∙ above_from_below y x all.0
  where
    tied : (o : Ordering) → is_eq o ≡ true → o ≡ Equal
    tied Less k = absurd (false≢true k)
    tied Equal k = refl
    tied Greater k = absurd (false≢true k)
stands_above x (y ∷ ys) (suc n) id all h = stands_above x ys n id all.1 h

-- an identifier stands at its place alone
pub stands_placed : (ids : List LspId) (n : ℕ) (id : LspId) → AreAscending ids → stands_at ids n id ≡ true → n ≡ place_in ids id
stands_placed [] n id asc h = absurd (false≢true h)
stands_placed (x ∷ xs) zero id asc h = first (id_order id x) (tie_is_same id x ∙ same_turned id x ∙ h)
  where
    first : (o : Ordering) → is_eq o ≡ true → 0 ≡ match_ordering o 0 0 (suc (place_in xs id))
    first Less k = absurd (false≢true k)
    first Equal k = refl
    first Greater k = absurd (false≢true k)
stands_placed (x ∷ xs) (suc n) id asc h = later (id_order id x) (stands_above x xs n id asc.0 h) (stands_placed xs n id asc.1 h)
  where
    later : (o : Ordering) → is_gt o ≡ true → n ≡ place_in xs id → suc n ≡ match_ordering o 0 0 (suc (place_in xs id))
    later Less k is = absurd (false≢true k)
    later Equal k is = absurd (false≢true k)
    later Greater k is = ap (λ m. suc m) is

-- ---- lookups

-- no entry of an identifier that is below all
none_above : (es : List Entry) (x id : LspId) → is_below id x ≡ true → AllByRecursion (λ y. is_below x y ≡ true) (ids_of es) → entry_in es id ≡ None
none_above [] x id h all = refl
none_above (e ∷ es) x id h all = rw (same_turned e.id id, below_differs id e.id (below_trans id x e.id h all.0)) (none_above es x id h all.1)

pub entry_there : (es : List Entry) (id : LspId) → stands_at (ids_of es) (place_in (ids_of es) id) id ≡ true → slice_get es (place_in (ids_of es) id) ≡ entry_in es id
entry_there [] id h = absurd (false≢true h)
entry_there (e ∷ es) id h = cases (entry_there es id) (id_order id e.id) refl h
  where
    cases : (stands_at (ids_of es) (place_in (ids_of es) id) id ≡ true → slice_get es (place_in (ids_of es) id) ≡ entry_in es id) → (o : Ordering) → id_order id e.id ≡ o → stands_at (e.id ∷ ids_of es) (match_ordering o 0 0 (suc (place_in (ids_of es) id))) id ≡ true → slice_get (e ∷ es) (match_ordering o 0 0 (suc (place_in (ids_of es) id))) ≡ entry_in (e ∷ es) id
    cases again Less o k = rw k refl
    cases again Equal o k = rw k refl
    cases again Greater o k = rw (same_turned e.id id, above_differs id e.id (ap is_gt o)) (again k)

pub entry_missing : (es : List Entry) (id : LspId) → AreAscending (ids_of es) → stands_at (ids_of es) (place_in (ids_of es) id) id ≡ false → entry_in es id ≡ None
entry_missing [] id asc h = refl
entry_missing (e ∷ es) id asc h = cases (entry_missing es id asc.1) (id_order id e.id) refl h
  where
    cases : (stands_at (ids_of es) (place_in (ids_of es) id) id ≡ false → entry_in es id ≡ None) → (o : Ordering) → id_order id e.id ≡ o → stands_at (e.id ∷ ids_of es) (match_ordering o 0 0 (suc (place_in (ids_of es) id))) id ≡ false → entry_in (e ∷ es) id ≡ None
    cases again Less o k = rw k (none_above es e.id id (ap is_lt o) asc.0)
    cases again Equal o k = absurd (true≢false (sym (ap is_eq o) ∙ tie_is_same id e.id ∙ same_turned id e.id ∙ k))
    cases again Greater o k = rw (same_turned e.id id, above_differs id e.id (ap is_gt o)) (again k)

-- ---- puts

pub put_there : (es : List Entry) (e : Entry) → stands_at (ids_of es) (place_in (ids_of es) e.id) e.id ≡ true → set es (place_in (ids_of es) e.id) e ≡ put_entry e es
put_there [] e h = absurd (false≢true h)
put_there (x ∷ xs) e h = cases (put_there xs e) (id_order e.id x.id) refl h
  where
    cases : (stands_at (ids_of xs) (place_in (ids_of xs) e.id) e.id ≡ true → set xs (place_in (ids_of xs) e.id) e ≡ put_entry e xs) → (o : Ordering) → id_order e.id x.id ≡ o → stands_at (x.id ∷ ids_of xs) (match_ordering o 0 0 (suc (place_in (ids_of xs) e.id))) e.id ≡ true → set (x ∷ xs) (match_ordering o 0 0 (suc (place_in (ids_of xs) e.id))) e ≡ match_ordering o (e ∷ x ∷ xs) (e ∷ xs) (x ∷ put_entry e xs)
    cases again Less o k = absurd (true≢false (sym k ∙ same_turned x.id e.id ∙ below_differs e.id x.id (ap is_lt o)))
    cases again Equal o k = refl
    cases again Greater o k = ap (λ (ys : List Entry). x ∷ ys) (again k)

pub put_new : (es : List Entry) (e : Entry) → stands_at (ids_of es) (place_in (ids_of es) e.id) e.id ≡ false → insert es (place_in (ids_of es) e.id) e ≡ put_entry e es
put_new [] e h = refl
put_new (x ∷ xs) e h = cases (put_new xs e) (id_order e.id x.id) refl h
  where
    cases : (stands_at (ids_of xs) (place_in (ids_of xs) e.id) e.id ≡ false → insert xs (place_in (ids_of xs) e.id) e ≡ put_entry e xs) → (o : Ordering) → id_order e.id x.id ≡ o → stands_at (x.id ∷ ids_of xs) (match_ordering o 0 0 (suc (place_in (ids_of xs) e.id))) e.id ≡ false → insert (x ∷ xs) (match_ordering o 0 0 (suc (place_in (ids_of xs) e.id))) e ≡ match_ordering o (e ∷ x ∷ xs) (e ∷ xs) (x ∷ put_entry e xs)
    cases again Less o k = refl
    cases again Equal o k = absurd (true≢false (sym (ap is_eq o) ∙ tie_is_same e.id x.id ∙ same_turned e.id x.id ∙ k))
    cases again Greater o k = ap (λ (ys : List Entry). x ∷ ys) (again k)

-- ---- the order is kept

all_put : (P : LspId → Type 0) (es : List Entry) (e : Entry) → P e.id → AllByRecursion P (ids_of es) → AllByRecursion P (ids_of (put_entry e es))
all_put P [] e h all = (h, tt)
all_put P (x ∷ xs) e h all = cases (all_put P xs e h all.1) (id_order e.id x.id)
  where
    cases : AllByRecursion P (ids_of (put_entry e xs)) → (o : Ordering) → AllByRecursion P (ids_of (match_ordering o (e ∷ x ∷ xs) (e ∷ xs) (x ∷ put_entry e xs)))
    cases later Less = (h, all)
    cases later Equal = (h, all.1)
    cases later Greater = (all.0, later)

pub below_all : (ids : List LspId) (x y : LspId) → is_below x y ≡ true → AllByRecursion (λ z. is_below y z ≡ true) ids → AllByRecursion (λ z. is_below x z ≡ true) ids
below_all [] x y h all = tt
below_all (i ∷ ids) x y h all = (below_trans x y i h all.0, below_all ids x y h all.1)

-- an identifier that ties with another is below what that one is below
pub tied_below : (ids : List LspId) (x y : LspId) → id_order x y ≡ Equal → AllByRecursion (λ z. is_below y z ≡ true) ids → AllByRecursion (λ z. is_below x z ≡ true) ids
tied_below [] x y h all = tt
tied_below (i ∷ ids) x y h all = (ap is_lt (id_total.congr x y i h) ∙ all.0, tied_below ids x y h all.1)

pub put_ascends : (es : List Entry) (e : Entry) → AreAscending (ids_of es) → AreAscending (ids_of (put_entry e es))
put_ascends [] e asc = (tt, tt)
put_ascends (x ∷ xs) e asc = cases (put_ascends xs e asc.1) (id_order e.id x.id) refl
  where
    cases : AreAscending (ids_of (put_entry e xs)) → (o : Ordering) → id_order e.id x.id ≡ o → AreAscending (ids_of (match_ordering o (e ∷ x ∷ xs) (e ∷ xs) (x ∷ put_entry e xs)))
    cases later Less o = ((ap is_lt o, below_all (ids_of xs) e.id x.id (ap is_lt o) asc.0), asc)
    cases later Equal o = (tied_below (ids_of xs) e.id x.id o asc.0, asc.1)
    cases later Greater o = (all_put (λ z. is_below x.id z ≡ true) xs e (below_from_above e.id x.id (ap is_gt o)) asc.0, later)

all_removed : {X : Type 0} (id : X → LspId) (P : LspId → Type 0) (xs : List X) (i : ℕ) → AllByRecursion P (map id xs) → AllByRecursion P (map id (remove xs i))
all_removed id P [] zero all = tt
all_removed id P [] (suc i) all = tt
all_removed id P (x ∷ xs) zero all = all.1
all_removed id P (x ∷ xs) (suc i) all = (all.0, all_removed id P xs i all.1)

pub removed_ascends : {X : Type 0} (id : X → LspId) (xs : List X) (i : ℕ) → AreAscending (map id xs) → AreAscending (map id (remove xs i))
removed_ascends id [] zero asc = tt
removed_ascends id [] (suc i) asc = tt
removed_ascends id (x ∷ xs) zero asc = asc.1
removed_ascends id (x ∷ xs) (suc i) asc = (all_removed id (λ z. is_below (id x) z ≡ true) xs i asc.0, removed_ascends id xs i asc.1)

pub ids_set : (es : List Entry) (i : ℕ) (e x : Entry) → x ≡ get_or es i x → e.id ≡ x.id → ids_of (set es i e) ≡ ids_of es
ids_set [] i e x at h = refl
ids_set (y ∷ ys) zero e x at h = ap (λ (id : LspId). id ∷ ids_of ys) (h ∙ ap (λ (z : Entry). z.id) at)
ids_set (y ∷ ys) (suc i) e x at h = ap (λ (ids : List LspId). y.id ∷ ids) (ids_set ys i e x at h)

-- ---- an LSDB stays one

moved : {es now : List Entry} {id : LspId} {there : Bool} {p : ℕ} → es ≡ now → IsPlace now id there p → IsPlace es id there p
moved {es} {now} {id} {there} {p} same at = subst (λ (xs : List Entry). IsPlace xs id there p) (sym same) at

-- what stands at the place itself
stands_there : {es : List Entry} {id : LspId} {there : Bool} {p : ℕ} → IsPlace es id there p → stands_at (ids_of es) (place_in (ids_of es) id) id ≡ there
stands_there {es} {id} {there} {p} at = subst (λ n. stands_at (ids_of es) n id ≡ there) at.place at.stands

place_le : {es : List Entry} {id : LspId} {there : Bool} {p : ℕ} → IsPlace es id there p → p ≤ length es
place_le {es} {id} {there} {p} at = let w = place_within (ids_of es) id in let l = length-map es (λ (x : Entry). x.id) in omega (arith, w, l, at.place)

pub add_within : (es now : List Entry) (p : ℕ) (id : LspId) → es ≡ now → IsPlace now id false p → p ≤ length es
add_within es now p id same at = place_le (moved same at)

add_is_put : (es : List Entry) (p : ℕ) (e : Entry) → IsPlace es e.id false p → insert es p e ≡ put_entry e es
add_is_put es p e at = ap (λ n. insert es n e) at.place ∙ put_new es e (stands_there at)

-- an entry is added at its place, or it isn't
pub add_kept : (es now new : List Entry) (p : ℕ) (e : Entry) (ok : Bool) → es ≡ now → IsDatabase es → IsPlace now e.id false p → length es < MOST_ENTRIES → new ≡ (if ok then insert es p e else es) → IsDatabase new
add_kept es now new p e ok same db at few is = rw is (cases ok)
  where
    cases : (ok : Bool) → IsDatabase (if ok then insert es p e else es)
    cases true = record {
      few = let l = length-insert es p e (place_le (moved same at)) in omega (arith, l, few);
      in_order = subst (λ (xs : List Entry). AreAscending (ids_of xs)) (sym (add_is_put es p e (moved same at))) (put_ascends es e db.in_order);
    }
    cases false = db

pub inserted_or_not : {E : Type 0} (new there gone : List Entry) (answer : Result (Unit {0}) E) → OnOk answer (new ≡ there) → OnErr answer (new ≡ gone) → new ≡ (if is_ok answer then there else gone)
inserted_or_not new there gone (Ok u) ok err = ok
inserted_or_not new there gone (Err fault) ok err = err

pub add_puts : (es now new : List Entry) (p : ℕ) (e : Entry) → es ≡ now → IsPlace now e.id false p → new ≡ insert es p e → new ≡ put_entry e now
add_puts es now new p e same at is = is ∙ ap (λ (xs : List Entry). insert xs p e) same ∙ add_is_put now p e at

-- an entry takes the place of the one of its identifier
pub set_puts : (es now : List Entry) (p : ℕ) (e : Entry) → es ≡ now → IsPlace now e.id true p → set es p e ≡ put_entry e now
set_puts es now p e same at = ap (λ (xs : List Entry). set xs p e) same ∙ ap (λ n. set now n e) at.place ∙ put_there now e (stands_there at)

pub set_kept : (es now : List Entry) (p : ℕ) (e : Entry) → es ≡ now → IsDatabase es → IsPlace now e.id true p → IsDatabase (set es p e)
set_kept es now p e same db at = record {
  few = let l = length-set es p e in omega (arith, l, db.few);
  in_order = subst (λ (xs : List Entry). AreAscending (ids_of xs)) (sym (set_puts es es p e refl (moved same at))) (put_ascends es e db.in_order);
}

pub set_within : (es now : List Entry) (p : ℕ) (id : LspId) → es ≡ now → IsPlace now id true p → p < length es
set_within es now p id same at =
    let w = stands_within (ids_of es) p id (moved same at).stands in
    let l = length-map es (λ (x : Entry). x.id) in
    omega (arith, w, l)

-- what is read at a place is the entry of the identifier
pub read_there : (es now : List Entry) (p : ℕ) (id : LspId) (x : Entry) → es ≡ now → IsPlace now id true p → x ≡ get_or es p x → Some x ≡ entry_in now id
read_there es now p id x same at is =
    sym (slice_get_read es (length es) p x refl (set_within es now p id same at) is) ∙ ap (λ (xs : List Entry). slice_get xs p) same ∙ ap (λ n. slice_get now n) at.place ∙ entry_there now id (stands_there at)

pub none_there : (es now : List Entry) (p : ℕ) (id : LspId) → es ≡ now → IsDatabase es → IsPlace now id false p → None ≡ entry_in now id
none_there es now p id same db at =
    sym (entry_missing now id (subst (λ (xs : List Entry). AreAscending (ids_of xs)) same db.in_order) (stands_there at))

-- ---- whether an identifier is new

pub old_there : (now : List Entry) (p : ℕ) (id : LspId) → IsPlace now id true p → is_new now id ≡ false
old_there now p id at = ap is_none (sym (entry_there now id (stands_there at)) ∙ ap (λ n. slice_get now n) (sym at.place)) ∙ some now p (set_within now now p id refl at)
  where
    some : (xs : List Entry) (n : ℕ) → n < length xs → is_none (slice_get xs n) ≡ false
    some [] n lt = absurd (omega (arith, lt))
    some (x ∷ xs) zero lt = refl
    some (x ∷ xs) (suc n) lt = some xs n (omega (arith, lt))

pub new_missing : (es now : List Entry) (p : ℕ) (id : LspId) → es ≡ now → IsDatabase es → IsPlace now id false p → is_new now id ≡ true
new_missing es now p id same db at = ap is_none (sym (none_there es now p id same db at))

pub answers_there : (now : List Entry) (spare : ℕ) (id : LspId) (p : ℕ) → IsPlace now id true p → PutAnswers now spare id (Ok tt)
answers_there now spare id p at = rw (old_there now p id at) tt

pub answers_full : (es now : List Entry) (spare n : ℕ) (id : LspId) → es ≡ now → is_new now id ≡ true → n ≡ length es → MOST_ENTRIES ≤ n → PutAnswers now spare id (Err (Full n))
answers_full es now spare n id same gone len le = rw (gone, le-leb MOST_ENTRIES (length now) (subst (λ m. MOST_ENTRIES ≤ m) (len ∙ l) le)) (ap (λ m. Err (Full m)) (len ∙ l))
  where
    l : length es ≡ length now
    l = ap (λ (xs : List Entry). length xs) same

pub answers_added : (es now : List Entry) (spare : ℕ) (id : LspId) (answer : Result (Unit {0}) PutFault) → es ≡ now → is_new now id ≡ true → length es < MOST_ENTRIES → IfErr answer (λ fault. (fault ≡ Memory) × (spare ≡ 0)) → PutAnswers now spare id answer
answers_added es now spare id answer same gone lt memory = rw (gone, lt-leb MOST_ENTRIES (length now) (subst (λ (xs : List Entry). length xs < MOST_ENTRIES) same lt)) (each answer memory)
  where
    each : (answer : Result (Unit {0}) PutFault) → IfErr answer (λ fault. (fault ≡ Memory) × (spare ≡ 0)) → IfErr answer (λ fault. (fault ≡ Memory) × (is_new now id ≡ true) × (spare ≡ 0))
    each (Ok u) h = tt
    each (Err fault) h = (h.0, gone, h.1)

-- ---- one second

pub aged_kept : (es : List Entry) (i : ℕ) (e x : Entry) → IsDatabase es → x ≡ get_or es i x → e.id ≡ x.id → IsDatabase (set es i e)
aged_kept es i e x db at same = record {
  few = let l = length-set es i e in omega (arith, l, db.few);
  in_order = subst (λ (ids : List LspId). AreAscending ids) (sym (ids_set es i e x at same)) db.in_order;
}

pub removed_kept : (es new : List Entry) (i : ℕ) → i < length es → IsDatabase es → new ≡ remove es i → IsDatabase new
removed_kept es new i lt db is = rw is (record {
  few = let l = length-remove es i lt in omega (arith, l, db.few);
  in_order = removed_ascends (λ (e : Entry). e.id) es i db.in_order;
})

-- the list with the entry at a place changed is its parts with the entry between them
pub set_splits : (es : List Entry) (i : ℕ) (e : Entry) → i < length es → set es i e ≡ take i es ++ (e ∷ drop (suc i) es)
set_splits [] i e lt = absurd (omega (arith, lt))
set_splits (x ∷ xs) zero e lt = refl
set_splits (x ∷ xs) (suc i) e lt = ap (λ (ys : List Entry). x ∷ ys) (set_splits xs i e (omega (arith, lt)))

pub set_same : (es : List Entry) (i : ℕ) (x : Entry) → x ≡ get_or es i x → set es i x ≡ es
set_same [] i x at = refl
set_same (y ∷ ys) zero x at = ap (λ (z : Entry). z ∷ ys) at
set_same (y ∷ ys) (suc i) x at = ap (λ (zs : List Entry). y ∷ zs) (set_same ys i x at)

goes : (answer : Aged) (x : Entry) → is_removed answer ≡ true → aged_to answer x ≡ None
goes Live x h = absurd (false≢true h)
goes Expired x h = absurd (false≢true h)
goes Held x h = absurd (false≢true h)
goes Removed x h = refl

goes_as_it_is : (answer : Aged) (x : Entry) → is_removed answer ≡ true → passed answer x ≡ x
goes_as_it_is answer x gone = ap (λ (o : Option Entry). unwrap_or o x) (goes answer x gone)

stays : (answer : Aged) (x : Entry) → is_removed answer ≡ false → aged_to answer x ≡ Some (passed answer x)
stays Live x h = refl
stays Expired x h = refl
stays Held x h = refl
stays Removed x h = absurd (true≢false h)

passed_id : (answer : Aged) (x : Entry) → (passed answer x).id ≡ x.id
passed_id Live x = refl
passed_id Expired x = refl
passed_id Held x = refl
passed_id Removed x = refl

-- the entry at a place
got : (es : List Entry) (i : ℕ) → i < length es → (x : Entry) × (x ≡ get_or es i x)
got [] i lt = absurd (omega (arith, lt))
got (y ∷ ys) zero lt = (y, refl)
got (y ∷ ys) (suc i) lt = got ys i (omega (arith, lt))

-- the effect of a second on the entry at a place, and the entries with that one as it then is
abbrev Passes : List Entry → ℕ → Aged → List Entry → Type 0
Passes es i answer mid = IfSome (slice_get es i) (λ x. (answer ≡ aged x) × (mid ≡ set es i (passed answer x)))

pub second_kept : (es mid : List Entry) (i : ℕ) (answer : Aged) → i < length es → IsDatabase es → Passes es i answer mid → IsDatabase mid
second_kept es mid i answer lt db h =
    let x = got es i lt in
    let seen = rw (slice_get_read es (length es) i x.0 refl lt x.1) at h in
    subst IsDatabase (sym seen.1) (aged_kept es i (passed answer x.0) x.0 db x.1 (passed_id answer x.0))

pub second_long : (es mid : List Entry) (i : ℕ) (answer : Aged) → i < length es → Passes es i answer mid → length mid ≡ length es
second_long es mid i answer lt h =
    let x = got es i lt in
    let seen = rw (slice_get_read es (length es) i x.0 refl lt x.1) at h in
    ap (λ (xs : List Entry). length xs) seen.1 ∙ length-set es i (passed answer x.0)

-- an entry that goes
pub second_removes : (es now mid new : List Entry) (i : ℕ) (answer : Aged) → es ≡ now → i < length es → Passes es i answer mid → is_removed answer ≡ true → new ≡ remove mid i → IfSome (slice_get now i) (λ y. IsSecondAt now i y answer new)
second_removes es now mid new i answer same lt h gone becomes =
    let x = got es i lt in
    let read = slice_get_read es (length es) i x.0 refl lt x.1 in
    let seen = rw read at h in
    subst (λ (xs : List Entry). IfSome (slice_get xs i) (λ y. IsSecondAt xs i y answer new)) same (rw read (record {
      answers = seen.0;
      becomes = becomes ∙ ap (λ (xs : List Entry). remove xs i) (seen.1 ∙ ap (λ (z : Entry). set es i z) (goes_as_it_is answer x.0 gone) ∙ set_same es i x.0 x.1) ∙ ap (λ (o : Option Entry). take i es ++ (option_to_list o ++ drop (suc i) es)) (sym (ap (λ a. aged_to a x.0) (sym seen.0) ∙ goes answer x.0 gone));
    }))

-- an entry that stays
pub second_changes : (es now mid : List Entry) (i : ℕ) (answer : Aged) → es ≡ now → i < length es → Passes es i answer mid → is_removed answer ≡ false → IfSome (slice_get now i) (λ y. IsSecondAt now i y answer mid)
second_changes es now mid i answer same lt h kept =
    let x = got es i lt in
    let read = slice_get_read es (length es) i x.0 refl lt x.1 in
    let seen = rw read at h in
    subst (λ (xs : List Entry). IfSome (slice_get xs i) (λ y. IsSecondAt xs i y answer mid)) same (rw read (record {
      answers = seen.0;
      becomes = seen.1 ∙ set_splits es i (passed answer x.0) lt ∙ ap (λ (o : Option Entry). take i es ++ (option_to_list o ++ drop (suc i) es)) (sym (ap (λ a. aged_to a x.0) (sym seen.0) ∙ stays answer x.0 kept));
    }))
