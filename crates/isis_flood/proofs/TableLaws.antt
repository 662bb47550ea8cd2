-- A table of rows: what stands at the place of an identifier, and what the table becomes there.
use Rattle.std.proofs.Common.{◌≡◌, ℕ, zero, suc, ◌<◌, ◌≤◌, Bool, true, false, List, [], ◌∷◌, length, get_or, set, refl, sym, ap, subst, ◌∙◌, arith}
use mathlib.Core.Bool.{false≢true, true≢false}
use Rattle.std.specs.declared.cmp.Ordering.{Ordering}
use Rattle.std.specs.declared.cmp.Ordering.TheVariants.{Less, Equal, Greater}
use Rattle.std.specs.Ordering.{is_eq, is_lt, is_gt, match_ordering}
use Rattle.std.specs.List.{AllByRecursion, insert, remove}
use Rattle.std.proofs.lemmas.List.{length-map}
use Rattle.wire_base.specs.declared.addresses.LspId.{LspId}
use Rattle.wire_base.specs.model.Control.{id_order, is_below, AreAscending}
use Rattle.lsp_store.specs.Places.{place_in, stands_at}
use Rattle.wire_base.proofs.OrderLaws.{tie_is_same, same_from_tie, below_from_above, below_trans, below_differs, above_differs, same_turned}
use Rattle.lsp_store.proofs.PlaceLaws.{place_within, stands_within, below_all, tied_below, removed_ascends}
use Rattle.isis_flood.specs.declared.table.Bits.{Bits}
use Rattle.isis_flood.specs.Masks.{row_ids, no_bits, bits_in, put_bits, held_mask, held_row, without_bits, IsPlace}
use Rattle.isis_flood.proofs.HeldLaws.{none_held}

-- ---- puts

put_there : (es : List Bits) (e : Bits) → stands_at (row_ids es) (place_in (row_ids es) e.id) e.id ≡ true → set es (place_in (row_ids es) e.id) e ≡ put_bits e es
put_there [] e h = absurd (false≢true h)
put_there (x ∷ xs) e h = cases (put_there xs e) (id_order e.id x.id) refl h
  where
    cases : (stands_at (row_ids xs) (place_in (row_ids xs) e.id) e.id ≡ true → set xs (place_in (row_ids xs) e.id) e ≡ put_bits e xs) → (o : Ordering) → id_order e.id x.id ≡ o → stands_at (x.id ∷ row_ids xs) (match_ordering o 0 0 (suc (place_in (row_ids xs) e.id))) e.id ≡ true → set (x ∷ xs) (match_ordering o 0 0 (suc (place_in (row_ids xs) e.id))) e ≡ match_ordering o (e ∷ x ∷ xs) (e ∷ xs) (x ∷ put_bits e xs)
    cases again Less o k = absurd (true≢false (sym k ∙ same_turned x.id e.id ∙ below_differs e.id x.id (ap is_lt o)))
    cases again Equal o k = refl
    cases again Greater o k = ap (λ (ys : List Bits). x ∷ ys) (again k)

put_new : (es : List Bits) (e : Bits) → stands_at (row_ids es) (place_in (row_ids es) e.id) e.id ≡ false → insert es (place_in (row_ids es) e.id) e ≡ put_bits e es
put_new [] e h = refl
put_new (x ∷ xs) e h = cases (put_new xs e) (id_order e.id x.id) refl h
  where
    cases : (stands_at (row_ids xs) (place_in (row_ids xs) e.id) e.id ≡ false → insert xs (place_in (row_ids xs) e.id) e ≡ put_bits e xs) → (o : Ordering) → id_order e.id x.id ≡ o → stands_at (x.id ∷ row_ids xs) (match_ordering o 0 0 (suc (place_in (row_ids xs) e.id))) e.id ≡ false → insert (x ∷ xs) (match_ordering o 0 0 (suc (place_in (row_ids xs) e.id))) e ≡ match_ordering o (e ∷ x ∷ xs) (e ∷ xs) (x ∷ put_bits e xs)
    cases again Less o k = refl
    cases again Equal o k = absurd (true≢false (sym (ap is_eq o) ∙ tie_is_same e.id x.id ∙ same_turned e.id x.id ∙ k))
    cases again Greater o k = ap (λ (ys : List Bits). x ∷ ys) (again k)

-- ---- the order is kept

all_put : (P : LspId → Type 0) (es : List Bits) (e : Bits) → P e.id → AllByRecursion P (row_ids es) → AllByRecursion P (row_ids (put_bits e es))
all_put P [] e h all = (h, tt)
all_put P (x ∷ xs) e h all = cases (all_put P xs e h all.1) (id_order e.id x.id)
  where
    cases : AllByRecursion P (row_ids (put_bits e xs)) → (o : Ordering) → AllByRecursion P (row_ids (match_ordering o (e ∷ x ∷ xs) (e ∷ xs) (x ∷ put_bits e xs)))
    cases later Less = (h, all)
    cases later Equal = (h, all.1)
    cases later Greater = (all.0, later)

put_ascends : (es : List Bits) (e : Bits) → AreAscending (row_ids es) → AreAscending (row_ids (put_bits e es))
put_ascends [] e asc = (tt, tt)
put_ascends (x ∷ xs) e asc = cases (put_ascends xs e asc.1) (id_order e.id x.id) refl
  where
    cases : AreAscending (row_ids (put_bits e xs)) → (o : Ordering) → id_order e.id x.id ≡ o → AreAscending (row_ids (match_ordering o (e ∷ x ∷ xs) (e ∷ xs) (x ∷ put_bits e xs)))
    cases later Less o = ((ap is_lt o, below_all (row_ids xs) e.id x.id (ap is_lt o) asc.0), asc)
    cases later Equal o = (tied_below (row_ids xs) e.id x.id o asc.0, asc.1)
    cases later Greater o = (all_put (λ z. is_below x.id z ≡ true) xs e (below_from_above e.id x.id (ap is_gt o)) asc.0, later)

-- ---- lookups

read_there : (rs : List Bits) (id : LspId) (x : Bits) → stands_at (row_ids rs) (place_in (row_ids rs) id) id ≡ true → x ≡ get_or rs (place_in (row_ids rs) id) x → x ≡ bits_in rs id
read_there [] id x h at = absurd (false≢true h)
read_there (b ∷ rs) id x h at = cases (read_there rs id x) (id_order id b.id) refl h at
  where
    cases : (stands_at (row_ids rs) (place_in (row_ids rs) id) id ≡ true → x ≡ get_or rs (place_in (row_ids rs) id) x → x ≡ bits_in rs id) → (o : Ordering) → id_order id b.id ≡ o → stands_at (b.id ∷ row_ids rs) (match_ordering o 0 0 (suc (place_in (row_ids rs) id))) id ≡ true → x ≡ get_or (b ∷ rs) (match_ordering o 0 0 (suc (place_in (row_ids rs) id))) x → x ≡ match_ordering o (no_bits id) b (bits_in rs id)
    cases again Less o k at = absurd (true≢false (sym k ∙ same_turned b.id id ∙ below_differs id b.id (ap is_lt o)))
    cases again Equal o k at = at
    cases again Greater o k at = again k at

read_new : (rs : List Bits) (id : LspId) → stands_at (row_ids rs) (place_in (row_ids rs) id) id ≡ false → no_bits id ≡ bits_in rs id
read_new [] id h = refl
read_new (b ∷ rs) id h = cases (read_new rs id) (id_order id b.id) refl h
  where
    cases : (stands_at (row_ids rs) (place_in (row_ids rs) id) id ≡ false → no_bits id ≡ bits_in rs id) → (o : Ordering) → id_order id b.id ≡ o → stands_at (b.id ∷ row_ids rs) (match_ordering o 0 0 (suc (place_in (row_ids rs) id))) id ≡ false → no_bits id ≡ match_ordering o (no_bits id) b (bits_in rs id)
    cases again Less o k = refl
    cases again Equal o k = absurd (true≢false (sym (ap is_eq o) ∙ tie_is_same id b.id ∙ same_turned id b.id ∙ k))
    cases again Greater o k = again k

pub bits_in_id : (rs : List Bits) (id : LspId) → (bits_in rs id).id ≡ id
bits_in_id [] id = refl
bits_in_id (b ∷ rs) id = cases (bits_in_id rs id) (id_order id b.id) refl
  where
    cases : (bits_in rs id).id ≡ id → (o : Ordering) → id_order id b.id ≡ o → (match_ordering o (no_bits id) b (bits_in rs id)).id ≡ id
    cases again Less o = refl
    cases again Equal o = sym (same_from_tie id b.id o)
    cases again Greater o = again

got_same : (rs : List Bits) (p : ℕ) (d : Bits) → p < length rs → get_or rs p d ≡ get_or rs p (get_or rs p d)
got_same [] p d lt = absurd (omega (arith, lt))
got_same (x ∷ xs) zero d lt = refl
got_same (x ∷ xs) (suc p) d lt = got_same xs p d (omega (arith, lt))

-- ---- rows that go

without_there : (rs : List Bits) (id : LspId) → stands_at (row_ids rs) (place_in (row_ids rs) id) id ≡ true → remove rs (place_in (row_ids rs) id) ≡ without_bits id rs
without_there [] id h = absurd (false≢true h)
without_there (b ∷ rs) id h = cases (without_there rs id) (id_order id b.id) refl h
  where
    cases : (stands_at (row_ids rs) (place_in (row_ids rs) id) id ≡ true → remove rs (place_in (row_ids rs) id) ≡ without_bits id rs) → (o : Ordering) → id_order id b.id ≡ o → stands_at (b.id ∷ row_ids rs) (match_ordering o 0 0 (suc (place_in (row_ids rs) id))) id ≡ true → remove (b ∷ rs) (match_ordering o 0 0 (suc (place_in (row_ids rs) id))) ≡ without_bits id (b ∷ rs)
    cases again Less o k = absurd (true≢false (sym k ∙ same_turned b.id id ∙ below_differs id b.id (ap is_lt o)))
    cases again Equal o k = rw k refl
    cases again Greater o k = rw (same_turned b.id id, above_differs id b.id (ap is_gt o)) (ap (λ (ys : List Bits). b ∷ ys) (again k))

none_above : (rs : List Bits) (x id : LspId) → is_below id x ≡ true → AllByRecursion (λ y. is_below x y ≡ true) (row_ids rs) → without_bits id rs ≡ rs
none_above [] x id h all = refl
none_above (b ∷ rs) x id h all = rw (same_turned b.id id, below_differs id b.id (below_trans id x b.id h all.0)) (ap (λ (ys : List Bits). b ∷ ys) (none_above rs x id h all.1))

without_missing : (rs : List Bits) (id : LspId) → AreAscending (row_ids rs) → stands_at (row_ids rs) (place_in (row_ids rs) id) id ≡ false → without_bits id rs ≡ rs
without_missing [] id asc h = refl
without_missing (b ∷ rs) id asc h = cases (without_missing rs id asc.1) (id_order id b.id) refl h
  where
    cases : (stands_at (row_ids rs) (place_in (row_ids rs) id) id ≡ false → without_bits id rs ≡ rs) → (o : Ordering) → id_order id b.id ≡ o → stands_at (b.id ∷ row_ids rs) (match_ordering o 0 0 (suc (place_in (row_ids rs) id))) id ≡ false → without_bits id (b ∷ rs) ≡ b ∷ rs
    cases again Less o k = rw k (ap (λ (ys : List Bits). b ∷ ys) (none_above rs b.id id (ap is_lt o) asc.0))
    cases again Equal o k = absurd (true≢false (sym (ap is_eq o) ∙ tie_is_same id b.id ∙ same_turned id b.id ∙ k))
    cases again Greater o k = rw (same_turned b.id id, above_differs id b.id (ap is_gt o)) (ap (λ (ys : List Bits). b ∷ ys) (again k))

-- ---- the table itself: `now` is what contracts see of it

moved : {rs now : List Bits} {id : LspId} {there : Bool} {p : ℕ} → rs ≡ now → IsPlace now id there p → IsPlace rs id there p
moved {rs} {now} {id} {there} {p} same at = subst (λ (xs : List Bits). IsPlace xs id there p) (sym same) at

stands_there : {rs : List Bits} {id : LspId} {there : Bool} {p : ℕ} → IsPlace rs id there p → stands_at (row_ids rs) (place_in (row_ids rs) id) id ≡ there
stands_there {rs} {id} {there} {p} at = subst (λ n. stands_at (row_ids rs) n id ≡ there) at.place at.stands

pub add_within : (rs now : List Bits) (p : ℕ) (id : LspId) (there : Bool) → rs ≡ now → IsPlace now id there p → p ≤ length rs
add_within rs now p id there same at =
    let w = place_within (row_ids rs) id in
    let l = length-map rs (λ (x : Bits). x.id) in
    let h = (moved same at).place in
    omega (arith, w, l, h)

pub set_within : (rs now : List Bits) (p : ℕ) (id : LspId) → rs ≡ now → IsPlace now id true p → p < length rs
set_within rs now p id same at =
    let w = stands_within (row_ids rs) p id (moved same at).stands in
    let l = length-map rs (λ (x : Bits). x.id) in
    omega (arith, w, l)

pub row_there : (rs now : List Bits) (p : ℕ) (id : LspId) (x : Bits) → rs ≡ now → IsPlace now id true p → x ≡ get_or rs p x → x ≡ bits_in now id
row_there rs now p id x same at is = read_there now id x (stands_there at) (subst (λ n. x ≡ get_or now n x) at.place (subst (λ (xs : List Bits). x ≡ get_or xs p x) same is))

pub row_new : (now : List Bits) (p : ℕ) (id : LspId) → IsPlace now id false p → no_bits id ≡ bits_in now id
row_new now p id at = read_new now id (stands_there at)

add_is_put : (rs : List Bits) (p : ℕ) (b : Bits) → IsPlace rs b.id false p → insert rs p b ≡ put_bits b rs
add_is_put rs p b at = ap (λ n. insert rs n b) at.place ∙ put_new rs b (stands_there at)

pub add_puts : (rs now new : List Bits) (p : ℕ) (b : Bits) → rs ≡ now → IsPlace now b.id false p → new ≡ insert rs p b → new ≡ put_bits b now
add_puts rs now new p b same at is = is ∙ ap (λ (xs : List Bits). insert xs p b) same ∙ add_is_put now p b at

pub add_ascends : (rs now new : List Bits) (p : ℕ) (b : Bits) → rs ≡ now → AreAscending (row_ids rs) → IsPlace now b.id false p → new ≡ insert rs p b → AreAscending (row_ids new)
add_ascends rs now new p b same asc at is = subst (λ (xs : List Bits). AreAscending (row_ids xs)) (sym (is ∙ add_is_put rs p b (moved same at))) (put_ascends rs b asc)

pub set_puts : (rs now new : List Bits) (p : ℕ) (b : Bits) → rs ≡ now → IsPlace now b.id true p → new ≡ set rs p b → new ≡ put_bits b now
set_puts rs now new p b same at is = is ∙ ap (λ (xs : List Bits). set xs p b) same ∙ ap (λ n. set now n b) at.place ∙ put_there now b (stands_there at)

pub set_ascends : (rs now new : List Bits) (p : ℕ) (b : Bits) → rs ≡ now → AreAscending (row_ids rs) → IsPlace now b.id true p → new ≡ set rs p b → AreAscending (row_ids new)
set_ascends rs now new p b same asc at is = subst (λ (xs : List Bits). AreAscending (row_ids xs)) (sym (set_puts rs rs new p b refl (moved same at) is)) (put_ascends rs b asc)

-- the row that is there, with another SRM mask
pub sent_is : (rs now : List Bits) (p m : ℕ) (b : Bits) → rs ≡ now → IsPlace now b.id true p → b.ssn ≡ (bits_in now b.id).ssn → record (get_or rs p b) { srm = m } ≡ record b { srm = m }
sent_is rs now p m b same at kept =
    let there : get_or rs p b ≡ bits_in now b.id = row_there rs now p b.id (get_or rs p b) same at (got_same rs p b (set_within rs now p b.id same at)) in
    ap (λ (id : LspId). record { id = id; srm = m; ssn = (get_or rs p b).ssn }) (ap (λ (r : Bits). r.id) there ∙ bits_in_id now b.id)
    ∙ ap (λ (ssn : ℕ). record { id = b.id; srm = m; ssn = ssn }) (ap (λ (r : Bits). r.ssn) there ∙ sym kept)

-- a new row's SSN mask is stored as it is
pub new_is : (now : List Bits) (p : ℕ) (b : Bits) (narrow : Bool) → IsPlace now b.id false p → b.ssn ≡ (bits_in now b.id).ssn → held_row narrow b ≡ record b { srm = held_mask narrow b.srm }
new_is now p b narrow at kept =
    let none : b.ssn ≡ 0 = kept ∙ sym (ap (λ (r : Bits). r.ssn) (row_new now p b.id at)) in
    ap (λ (ssn : ℕ). record { id = b.id; srm = held_mask narrow b.srm; ssn = ssn }) (ap (λ (m : ℕ). held_mask narrow m) none ∙ none_held narrow ∙ sym none)

pub remove_goes : (rs now new : List Bits) (p : ℕ) (id : LspId) → rs ≡ now → IsPlace now id true p → new ≡ remove rs p → new ≡ without_bits id now
remove_goes rs now new p id same at is = is ∙ ap (λ (xs : List Bits). remove xs p) same ∙ ap (λ n. remove now n) at.place ∙ without_there now id (stands_there at)

pub remove_ascends : (rs new : List Bits) (p : ℕ) → AreAscending (row_ids rs) → new ≡ remove rs p → AreAscending (row_ids new)
remove_ascends rs new p asc is = rw is (removed_ascends (λ (b : Bits). b.id) rs p asc)

pub none_goes : (rs now : List Bits) (p : ℕ) (id : LspId) → rs ≡ now → AreAscending (row_ids rs) → IsPlace now id false p → now ≡ without_bits id now
none_goes rs now p id same asc at = sym (without_missing now id (subst (λ (xs : List Bits). AreAscending (row_ids xs)) same asc) (stands_there at))
