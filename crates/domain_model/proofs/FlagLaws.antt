-- Which entry and which flags an identifier has, once an entry was put or a row of flags was changed.
use Rattle.std.proofs.Common.{◌≡◌, ℕ, zero, suc, Bool, true, false, if◌then◌else◌, List, [], ◌∷◌, drop, filter, map, slice_index_or, replicate, Option, Some, None, refl, sym, ap, subst, ◌∙◌}
use Rattle.std.specs.declared.cmp.Ordering.{Ordering}
use Rattle.std.specs.declared.cmp.Ordering.TheVariants.{Less, Equal, Greater}
use Rattle.std.specs.Ordering.{is_gt, match_ordering}
use Rattle.std.specs.List.{AllByRecursion}
use Rattle.std.proofs.lemmas.Bool.{and_from, eq-eqb}
use Rattle.std.proofs.lemmas.Option.{same_Some}
use Rattle.wire_base.specs.declared.addresses.LspId.{LspId}
use Rattle.wire_base.specs.declared.entry.Entry.{Entry}
use Rattle.wire_base.specs.model.Control.{same_id, id_order, is_below, AreAscending, ids_of, entry_in, put_entry, FlagRow, no_flags, at_row, without_row, srm_in}
use Rattle.wire_base.proofs.OrderLaws.{tie_is_same, above_differs, below_differs, same_turned, same_from_tie, eq_is}
use Rattle.domain_model.proofs.EachLaws.{each_weaker, each_both}
use Rattle.laws_router.proofs.EntryLaws.{bytes_self}

-- ---- identifiers

pub same_id_is : (a b : LspId) → same_id a b ≡ true → a ≡ b
same_id_is a b h = same_from_tie a b (eq_is (id_order a b) (tie_is_same a b ∙ h))

pub same_id_self : (a : LspId) → same_id a a ≡ true
same_id_self a = and_from _ _ (bytes_self a.system.0) (and_from _ _ (eq-eqb a.pseudonode a.pseudonode refl) (eq-eqb a.fragment a.fragment refl))

-- ---- entries

pub put_same : (e : Entry) (es : List Entry) (id : LspId) → same_id e.id id ≡ true → entry_in (put_entry e es) id ≡ Some e
put_same e [] id h = rw h refl
put_same e (x ∷ xs) id h = by (id_order e.id x.id) refl (put_same e xs id h)
  where
    by : (o : Ordering) → id_order e.id x.id ≡ o → entry_in (put_entry e xs) id ≡ Some e → entry_in (match_ordering o (e ∷ x ∷ xs) (e ∷ xs) (x ∷ put_entry e xs)) id ≡ Some e
    by Less o more = rw h refl
    by Equal o more = rw h refl
    by Greater o more = rw (sym (ap (λ (i : LspId). same_id x.id i) (same_id_is e.id id h)) ∙ same_turned x.id e.id ∙ above_differs e.id x.id (ap is_gt o)) more

pub put_other : (e : Entry) (es : List Entry) (id : LspId) → same_id e.id id ≡ false → entry_in (put_entry e es) id ≡ entry_in es id
put_other e [] id h = rw h refl
put_other e (x ∷ xs) id h = by (id_order e.id x.id) refl (put_other e xs id h)
  where
    by : (o : Ordering) → id_order e.id x.id ≡ o → entry_in (put_entry e xs) id ≡ entry_in xs id → entry_in (match_ordering o (e ∷ x ∷ xs) (e ∷ xs) (x ∷ put_entry e xs)) id ≡ entry_in (x ∷ xs) id
    by Less o more = rw h refl
    by Equal o more = rw (h, ap (λ (i : LspId). same_id i id) (sym (same_from_tie e.id x.id o)) ∙ h) refl
    by Greater o more = ap (λ (r : Option Entry). if same_id x.id id then Some x else r) more

pub put_each : (P : Entry → Type 0) (e : Entry) (es : List Entry) → P e → AllByRecursion P es → AllByRecursion P (put_entry e es)
put_each P e [] h all = (h, tt)
put_each P e (x ∷ xs) h all = by (id_order e.id x.id) (put_each P e xs h all.1)
  where
    by : (o : Ordering) → AllByRecursion P (put_entry e xs) → AllByRecursion P (match_ordering o (e ∷ x ∷ xs) (e ∷ xs) (x ∷ put_entry e xs))
    by Less more = (h, all)
    by Equal more = (h, all.1)
    by Greater more = (all.0, more)

-- the entry that is found is one of them, and has the identifier
pub found_each : (P : Entry → Type 0) (es : List Entry) (id : LspId) (e : Entry) → AllByRecursion P es → entry_in es id ≡ Some e → P e
found_each P [] id e all h = absurd cc
found_each P (x ∷ xs) id e all h = by (same_id x.id id) refl (found_each P xs id e all.1)
  where
    by : (b : Bool) → same_id x.id id ≡ b → (entry_in xs id ≡ Some e → P e) → P e
    by true t more = let k : Some x ≡ Some e = rw t at h in subst P (same_Some x e k) all.0
    by false t more = let k : entry_in xs id ≡ Some e = rw t at h in more k

pub found_id : (es : List Entry) (id : LspId) (e : Entry) → entry_in es id ≡ Some e → same_id e.id id ≡ true
found_id [] id e h = absurd cc
found_id (x ∷ xs) id e h = by (same_id x.id id) refl (found_id xs id e)
  where
    by : (b : Bool) → same_id x.id id ≡ b → (entry_in xs id ≡ Some e → same_id e.id id ≡ true) → same_id e.id id ≡ true
    by true t more = let k : Some x ≡ Some e = rw t at h in subst (λ (y : Entry). same_id y.id id ≡ true) (same_Some x e k) t
    by false t more = let k : entry_in xs id ≡ Some e = rw t at h in more k

pub ids_each : (P : LspId → Type 0) (es : List Entry) → AllByRecursion P (ids_of es) → AllByRecursion (λ e. P e.id) es
ids_each P [] all = tt
ids_each P (e ∷ es) all = (all.0, ids_each P es all.1)

-- no entry after one has its identifier
pub none_later : (id : LspId) (es : List Entry) → AllByRecursion (λ i. is_below id i ≡ true) (ids_of es) → entry_in es id ≡ None
none_later id [] all = refl
none_later id (e ∷ es) all = rw (same_turned e.id id ∙ below_differs id e.id all.0) (none_later id es all.1)

-- in order each entry is found by its identifier
pub each_is_found : (es : List Entry) → AreAscending (ids_of es) → AllByRecursion (λ e. entry_in es e.id ≡ Some e) es
each_is_found [] asc = tt
each_is_found (x ∷ xs) asc = (
  rw (same_id_self x.id) refl,
  each_weaker _ _ (λ (e : Entry) h. rw (below_differs x.id e.id h.0) h.1) xs
      (each_both (λ (e : Entry). is_below x.id e.id ≡ true) (λ (e : Entry). entry_in xs e.id ≡ Some e) xs (ids_each (λ i. is_below x.id i ≡ true) xs asc.0) (each_is_found xs asc.1)),
)

-- ---- rows of flags

-- the rows of an identifier
abbrev pub rows_for : LspId → List FlagRow → List FlagRow
rows_for id rows = filter (λ row. same_id row.id id) rows

abbrev first_srm : List FlagRow → ℕ → Bool
first_srm [] link = false
first_srm (row ∷ rows) link = slice_index_or row.srm link false

srm_is : (rows : List FlagRow) (id : LspId) (link : ℕ) → srm_in rows id link ≡ first_srm (rows_for id rows) link
srm_is [] id link = refl
srm_is (row ∷ rows) id link = by (same_id row.id id) refl (srm_is rows id link)
  where
    by : (b : Bool) → same_id row.id id ≡ b → srm_in rows id link ≡ first_srm (rows_for id rows) link → srm_in (row ∷ rows) id link ≡ first_srm (rows_for id (row ∷ rows)) link
    by true t more = rw t refl
    by false t more = rw t more

-- what has the same rows has the same flags
pub srm_same : (rows others : List FlagRow) (id : LspId) (link : ℕ) → rows_for id rows ≡ rows_for id others → srm_in rows id link ≡ srm_in others id link
srm_same rows others id link h = srm_is rows id link ∙ ap (λ (rs : List FlagRow). first_srm rs link) h ∙ sym (srm_is others id link)

pub srm_none : (rows : List FlagRow) (id : LspId) (link : ℕ) → rows_for id rows ≡ [] → srm_in rows id link ≡ false
srm_none rows id link h = srm_is rows id link ∙ ap (λ (rs : List FlagRow). first_srm rs link) h

abbrev pub KeepsId : (FlagRow → FlagRow) → Type 0
KeepsId change = (row : FlagRow) → (change row).id ≡ row.id

-- it sets SRM nowhere
abbrev pub SetsNone : (FlagRow → FlagRow) → Type 0
SetsNone change = (row : FlagRow) (link : ℕ) → slice_index_or row.srm link false ≡ false → slice_index_or (change row).srm link false ≡ false

skips : (id : LspId) (row : FlagRow) (rows : List FlagRow) → same_id row.id id ≡ false → rows_for id (row ∷ rows) ≡ rows_for id rows
skips id row rows h = rw h refl

-- a row that is changed is no other identifier's
pub changed_for : (n : ℕ) (x : LspId) (change : FlagRow → FlagRow) → KeepsId change → (rows : List FlagRow) (id : LspId) → same_id x id ≡ false → rows_for id (at_row n x change rows) ≡ rows_for id rows
changed_for n x change keeps [] id h = skips id (change (no_flags n x)) [] (ap (λ (i : LspId). same_id i id) (keeps (no_flags n x)) ∙ h)
changed_for n x change keeps (row ∷ rows) id h = by (id_order x row.id) refl (changed_for n x change keeps rows id h)
  where
    by : (o : Ordering) → id_order x row.id ≡ o → rows_for id (at_row n x change rows) ≡ rows_for id rows
        → rows_for id (match_ordering o (change (no_flags n x) ∷ row ∷ rows) (change row ∷ rows) (row ∷ at_row n x change rows)) ≡ rows_for id (row ∷ rows)
    by Less o more = skips id (change (no_flags n x)) (row ∷ rows) (ap (λ (i : LspId). same_id i id) (keeps (no_flags n x)) ∙ h)
    by Equal o more =
        let other : same_id row.id id ≡ false = ap (λ (i : LspId). same_id i id) (sym (same_from_tie x row.id o)) ∙ h in
        skips id (change row) rows (ap (λ (i : LspId). same_id i id) (keeps row) ∙ other) ∙ sym (skips id row rows other)
    by Greater o more = both (same_id row.id id) refl
      where
        both : (b : Bool) → same_id row.id id ≡ b → rows_for id (row ∷ at_row n x change rows) ≡ rows_for id (row ∷ rows)
        both true t = rw t (ap (λ (rs : List FlagRow). row ∷ rs) more)
        both false t = rw t more

pub gone_for : (x : LspId) (rows : List FlagRow) (id : LspId) → same_id x id ≡ false → rows_for id (without_row x rows) ≡ rows_for id rows
gone_for x [] id h = refl
gone_for x (row ∷ rows) id h = by (same_id row.id x) refl (gone_for x rows id h)
  where
    by : (b : Bool) → same_id row.id x ≡ b → rows_for id (without_row x rows) ≡ rows_for id rows → rows_for id (without_row x (row ∷ rows)) ≡ rows_for id (row ∷ rows)
    by true t more = rw t (sym (skips id row rows (ap (λ (i : LspId). same_id i id) (same_id_is row.id x t) ∙ h)))
    by false t more = rw t (both (same_id row.id id) refl)
      where
        both : (b : Bool) → same_id row.id id ≡ b → rows_for id (row ∷ without_row x rows) ≡ rows_for id (row ∷ rows)
        both true t = rw t (ap (λ (rs : List FlagRow). row ∷ rs) more)
        both false t = rw t more

-- the first row of an identifier goes
pub forgotten_for : (rows : List FlagRow) (id : LspId) → rows_for id (without_row id rows) ≡ drop 1 (rows_for id rows)
forgotten_for [] id = refl
forgotten_for (row ∷ rows) id = by (same_id row.id id) refl (forgotten_for rows id)
  where
    by : (b : Bool) → same_id row.id id ≡ b → rows_for id (without_row id rows) ≡ drop 1 (rows_for id rows) → rows_for id (without_row id (row ∷ rows)) ≡ drop 1 (rows_for id (row ∷ rows))
    by true t more = rw t refl
    by false t more = rw t (skips id row (without_row id rows) t ∙ more)

-- in order it is the only one
none_above : (rows : List FlagRow) (id : LspId) → AllByRecursion (λ i. is_below id i ≡ true) (map (λ row. row.id) rows) → rows_for id rows ≡ []
none_above [] id all = refl
none_above (row ∷ rows) id all = skips id row rows (same_turned row.id id ∙ below_differs id row.id all.0) ∙ none_above rows id all.1

pub only_row : (rows : List FlagRow) (id : LspId) → AreAscending (map (λ row. row.id) rows) → drop 1 (rows_for id rows) ≡ []
only_row [] id asc = refl
only_row (row ∷ rows) id asc = by (same_id row.id id) refl (only_row rows id asc.1)
  where
    by : (b : Bool) → same_id row.id id ≡ b → drop 1 (rows_for id rows) ≡ [] → drop 1 (rows_for id (row ∷ rows)) ≡ []
    by true t more = rw t (ap (λ (i : LspId). rows_for i rows) (sym (same_id_is row.id id t)) ∙ none_above rows row.id asc.0)
    by false t more = rw t more

-- ---- what is set nowhere

none_at : (n link : ℕ) → slice_index_or (replicate n false) link false ≡ false
none_at zero link = refl
none_at (suc n) zero = refl
none_at (suc n) (suc link) = none_at n link

abbrev IsOff : List FlagRow → LspId → ℕ → Type 0
IsOff rows id link = srm_in rows id link ≡ false

-- a row in front
front_off : (row : FlagRow) (rows : List FlagRow) (id : LspId) (link : ℕ) → (same_id row.id id ≡ true → slice_index_or row.srm link false ≡ false) → (same_id row.id id ≡ false → IsOff rows id link) → IsOff (row ∷ rows) id link
front_off row rows id link here later = by (same_id row.id id) refl
  where
    by : (b : Bool) → same_id row.id id ≡ b → IsOff (row ∷ rows) id link
    by true t = rw t (here t)
    by false t = rw t (later t)

off_here : (row : FlagRow) (rows : List FlagRow) (id : LspId) (link : ℕ) → IsOff (row ∷ rows) id link → same_id row.id id ≡ true → slice_index_or row.srm link false ≡ false
off_here row rows id link h t = rw t at h

off_later : (row : FlagRow) (rows : List FlagRow) (id : LspId) (link : ℕ) → IsOff (row ∷ rows) id link → same_id row.id id ≡ false → IsOff rows id link
off_later row rows id link h t = rw t at h

pub changed_off : (n : ℕ) (x : LspId) (change : FlagRow → FlagRow) → KeepsId change → SetsNone change → (rows : List FlagRow) (id : LspId) (link : ℕ) → IsOff rows id link → IsOff (at_row n x change rows) id link
changed_off n x change keeps sets [] id link h = front_off (change (no_flags n x)) [] id link (λ t. sets (no_flags n x) link (none_at n link)) (λ t. refl)
changed_off n x change keeps sets (row ∷ rows) id link h = by (id_order x row.id) (changed_off n x change keeps sets rows id link)
  where
    by : (o : Ordering) → (IsOff rows id link → IsOff (at_row n x change rows) id link) → IsOff (match_ordering o (change (no_flags n x) ∷ row ∷ rows) (change row ∷ rows) (row ∷ at_row n x change rows)) id link
    by Less more = front_off (change (no_flags n x)) (row ∷ rows) id link (λ t. sets (no_flags n x) link (none_at n link)) (λ t. h)
    by Equal more =
        front_off (change row) rows id link
        (λ t. sets row link (off_here row rows id link h (ap (λ (i : LspId). same_id i id) (sym (keeps row)) ∙ t)))
        (λ t. off_later row rows id link h (ap (λ (i : LspId). same_id i id) (sym (keeps row)) ∙ t))
    by Greater more = front_off row (at_row n x change rows) id link (λ t. off_here row rows id link h t) (λ t. more (off_later row rows id link h t))

pub mapped_off : (change : FlagRow → FlagRow) → KeepsId change → SetsNone change → (rows : List FlagRow) (id : LspId) (link : ℕ) → IsOff rows id link → IsOff (map change rows) id link
mapped_off change keeps sets [] id link h = refl
mapped_off change keeps sets (row ∷ rows) id link h =
    front_off (change row) (map change rows) id link
    (λ t. sets row link (off_here row rows id link h (ap (λ (i : LspId). same_id i id) (sym (keeps row)) ∙ t)))
    (λ t. mapped_off change keeps sets rows id link (off_later row rows id link h (ap (λ (i : LspId). same_id i id) (sym (keeps row)) ∙ t)))
