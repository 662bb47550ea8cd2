-- Whether an LSP ID has SRM on an interface, after its row or another one was changed.
use Rattle.std.proofs.Common.{◌≡◌, ℕ, zero, suc, Bool, true, false, if◌then◌else◌, List, [], ◌∷◌, length, map, replicate, slice_index_or, slice_set, inl, inr, refl, sym, ap, ◌∙◌}
use Rattle.std.specs.List.{AllByRecursion}
use Rattle.std.specs.Ordering.{is_gt, match_ordering}
use Rattle.std.specs.declared.cmp.Ordering.{Ordering}
use Rattle.std.specs.declared.cmp.Ordering.TheVariants.{Less, Equal, Greater}
use Rattle.wire_base.specs.declared.addresses.LspId.{LspId}
use Rattle.wire_base.specs.model.Control.{AreAscending, Flood, FlagRow, IsFlagRow, IsWithinLinks, at_row, id_order, is_below, no_flags, same_id, srm, srm_in, ssn, ssn_in}
use Rattle.wire_base.specs.model.Flooding.{with_row}
use Rattle.wire_base.proofs.OrderLaws.{above_differs, below_differs, same_turned, same_from_tie}
use Rattle.lsp_store.proofs.PlaceLaws.{below_all}
use Rattle.laws_router.proofs.EntryLaws.{id_self}
use Rattle.laws_router.proofs.FlagLaws.{KeepsRow, all_rows, none_flagged, row_ids, rows_ascend}
use Rattle.domain_model.proofs.FlagLaws.{KeepsId, changed_for, srm_same}
use Rattle.domain_model.proofs.QueueLaws.{set_read}

-- ---- the row of an LSP ID

-- the first row of an LSP ID; without a row it has no flags
abbrev row_of : ℕ → LspId → List FlagRow → FlagRow
row_of n id [] = no_flags n id
row_of n id (row ∷ rows) = if same_id row.id id then row else row_of n id rows

off_at : (n link : ℕ) → slice_index_or (replicate n false) link false ≡ false
off_at zero link = refl
off_at (suc n) zero = refl
off_at (suc n) (suc link) = off_at n link

srm_of_row : (n : ℕ) (id : LspId) (link : ℕ) (rows : List FlagRow) → srm_in rows id link ≡ slice_index_or (row_of n id rows).srm link false
srm_of_row n id link [] = sym (off_at n link)
srm_of_row n id link (row ∷ rows) = by (same_id row.id id) (srm_of_row n id link rows)
  where
    by : (b : Bool) → srm_in rows id link ≡ slice_index_or (row_of n id rows).srm link false → (if b then slice_index_or row.srm link false else srm_in rows id link) ≡ slice_index_or (if b then row else row_of n id rows).srm link false
    by true more = refl
    by false more = more

row_flags : (up : List Bool) (id : LspId) (rows : List FlagRow) → AllByRecursion (IsFlagRow up) rows → IsFlagRow up (row_of (length up) id rows)
row_flags up id [] all = none_flagged up id
row_flags up id (row ∷ rows) all = by (same_id row.id id) (row_flags up id rows all.1)
  where
    by : (b : Bool) → IsFlagRow up (row_of (length up) id rows) → IsFlagRow up (if b then row else row_of (length up) id rows)
    by true more = all.0
    by false more = more

-- an LSP ID below all others has no row
row_absent : (n : ℕ) (id : LspId) (rows : List FlagRow) → AllByRecursion (λ z. is_below id z ≡ true) (row_ids rows) → row_of n id rows ≡ no_flags n id
row_absent n id [] all = refl
row_absent n id (row ∷ rows) all =
    ap (λ (b : Bool). if b then row else row_of n id rows) (same_turned row.id id ∙ below_differs id row.id all.0) ∙ row_absent n id rows all.1

changed_row : (n : ℕ) (id : LspId) (change : FlagRow → FlagRow) → KeepsId change → (rows : List FlagRow) → AreAscending (row_ids rows) → row_of n id (at_row n id change rows) ≡ change (row_of n id rows)
changed_row n id change keeps [] asc = ap (λ (b : Bool). if b then change (no_flags n id) else no_flags n id) (ap (λ (i : LspId). same_id i id) (keeps (no_flags n id)) ∙ id_self id)
changed_row n id change keeps (row ∷ rows) asc = by (id_order id row.id) refl (changed_row n id change keeps rows asc.1)
  where
    by : (o : Ordering) → id_order id row.id ≡ o → row_of n id (at_row n id change rows) ≡ change (row_of n id rows)
        → row_of n id (match_ordering o (change (no_flags n id) ∷ row ∷ rows) (change row ∷ rows) (row ∷ at_row n id change rows)) ≡ change (row_of n id (row ∷ rows))
    by Less o more =
        let below : is_below id row.id ≡ true = rw o refl in
        ap (λ (b : Bool). if b then change (no_flags n id) else row_of n id (row ∷ rows)) (ap (λ (i : LspId). same_id i id) (keeps (no_flags n id)) ∙ id_self id)
        ∙ ap change (sym (row_absent n id (row ∷ rows) (below, below_all (row_ids rows) id row.id below asc.0)))
    by Equal o more =
        let same : same_id row.id id ≡ true = ap (λ (i : LspId). same_id i id) (sym (same_from_tie id row.id o)) ∙ id_self id in
        ap (λ (b : Bool). if b then change row else row_of n id rows) (ap (λ (i : LspId). same_id i id) (keeps row) ∙ same)
        ∙ ap change (sym (ap (λ (b : Bool). if b then row else row_of n id rows) same))
    by Greater o more =
        let other : same_id row.id id ≡ false = same_turned row.id id ∙ above_differs id row.id (ap is_gt o) in
        ap (λ (b : Bool). if b then row else row_of n id (at_row n id change rows)) other ∙ more
        ∙ ap change (sym (ap (λ (b : Bool). if b then row else row_of n id rows) other))

-- ---- flags in order

-- the interfaces that are up, and rows in order with flags for these alone
pub record IsTidy (up : List Bool) (f : Flood) : Type 0 where
  pub up_is : f.up ≡ up
  pub rows : AllByRecursion (IsFlagRow f.up) f.rows
  pub in_order : AreAscending (row_ids f.rows)

pub tidy_row : (up : List Bool) (f : Flood) (id : LspId) (change : FlagRow → FlagRow) → IsTidy up f → KeepsRow f.up change → IsTidy up (with_row f id change)
tidy_row up f id change t keeps = record {
  up_is = t.up_is;
  rows = all_rows (IsFlagRow f.up) (length f.up) id change f.rows (keeps.within (no_flags (length f.up) id) (none_flagged f.up id)) keeps.within t.rows;
  in_order = rows_ascend (length f.up) id change f.rows keeps.id t.in_order;
}

-- ---- SRM after a change

pub srm_other : (f : Flood) (x id : LspId) (change : FlagRow → FlagRow) (link : ℕ) → KeepsId change → same_id x id ≡ false → srm (with_row f x change) id link ≡ srm f id link
srm_other f x id change link keeps other = srm_same (at_row (length f.up) x change f.rows) f.rows id link (changed_for (length f.up) x change keeps f.rows id other)

module _ (up : List Bool) (f : Flood) (id : LspId) (t : IsTidy up f) where
  abbrev here : FlagRow
  here = row_of (length f.up) id f.rows

  srm_changed : (change : FlagRow → FlagRow) (link : ℕ) → KeepsId change → srm (with_row f id change) id link ≡ slice_index_or (change here).srm link false
  srm_changed change link keeps = srm_of_row (length f.up) id link (at_row (length f.up) id change f.rows) ∙ ap (λ (row : FlagRow). slice_index_or row.srm link false) (changed_row (length f.up) id change keeps f.rows t.in_order)

  -- a change that sets SRM on an interface of any row
  pub srm_set : (change : FlagRow → FlagRow) (link : ℕ) → KeepsId change → ((row : FlagRow) → IsFlagRow f.up row → slice_index_or (change row).srm link false ≡ true) → srm (with_row f id change) id link ≡ true
  srm_set change link keeps sets = srm_changed change link keeps ∙ sets here (row_flags f.up id f.rows t.rows)

  -- a change that leaves it
  pub srm_left : (change : FlagRow → FlagRow) (link : ℕ) → KeepsId change → ((row : FlagRow) → slice_index_or (change row).srm link false ≡ slice_index_or row.srm link false) → srm (with_row f id change) id link ≡ srm f id link
  srm_left change link keeps leaves = srm_changed change link keeps ∙ leaves here ∙ sym (srm_of_row (length f.up) id link f.rows)

pub set_elsewhere : (xs : List Bool) (at link : ℕ) (b : Bool) → (at ≡ link → ⊥) → slice_index_or (slice_set xs at b) link false ≡ slice_index_or xs link false
set_elsewhere xs at link b apart = elim (set_read xs at link b false) [
  | inl same ↦ same
  | inr new ↦ absurd (apart new.0)
]

pub set_here : (xs up : List Bool) (link : ℕ) → slice_index_or up link false ≡ true → IsWithinLinks xs up → slice_index_or (slice_set xs link true) link false ≡ true
set_here [] [] link h w = h
set_here [] (y ∷ ys) link h w = absurd w
set_here (x ∷ xs) [] link h w = absurd w
set_here (false ∷ xs) (y ∷ ys) zero h w = refl
set_here (true ∷ xs) (y ∷ ys) zero h w = refl
set_here (false ∷ xs) (y ∷ ys) (suc link) h w = set_here xs ys link h w
set_here (true ∷ xs) (y ∷ ys) (suc link) h w = set_here xs ys link h w.1

-- ---- rows that are all changed

pub srm_mapped : (change : FlagRow → FlagRow) → KeepsId change → (rows : List FlagRow) (id : LspId) (link : ℕ) → ((row : FlagRow) → slice_index_or (change row).srm link false ≡ slice_index_or row.srm link false) → srm_in (map change rows) id link ≡ srm_in rows id link
srm_mapped change keeps [] id link leaves = refl
srm_mapped change keeps (row ∷ rows) id link leaves =
    ap (λ (i : LspId). if same_id i id then slice_index_or (change row).srm link false else srm_in (map change rows) id link) (keeps row)
    ∙ ap (λ (b : Bool). if same_id row.id id then b else srm_in (map change rows) id link) (leaves row)
    ∙ ap (λ (b : Bool). if same_id row.id id then slice_index_or row.srm link false else b) (srm_mapped change keeps rows id link leaves)

-- ---- SSN

ssn_of_row : (n : ℕ) (id : LspId) (link : ℕ) (rows : List FlagRow) → ssn_in rows id link ≡ slice_index_or (row_of n id rows).ssn link false
ssn_of_row n id link [] = sym (off_at n link)
ssn_of_row n id link (row ∷ rows) = by (same_id row.id id) (ssn_of_row n id link rows)
  where
    by : (b : Bool) → ssn_in rows id link ≡ slice_index_or (row_of n id rows).ssn link false → (if b then slice_index_or row.ssn link false else ssn_in rows id link) ≡ slice_index_or (if b then row else row_of n id rows).ssn link false
    by true more = refl
    by false more = more

-- a row of another LSP ID
row_other : (n : ℕ) (x id : LspId) (change : FlagRow → FlagRow) → KeepsId change → same_id x id ≡ false → (rows : List FlagRow) → row_of n id (at_row n x change rows) ≡ row_of n id rows
row_other n x id change keeps other [] = ap (λ (b : Bool). if b then change (no_flags n x) else no_flags n id) (ap (λ (i : LspId). same_id i id) (keeps (no_flags n x)) ∙ other)
row_other n x id change keeps other (row ∷ rows) = by (id_order x row.id) refl (row_other n x id change keeps other rows)
  where
    by : (o : Ordering) → id_order x row.id ≡ o → row_of n id (at_row n x change rows) ≡ row_of n id rows
        → row_of n id (match_ordering o (change (no_flags n x) ∷ row ∷ rows) (change row ∷ rows) (row ∷ at_row n x change rows)) ≡ row_of n id (row ∷ rows)
    by Less o more = ap (λ (b : Bool). if b then change (no_flags n x) else row_of n id (row ∷ rows)) (ap (λ (i : LspId). same_id i id) (keeps (no_flags n x)) ∙ other)
    by Equal o more =
        let here : same_id row.id id ≡ false = ap (λ (i : LspId). same_id i id) (sym (same_from_tie x row.id o)) ∙ other in
        ap (λ (b : Bool). if b then change row else row_of n id rows) (ap (λ (i : LspId). same_id i id) (keeps row) ∙ here)
        ∙ sym (ap (λ (b : Bool). if b then row else row_of n id rows) here)
    by Greater o more = ap (λ (r : FlagRow). if same_id row.id id then row else r) more

pub ssn_other : (f : Flood) (x id : LspId) (change : FlagRow → FlagRow) (link : ℕ) → KeepsId change → same_id x id ≡ false → ssn (with_row f x change) id link ≡ ssn f id link
ssn_other f x id change link keeps other =
    ssn_of_row (length f.up) id link (at_row (length f.up) x change f.rows) ∙ ap (λ (row : FlagRow). slice_index_or row.ssn link false) (row_other (length f.up) x id change keeps other f.rows)
    ∙ sym (ssn_of_row (length f.up) id link f.rows)

module _ (up : List Bool) (f : Flood) (id : LspId) (t : IsTidy up f) where
  ssn_changed : (change : FlagRow → FlagRow) (link : ℕ) → KeepsId change → ssn (with_row f id change) id link ≡ slice_index_or (change (row_of (length f.up) id f.rows)).ssn link false
  ssn_changed change link keeps = ssn_of_row (length f.up) id link (at_row (length f.up) id change f.rows) ∙ ap (λ (row : FlagRow). slice_index_or row.ssn link false) (changed_row (length f.up) id change keeps f.rows t.in_order)

  pub ssn_set : (change : FlagRow → FlagRow) (link : ℕ) → KeepsId change → ((row : FlagRow) → IsFlagRow f.up row → slice_index_or (change row).ssn link false ≡ true) → ssn (with_row f id change) id link ≡ true
  ssn_set change link keeps sets = ssn_changed change link keeps ∙ sets (row_of (length f.up) id f.rows) (row_flags f.up id f.rows t.rows)

  pub ssn_left : (change : FlagRow → FlagRow) (link : ℕ) → KeepsId change → ((row : FlagRow) → slice_index_or (change row).ssn link false ≡ slice_index_or row.ssn link false) → ssn (with_row f id change) id link ≡ ssn f id link
  ssn_left change link keeps leaves = ssn_changed change link keeps ∙ leaves (row_of (length f.up) id f.rows) ∙ sym (ssn_of_row (length f.up) id link f.rows)

  -- a change that clears SRM on an interface of any row
  pub srm_cleared : (change : FlagRow → FlagRow) (link : ℕ) → KeepsId change → ((row : FlagRow) → slice_index_or (change row).srm link false ≡ false) → srm (with_row f id change) id link ≡ false
  srm_cleared change link keeps clears = srm_changed up f id t change link keeps ∙ clears (row_of (length f.up) id f.rows)

pub set_off : (xs : List Bool) (link : ℕ) → slice_index_or (slice_set xs link false) link false ≡ false
set_off [] link = refl
set_off (x ∷ xs) zero = refl
set_off (x ∷ xs) (suc link) = set_off xs link

pub ssn_mapped : (change : FlagRow → FlagRow) → KeepsId change → (rows : List FlagRow) (id : LspId) (link : ℕ) → ((row : FlagRow) → slice_index_or (change row).ssn link false ≡ slice_index_or row.ssn link false) → ssn_in (map change rows) id link ≡ ssn_in rows id link
ssn_mapped change keeps [] id link leaves = refl
ssn_mapped change keeps (row ∷ rows) id link leaves =
    ap (λ (i : LspId). if same_id i id then slice_index_or (change row).ssn link false else ssn_in (map change rows) id link) (keeps row)
    ∙ ap (λ (b : Bool). if same_id row.id id then b else ssn_in (map change rows) id link) (leaves row)
    ∙ ap (λ (b : Bool). if same_id row.id id then slice_index_or row.ssn link false else b) (ssn_mapped change keeps rows id link leaves)

-- all rows are cleared
pub ssn_emptied : (change : FlagRow → FlagRow) → (rows : List FlagRow) (id : LspId) (link : ℕ) → ((row : FlagRow) → slice_index_or (change row).ssn link false ≡ false) → ssn_in (map change rows) id link ≡ false
ssn_emptied change [] id link clears = refl
ssn_emptied change (row ∷ rows) id link clears = by (same_id (change row).id id) (ssn_emptied change rows id link clears)
  where
    by : (b : Bool) → ssn_in (map change rows) id link ≡ false → (if b then slice_index_or (change row).ssn link false else ssn_in (map change rows) id link) ≡ false
    by true more = clears row
    by false more = more
