-- Flags stand at links that are up alone, and rows of flags are in order: what changes of rows keep.
use Rattle.std.proofs.Common.{◌≡◌, ◌∙◌, ℕ, zero, suc, Bool, true, false, List, [], ◌∷◌, length, map, get_or, set, replicate, if◌then◌else◌, refl, sym, ap, subst}
use Rattle.std.specs.declared.cmp.Ordering.{Ordering}
use Rattle.std.specs.declared.cmp.Ordering.TheVariants.{Less, Equal, Greater}
use Rattle.std.specs.Ordering.{is_lt, is_gt, match_ordering}
use Rattle.std.specs.List.{AllByRecursion}
use Rattle.wire_base.specs.declared.addresses.LspId.{LspId}
use Rattle.wire_base.specs.model.Control.{id_order, is_below, same_id, AreAscending, FlagRow, no_flags, at_row, without_row, IsWithinLinks, IsFlagRow}
use Rattle.wire_base.specs.model.Flooding.{send_on, ask_on, set_srm}
use Rattle.wire_base.proofs.OrderLaws.{below_from_above, below_trans}

-- ---- links

pub within_self : (up : List Bool) → IsWithinLinks up up
within_self [] = tt
within_self (false ∷ up) = within_self up
within_self (true ∷ up) = (refl, within_self up)

pub within_none : (up : List Bool) → IsWithinLinks (replicate (length up) false) up
within_none [] = tt
within_none (b ∷ up) = within_none up

-- a flag at a link that is up
pub flag_set : (xs up : List Bool) (k : ℕ) → get_or up k false ≡ true → IsWithinLinks xs up → IsWithinLinks (set xs k true) up
flag_set [] [] k h w = w
flag_set [] (y ∷ ys) k h w = absurd w
flag_set (x ∷ xs) [] k h w = absurd w
flag_set (false ∷ xs) (y ∷ ys) zero h w = (h, w)
flag_set (true ∷ xs) (y ∷ ys) zero h w = (h, w.1)
flag_set (false ∷ xs) (y ∷ ys) (suc k) h w = flag_set xs ys k h w
flag_set (true ∷ xs) (y ∷ ys) (suc k) h w = (w.0, flag_set xs ys k h w.1)

pub flag_cleared : (xs up : List Bool) (k : ℕ) → IsWithinLinks xs up → IsWithinLinks (set xs k false) up
flag_cleared [] [] k w = w
flag_cleared [] (y ∷ ys) k w = absurd w
flag_cleared (x ∷ xs) [] k w = absurd w
flag_cleared (false ∷ xs) (y ∷ ys) zero w = w
flag_cleared (true ∷ xs) (y ∷ ys) zero w = w.1
flag_cleared (false ∷ xs) (y ∷ ys) (suc k) w = flag_cleared xs ys k w
flag_cleared (true ∷ xs) (y ∷ ys) (suc k) w = (w.0, flag_cleared xs ys k w.1)

-- a link comes up
pub link_opened : (xs up : List Bool) (k : ℕ) → IsWithinLinks xs up → IsWithinLinks xs (set up k true)
link_opened [] [] k w = w
link_opened [] (y ∷ ys) k w = absurd w
link_opened (x ∷ xs) [] k w = absurd w
link_opened (false ∷ xs) (y ∷ ys) zero w = w
link_opened (true ∷ xs) (y ∷ ys) zero w = (refl, w.1)
link_opened (false ∷ xs) (y ∷ ys) (suc k) w = link_opened xs ys k w
link_opened (true ∷ xs) (y ∷ ys) (suc k) w = (w.0, link_opened xs ys k w.1)

-- and gets a flag
pub both_set : (xs up : List Bool) (k : ℕ) → IsWithinLinks xs up → IsWithinLinks (set xs k true) (set up k true)
both_set [] [] k w = w
both_set [] (y ∷ ys) k w = absurd w
both_set (x ∷ xs) [] k w = absurd w
both_set (false ∷ xs) (y ∷ ys) zero w = (refl, w)
both_set (true ∷ xs) (y ∷ ys) zero w = (refl, w.1)
both_set (false ∷ xs) (y ∷ ys) (suc k) w = both_set xs ys k w
both_set (true ∷ xs) (y ∷ ys) (suc k) w = (w.0, both_set xs ys k w.1)

-- a link goes down, and its flag goes
pub both_cleared : (xs up : List Bool) (k : ℕ) → IsWithinLinks xs up → IsWithinLinks (set xs k false) (set up k false)
both_cleared [] [] k w = w
both_cleared [] (y ∷ ys) k w = absurd w
both_cleared (x ∷ xs) [] k w = absurd w
both_cleared (false ∷ xs) (y ∷ ys) zero w = w
both_cleared (true ∷ xs) (y ∷ ys) zero w = w.1
both_cleared (false ∷ xs) (y ∷ ys) (suc k) w = both_cleared xs ys k w
both_cleared (true ∷ xs) (y ∷ ys) (suc k) w = (w.0, both_cleared xs ys k w.1)

-- ---- changes of a row

-- a change of a row keeps its identifier, and flags at links that are up
pub record KeepsRow (up : List Bool) (change : FlagRow → FlagRow) : Type 0 where
  pub id : (row : FlagRow) → (change row).id ≡ row.id
  pub within : (row : FlagRow) → IsFlagRow up row → IsFlagRow up (change row)

pub keeps_send : (up : List Bool) (link : ℕ) → get_or up link false ≡ true → KeepsRow up (send_on link)
keeps_send up link h =
    record { id = λ row. refl; within = λ row w. record { srm_up = flag_set row.srm up link h w.srm_up; ssn_up = flag_cleared row.ssn up link w.ssn_up } }

pub keeps_ask : (up : List Bool) (link : ℕ) → get_or up link false ≡ true → KeepsRow up (ask_on link)
keeps_ask up link h =
    record { id = λ row. refl; within = λ row w. record { srm_up = flag_cleared row.srm up link w.srm_up; ssn_up = flag_set row.ssn up link h w.ssn_up } }

pub keeps_srm : (up : List Bool) (link : ℕ) → get_or up link false ≡ true → KeepsRow up (set_srm link true)
keeps_srm up link h = record { id = λ row. refl; within = λ row w. record { srm_up = flag_set row.srm up link h w.srm_up; ssn_up = w.ssn_up } }

pub keeps_acknowledged : (up : List Bool) (link : ℕ) → KeepsRow up (set_srm link false)
keeps_acknowledged up link = record { id = λ row. refl; within = λ row w. record { srm_up = flag_cleared row.srm up link w.srm_up; ssn_up = w.ssn_up } }

-- to be sent on all links that are up
pub keeps_mark : (up : List Bool) → KeepsRow up (λ row. record row { srm = up; ssn = replicate (length up) false })
keeps_mark up = record { id = λ row. refl; within = λ row w. record { srm_up = within_self up; ssn_up = within_none up } }

-- to be acknowledged on one link, and to be sent on all others
pub keeps_pass : (up : List Bool) (link : ℕ) → get_or up link false ≡ true → KeepsRow up (λ row. record row { srm = set up link false; ssn = set (replicate (length up) false) link true })
keeps_pass up link h =
    record { id = λ row. refl; within = λ row w. record { srm_up = flag_cleared up up link (within_self up); ssn_up = flag_set (replicate (length up) false) up link h (within_none up) } }

-- ---- rows

pub none_flagged : (up : List Bool) (id : LspId) → IsFlagRow up (no_flags (length up) id)
none_flagged up id = record { srm_up = within_none up; ssn_up = within_none up }

-- what holds of a changed row and of all other rows
pub all_rows : (P : FlagRow → Type 0) (n : ℕ) (id : LspId) (change : FlagRow → FlagRow) (rows : List FlagRow) → P (change (no_flags n id)) → ((row : FlagRow) → P row → P (change row)) → AllByRecursion P rows
    → AllByRecursion P (at_row n id change rows)
all_rows P n id change [] first more all = (first, tt)
all_rows P n id change (row ∷ rows) first more all = cases (all_rows P n id change rows first more all.1) (id_order id row.id)
  where
    cases : AllByRecursion P (at_row n id change rows) → (o : Ordering) → AllByRecursion P (match_ordering o (change (no_flags n id) ∷ row ∷ rows) (change row ∷ rows) (row ∷ at_row n id change rows))
    cases rest Less = (first, all)
    cases rest Equal = (more row all.0, all.1)
    cases rest Greater = (all.0, rest)

abbrev pub row_ids : List FlagRow → List LspId
row_ids rows = map (λ row. row.id) rows

all_ids : (P : LspId → Type 0) (n : ℕ) (id : LspId) (change : FlagRow → FlagRow) (rows : List FlagRow) → ((row : FlagRow) → (change row).id ≡ row.id) → P id → AllByRecursion P (row_ids rows)
    → AllByRecursion P (row_ids (at_row n id change rows))
all_ids P n id change [] same h all = (subst P (sym (same (no_flags n id))) h, tt)
all_ids P n id change (row ∷ rows) same h all = cases (all_ids P n id change rows same h all.1) (id_order id row.id)
  where
    cases : AllByRecursion P (row_ids (at_row n id change rows)) → (o : Ordering) → AllByRecursion P (row_ids (match_ordering o (change (no_flags n id) ∷ row ∷ rows) (change row ∷ rows) (row ∷ at_row n id change rows)))
    cases rest Less = (subst P (sym (same (no_flags n id))) h, all)
    cases rest Equal = (subst P (sym (same row)) all.0, all.1)
    cases rest Greater = (all.0, rest)

below_all : (ids : List LspId) (x y : LspId) → is_below x y ≡ true → AllByRecursion (λ z. is_below y z ≡ true) ids → AllByRecursion (λ z. is_below x z ≡ true) ids
below_all [] x y h all = tt
below_all (z ∷ ids) x y h all = (below_trans x y z h all.0, below_all ids x y h all.1)

pub rows_ascend : (n : ℕ) (id : LspId) (change : FlagRow → FlagRow) (rows : List FlagRow) → ((row : FlagRow) → (change row).id ≡ row.id) → AreAscending (row_ids rows) → AreAscending (row_ids (at_row n id change rows))
rows_ascend n id change [] same asc = (tt, tt)
rows_ascend n id change (row ∷ rows) same asc = cases (rows_ascend n id change rows same asc.1) (id_order id row.id) refl
  where
    cases : AreAscending (row_ids (at_row n id change rows)) → (o : Ordering) → id_order id row.id ≡ o → AreAscending (row_ids (match_ordering o (change (no_flags n id) ∷ row ∷ rows) (change row ∷ rows) (row ∷ at_row n id change rows)))
    cases rest Less o =
        let P : LspId → Type 0 = λ x. AllByRecursion (λ z. is_below x z ≡ true) (row.id ∷ row_ids rows) in
        (subst P (sym (same (no_flags n id))) (ap is_lt o, below_all (row_ids rows) id row.id (ap is_lt o) asc.0), asc)
    cases rest Equal o =
        let P : LspId → Type 0 = λ x. AllByRecursion (λ z. is_below x z ≡ true) (row_ids rows) in
        (subst P (sym (same row)) asc.0, asc.1)
    cases rest Greater o = (all_ids (λ z. is_below row.id z ≡ true) n id change rows same (below_from_above id row.id (ap is_gt o)) asc.0, rest)

-- a change of every row keeps the order
pub ids_kept : (change : FlagRow → FlagRow) (rows : List FlagRow) → ((row : FlagRow) → (change row).id ≡ row.id) → row_ids (map change rows) ≡ row_ids rows
ids_kept change [] same = refl
ids_kept change (row ∷ rows) same = ap (λ (x : LspId). x ∷ row_ids (map change rows)) (same row) ∙ ap (λ (ids : List LspId). row.id ∷ ids) (ids_kept change rows same)

pub each_changed : (P Q : FlagRow → Type 0) (change : FlagRow → FlagRow) (rows : List FlagRow) → ((row : FlagRow) → P row → Q (change row)) → AllByRecursion P rows → AllByRecursion Q (map change rows)
each_changed P Q change [] more all = tt
each_changed P Q change (row ∷ rows) more all = (more row all.0, each_changed P Q change rows more all.1)

-- ---- a row that goes

pub all_left : (P : FlagRow → Type 0) (id : LspId) (rows : List FlagRow) → AllByRecursion P rows → AllByRecursion P (without_row id rows)
all_left P id [] all = tt
all_left P id (row ∷ rows) all = cases (all_left P id rows all.1) (same_id row.id id)
  where
    cases : AllByRecursion P (without_row id rows) → (same : Bool) → AllByRecursion P (if same then rows else row ∷ without_row id rows)
    cases rest true = all.1
    cases rest false = (all.0, rest)

ids_left : (P : LspId → Type 0) (id : LspId) (rows : List FlagRow) → AllByRecursion P (row_ids rows) → AllByRecursion P (row_ids (without_row id rows))
ids_left P id [] all = tt
ids_left P id (row ∷ rows) all = cases (ids_left P id rows all.1) (same_id row.id id)
  where
    cases : AllByRecursion P (row_ids (without_row id rows)) → (same : Bool) → AllByRecursion P (row_ids (if same then rows else row ∷ without_row id rows))
    cases rest true = all.1
    cases rest false = (all.0, rest)

pub left_ascend : (id : LspId) (rows : List FlagRow) → AreAscending (row_ids rows) → AreAscending (row_ids (without_row id rows))
left_ascend id [] asc = tt
left_ascend id (row ∷ rows) asc = cases (left_ascend id rows asc.1) (same_id row.id id)
  where
    cases : AreAscending (row_ids (without_row id rows)) → (same : Bool) → AreAscending (row_ids (if same then rows else row ∷ without_row id rows))
    cases rest true = asc.1
    cases rest false = (ids_left (λ z. is_below row.id z ≡ true) id rows asc.0, rest)
