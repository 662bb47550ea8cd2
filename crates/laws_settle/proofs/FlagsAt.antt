-- Whether an LSP ID has a flag on an interface, after its row or another one was changed.
use Rattle.std.proofs.Common.{◌≡◌, ℕ, ◌||◌, Bool, true, false, List, [], ◌∷◌, length, slice_index_or, refl, sym, ap, ◌∙◌}
use Rattle.std.specs.List.{AllByRecursion}
use Rattle.std.specs.Ordering.{is_gt, match_ordering}
use Rattle.std.specs.declared.cmp.Ordering.{Ordering}
use Rattle.std.specs.declared.cmp.Ordering.TheVariants.{Less, Equal, Greater}
use Rattle.std.proofs.lemmas.Bool.{true≢false, or_left, or_right}
use Rattle.wire_base.specs.declared.addresses.LspId.{LspId}
use Rattle.wire_base.specs.declared.entry.Entry.{Entry}
use Rattle.wire_base.specs.model.Control.{Flood, FlagRow, IsFlagRow, at_row, entry_in, id_order, no_flags, put_entry, same_id, srm, srm_in, ssn, ssn_in}
use Rattle.wire_base.specs.model.Flooding.{ask_on, mark_all, no_links, send_on, set_srm, with_row}
use Rattle.wire_base.proofs.OrderLaws.{above_differs, same_turned, same_from_tie}
use Rattle.laws_router.proofs.FlagLaws.{KeepsRow, all_rows, none_flagged}
use Rattle.laws_router.proofs.EntryLaws.{id_self, put_other}
use Rattle.domain_model.proofs.FlagLaws.{KeepsId, changed_for, rows_for}
use Rattle.laws_settle.proofs.RowSrm.{set_here}

-- whether an LSP ID has SRM or SSN on an interface
abbrev pub is_flagged : Flood → LspId → ℕ → Bool
is_flagged f id link = srm f id link || ssn f id link

-- whether a row has
abbrev row_flagged : FlagRow → ℕ → Bool
row_flagged row link = slice_index_or row.srm link false || slice_index_or row.ssn link false

abbrev first_flagged : List FlagRow → ℕ → Bool
first_flagged [] link = false
first_flagged (row ∷ rows) link = row_flagged row link

flagged_is : (rows : List FlagRow) (id : LspId) (link : ℕ) → (srm_in rows id link || ssn_in rows id link) ≡ first_flagged (rows_for id rows) link
flagged_is [] id link = refl
flagged_is (row ∷ rows) id link = by (same_id row.id id) refl (flagged_is rows id link)
  where
    by : (b : Bool) → same_id row.id id ≡ b → (srm_in rows id link || ssn_in rows id link) ≡ first_flagged (rows_for id rows) link
        → (srm_in (row ∷ rows) id link || ssn_in (row ∷ rows) id link) ≡ first_flagged (rows_for id (row ∷ rows)) link
    by true t more = rw t refl
    by false t more = rw t more

-- a row of another LSP ID leaves its flags
pub flags_other : (f : Flood) (x id : LspId) (change : FlagRow → FlagRow) (link : ℕ) → KeepsId change → same_id x id ≡ false → is_flagged (with_row f x change) id link ≡ is_flagged f id link
flags_other f x id change link keeps other =
    flagged_is (at_row (length f.up) x change f.rows) id link
    ∙ ap (λ (rows : List FlagRow). first_flagged rows link) (changed_for (length f.up) x change keeps f.rows id other)
    ∙ sym (flagged_is f.rows id link)

-- ---- a flag that is set

front_flagged : (row : FlagRow) (rows : List FlagRow) (id : LspId) (link : ℕ) → same_id row.id id ≡ true → row_flagged row link ≡ true → first_flagged (rows_for id (row ∷ rows)) link ≡ true
front_flagged row rows id link same set = rw same set

-- a change that sets a flag in the row of an LSP ID
changed_flagged : (P : FlagRow → Type 0) (n : ℕ) (x : LspId) (change : FlagRow → FlagRow) (link : ℕ) → KeepsId change → ((row : FlagRow) → P row → row_flagged (change row) link ≡ true) → (rows : List FlagRow)
    → P (no_flags n x) → AllByRecursion P rows → first_flagged (rows_for x (at_row n x change rows)) link ≡ true
changed_flagged P n x change link keeps sets [] none all = front_flagged (change (no_flags n x)) [] x link (ap (λ (i : LspId). same_id i x) (keeps (no_flags n x)) ∙ id_self x) (sets (no_flags n x) none)
changed_flagged P n x change link keeps sets (row ∷ rows) none all = by (id_order x row.id) refl (changed_flagged P n x change link keeps sets rows none all.1)
  where
    by : (o : Ordering) → id_order x row.id ≡ o → first_flagged (rows_for x (at_row n x change rows)) link ≡ true
        → first_flagged (rows_for x (match_ordering o (change (no_flags n x) ∷ row ∷ rows) (change row ∷ rows) (row ∷ at_row n x change rows))) link ≡ true
    by Less o more = front_flagged (change (no_flags n x)) (row ∷ rows) x link (ap (λ (i : LspId). same_id i x) (keeps (no_flags n x)) ∙ id_self x) (sets (no_flags n x) none)
    by Equal o more = front_flagged (change row) rows x link (ap (λ (i : LspId). same_id i x) (keeps row ∙ sym (same_from_tie x row.id o)) ∙ id_self x) (sets row all.0)
    by Greater o more = rw (same_turned row.id x ∙ above_differs x row.id (ap is_gt o)) more

-- an interface that is up, and rows that have a flag for each interface
pub record CanFlag (link : ℕ) (f : Flood) : Type 0 where
  pub up : slice_index_or f.up link false ≡ true
  pub rows : AllByRecursion (IsFlagRow f.up) f.rows

pub can_row : (link : ℕ) (f : Flood) (id : LspId) (change : FlagRow → FlagRow) → CanFlag link f → KeepsRow f.up change → CanFlag link (with_row f id change)
can_row link f id change can keeps = record {
  up = can.up;
  rows = all_rows (IsFlagRow f.up) (length f.up) id change f.rows (keeps.within (no_flags (length f.up) id) (none_flagged f.up id)) keeps.within can.rows;
}

module _ (link : ℕ) (f : Flood) (can : CanFlag link f) (id : LspId) where
  row_set : (change : FlagRow → FlagRow) → KeepsId change → ((row : FlagRow) → IsFlagRow f.up row → row_flagged (change row) link ≡ true) → is_flagged (with_row f id change) id link ≡ true
  row_set change keeps sets =
      flagged_is (at_row (length f.up) id change f.rows) id link
      ∙ changed_flagged (IsFlagRow f.up) (length f.up) id change link keeps sets f.rows (none_flagged f.up id) can.rows

  pub asked_flagged : is_flagged (with_row f id (ask_on link)) id link ≡ true
  asked_flagged = row_set (ask_on link) (λ row. refl) (λ row w. or_right _ _ (set_here row.ssn f.up link can.up w.ssn_up))

  pub sending_flagged : is_flagged (with_row f id (send_on link)) id link ≡ true
  sending_flagged = row_set (send_on link) (λ row. refl) (λ row w. or_left _ _ (set_here row.srm f.up link can.up w.srm_up))

  pub due_flagged : is_flagged (with_row f id (set_srm link true)) id link ≡ true
  due_flagged = row_set (set_srm link true) (λ row. refl) (λ row w. or_left _ _ (set_here row.srm f.up link can.up w.srm_up))

  pub marked_flagged : is_flagged (mark_all f id) id link ≡ true
  unfolding mark_all
  marked_flagged = row_set (λ row. record row { srm = f.up; ssn = no_links f }) (λ row. refl) (λ row w. or_left _ _ can.up)

pub marked_other : (f : Flood) (x id : LspId) (link : ℕ) → same_id x id ≡ false → is_flagged (mark_all f x) id link ≡ is_flagged f id link
unfolding mark_all
marked_other f x id link other = flags_other f x id (λ row. record row { srm = f.up; ssn = no_links f }) link (λ row. refl) other

-- ---- steps

-- A step keeps the flags of an LSP ID on an interface, and leaves its entry unless it has such a flag afterwards.
pub record Passes (id : LspId) (link : ℕ) (f : Flood) (es : List Entry) (g : Flood) (new : List Entry) : Type 0 where
  pub flagged : is_flagged f id link ≡ true → is_flagged g id link ≡ true
  pub entry : is_flagged g id link ≡ false → entry_in new id ≡ entry_in es id

pub unflagged : (b c : Bool) → (b ≡ true → c ≡ true) → c ≡ false → b ≡ false
unflagged true c keeps none = absurd (true≢false (sym (keeps refl) ∙ none))
unflagged false c keeps none = refl

module _ (id : LspId) (link : ℕ) where
  pub unflagged_before : (f : Flood) (es : List Entry) (g : Flood) (new : List Entry) → Passes id link f es g new → is_flagged g id link ≡ false → is_flagged f id link ≡ false
  unflagged_before f es g new p none = unflagged (is_flagged f id link) (is_flagged g id link) p.flagged none

  pub passes_same : (f : Flood) (es : List Entry) → Passes id link f es f es
  passes_same f es = record { flagged = λ t. t; entry = λ none. refl }

  pub passes_then : (f : Flood) (es : List Entry) (g : Flood) (new : List Entry) (h : Flood) (last : List Entry) → Passes id link f es g new → Passes id link g new h last → Passes id link f es h last
  passes_then f es g new h last first second = record {
    flagged = λ t. second.flagged (first.flagged t);
    entry = λ none. second.entry none ∙ first.entry (unflagged_before g new h last second none);
  }

  pub passes_flagged : (f : Flood) (es : List Entry) (g : Flood) (new : List Entry) → is_flagged g id link ≡ true → Passes id link f es g new
  passes_flagged f es g new set = record { flagged = λ t. set; entry = λ none. absurd (true≢false (sym set ∙ none)) }

  pub passes_kept : (f : Flood) (es : List Entry) (g : Flood) (new : List Entry) → is_flagged g id link ≡ is_flagged f id link → entry_in new id ≡ entry_in es id → Passes id link f es g new
  passes_kept f es g new flags entry = record { flagged = λ t. flags ∙ t; entry = λ none. entry }

  -- a row of another LSP ID
  pub passes_row : (f : Flood) (es : List Entry) (x : LspId) (change : FlagRow → FlagRow) → KeepsId change → same_id x id ≡ false → Passes id link f es (with_row f x change) es
  passes_row f es x change keeps other = passes_kept f es (with_row f x change) es (flags_other f x id change link keeps other) refl

  pub passes_row_put : (f : Flood) (es : List Entry) (e : Entry) (change : FlagRow → FlagRow) → KeepsId change → same_id e.id id ≡ false → Passes id link f es (with_row f e.id change) (put_entry e es)
  passes_row_put f es e change keeps other = passes_kept f es (with_row f e.id change) (put_entry e es) (flags_other f e.id id change link keeps other) (put_other e es id other)

  pub passes_marked : (f : Flood) (es : List Entry) (e : Entry) → same_id e.id id ≡ false → Passes id link f es (mark_all f e.id) (put_entry e es)
  passes_marked f es e other = passes_kept f es (mark_all f e.id) (put_entry e es) (marked_other f e.id id link other) (put_other e es id other)
