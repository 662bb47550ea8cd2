-- What an LSDB has of an identifier after an entry is put, and after a second.
use Rattle.std.proofs.Common.{◌≡◌, ◌∙◌, ℕ, Bool, true, false, List, [], ◌∷◌, Option, Some, if◌then◌else◌, refl, sym, ap}
use Rattle.std.proofs.lemmas.Bool.{false≢true, true≢false, and_from, eq-eqb}
use Rattle.std.specs.declared.cmp.Ordering.{Ordering}
use Rattle.std.specs.declared.cmp.Ordering.TheVariants.{Less, Equal, Greater}
use Rattle.std.specs.Ordering.{is_gt, match_ordering}
use Rattle.std.specs.List.{AllByRecursion}
use Rattle.std.specs.Str.{bytes_eq}
use Rattle.wire_base.specs.declared.addresses.LspId.{LspId}
use Rattle.wire_base.specs.declared.entry.Entry.{Entry}
use Rattle.wire_base.specs.model.Control.{same_id, id_order, entry_in, put_entry, FlagRow, HasEntry}
use Rattle.wire_base.proofs.OrderLaws.{same_is, same_from_tie, above_differs}

-- ---- equal identifiers

-- ---- entries of an identifier

-- the identifier has an entry
abbrev pub HasId : List Entry → LspId → Type 0
HasId entries id = (e : Entry) × (entry_in entries id ≡ Some e)

pub put_reads : (e : Entry) (es : List Entry) (id : LspId) → entry_in (put_entry e es) id ≡ (if same_id e.id id then Some e else entry_in es id)
put_reads e [] id = refl
put_reads e (x ∷ xs) id = cases (put_reads e xs id) (id_order e.id x.id) refl
  where
    other : (s t : Bool) → (s ≡ true → t ≡ true → ⊥) → (if t then Some x else (if s then Some e else entry_in xs id)) ≡ (if s then Some e else (if t then Some x else entry_in xs id))
    other true true h = absurd (h refl refl)
    other true false h = refl
    other false true h = refl
    other false false h = refl

    shadowed : (s t : Bool) → s ≡ t → (if s then Some e else entry_in xs id) ≡ (if s then Some e else (if t then Some x else entry_in xs id))
    shadowed true t h = refl
    shadowed false true h = absurd (false≢true h)
    shadowed false false h = refl

    cases : entry_in (put_entry e xs) id ≡ (if same_id e.id id then Some e else entry_in xs id) → (o : Ordering) → id_order e.id x.id ≡ o
        → entry_in (match_ordering o (e ∷ x ∷ xs) (e ∷ xs) (x ∷ put_entry e xs)) id ≡ (if same_id e.id id then Some e else (if same_id x.id id then Some x else entry_in xs id))
    cases again Less o = refl
    cases again Equal o = shadowed (same_id e.id id) (same_id x.id id) (ap (λ (i : LspId). same_id i id) (same_from_tie e.id x.id o))
    cases again Greater o =
        ap (λ (r : Option Entry). if same_id x.id id then Some x else r) again
        ∙ other (same_id e.id id) (same_id x.id id) (λ p q. true≢false (sym (ap (λ (i : LspId). same_id e.id i) (same_is x.id id q) ∙ p) ∙ above_differs e.id x.id (ap is_gt o)))

pub bytes_self : (xs : List ℕ) → bytes_eq xs xs ≡ true
bytes_self [] = refl
bytes_self (x ∷ xs) = and_from _ _ (eq-eqb x x refl) (bytes_self xs)

pub id_self : (id : LspId) → same_id id id ≡ true
id_self id = and_from _ _ (bytes_self id.system.0) (and_from _ _ (eq-eqb id.pseudonode id.pseudonode refl) (eq-eqb id.fragment id.fragment refl))

pub put_has : (e : Entry) (es : List Entry) → HasId (put_entry e es) e.id
put_has e es = (e, put_reads e es e.id ∙ ap (λ (b : Bool). if b then Some e else entry_in es e.id) (id_self e.id))

pub put_keeps : (e : Entry) (es : List Entry) (id : LspId) → HasId es id → HasId (put_entry e es) id
put_keeps e es id (x, is) = cases (same_id e.id id) refl
  where
    cases : (b : Bool) → same_id e.id id ≡ b → HasId (put_entry e es) id
    cases true h = (e, put_reads e es id ∙ ap (λ (c : Bool). if c then Some e else entry_in es id) h)
    cases false h = (x, put_reads e es id ∙ ap (λ (c : Bool). if c then Some e else entry_in es id) h ∙ is)

pub rows_named : (old new : List Entry) (rows : List FlagRow) → ((id : LspId) → HasId old id → HasId new id) → AllByRecursion (HasEntry old) rows → AllByRecursion (HasEntry new) rows
rows_named old new [] more all = tt
rows_named old new (row ∷ rows) more all = (more row.id all.0, rows_named old new rows more all.1)

-- another entry keeps it
pub put_other : (e : Entry) (es : List Entry) (id : LspId) → same_id e.id id ≡ false → entry_in (put_entry e es) id ≡ entry_in es id
put_other e es id h = put_reads e es id ∙ ap (λ (c : Bool). if c then Some e else entry_in es id) h

pub all_put : (P : Entry → Type 0) (e : Entry) (es : List Entry) → P e → AllByRecursion P es → AllByRecursion P (put_entry e es)
all_put P e [] h all = (h, tt)
all_put P e (x ∷ xs) h all = cases (all_put P e xs h all.1) (id_order e.id x.id)
  where
    cases : AllByRecursion P (put_entry e xs) → (o : Ordering) → AllByRecursion P (match_ordering o (e ∷ x ∷ xs) (e ∷ xs) (x ∷ put_entry e xs))
    cases rest Less = (h, all)
    cases rest Equal = (h, all.1)
    cases rest Greater = (all.0, rest)

-- each entry of a list has its identifier
pub one_more : (x : Entry) (es : List Entry) (id : LspId) → HasId es id → HasId (x ∷ es) id
one_more x es id (e, is) = cases (same_id x.id id)
  where
    cases : (b : Bool) → (y : Entry) × ((if b then Some x else entry_in es id) ≡ Some y)
    cases true = (x, refl)
    cases false = (e, is)

pub first_has : (x : Entry) (es : List Entry) → HasId (x ∷ es) x.id
first_has x es = (x, ap (λ (b : Bool). if b then Some x else entry_in es x.id) (id_self x.id))

all_have_more : (x : Entry) (es ys : List Entry) → AllByRecursion (λ e. HasId es e.id) ys → AllByRecursion (λ e. HasId (x ∷ es) e.id) ys
all_have_more x es [] all = tt
all_have_more x es (y ∷ ys) all = (one_more x es y.id all.0, all_have_more x es ys all.1)

pub all_have : (es : List Entry) → AllByRecursion (λ e. HasId es e.id) es
all_have [] = tt
all_have (x ∷ xs) = (first_has x xs, all_have_more x xs xs (all_have xs))
