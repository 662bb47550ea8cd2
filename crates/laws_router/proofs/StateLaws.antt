-- What links that come up and go down, a second, a start and the router's own LSP keep.
use Rattle.std.proofs.Common.{◌≡◌, ◌∙◌, ℕ, ◌-◌, ◌<◌, ◌≤◌, Bool, true, false, List, [], ◌∷◌, ◌++◌, length, set, get_or, Option, Some, None, if◌then◌else◌, nat_lt, refl, sym, ap, subst, append_assoc, length-set, arith}
use Rattle.std.specs.Prelude.{option_to_list}
use Rattle.std.proofs.lemmas.Bool.{false≢true, true≢false}
use Rattle.std.proofs.lemmas.List.{get_or-set_same}
use Rattle.std.specs.List.{AllByRecursion, fold, filter_map, cons_option}
use Rattle.wire_base.specs.declared.addresses.SystemId.{SystemId}
use Rattle.wire_base.specs.declared.addresses.LspId.{LspId}
use Rattle.wire_base.specs.declared.entry.Aged.{Aged}
use Rattle.wire_base.specs.declared.entry.Aged.TheVariants.{Live, Expired, Held, Removed}
use Rattle.wire_base.specs.declared.entry.Entry.{Entry}
use Rattle.wire_base.specs.model.Control.{same_id, is_below, AreAscending, fragment_0, entry_in, put_entry, purge, aged, aged_to, after_second, FlagRow, without_row, Flood, IsFlagRow, HasEntry}
use Rattle.wire_base.specs.model.Flooding.{with_row, mark_all, forget, set_srm, clear_both, clear_ssn, send_known, link_up, link_down, sent_on, new_flood, flags_aged, flood_aged}
use Rattle.wire_base.proofs.OrderLaws.{below_differs, same_turned, same_is}
use Rattle.laws_router.specs.State.{IsShort}
use Rattle.laws_router.proofs.EntryLaws.{HasId, id_self, put_reads, put_has, put_keeps, rows_named, all_put, all_have}
use Rattle.laws_router.proofs.FlagLaws.{keeps_srm, flag_cleared, link_opened, both_set, both_cleared, row_ids, ids_kept, each_changed, all_left, left_ascend, within_self}
use Rattle.laws_router.specs.Kept.{Kept}
use Rattle.laws_router.proofs.KeptLaws.{row_kept, mark_kept}

-- ---- links

all_more : {X : Type 0} (P Q : X → Type 0) (xs : List X) → ((x : X) → P x → Q x) → AllByRecursion P xs → AllByRecursion Q xs
all_more P Q [] more all = tt
all_more P Q (x ∷ xs) more all = (more x all.0, all_more P Q xs more all.1)

known_kept : (own : SystemId) (up : List Bool) (spent : Bool) (link : ℕ) → get_or up link false ≡ true → (es ys : List Entry) (f : Flood) → Kept own up spent f es → AllByRecursion (λ e. HasId es e.id) ys → Kept own up spent (fold (send_known link) f ys) es
known_kept own up spent link open_ es [] f k all = k
known_kept own up spent link open_ es (y ∷ ys) f k all = known_kept own up spent link open_ es ys (send_known link f y) (cases (nat_lt 0 y.seq)) all.1
  where
    cases : (b : Bool) → Kept own up spent (if b then with_row f y.id (set_srm link true) else f) es
    cases true = row_kept own up spent f es y.id (set_srm link true) k all.0 (keeps_srm f.up link (ap (λ (l : List Bool). get_or l link false) k.up_is ∙ open_))
    cases false = k

pub up_kept : (own : SystemId) (up : List Bool) (spent : Bool) (f : Flood) (es : List Entry) (link : ℕ) → Kept own up spent f es → link < length up → Kept own (set up link true) spent (link_up f es link) es
unfolding link_up
up_kept own up spent f es link k lt =
    known_kept own (set up link true) spent link (get_or-set_same up link true false lt) es es (record f { up = set f.up link true; due = set f.due link true })
    (record {
      own_is = k.own_is;
      up_is = ap (λ (l : List Bool). set l link true) k.up_is;
      flood = record {
        few = omega (arith, length-set f.up link true, k.flood.few);
        due_up = both_set f.due f.up link k.flood.due_up;
        rows = all_more (IsFlagRow f.up) (IsFlagRow (set f.up link true)) f.rows (λ row w. record { srm_up = link_opened row.srm f.up link w.srm_up; ssn_up = link_opened row.ssn f.up link w.ssn_up }) k.flood.rows;
        in_order = k.flood.in_order;
      };
      flagged = k.flagged;
      short = k.short;
      stands = k.stands;
    })
    (all_have es)

pub down_kept : (own : SystemId) (up : List Bool) (spent : Bool) (f : Flood) (es : List Entry) (link : ℕ) → Kept own up spent f es → Kept own (set up link false) spent (link_down f link) es
unfolding link_down
down_kept own up spent f es link k =
    record {
      own_is = k.own_is;
      up_is = ap (λ (l : List Bool). set l link false) k.up_is;
      flood = record {
        few = omega (arith, length-set f.up link false, k.flood.few);
        due_up = both_cleared f.due f.up link k.flood.due_up;
        rows = each_changed (IsFlagRow f.up) (IsFlagRow (set f.up link false)) (clear_both link) f.rows (λ row w. record { srm_up = both_cleared row.srm f.up link w.srm_up; ssn_up = both_cleared row.ssn f.up link w.ssn_up }) k.flood.rows;
        in_order = subst AreAscending (sym (ids_kept (clear_both link) f.rows (λ row. refl))) k.flood.in_order;
      };
      flagged = each_changed (HasEntry es) (HasEntry es) (clear_both link) f.rows (λ row h. h) k.flagged;
      short = k.short;
      stands = k.stands;
    }

pub sent_kept : (own : SystemId) (up : List Bool) (spent : Bool) (f : Flood) (es : List Entry) (link : ℕ) → Kept own up spent f es → Kept own up spent (sent_on f link) es
unfolding sent_on
sent_kept own up spent f es link k =
    record {
      own_is = k.own_is;
      up_is = k.up_is;
      flood = record {
        few = k.flood.few;
        due_up = flag_cleared f.due f.up link k.flood.due_up;
        rows = each_changed (IsFlagRow f.up) (IsFlagRow f.up) (clear_ssn link) f.rows (λ row w. record { srm_up = w.srm_up; ssn_up = flag_cleared row.ssn f.up link w.ssn_up }) k.flood.rows;
        in_order = subst AreAscending (sym (ids_kept (clear_ssn link) f.rows (λ row. refl))) k.flood.in_order;
      };
      flagged = each_changed (HasEntry es) (HasEntry es) (clear_ssn link) f.rows (λ row h. h) k.flagged;
      short = k.short;
      stands = k.stands;
    }

-- ---- the own LSP

-- it is put and marked; where the router isn't spent then, it is live
pub issue_kept : (own : SystemId) (up : List Bool) (spent now : Bool) (f : Flood) (es : List Entry) (e : Entry)
    → Kept own up spent f es → e.id ≡ fragment_0 own → IsShort e → (now ≡ false → 300 < e.life) → Kept own up now (mark_all f e.id) (put_entry e es)
issue_kept own up spent now f es e k is short live = mark_kept own up now f (put_entry e es) e.id put (put_has e es)
  where
    put : Kept own up now f (put_entry e es)
    put = record {
      own_is = k.own_is;
      up_is = k.up_is;
      flood = k.flood;
      flagged = rows_named es (put_entry e es) f.rows (λ id. put_keeps e es id) k.flagged;
      short = all_put IsShort e es short k.short;
      stands = λ unspent. (e, (put_reads e es (fragment_0 own) ∙ ap (λ (b : Bool). if b then Some e else entry_in es (fragment_0 own)) (ap (λ (i : LspId). same_id e.id i) (sym is) ∙ id_self e.id), live unspent));
    }

-- nothing is known at first
pub new_kept : (own : SystemId) (up : List Bool) → length up ≤ 64 → Kept own up true (new_flood own up) []
unfolding new_flood
new_kept own up few =
    record {
      own_is = refl;
      up_is = refl;
      flood = record { few = few; due_up = within_self up; rows = tt; in_order = tt };
      flagged = tt;
      short = tt;
      stands = λ h. absurd (true≢false h);
    }

-- ---- a second

-- what holds of a list where one is taken out of it, or another stands in its place
all_swapped : (P : Entry → Type 0) (done : List Entry) (e x : Entry) (es : List Entry) → (P e → P x) → AllByRecursion P (done ++ e ∷ es) → AllByRecursion P (done ++ x ∷ es)
all_swapped P [] e x es more all = (more all.0, all.1)
all_swapped P (d ∷ done) e x es more all = (all.0, all_swapped P done e x es more all.1)

all_without : (P : Entry → Type 0) (done : List Entry) (e : Entry) (es : List Entry) → AllByRecursion P (done ++ e ∷ es) → AllByRecursion P (done ++ es)
all_without P [] e es all = all.1
all_without P (d ∷ done) e es all = (all.0, all_without P done e es all.1)

has_swapped : (done : List Entry) (e x : Entry) (es : List Entry) (id : LspId) → x.id ≡ e.id → HasId (done ++ e ∷ es) id → HasId (done ++ x ∷ es) id
has_swapped [] e x es id is h = cases (same_id e.id id) (same_id x.id id) (ap (λ (i : LspId). same_id i id) is) h
  where
    cases : (s t : Bool) → t ≡ s → (y : Entry) × ((if s then Some e else entry_in es id) ≡ Some y) → (y : Entry) × ((if t then Some x else entry_in es id) ≡ Some y)
    cases s true q h = (x, refl)
    cases true false q h = absurd (false≢true q)
    cases false false q h = h
has_swapped (d ∷ done) e x es id is h = cases (has_swapped done e x es id is) (same_id d.id id) h
  where
    cases : (HasId (done ++ e ∷ es) id → HasId (done ++ x ∷ es) id) → (s : Bool) → (y : Entry) × ((if s then Some d else entry_in (done ++ e ∷ es) id) ≡ Some y) → (y : Entry) × ((if s then Some d else entry_in (done ++ x ∷ es) id) ≡ Some y)
    cases again true h = h
    cases again false h = again h

has_without : (done : List Entry) (e : Entry) (es : List Entry) (id : LspId) → same_id e.id id ≡ false → HasId (done ++ e ∷ es) id → HasId (done ++ es) id
has_without [] e es id other h = cases (same_id e.id id) other h
  where
    cases : (s : Bool) → s ≡ false → (y : Entry) × ((if s then Some e else entry_in es id) ≡ Some y) → HasId es id
    cases true q h = absurd (true≢false q)
    cases false q h = h
has_without (d ∷ done) e es id other h = cases (has_without done e es id other) (same_id d.id id) h
  where
    cases : (HasId (done ++ e ∷ es) id → HasId (done ++ es) id) → (s : Bool) → (y : Entry) × ((if s then Some d else entry_in (done ++ e ∷ es) id) ≡ Some y) → (y : Entry) × ((if s then Some d else entry_in (done ++ es) id) ≡ Some y)
    cases again true h = h
    cases again false h = again h

-- the rows that are left have other identifiers
left_named : (P Q : LspId → Type 0) (id : LspId) (rows : List FlagRow) → AreAscending (row_ids rows) → ((i : LspId) → same_id i id ≡ false → P i → Q i) → AllByRecursion (λ row. P row.id) rows → AllByRecursion (λ row. Q row.id) (without_row id rows)
left_named P Q id [] asc more all = tt
left_named P Q id (row ∷ rows) asc more all = cases (same_id row.id id) refl (left_named P Q id rows asc.1 more all.1)
  where
    above : (rest : List FlagRow) → AllByRecursion (λ z. is_below id z ≡ true) (row_ids rest) → AllByRecursion (λ r. P r.id) rest → AllByRecursion (λ r. Q r.id) rest
    above [] low all = tt
    above (r ∷ rest) low all = (more r.id (same_turned r.id id ∙ below_differs id r.id low.0) all.0, above rest low.1 all.1)

    cases : (b : Bool) → same_id row.id id ≡ b → AllByRecursion (λ r. Q r.id) (without_row id rows) → AllByRecursion (λ r. Q r.id) (if b then rows else row ∷ without_row id rows)
    cases true h rest =
        let P' : LspId → Type 0 = λ i. AllByRecursion (λ z. is_below i z ≡ true) (row_ids rows) in
        above rows (subst P' (same_is row.id id h) asc.0) all.1
    cases false h rest = (more row.id h all.0, rest)

-- one entry is a second older
aged_one : (own : SystemId) (up : List Bool) (f : Flood) (done : List Entry) (e : Entry) (es : List Entry) (a : Aged) → Kept own up true f (done ++ e ∷ es) → Kept own up true (flags_aged f e.id a) (done ++ (option_to_list (aged_to a e) ++ es))
unfolding forget
aged_one own up f done e es Live k =
    record {
      own_is = k.own_is;
      up_is = k.up_is;
      flood = k.flood;
      flagged = rows_named (done ++ e ∷ es) (done ++ record e { life = e.life - 1 } ∷ es) f.rows (λ id. has_swapped done e (record e { life = e.life - 1 }) es id refl) k.flagged;
      short = all_swapped IsShort done e (record e { life = e.life - 1 }) es (λ h. h) k.short;
      stands = λ h. absurd (true≢false h);
    }
aged_one own up f done e es Expired k =
    mark_kept own up true f (done ++ purge e.id e.seq ∷ es) e.id
    (record {
      own_is = k.own_is;
      up_is = k.up_is;
      flood = k.flood;
      flagged = rows_named (done ++ e ∷ es) (done ++ purge e.id e.seq ∷ es) f.rows (λ id. has_swapped done e (purge e.id e.seq) es id refl) k.flagged;
      short = all_swapped IsShort done e (purge e.id e.seq) es (λ h. omega arith) k.short;
      stands = λ h. absurd (true≢false h);
    })
    (there done)
  where
    there : (done : List Entry) → HasId (done ++ purge e.id e.seq ∷ es) e.id
    there [] = (purge e.id e.seq, ap (λ (b : Bool). if b then Some (purge e.id e.seq) else entry_in es e.id) (id_self e.id))
    there (d ∷ done) = cases (same_id d.id e.id) (there done)
      where
        cases : (s : Bool) → HasId (done ++ purge e.id e.seq ∷ es) e.id → (y : Entry) × ((if s then Some d else entry_in (done ++ purge e.id e.seq ∷ es) e.id) ≡ Some y)
        cases true h = (d, refl)
        cases false h = h
aged_one own up f done e es Held k =
    record {
      own_is = k.own_is;
      up_is = k.up_is;
      flood = k.flood;
      flagged = rows_named (done ++ e ∷ es) (done ++ record e { hold = e.hold - 1 } ∷ es) f.rows (λ id. has_swapped done e (record e { hold = e.hold - 1 }) es id refl) k.flagged;
      short = all_swapped IsShort done e (record e { hold = e.hold - 1 }) es (λ h. h) k.short;
      stands = λ h. absurd (true≢false h);
    }
aged_one own up f done e es Removed k = gone
  where
    gone : Kept own up true (forget f e.id) (done ++ es)
    gone =
        record {
          own_is = k.own_is;
          up_is = k.up_is;
          flood = record {
            few = k.flood.few;
            due_up = k.flood.due_up;
            rows = all_left (IsFlagRow f.up) e.id f.rows k.flood.rows;
            in_order = left_ascend e.id f.rows k.flood.in_order;
          };
          flagged = left_named (λ i. HasId (done ++ e ∷ es) i) (λ i. HasId (done ++ es) i) e.id f.rows k.flood.in_order (λ i other h. has_without done e es i (same_turned e.id i ∙ other) h) k.flagged;
          short = all_without IsShort done e es k.short;
          stands = λ h. absurd (true≢false h);
        }

moved : (done : List Entry) (o : Option Entry) (es : List Entry) → done ++ (option_to_list o ++ es) ≡ (done ++ option_to_list o) ++ es
moved done o es = sym (append_assoc done (option_to_list o) es)

one_aged : (done : List Entry) (o : Option Entry) (es : List Entry) → (done ++ option_to_list o) ++ es ≡ done ++ cons_option o es
one_aged done None es = append_assoc done [] es
one_aged done (Some x) es = append_assoc done (x ∷ []) es

aged_kept : (own : SystemId) (up : List Bool) (rest done : List Entry) (f : Flood) → Kept own up true f (done ++ rest) → Kept own up true (fold flood_aged f rest) (done ++ filter_map after_second rest)
aged_kept own up [] done f k = k
aged_kept own up (e ∷ es) done f k =
    let one : Kept own up true (flood_aged f e) ((done ++ option_to_list (after_second e)) ++ es) = subst (λ (l : List Entry). Kept own up true (flood_aged f e) l) (moved done (after_second e) es) (aged_one own up f done e es (aged e) k) in
    subst (λ (l : List Entry). Kept own up true (fold flood_aged (flood_aged f e) es) l) (one_aged done (after_second e) (filter_map after_second es)) (aged_kept own up es (done ++ option_to_list (after_second e)) (flood_aged f e) one)

pub all_aged : (own : SystemId) (up : List Bool) (spent : Bool) (f : Flood) (es : List Entry) → Kept own up spent f es → Kept own up true (fold flood_aged f es) (filter_map after_second es)
all_aged own up spent f es k =
    aged_kept own up es [] f
    (record { own_is = k.own_is; up_is = k.up_is; flood = k.flood; flagged = k.flagged; short = k.short; stands = λ h. absurd (true≢false h) })
