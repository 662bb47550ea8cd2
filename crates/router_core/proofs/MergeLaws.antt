-- What the rows of flags find in an LSDB, in their order, is what its entries find among the rows.
use Rattle.std.proofs.Common.{◌≡◌, ◌∙◌, ℕ, zero, suc, ◌+◌, ◌<◌, Bool, true, false, not, List, [], ◌∷◌, ◌++◌, length, drop, slice_get, ◌≤◌, get_or, map, filter, Option, Some, None, IfSome, option_map, if◌then◌else◌, refl, sym, ap, subst, append_assoc, arith}
use Rattle.std.proofs.lemmas.List.{append-nil, drop_all}
use Rattle.std.proofs.lemmas.Simd.{map-map}
use Rattle.std.specs.List.{AllByRecursion, flat_map, position_or_len}
use Rattle.wire_base.specs.declared.addresses.LspId.{LspId}
use Rattle.wire_base.specs.declared.entry.Entry.{Entry}
use Rattle.wire_base.specs.model.Control.{AreAscending, ids_of, is_below, same_id, entry_in, FlagRow, HasEntry, srm_in, ssn_in}
use Rattle.wire_base.proofs.OrderLaws.{below_trans, below_differs, same_turned, same_is}
use Rattle.wire_base.specs.declared.conf.RouterConf.{RouterConf}
use Rattle.wire_base.specs.declared.effects.Sent.{Sent}
use Rattle.wire_base.specs.model.Control.{summary_of}
use Rattle.wire_base.specs.model.Tlv.{row}
use Rattle.router_core.specs.Sending.{entry_frames, entry_row, found, found_at, lsp_frames, row_asked, row_frames, row_ids}
use Rattle.laws_router.proofs.EntryLaws.{HasId}

-- ---- one row after the other

pub next_row : {X Y : Type 0} → (f : X → List Y) (xs : List X) (i j : ℕ) (out new total : List Y) → i < length xs → j ≡ i + 1 → IfSome (slice_get xs i) (λ x. new ≡ out ++ f x) → out ++ flat_map f (drop i xs) ≡ total → new ++ flat_map f (drop j xs) ≡ total
next_row f [] i j out new total lt next one so = absurd (omega (arith, lt))
next_row f (x ∷ xs) i zero out new total lt next one so = absurd (omega (arith, next))
next_row f (x ∷ xs) zero (suc k) out new total lt next one so =
    let none : k ≡ 0 = omega (arith, next) in
    ap (λ m. new ++ flat_map f (drop m xs)) none ∙ ap (λ l. l ++ flat_map f xs) one ∙ append_assoc out (f x) (flat_map f xs) ∙ so
next_row f (x ∷ xs) (suc i) (suc k) out new total lt next one so = next_row f xs i k out new total (omega (arith, lt)) (omega (arith, next)) one so

-- ---- rows that are passed over

-- what is found from a place on passes
pub landed : {X : Type 0} → (test : X → Bool) (xs : List X) (i j : ℕ) → j ≡ i + position_or_len test (drop i xs) → IfSome (slice_get xs j) (λ x. test x ≡ true)
landed test [] i zero is = tt
landed test [] i (suc j) is = tt
landed test (x ∷ xs) (suc i) zero is = absurd (omega (arith, is))
landed test (x ∷ xs) (suc i) (suc j) is = landed test xs i j (omega (arith, is))
landed test (x ∷ xs) zero j is = here (λ k at. landed test xs zero k at) (test x) refl j is
  where
    here : ((k : ℕ) → k ≡ 0 + position_or_len test xs → IfSome (slice_get xs k) (λ y. test y ≡ true)) → (b : Bool) → test x ≡ b → (j : ℕ) → j ≡ 0 + (if not b then 1 + position_or_len test xs else 0) → IfSome (slice_get (x ∷ xs) j) (λ y. test y ≡ true)
    here later true e zero at = e
    here later true e (suc j) at = absurd (omega (arith, at))
    here later false e zero at = absurd (omega (arith, at))
    here later false e (suc j) at = later j (omega (arith, at))

-- and those before add nothing
skipped : {X Y : Type 0} → (test : X → Bool) (f : X → List Y) → ((x : X) → test x ≡ false → f x ≡ []) → (xs : List X) (i j : ℕ) → j ≡ i + position_or_len test (drop i xs) → flat_map f (drop j xs) ≡ flat_map f (drop i xs)
skipped test f none [] zero zero is = refl
skipped test f none [] zero (suc j) is = refl
skipped test f none [] (suc i) zero is = refl
skipped test f none [] (suc i) (suc j) is = refl
skipped test f none (x ∷ xs) (suc i) zero is = absurd (omega (arith, is))
skipped test f none (x ∷ xs) (suc i) (suc j) is = skipped test f none xs i j (omega (arith, is))
skipped test f none (x ∷ xs) zero j is = here (λ k at. skipped test f none xs zero k at) (test x) refl j is
  where
    here : ((k : ℕ) → k ≡ 0 + position_or_len test xs → flat_map f (drop k xs) ≡ flat_map f xs) → (b : Bool) → test x ≡ b → (j : ℕ) → j ≡ 0 + (if not b then 1 + position_or_len test xs else 0) → flat_map f (drop j (x ∷ xs)) ≡ f x ++ flat_map f xs
    here later true e zero at = refl
    here later true e (suc j) at = absurd (omega (arith, at))
    here later false e zero at = absurd (omega (arith, at))
    here later false e (suc j) at = later j (omega (arith, at)) ∙ ap (λ l. l ++ flat_map f xs) (sym (none x e))

-- ---- the merge

abbrev IsAbove : LspId → List LspId → Type 0
IsAbove id ids = AllByRecursion (λ z. is_below id z ≡ true) ids

-- whether an identifier's row is picked
abbrev picked_in : (FlagRow → Bool) → List FlagRow → LspId → Bool
picked_in pick [] id = false
picked_in pick (row ∷ rows) id = if same_id row.id id then pick row else picked_in pick rows id

all_above : (a b : LspId) (ids : List LspId) → is_below a b ≡ true → IsAbove b ids → IsAbove a ids
all_above a b [] low all = tt
all_above a b (x ∷ xs) low all = (below_trans a b x low all.0, all_above a b xs low all.1)

entry_above : (id : LspId) (es : List Entry) (x : LspId) → IsAbove id (ids_of es) → HasId es x → is_below id x ≡ true
entry_above id [] x all (e, is) = cc
entry_above id (y ∷ ys) x all (e, is) = cases (λ h. entry_above id ys x all.1 h) (same_id y.id x) refl is
  where
    cases : (HasId ys x → is_below id x ≡ true) → (b : Bool) → same_id y.id x ≡ b → (if b then Some y else entry_in ys x) ≡ Some e → is_below id x ≡ true
    cases more true same q = ap (λ (i : LspId). is_below id i) (sym (same_is y.id x same)) ∙ all.0
    cases more false same q = more (e, q)

module _ {X : Type 0} (pick : FlagRow → Bool) (f : Entry → List X) where
  abbrev by_entry : List FlagRow → Entry → List X
  by_entry rows e = if picked_in pick rows e.id then f e else []

  abbrev by_row : List Entry → FlagRow → List X
  by_row es row = if pick row then found f (entry_in es row.id) else []

  none_picked : (id : LspId) (rows : List FlagRow) → IsAbove id (row_ids rows) → picked_in pick rows id ≡ false
  none_picked id [] all = refl
  none_picked id (row ∷ rows) all = ap (λ (b : Bool). if b then pick row else picked_in pick rows id) (same_turned row.id id ∙ below_differs id row.id all.0) ∙ none_picked id rows all.1

  skip_entry : (e : Entry) (es : List Entry) (rows : List FlagRow) → IsAbove e.id (row_ids rows) → flat_map (by_row es) rows ≡ flat_map (by_row (e ∷ es)) rows
  skip_entry e es [] all = refl
  skip_entry e es (row ∷ rows) all =
      ap (λ (b : Bool). (if pick row then found f (if b then Some e else entry_in es row.id) else []) ++ flat_map (by_row es) rows) (sym (below_differs e.id row.id all.0))
      ∙ ap (λ (l : List X). by_row (e ∷ es) row ++ l) (skip_entry e es rows all.1)

  skip_row : (row : FlagRow) (rows : List FlagRow) (es : List Entry) → IsAbove row.id (ids_of es) → flat_map (by_entry (row ∷ rows)) es ≡ flat_map (by_entry rows) es
  skip_row row rows [] all = refl
  skip_row row rows (e ∷ es) all =
      ap (λ (b : Bool). (if (if b then pick row else picked_in pick rows e.id) then f e else []) ++ flat_map (by_entry (row ∷ rows)) es) (below_differs row.id e.id all.0)
      ∙ ap (λ (l : List X). by_entry rows e ++ l) (skip_row row rows es all.1)

  still_has : (e : Entry) (es : List Entry) (rows : List FlagRow) → IsAbove e.id (row_ids rows) → AllByRecursion (HasEntry (e ∷ es)) rows → AllByRecursion (HasEntry es) rows
  still_has e es [] above all = tt
  still_has e es (row ∷ rows) above all = (subst (λ (b : Bool). (x : Entry) × ((if b then Some e else entry_in es row.id) ≡ Some x)) (below_differs e.id row.id above.0) all.0, still_has e es rows above.1 all.1)

  pub merged : (es : List Entry) (rows : List FlagRow) → AreAscending (ids_of es) → AreAscending (row_ids rows) → AllByRecursion (HasEntry es) rows → flat_map (by_entry rows) es ≡ flat_map (by_row es) rows
  merged [] [] asc order all = refl
  merged [] (row ∷ rows) asc order all = absurd (none all.0)
    where
      none : (e : Entry) × (entry_in [] row.id ≡ Some e) → ⊥
      none (e, q) = cc
  merged (e ∷ es) [] asc order all = merged es [] asc.1 tt tt
  merged (e ∷ es) (row ∷ rows) asc order all = cases (λ h. merged es rows asc.1 order.1 h) (λ h. merged es (row ∷ rows) asc.1 order h) (same_id e.id row.id) refl
    where
      cases : (AllByRecursion (HasEntry es) rows → flat_map (by_entry rows) es ≡ flat_map (by_row es) rows) → (AllByRecursion (HasEntry es) (row ∷ rows) → flat_map (by_entry (row ∷ rows)) es ≡ flat_map (by_row es) (row ∷ rows))
          → (b : Bool) → same_id e.id row.id ≡ b → by_entry (row ∷ rows) e ++ flat_map (by_entry (row ∷ rows)) es ≡ by_row (e ∷ es) row ++ flat_map (by_row (e ∷ es)) rows
      cases both later true same =
          let at : e.id ≡ row.id = same_is e.id row.id same in
          let over : IsAbove e.id (row_ids rows) = subst (λ (i : LspId). IsAbove i (row_ids rows)) (sym at) order.0 in
          let past : IsAbove row.id (ids_of es) = subst (λ (i : LspId). IsAbove i (ids_of es)) at asc.0 in
          let rest : flat_map (by_entry (row ∷ rows)) es ≡ flat_map (by_row (e ∷ es)) rows =
          skip_row row rows es past ∙ both (still_has e es rows over all.1) ∙ skip_entry e es rows over in
          ap (λ (b : Bool). (if (if b then pick row else picked_in pick rows e.id) then f e else []) ++ flat_map (by_entry (row ∷ rows)) es) (same_turned row.id e.id ∙ same)
          ∙ ap (λ (l : List X). (if pick row then f e else []) ++ l) rest
          ∙ ap (λ (b : Bool). (if pick row then found f (if b then Some e else entry_in es row.id) else []) ++ flat_map (by_row (e ∷ es)) rows) (sym same)
      cases both later false same =
          let there : HasId es row.id = subst (λ (b : Bool). (x : Entry) × ((if b then Some e else entry_in es row.id) ≡ Some x)) same all.0 in
          let low : is_below e.id row.id ≡ true = entry_above e.id es row.id asc.0 there in
          let over : IsAbove e.id (row_ids (row ∷ rows)) = (low, all_above e.id row.id (row_ids rows) low order.0) in
          ap (λ (b : Bool). (if b then f e else []) ++ flat_map (by_entry (row ∷ rows)) es) (none_picked e.id (row ∷ rows) over)
          ∙ later (still_has e es (row ∷ rows) over all)
          ∙ skip_entry e es (row ∷ rows) over

-- ---- the flags of one link

srm_picked : (rows : List FlagRow) (link : ℕ) (id : LspId) → srm_in rows id link ≡ picked_in (λ row. get_or row.srm link false) rows id
srm_picked [] link id = refl
srm_picked (row ∷ rows) link id = ap (λ (b : Bool). if same_id row.id id then get_or row.srm link false else b) (srm_picked rows link id)

ssn_picked : (rows : List FlagRow) (link : ℕ) (id : LspId) → ssn_in rows id link ≡ picked_in (λ row. get_or row.ssn link false) rows id
ssn_picked [] link id = refl
ssn_picked (row ∷ rows) link id = ap (λ (b : Bool). if same_id row.id id then get_or row.ssn link false else b) (ssn_picked rows link id)

each_same : {X Y : Type 0} → (f g : X → List Y) (xs : List X) → ((x : X) → f x ≡ g x) → flat_map f xs ≡ flat_map g xs
each_same f g [] same = refl
each_same f g (x ∷ xs) same = ap (λ l. l ++ flat_map f xs) (same x) ∙ ap (λ l. g x ++ l) (each_same f g xs same)

module _ {X : Type 0} (f : Entry → List X) (es : List Entry) (rows : List FlagRow) (link : ℕ) (asc : AreAscending (ids_of es)) (order : AreAscending (row_ids rows)) (all : AllByRecursion (HasEntry es) rows) where
  pub sent_found : flat_map (λ e. if srm_in rows e.id link then f e else []) es ≡ flat_map (λ row. found_at f es row.id (get_or row.srm link false)) rows
  sent_found =
      each_same (λ e. if srm_in rows e.id link then f e else []) (λ e. if picked_in (λ row. get_or row.srm link false) rows e.id then f e else []) es (λ e. ap (λ (b : Bool). if b then f e else []) (srm_picked rows link e.id))
      ∙ merged (λ row. get_or row.srm link false) f es rows asc order all

  pub asked_found : flat_map (λ e. if ssn_in rows e.id link then f e else []) es ≡ flat_map (λ row. found_at f es row.id (get_or row.ssn link false)) rows
  asked_found =
      each_same (λ e. if ssn_in rows e.id link then f e else []) (λ e. if picked_in (λ row. get_or row.ssn link false) rows e.id then f e else []) es (λ e. ap (λ (b : Bool). if b then f e else []) (ssn_picked rows link e.id))
      ∙ merged (λ row. get_or row.ssn link false) f es rows asc order all

filtered : {X : Type 0} → (g : Entry → X) (p : Entry → Bool) (xs : List Entry) → map g (filter p xs) ≡ flat_map (λ e. if p e then g e ∷ [] else []) xs
filtered g p [] = refl
filtered g p (x ∷ xs) = cases (p x) (filtered g p xs)
  where
    cases : (b : Bool) → map g (filter p xs) ≡ flat_map (λ e. if p e then g e ∷ [] else []) xs → map g (if b then x ∷ filter p xs else filter p xs) ≡ (if b then g x ∷ [] else []) ++ flat_map (λ e. if p e then g e ∷ [] else []) xs
    cases true rest = ap (λ l. g x ∷ l) rest
    cases false rest = rest

-- ---- the steps of the code

pub entry_all : (P : Entry → Type 0) (es : List Entry) (id : LspId) → AllByRecursion P es → IfSome (entry_in es id) P
entry_all P [] id all = tt
entry_all P (e ∷ es) id all = cases (entry_all P es id all.1) (same_id e.id id)
  where
    cases : IfSome (entry_in es id) P → (b : Bool) → IfSome (if b then Some e else entry_in es id) P
    cases more true = all.0
    cases more false = more

-- what holds of a reference's entry, where there is one
pub mapped_some : {B : Type 0} → (f : B → Entry) (P : Entry → Type 0) (o : Option B) (m : Option Entry) → option_map f o ≡ m → IfSome m P → IfSome o (λ b. P (f b))
mapped_some f P None m q h = tt
mapped_some f P (Some b) m q h = subst (λ (x : Option Entry). IfSome x P) (sym q) h

found_row : {X : Type 0} → (f : Entry → List X) (es : List Entry) (flag : FlagRow → Bool) (id : LspId) (out new : List X) (o : Option FlagRow) → IfSome o (λ row. flag row ≡ true) → IfSome o (λ row. id ≡ row.id) → new ≡ out ++ found f (entry_in es id) → IfSome o (λ row. new ≡ out ++ found_at f es row.id (flag row))
found_row f es flag id out new None has says is = tt
found_row f es flag id out new (Some row) has says is = is ∙ ap (λ (i : LspId). out ++ found f (entry_in es i)) says ∙ ap (λ (b : Bool). out ++ found_at f es row.id b) (sym has)

module _ (es : List Entry) (rows : List FlagRow) (link : ℕ) where
  abbrev pub to_send : FlagRow → Bool
  to_send row = get_or row.srm link false

  abbrev pub to_ask : FlagRow → Bool
  to_ask row = get_or row.ssn link false

  sent_skipped : (r : RouterConf) (i j : ℕ) (out : List Sent) → j ≡ i + position_or_len to_send (drop i rows) → out ++ flat_map (row_frames r es link) (drop j rows) ≡ out ++ flat_map (row_frames r es link) (drop i rows)
  sent_skipped r i j out is = ap (λ (l : List Sent). out ++ l) (skipped to_send (row_frames r es link) (λ row none. ap (λ (b : Bool). found_at (entry_frames r link) es row.id b) none) rows i j is)

  pub sent_first : (r : RouterConf) (j : ℕ) (out : List Sent) → j ≡ 0 + position_or_len to_send (drop 0 rows) → out ++ flat_map (row_frames r es link) (drop j rows) ≡ out ++ flat_map (row_frames r es link) rows
  sent_first r j out is = sent_skipped r 0 j out is

  pub sent_step : (r : RouterConf) (id : LspId) (i j : ℕ) (out new total : List Sent) → i < length rows → IfSome (slice_get rows i) (λ row. to_send row ≡ true) → IfSome (slice_get rows i) (λ row. id ≡ row.id) → new ≡ out ++ found (entry_frames r link) (entry_in es id) → j ≡ (i + 1) + position_or_len to_send (drop (i + 1) rows)
      → out ++ flat_map (row_frames r es link) (drop i rows) ≡ total → new ++ flat_map (row_frames r es link) (drop j rows) ≡ total
  sent_step r id i j out new total lt has says is next so =
      sent_skipped r (i + 1) j new next ∙ next_row (row_frames r es link) rows i (i + 1) out new total lt refl (found_row (entry_frames r link) es to_send id out new (slice_get rows i) has says is) so

  asked_skipped : (i j : ℕ) (out : List (List ℕ)) → j ≡ i + position_or_len to_ask (drop i rows) → out ++ flat_map (row_asked es link) (drop j rows) ≡ out ++ flat_map (row_asked es link) (drop i rows)
  asked_skipped i j out is = ap (λ (l : List (List ℕ)). out ++ l) (skipped to_ask (row_asked es link) (λ row none. ap (λ (b : Bool). found_at entry_row es row.id b) none) rows i j is)

  pub asked_first : (j : ℕ) (out : List (List ℕ)) → j ≡ 0 + position_or_len to_ask (drop 0 rows) → out ++ flat_map (row_asked es link) (drop j rows) ≡ out ++ flat_map (row_asked es link) rows
  asked_first j out is = asked_skipped 0 j out is

  pub asked_step : (id : LspId) (i j : ℕ) (out new total : List (List ℕ)) → i < length rows → IfSome (slice_get rows i) (λ row. to_ask row ≡ true) → IfSome (slice_get rows i) (λ row. id ≡ row.id) → new ≡ out ++ found entry_row (entry_in es id) → j ≡ (i + 1) + position_or_len to_ask (drop (i + 1) rows)
      → out ++ flat_map (row_asked es link) (drop i rows) ≡ total → new ++ flat_map (row_asked es link) (drop j rows) ≡ total
  asked_step id i j out new total lt has says is next so =
      asked_skipped (i + 1) j new next ∙ next_row (row_asked es link) rows i (i + 1) out new total lt refl (found_row entry_row es to_ask id out new (slice_get rows i) has says is) so

  module _ (asc : AreAscending (ids_of es)) (order : AreAscending (row_ids rows)) (all : AllByRecursion (HasEntry es) rows) where
    pub sent_end : (r : RouterConf) (i : ℕ) (start out : List Sent) → length rows ≤ i → out ++ flat_map (row_frames r es link) (drop i rows) ≡ start ++ flat_map (row_frames r es link) rows → out ≡ start ++ flat_map (lsp_frames r rows link) es
    sent_end r i start out past so =
        sym (append-nil out) ∙ ap (λ (l : List FlagRow). out ++ flat_map (row_frames r es link) l) (sym (drop_all i rows past)) ∙ so
        ∙ ap (λ (l : List Sent). start ++ l) (sym (sent_found (entry_frames r link) es rows link asc order all))

    pub asked_end : (i : ℕ) (start out : List (List ℕ)) → start ≡ [] → length rows ≤ i → out ++ flat_map (row_asked es link) (drop i rows) ≡ start ++ flat_map (row_asked es link) rows → out ≡ map row (map summary_of (filter (λ e. ssn_in rows e.id link) es))
    asked_end i start out none past so =
        sym (append-nil out) ∙ ap (λ (l : List FlagRow). out ++ flat_map (row_asked es link) l) (sym (drop_all i rows past)) ∙ so
        ∙ ap (λ (l : List (List ℕ)). l ++ flat_map (row_asked es link) rows) none
        ∙ sym (asked_found entry_row es rows link asc order all) ∙ sym (filtered (λ e. row (summary_of e)) (λ e. ssn_in rows e.id link) es)
        ∙ sym (map-map row summary_of (filter (λ e. ssn_in rows e.id link) es))
