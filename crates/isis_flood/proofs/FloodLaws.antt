-- A table of masks as the rows of a flood state.
use Rattle.std.proofs.Common.{◌≡◌, ℕ, zero, suc, ◌+◌, ◌<◌, ◌≤◌, Bool, true, false, if◌then◌else◌, List, [], ◌∷◌, length, get_or, slice_get, IfSome, set, drop, map, replicate, refl, sym, ap, subst, ◌∙◌, arith}
use Rattle.std.specs.declared.cmp.Ordering.{Ordering}
use Rattle.std.specs.declared.cmp.Ordering.TheVariants.{Less, Equal, Greater}
use Rattle.std.specs.Ordering.{is_eq, is_lt, is_gt, match_ordering}
use Rattle.std.specs.List.{AllByRecursion, position_or_len}
use Rattle.std.proofs.lemmas.List.{set_past}
use Rattle.wire_base.specs.declared.addresses.SystemId.{SystemId}
use Rattle.wire_base.specs.declared.addresses.LspId.{LspId}
use Rattle.wire_base.specs.model.Control.{same_id, id_order, is_below, AreAscending, FlagRow, no_flags, at_row, without_row, srm_in, ssn_in, Flood}
use Rattle.wire_base.specs.model.Flooding.{mark_all, forget, with_row, no_links, new_flood, link_down, sent_on}
use Rattle.wire_base.proofs.OrderLaws.{tie_is_same, same_from_tie, below_trans, below_differs, above_differs, same_turned}
use Rattle.isis_flood.specs.declared.table.Bits.{Bits}
use Rattle.isis_flood.specs.Masks.{at_bit, links_in, row_of, rows_of, row_ids, row_in, no_bits, bits_in, put_bits, held_mask, held_row, without_bits, flood_of, AreFew, Flooding, clears, turned, turned_flag, turned_srm}
use Rattle.isis_flood.specs.declared.masks.Turn.{Turn}
use Rattle.isis_flood.specs.Flags.{has_srm, has_ssn}
use Rattle.isis_flood.proofs.BusyLaws.{past_srm, past_ssn, rows_same}
use Rattle.isis_flood.proofs.ColumnLaws.{next_mapped, next_same}
use Rattle.isis_flood.proofs.HeldLaws.{links_held, row_held}
use Rattle.isis_flood.proofs.MaskLaws.{links_none, links_long, links_get}

none_is : (n : ℕ) (id : LspId) → row_of n (no_bits id) ≡ no_flags n id
none_is n id = ap (λ (l : List Bool). record { id = id; srm = l; ssn = l }) (links_none n)

-- the row that stands there, as flags
pub row_seen : (n : ℕ) (rs : List Bits) (id : LspId) → row_of n (bits_in rs id) ≡ row_in n (rows_of n rs) id
row_seen n [] id = none_is n id
row_seen n (b ∷ rs) id = cases (row_seen n rs id) (id_order id b.id)
  where
    cases : row_of n (bits_in rs id) ≡ row_in n (rows_of n rs) id → (o : Ordering) → row_of n (match_ordering o (no_bits id) b (bits_in rs id)) ≡ match_ordering o (no_flags n id) (row_of n b) (row_in n (rows_of n rs) id)
    cases again Less = none_is n id
    cases again Equal = refl
    cases again Greater = again

-- a row that is put is the row there, changed
pub rows_put : (n : ℕ) (rs : List Bits) (b : Bits) (change : FlagRow → FlagRow) → row_of n b ≡ change (row_in n (rows_of n rs) b.id) → rows_of n (put_bits b rs) ≡ at_row n b.id change (rows_of n rs)
rows_put n [] b change h = ap (λ (r : FlagRow). r ∷ []) h
rows_put n (x ∷ xs) b change h = cases (rows_put n xs b change) (id_order b.id x.id) h
  where
    cases : (row_of n b ≡ change (row_in n (rows_of n xs) b.id) → rows_of n (put_bits b xs) ≡ at_row n b.id change (rows_of n xs)) → (o : Ordering) → row_of n b ≡ change (match_ordering o (no_flags n b.id) (row_of n x) (row_in n (rows_of n xs) b.id)) → rows_of n (match_ordering o (b ∷ x ∷ xs) (b ∷ xs) (x ∷ put_bits b xs)) ≡ match_ordering o (change (no_flags n b.id) ∷ row_of n x ∷ rows_of n xs) (change (row_of n x) ∷ rows_of n xs) (row_of n x ∷ at_row n b.id change (rows_of n xs))
    cases again Less k = ap (λ (r : FlagRow). r ∷ row_of n x ∷ rows_of n xs) k
    cases again Equal k = ap (λ (r : FlagRow). r ∷ rows_of n xs) k
    cases again Greater k = ap (λ (rs : List FlagRow). row_of n x ∷ rs) (again k)

pub rows_go : (n : ℕ) (rs : List Bits) (id : LspId) → rows_of n (without_bits id rs) ≡ without_row id (rows_of n rs)
rows_go n [] id = refl
rows_go n (b ∷ rs) id = cases (rows_go n rs id) (same_id b.id id)
  where
    cases : rows_of n (without_bits id rs) ≡ without_row id (rows_of n rs) → (same : Bool) → rows_of n (if same then rs else b ∷ without_bits id rs) ≡ (if same then rows_of n rs else row_of n b ∷ without_row id (rows_of n rs))
    cases again true = refl
    cases again false = ap (λ (rs : List FlagRow). row_of n b ∷ rs) again

-- the row of an identifier has it
pub row_in_id : (n : ℕ) (rows : List FlagRow) (id : LspId) → (row_in n rows id).id ≡ id
row_in_id n [] id = refl
row_in_id n (row ∷ rows) id = cases (row_in_id n rows id) (id_order id row.id) refl
  where
    cases : (row_in n rows id).id ≡ id → (o : Ordering) → id_order id row.id ≡ o → (match_ordering o (no_flags n id) row (row_in n rows id)).id ≡ id
    cases again Less o = refl
    cases again Equal o = sym (same_from_tie id row.id o)
    cases again Greater o = again

-- ---- questions

no_flag : (n k : ℕ) → get_or (links_in n 0) k false ≡ false
no_flag n k = ap (λ (l : List Bool). get_or l k false) (links_none n) ∙ none n k
  where
    none : (n k : ℕ) → get_or (replicate n false) k false ≡ false
    none zero k = refl
    none (suc n) zero = refl
    none (suc n) (suc k) = none n k

srm_above : (n k : ℕ) (rs : List Bits) (x id : LspId) → is_below id x ≡ true → AllByRecursion (λ y. is_below x y ≡ true) (row_ids rs) → srm_in (rows_of n rs) id k ≡ false
srm_above n k [] x id h all = refl
srm_above n k (b ∷ rs) x id h all = rw (same_turned b.id id, below_differs id b.id (below_trans id x b.id h all.0)) (srm_above n k rs x id h all.1)

ssn_above : (n k : ℕ) (rs : List Bits) (x id : LspId) → is_below id x ≡ true → AllByRecursion (λ y. is_below x y ≡ true) (row_ids rs) → ssn_in (rows_of n rs) id k ≡ false
ssn_above n k [] x id h all = refl
ssn_above n k (b ∷ rs) x id h all = rw (same_turned b.id id, below_differs id b.id (below_trans id x b.id h all.0)) (ssn_above n k rs x id h all.1)

pub srm_seen : (n k : ℕ) (rs : List Bits) (id : LspId) → AreAscending (row_ids rs) → get_or (links_in n (bits_in rs id).srm) k false ≡ srm_in (rows_of n rs) id k
srm_seen n k [] id asc = no_flag n k
srm_seen n k (b ∷ rs) id asc = cases (srm_seen n k rs id asc.1) (id_order id b.id) refl
  where
    cases : get_or (links_in n (bits_in rs id).srm) k false ≡ srm_in (rows_of n rs) id k → (o : Ordering) → id_order id b.id ≡ o → get_or (links_in n (match_ordering o (no_bits id) b (bits_in rs id)).srm) k false ≡ srm_in (row_of n b ∷ rows_of n rs) id k
    cases again Less o = rw (same_turned b.id id, below_differs id b.id (ap is_lt o)) (no_flag n k ∙ sym (srm_above n k rs b.id id (ap is_lt o) asc.0))
    cases again Equal o = rw (same_turned b.id id, sym (tie_is_same id b.id) ∙ ap is_eq o) refl
    cases again Greater o = rw (same_turned b.id id, above_differs id b.id (ap is_gt o)) again

pub ssn_seen : (n k : ℕ) (rs : List Bits) (id : LspId) → AreAscending (row_ids rs) → get_or (links_in n (bits_in rs id).ssn) k false ≡ ssn_in (rows_of n rs) id k
ssn_seen n k [] id asc = no_flag n k
ssn_seen n k (b ∷ rs) id asc = cases (ssn_seen n k rs id asc.1) (id_order id b.id) refl
  where
    cases : get_or (links_in n (bits_in rs id).ssn) k false ≡ ssn_in (rows_of n rs) id k → (o : Ordering) → id_order id b.id ≡ o → get_or (links_in n (match_ordering o (no_bits id) b (bits_in rs id)).ssn) k false ≡ ssn_in (row_of n b ∷ rows_of n rs) id k
    cases again Less o = rw (same_turned b.id id, below_differs id b.id (ap is_lt o)) (no_flag n k ∙ sym (ssn_above n k rs b.id id (ap is_lt o) asc.0))
    cases again Equal o = rw (same_turned b.id id, sym (tie_is_same id b.id) ∙ ap is_eq o) refl
    cases again Greater o = rw (same_turned b.id id, above_differs id b.id (ap is_gt o)) again

-- ---- the state: `now` is what contracts see of it

module _ (own : SystemId) (n up due spare : ℕ) (rows : List Bits) (now : Flooding) (seen : record { flood = flood_of own n up due rows; spare = spare } ≡ now) where
  flood_seen : flood_of own n up due rows ≡ now.flood
  flood_seen = ap (λ (f : Flooding). f.flood) seen

  pub links_are_n : length now.flood.up ≡ n
  links_are_n = ap (λ (f : Flood). length f.up) (sym flood_seen) ∙ links_long n up

  pub same_links : (new : ℕ) → length (links_in n new) ≡ length now.flood.up
  same_links new = links_long n new ∙ sym links_are_n

  pub link_of : (link : ℕ) → link < length now.flood.up → link < n
  link_of link lt = omega (arith, lt, links_are_n)

  pub up_seen : (link : ℕ) (answer : Bool) → answer ≡ get_or (links_in n up) link false → answer ≡ get_or now.flood.up link false
  up_seen link answer is = is ∙ ap (λ (f : Flood). get_or f.up link false) flood_seen

  pub due_seen : (link : ℕ) (answer : Bool) → answer ≡ get_or (links_in n due) link false → answer ≡ get_or now.flood.due link false
  due_seen link answer is = is ∙ ap (λ (f : Flood). get_or f.due link false) flood_seen

  pub srm_is : (link : ℕ) (id : LspId) (b : Bits) (answer : Bool) → b ≡ bits_in rows id → AreAscending (row_ids rows) → answer ≡ get_or (links_in n b.srm) link false → answer ≡ srm_in now.flood.rows id link
  srm_is link id b answer row asc is =
      is ∙ ap (λ (r : Bits). get_or (links_in n r.srm) link false) row ∙ srm_seen n link rows id asc ∙ ap (λ (f : Flood). srm_in f.rows id link) flood_seen

  -- ---- rows by their places

  pub rows_long : length now.flood.rows ≡ length rows
  rows_long = sym (ap (λ (f : Flood). length f.rows) flood_seen) ∙ long rows
    where
      long : (bs : List Bits) → length (rows_of n bs) ≡ length bs
      long [] = refl
      long (b ∷ bs) = ap (λ m. suc m) (long bs)

  pub id_seen : (place : ℕ) (id : LspId) → place < length now.flood.rows → id ≡ get_or (row_ids rows) place id → IfSome (slice_get now.flood.rows place) (λ row. id ≡ row.id)
  id_seen place id lt is = subst (λ (f : Flood). IfSome (slice_get f.rows place) (λ row. id ≡ row.id)) flood_seen (at rows place (omega (arith, lt, rows_long)) is)
    where
      at : (bs : List Bits) (i : ℕ) → i < length bs → id ≡ get_or (row_ids bs) i id → IfSome (slice_get (rows_of n bs) i) (λ row. id ≡ row.id)
      at [] i lt h = absurd (omega (arith, lt))
      at (x ∷ xs) zero lt h = h
      at (x ∷ xs) (suc i) lt h = at xs i (omega (arith, lt)) h

  pub next_sent_seen : (link from place : ℕ) → link < n → place ≡ from + position_or_len (λ b. at_bit b.srm link) (drop from rows) → place ≡ from + position_or_len (λ row. get_or row.srm link false) (drop from now.flood.rows)
  next_sent_seen link from place lt is =
      is ∙ ap (λ m. from + m) (next_same (λ (b : Bits). at_bit b.srm link) (λ b. get_or (links_in n b.srm) link false) (drop from rows) (λ b. sym (links_get b.srm link n lt)) ∙ next_mapped (row_of n) (λ row. get_or row.srm link false) rows from)
      ∙ ap (λ (f : Flood). from + position_or_len (λ row. get_or row.srm link false) (drop from f.rows)) flood_seen

  pub next_asked_seen : (link from place : ℕ) → link < n → place ≡ from + position_or_len (λ b. at_bit b.ssn link) (drop from rows) → place ≡ from + position_or_len (λ row. get_or row.ssn link false) (drop from now.flood.rows)
  next_asked_seen link from place lt is =
      is ∙ ap (λ m. from + m) (next_same (λ (b : Bits). at_bit b.ssn link) (λ b. get_or (links_in n b.ssn) link false) (drop from rows) (λ b. sym (links_get b.ssn link n lt)) ∙ next_mapped (row_of n) (λ row. get_or row.ssn link false) rows from)
      ∙ ap (λ (f : Flood). from + position_or_len (λ row. get_or row.ssn link false) (drop from f.rows)) flood_seen

  pub ssn_is : (link : ℕ) (id : LspId) (b : Bits) (answer : Bool) → b ≡ bits_in rows id → AreAscending (row_ids rows) → answer ≡ get_or (links_in n b.ssn) link false → answer ≡ ssn_in now.flood.rows id link
  ssn_is link id b answer row asc is =
      is ∙ ap (λ (r : Bits). get_or (links_in n r.ssn) link false) row ∙ ssn_seen n link rows id asc ∙ ap (λ (f : Flood). ssn_in f.rows id link) flood_seen

  -- whether there is a flag of a kind on a link
  pub unsent_is : (link : ℕ) → has_srm (rows_of n rows) link ≡ false → has_srm now.flood.rows link ≡ false
  unsent_is link none = ap (λ (f : Flood). has_srm f.rows link) (sym flood_seen) ∙ none

  pub unasked_is : (link : ℕ) → has_ssn (rows_of n rows) link ≡ false → has_ssn now.flood.rows link ≡ false
  unasked_is link none = ap (λ (f : Flood). has_ssn f.rows link) (sym flood_seen) ∙ none

  pub past_unsent : (link : ℕ) → n ≤ link → has_srm now.flood.rows link ≡ false
  past_unsent link past = unsent_is link (past_srm n rows link past)

  pub past_unasked : (link : ℕ) → n ≤ link → has_ssn now.flood.rows link ≡ false
  past_unasked link past = unasked_is link (past_ssn n rows link past)

  -- nothing is changed on a link that there isn't
  pub past_down : (link : ℕ) → n ≤ link → now.flood ≡ link_down now.flood link
  unfolding link_down
  past_down link past =
      subst (λ (f : Flood). f ≡ link_down f link) flood_seen (sym (
      ap (λ (l : List Bool). record { own = own; up = l; due = set (links_in n due) link false; rows = map (clears true link) (rows_of n rows) }) (set_past (links_in n up) link false (let long = links_long n up in omega (arith, long, past)))
      ∙ ap (λ (l : List Bool). record { own = own; up = links_in n up; due = l; rows = map (clears true link) (rows_of n rows) }) (set_past (links_in n due) link false (let long = links_long n due in omega (arith, long, past)))
      ∙ ap (λ (rs : List FlagRow). record { own = own; up = links_in n up; due = links_in n due; rows = rs }) (rows_same true link (rows_of n rows) (past_ssn n rows link past) (past_srm n rows link past))
      ))

  pub past_sent : (link : ℕ) → n ≤ link → now.flood ≡ sent_on now.flood link
  unfolding sent_on
  past_sent link past =
      subst (λ (f : Flood). f ≡ sent_on f link) flood_seen (sym (
      ap (λ (l : List Bool). record { own = own; up = links_in n up; due = l; rows = map (clears false link) (rows_of n rows) }) (set_past (links_in n due) link false (let long = links_long n due in omega (arith, long, past)))
      ∙ ap (λ (rs : List FlagRow). record { own = own; up = links_in n up; due = links_in n due; rows = rs }) (rows_same false link (rows_of n rows) (past_ssn n rows link past) refl)
      ))

  pub forgets : (id : LspId) (new : List Bits) → new ≡ without_bits id rows → flood_of own n up due new ≡ forget now.flood id
  unfolding forget
  forgets id new is = ap (λ (rs : List Bits). flood_of own n up due rs) is ∙ ap (λ (rs : List FlagRow). record { own = own; up = links_in n up; due = links_in n due; rows = rs }) (rows_go n rows id) ∙ ap (λ (f : Flood). forget f id) flood_seen

  -- one row changed
  puts : (b : Bits) (change : FlagRow → FlagRow) (new : List Bits) → new ≡ put_bits b rows → row_of n b ≡ change (row_in n (rows_of n rows) b.id) → flood_of own n up due new ≡ with_row now.flood b.id change
  puts b change new is changed =
      ap (λ (rs : List Bits). flood_of own n up due rs) is
      ∙ ap (λ (rs : List FlagRow). record { own = own; up = links_in n up; due = links_in n due; rows = rs }) (rows_put n rows b change changed)
      ∙ ap (λ m. record { own = own; up = links_in n up; due = links_in n due; rows = at_row m b.id change (rows_of n rows) }) (sym (links_long n up))
      ∙ ap (λ (f : Flood). with_row f b.id change) flood_seen

  pub changes : (narrow : Bool) → (narrow ≡ true → n ≤ 8) → (b : Bits) (change : FlagRow → FlagRow) (new : List Bits) → new ≡ put_bits (held_row narrow b) rows → row_of n b ≡ change (row_in n (rows_of n rows) b.id) → flood_of own n up due new ≡ with_row now.flood b.id change
  changes narrow few b change new is changed = puts (held_row narrow b) change new is (row_held narrow n b few ∙ changed)

  pub marks : (narrow : Bool) → (narrow ≡ true → n ≤ 8) → (id : LspId) (new : List Bits) → new ≡ put_bits (held_row narrow (record { id = id; srm = up; ssn = 0 })) rows → flood_of own n up due new ≡ mark_all now.flood id
  unfolding mark_all
  marks narrow few id new is =
      changes narrow few (record { id = id; srm = up; ssn = 0 }) (λ row. record row { srm = links_in n up; ssn = replicate (length (links_in n up)) false }) new is
      (ap (λ (l : List Bool). record { id = id; srm = links_in n up; ssn = l }) (links_none n ∙ ap (λ m. replicate m false) (sym (links_long n up))) ∙ ap (λ (i : LspId). record { id = i; srm = links_in n up; ssn = replicate (length (links_in n up)) false }) (sym (row_in_id n (rows_of n rows) id)))
      ∙ ap (λ (f : Flood). with_row now.flood id (λ row. record row { srm = f.up; ssn = no_links f })) flood_seen

  pub few_links : n ≤ 64 → length now.flood.up ≤ 64
  few_links few = omega (arith, few, links_are_n)

  -- the flags of an identifier on a link are turned
  pub turns : (narrow : Bool) (link : ℕ) → AreFew n narrow → link < length now.flood.up → (srm ssn : Turn) (id : LspId) (b : Bits) (x y : ℕ) (new : List Bits) → b ≡ bits_in rows id
      → ((m : ℕ) → link < m → m ≤ 64 → links_in m x ≡ turned_flag link srm (links_in m b.srm)) → ((m : ℕ) → link < m → m ≤ 64 → links_in m y ≡ turned_flag link ssn (links_in m b.ssn))
      → new ≡ put_bits (held_row narrow (record { id = id; srm = x; ssn = y })) rows → flood_of own n up due new ≡ with_row now.flood id (turned link srm ssn)
  turns narrow link few there srm ssn id b x y new is s a made =
      let whole : row_of n b ≡ row_in n (rows_of n rows) id = ap (λ (r : Bits). row_of n r) is ∙ row_seen n rows id in
      let same : b.id ≡ id = ap (λ (r : FlagRow). r.id) whole ∙ row_in_id n (rows_of n rows) id in
      changes narrow few.where_narrow (record { id = id; srm = x; ssn = y }) (turned link srm ssn) new made
      (ap (λ (l : List Bool). record { id = id; srm = l; ssn = links_in n y }) (s n (link_of link there) few.most) ∙ ap (λ (l : List Bool). record { id = id; srm = turned_flag link srm (links_in n b.srm); ssn = l }) (a n (link_of link there) few.most)
      ∙ ap (λ (i : LspId). record { id = i; srm = turned_flag link srm (links_in n b.srm); ssn = turned_flag link ssn (links_in n b.ssn) }) (sym same)
      ∙ ap (λ (r : FlagRow). turned link srm ssn r) whole)

  -- its SRM flag alone
  pub sent_turns : (narrow : Bool) (link : ℕ) → AreFew n narrow → link < length now.flood.up → (srm : Turn) (id : LspId) (b : Bits) (x : ℕ) (new : List Bits) → b ≡ bits_in rows id
      → ((m : ℕ) → link < m → m ≤ 64 → links_in m x ≡ turned_flag link srm (links_in m b.srm)) → new ≡ put_bits (record { id = id; srm = held_mask narrow x; ssn = b.ssn }) rows → flood_of own n up due new ≡ with_row now.flood id (turned_srm link srm)
  sent_turns narrow link few there srm id b x new is s made =
      let whole : row_of n b ≡ row_in n (rows_of n rows) id = ap (λ (r : Bits). row_of n r) is ∙ row_seen n rows id in
      let same : b.id ≡ id = ap (λ (r : FlagRow). r.id) whole ∙ row_in_id n (rows_of n rows) id in
      puts (record { id = id; srm = held_mask narrow x; ssn = b.ssn }) (turned_srm link srm) new made
      (ap (λ (l : List Bool). record { id = id; srm = l; ssn = links_in n b.ssn }) (links_held narrow n x few.where_narrow ∙ s n (link_of link there) few.most)
      ∙ ap (λ (i : LspId). record { id = i; srm = turned_flag link srm (links_in n b.srm); ssn = links_in n b.ssn }) (sym same)
      ∙ ap (λ (r : FlagRow). turned_srm link srm r) whole)

  pub row_changes : (narrow : Bool) → (narrow ≡ true → n ≤ 8) → (b : Bits) (change : FlagRow → FlagRow) (new : List Bits) → new ≡ put_bits (held_row narrow b) rows → row_of (length now.flood.up) b ≡ change (row_in (length now.flood.up) now.flood.rows b.id) → flood_of own n up due new ≡ with_row now.flood b.id change
  row_changes narrow few b change new is changed =
      changes narrow few b change new is (
      ap (λ m. row_of m b) (sym links_are_n) ∙ changed ∙ ap (λ m. change (row_in m now.flood.rows b.id)) links_are_n ∙ ap (λ (f : Flood). change (row_in n f.rows b.id)) (sym flood_seen)
      )

module _ (own : SystemId) (n up due spare : ℕ) (rows : List Bits) (now : Flooding) (seen : record { flood = flood_of own n up due rows; spare = spare } ≡ now) (link : ℕ) (few : n ≤ 64) (there : link < n) where
  whole : flood_of own n up due rows ≡ now.flood
  whole = ap (λ (f : Flooding). f.flood) seen

  -- a link comes up
  pub opens : (new_up new_due : ℕ) → ((m : ℕ) → link < m → m ≤ 64 → links_in m new_up ≡ set (links_in m up) link true) → ((m : ℕ) → link < m → m ≤ 64 → links_in m new_due ≡ set (links_in m due) link true) → flood_of own n new_up new_due rows ≡ record now.flood { up = set now.flood.up link true; due = set now.flood.due link true }
  opens new_up new_due a b =
      ap (λ (l : List Bool). record { own = own; up = l; due = links_in n new_due; rows = rows_of n rows }) (a n there few)
      ∙ ap (λ (l : List Bool). record { own = own; up = set (links_in n up) link true; due = l; rows = rows_of n rows }) (b n there few)
      ∙ ap (λ (f : Flood). record f { up = set f.up link true; due = set f.due link true }) whole

  -- a link goes down
  pub downs : (new_up new_due : ℕ) (new : List Bits) → ((m : ℕ) → link < m → m ≤ 64 → links_in m new_up ≡ set (links_in m up) link false) → ((m : ℕ) → link < m → m ≤ 64 → links_in m new_due ≡ set (links_in m due) link false) → ((m : ℕ) → link < m → m ≤ 64 → rows_of m new ≡ map (clears true link) (rows_of m rows)) → flood_of own n new_up new_due new ≡ link_down now.flood link
  unfolding link_down
  downs new_up new_due new a b c =
      ap (λ (l : List Bool). record { own = own; up = l; due = links_in n new_due; rows = rows_of n new }) (a n there few)
      ∙ ap (λ (l : List Bool). record { own = own; up = set (links_in n up) link false; due = l; rows = rows_of n new }) (b n there few)
      ∙ ap (λ (rs : List FlagRow). record { own = own; up = set (links_in n up) link false; due = set (links_in n due) link false; rows = rs }) (c n there few)
      ∙ ap (λ (f : Flood). link_down f link) whole

  -- all was sent
  pub sends : (new_due : ℕ) (new : List Bits) → ((m : ℕ) → link < m → m ≤ 64 → links_in m new_due ≡ set (links_in m due) link false) → ((m : ℕ) → link < m → m ≤ 64 → rows_of m new ≡ map (clears false link) (rows_of m rows)) → flood_of own n up new_due new ≡ sent_on now.flood link
  unfolding sent_on
  sends new_due new b c =
      ap (λ (l : List Bool). record { own = own; up = links_in n up; due = l; rows = rows_of n new }) (b n there few)
      ∙ ap (λ (rs : List FlagRow). record { own = own; up = links_in n up; due = set (links_in n due) link false; rows = rs }) (c n there few)
      ∙ ap (λ (f : Flood). sent_on f link) whole

pub up_is : (own : SystemId) (n up due spare : ℕ) (rows : List Bits) (now : Flooding) → record { flood = flood_of own n up due rows; spare = spare } ≡ now → links_in (length now.flood.up) up ≡ now.flood.up
up_is own n up due spare rows now seen = ap (λ m. links_in m up) (links_are_n own n up due spare rows now seen) ∙ ap (λ (f : Flooding). f.flood.up) seen

-- the row of what came on a link
pub passed_row : (f : Flood) (link mask srm ssn : ℕ) (id : LspId) → links_in (length f.up) mask ≡ f.up → links_in (length f.up) srm ≡ set (links_in (length f.up) mask) link false → links_in (length f.up) ssn ≡ set (links_in (length f.up) 0) link true → row_of (length f.up) (record { id = id; srm = srm; ssn = ssn }) ≡ record (row_in (length f.up) f.rows id) { srm = set f.up link false; ssn = set (no_links f) link true }
passed_row f link mask srm ssn id up a b =
    ap (λ (l : List Bool). record { id = id; srm = l; ssn = links_in (length f.up) ssn }) (a ∙ ap (λ (l : List Bool). set l link false) up)
    ∙ ap (λ (l : List Bool). record { id = id; srm = set f.up link false; ssn = l }) (b ∙ ap (λ (l : List Bool). set l link true) (links_none (length f.up)))
    ∙ ap (λ (i : LspId). record { id = i; srm = set f.up link false; ssn = set (no_links f) link true }) (sym (row_in_id (length f.up) f.rows id))

pub starts : (own : SystemId) (n mask : ℕ) (ups : List Bool) (rows : List Bits) → length ups ≡ n → links_in (length ups) mask ≡ ups → rows ≡ [] → flood_of own n mask mask rows ≡ new_flood own ups
unfolding new_flood
starts own n mask ups rows long is none =
    let all : links_in n mask ≡ ups = ap (λ m. links_in m mask) (sym long) ∙ is in
    ap (λ (l : List Bool). record { own = own; up = l; due = l; rows = rows_of n rows }) all ∙ ap (λ (rs : List Bits). record { own = own; up = ups; due = ups; rows = rows_of n rs }) none
