-- The links on which rows may have flags of a kind, as a mask of each.
use Rattle.std.proofs.Common.{◌≡◌, ℕ, zero, suc, ◌<◌, ◌≤◌, ◌≢◌, ◌||◌, ◌&&◌, eqb, max, Bool, true, false, List, [], ◌∷◌, get_or, set, map, bit_or, refl, sym, ap, subst, ◌∙◌, arith, inl, inr}
use mathlib.Core.Bool.{true≢false}
use Rattle.std.specs.Int.{bit_at}
use Rattle.std.specs.List.{list_any, remove}
use Rattle.std.specs.declared.cmp.Ordering.{Ordering}
use Rattle.std.specs.declared.cmp.Ordering.TheVariants.{Less, Equal, Greater}
use Rattle.std.specs.Ordering.{match_ordering}
use Rattle.std.proofs.lemmas.Bool.{or_parts, or_from, cases_eq}
use Rattle.std.proofs.lemmas.List.{get_or_past, set-get_or}
use Rattle.std.proofs.lemmas.Nat.Bits.{bit_at-lt, bit_at_or}
use Rattle.wire_base.specs.model.Control.{id_order, FlagRow, AreAscending}
use Rattle.isis_flood.specs.declared.table.Bits.{Bits}
use Rattle.isis_flood.specs.Flags.{has_flag, has_srm, has_ssn}
use Rattle.isis_flood.specs.Masks.{at_bit, links_in, row_of, rows_of, row_ids, put_bits, held_mask, held_row, clears, IsTable}
use Rattle.isis_flood.proofs.HeldLaws.{held_idle}
use Rattle.isis_flood.proofs.MaskLaws.{links_get, links_long}

-- ---- masks

no_bit : (x y : ℕ) → x < 2 → y < 2 → eqb (max x y) 1 ≡ false → (eqb x 1 ≡ false) × (eqb y 1 ≡ false)
no_bit zero zero a b h = (refl, refl)
no_bit zero (suc zero) a b h = absurd (true≢false h)
no_bit (suc zero) zero a b h = absurd (true≢false h)
no_bit (suc zero) (suc zero) a b h = absurd (true≢false h)
no_bit zero (suc (suc y)) a b h = absurd (omega (arith, b))
no_bit (suc zero) (suc (suc y)) a b h = absurd (omega (arith, b))
no_bit (suc (suc x)) y a b h = absurd (omega (arith, a))

pub or_idle : (a b i : ℕ) → at_bit (bit_or a b) i ≡ false → (at_bit a i ≡ false) × (at_bit b i ≡ false)
or_idle a b i h = no_bit (bit_at a i) (bit_at b i) (bit_at-lt a i) (bit_at-lt b i) (sym (ap (λ x. eqb x 1) (bit_at_or a b i)) ∙ h)

-- a link that there isn't has no flag
past_links : (n mask i : ℕ) → n ≤ i → get_or (links_in n mask) i false ≡ false
past_links n mask i past = get_or_past (links_in n mask) i false (let long = links_long n mask in omega (arith, long, past))

pub past_srm : (n : ℕ) (rs : List Bits) (i : ℕ) → n ≤ i → has_srm (rows_of n rs) i ≡ false
past_srm n [] i past = refl
past_srm n (b ∷ rs) i past = or_from _ _ (past_links n b.srm i past) (past_srm n rs i past)

pub past_ssn : (n : ℕ) (rs : List Bits) (i : ℕ) → n ≤ i → has_ssn (rows_of n rs) i ≡ false
past_ssn n [] i past = refl
past_ssn n (b ∷ rs) i past = or_from _ _ (past_links n b.ssn i past) (past_ssn n rs i past)

-- the flags of a kind, read from the masks
srm_any : (n : ℕ) (rs : List Bits) (i : ℕ) → i < n → list_any (λ b. at_bit b.srm i) rs ≡ has_srm (rows_of n rs) i
srm_any n [] i lt = refl
srm_any n (b ∷ rs) i lt = ap (λ x. x || list_any (λ b. at_bit b.srm i) rs) (sym (links_get b.srm i n lt)) ∙ ap (λ x. get_or (links_in n b.srm) i false || x) (srm_any n rs i lt)

ssn_any : (n : ℕ) (rs : List Bits) (i : ℕ) → i < n → list_any (λ b. at_bit b.ssn i) rs ≡ has_ssn (rows_of n rs) i
ssn_any n [] i lt = refl
ssn_any n (b ∷ rs) i lt = ap (λ x. x || list_any (λ b. at_bit b.ssn i) rs) (sym (links_get b.ssn i n lt)) ∙ ap (λ x. get_or (links_in n b.ssn) i false || x) (ssn_any n rs i lt)

-- ---- rows that are put and removed, by the flags of either kind

put_idle : (flags : FlagRow → List Bool) (rs : List Bits) (b : Bits) (i : ℕ) → get_or (flags (row_of 64 b)) i false ≡ false → has_flag flags (rows_of 64 rs) i ≡ false → has_flag flags (rows_of 64 (put_bits b rs)) i ≡ false
put_idle flags [] b i h none = or_from _ _ h refl
put_idle flags (x ∷ xs) b i h none = cases (put_idle flags xs b i h (or_parts _ _ none).1) (id_order b.id x.id)
  where
    cases : has_flag flags (rows_of 64 (put_bits b xs)) i ≡ false → (o : Ordering) → has_flag flags (rows_of 64 (match_ordering o (b ∷ x ∷ xs) (b ∷ xs) (x ∷ put_bits b xs))) i ≡ false
    cases again Less = or_from (get_or (flags (row_of 64 b)) i false) (has_flag flags (rows_of 64 (x ∷ xs)) i) h none
    cases again Equal = or_from (get_or (flags (row_of 64 b)) i false) (has_flag flags (rows_of 64 xs) i) h (or_parts (get_or (flags (row_of 64 x)) i false) (has_flag flags (rows_of 64 xs) i) none).1
    cases again Greater = or_from (get_or (flags (row_of 64 x)) i false) (has_flag flags (rows_of 64 (put_bits b xs)) i) (or_parts (get_or (flags (row_of 64 x)) i false) (has_flag flags (rows_of 64 xs) i) none).0 again

removed_idle : (flags : FlagRow → List Bool) (rs : List Bits) (p i : ℕ) → has_flag flags (rows_of 64 rs) i ≡ false → has_flag flags (rows_of 64 (remove rs p)) i ≡ false
removed_idle flags [] zero i none = refl
removed_idle flags [] (suc p) i none = refl
removed_idle flags (x ∷ xs) zero i none = (or_parts _ _ none).1
removed_idle flags (x ∷ xs) (suc p) i none = let parts = or_parts (get_or (flags (row_of 64 x)) i false) (has_flag flags (rows_of 64 xs) i) none in or_from _ _ parts.0 (removed_idle flags xs p i parts.1)

-- ---- a link that is cleared

set_idle : (l : List Bool) (k i : ℕ) → get_or l i false ≡ false → get_or (set l k false) i false ≡ false
set_idle [] zero i h = h
set_idle [] (suc k) i h = h
set_idle (x ∷ l) zero zero h = refl
set_idle (x ∷ l) zero (suc i) h = h
set_idle (x ∷ l) (suc k) zero h = h
set_idle (x ∷ l) (suc k) (suc i) h = set_idle l k i h

set_here : (l : List Bool) (k : ℕ) → get_or (set l k false) k false ≡ false
set_here [] zero = refl
set_here [] (suc k) = refl
set_here (x ∷ l) zero = refl
set_here (x ∷ l) (suc k) = set_here l k

unasked_here : (both : Bool) (k : ℕ) (rs : List FlagRow) → has_ssn (map (clears both k) rs) k ≡ false
unasked_here both k [] = refl
unasked_here true k (row ∷ rs) = or_from _ _ (set_here row.ssn k) (unasked_here true k rs)
unasked_here false k (row ∷ rs) = or_from _ _ (set_here row.ssn k) (unasked_here false k rs)

unasked_still : (both : Bool) (k i : ℕ) (rs : List FlagRow) → has_ssn rs i ≡ false → has_ssn (map (clears both k) rs) i ≡ false
unasked_still both k i [] h = h
unasked_still true k i (row ∷ rs) h = let parts = or_parts (get_or row.ssn i false) (has_ssn rs i) h in or_from _ _ (set_idle row.ssn k i parts.0) (unasked_still true k i rs parts.1)
unasked_still false k i (row ∷ rs) h = let parts = or_parts (get_or row.ssn i false) (has_ssn rs i) h in or_from _ _ (set_idle row.ssn k i parts.0) (unasked_still false k i rs parts.1)

unsent_here : (k : ℕ) (rs : List FlagRow) → has_srm (map (clears true k) rs) k ≡ false
unsent_here k [] = refl
unsent_here k (row ∷ rs) = or_from _ _ (set_here row.srm k) (unsent_here k rs)

unsent_still : (both : Bool) (k i : ℕ) (rs : List FlagRow) → has_srm rs i ≡ false → has_srm (map (clears both k) rs) i ≡ false
unsent_still both k i [] h = h
unsent_still true k i (row ∷ rs) h = let parts = or_parts (get_or row.srm i false) (has_srm rs i) h in or_from _ _ (set_idle row.srm k i parts.0) (unsent_still true k i rs parts.1)
unsent_still false k i (row ∷ rs) h = let parts = or_parts (get_or row.srm i false) (has_srm rs i) h in or_from _ _ parts.0 (unsent_still false k i rs parts.1)

-- where there is no flag there is none to clear
set_same : (l : List Bool) (k : ℕ) → get_or l k false ≡ false → set l k false ≡ l
set_same l k h = ap (λ b. set l k b) (sym h) ∙ set-get_or l k false

pub rows_same : (both : Bool) (k : ℕ) (rs : List FlagRow) → has_ssn rs k ≡ false → (both && has_srm rs k) ≡ false → map (clears both k) rs ≡ rs
rows_same both k [] a b = refl
rows_same true k (row ∷ rs) a b =
    let asked = or_parts (get_or row.ssn k false) (has_ssn rs k) a in
    let sent = or_parts (get_or row.srm k false) (has_srm rs k) b in
    ap (λ (l : List Bool). record row { srm = l; ssn = set row.ssn k false } ∷ map (clears true k) rs) (set_same row.srm k sent.0)
    ∙ ap (λ (l : List Bool). record row { ssn = l } ∷ map (clears true k) rs) (set_same row.ssn k asked.0) ∙ ap (λ (l : List FlagRow). row ∷ l) (rows_same true k rs asked.1 sent.1)
rows_same false k (row ∷ rs) a b =
    let asked = or_parts (get_or row.ssn k false) (has_ssn rs k) a in
    ap (λ (l : List Bool). record row { ssn = l } ∷ map (clears false k) rs) (set_same row.ssn k asked.0) ∙ ap (λ (l : List FlagRow). row ∷ l) (rows_same false k rs asked.1 refl)

-- ---- the table

pub put_table : (sending asking sent asked : ℕ) (rs made : List Bits) (narrow : Bool) (b : Bits) → IsTable sending asking rs → AreAscending (row_ids made) → made ≡ put_bits (held_row narrow b) rs
    → ((i : ℕ) → at_bit sent i ≡ false → (at_bit sending i ≡ false) × (at_bit b.srm i ≡ false)) → ((i : ℕ) → at_bit asked i ≡ false → (at_bit asking i ≡ false) × (at_bit b.ssn i ≡ false)) → IsTable sent asked made
put_table sending asking sent asked rs made narrow b table asc is s a = record {
  ascends = asc;
  unsent = λ i lt h. ap (λ (l : List Bits). has_srm (rows_of 64 l) i) is ∙ put_idle (λ row. row.srm) rs (held_row narrow b) i (links_get (held_mask narrow b.srm) i 64 lt ∙ held_idle narrow b.srm i (s i h).1) (table.unsent i lt (s i h).0);
  unasked = λ i lt h. ap (λ (l : List Bits). has_ssn (rows_of 64 l) i) is ∙ put_idle (λ row. row.ssn) rs (held_row narrow b) i (links_get (held_mask narrow b.ssn) i 64 lt ∙ held_idle narrow b.ssn i (a i h).1) (table.unasked i lt (a i h).0);
}

asked_same : (n link : ℕ) (rs : List Bits) (p m : ℕ) (d : Bits) → has_ssn (rows_of n (set rs p (record (get_or rs p d) { srm = m }))) link ≡ has_ssn (rows_of n rs) link
asked_same n link [] zero m d = refl
asked_same n link [] (suc p) m d = refl
asked_same n link (x ∷ xs) zero m d = refl
asked_same n link (x ∷ xs) (suc p) m d = ap (λ b. get_or (links_in n x.ssn) link false || b) (asked_same n link xs p m d)

-- the SRM mask of one row is stored
pub sent_table : (sending asking sent : ℕ) (rs made : List Bits) (narrow : Bool) (p : ℕ) (b : Bits) → IsTable sending asking rs → AreAscending (row_ids made) → made ≡ put_bits (record b { srm = held_mask narrow b.srm }) rs → made ≡ set rs p (record (get_or rs p b) { srm = held_mask narrow b.srm })
    → ((i : ℕ) → at_bit sent i ≡ false → (at_bit sending i ≡ false) × (at_bit b.srm i ≡ false)) → IsTable sent asking made
sent_table sending asking sent rs made narrow p b table asc is at s = record {
  ascends = asc;
  unsent = λ i lt h. ap (λ (l : List Bits). has_srm (rows_of 64 l) i) is ∙ put_idle (λ row. row.srm) rs (record b { srm = held_mask narrow b.srm }) i (links_get (held_mask narrow b.srm) i 64 lt ∙ held_idle narrow b.srm i (s i h).1) (table.unsent i lt (s i h).0);
  unasked = λ i lt h. ap (λ (l : List Bits). has_ssn (rows_of 64 l) i) at ∙ asked_same 64 i rs p (held_mask narrow b.srm) b ∙ table.unasked i lt h;
}

pub removed_table : (sending asking : ℕ) (rs made : List Bits) (p : ℕ) → IsTable sending asking rs → AreAscending (row_ids made) → made ≡ remove rs p → IsTable sending asking made
removed_table sending asking rs made p table asc is = record {
  ascends = asc;
  unsent = λ i lt h. ap (λ (l : List Bits). has_srm (rows_of 64 l) i) is ∙ removed_idle (λ row. row.srm) rs p i (table.unsent i lt h);
  unasked = λ i lt h. ap (λ (l : List Bits). has_ssn (rows_of 64 l) i) is ∙ removed_idle (λ row. row.ssn) rs p i (table.unasked i lt h);
}

pub cleared_table : (sending asking sent asked : ℕ) (rs made : List Bits) (both : Bool) (link : ℕ) → IsTable sending asking rs → row_ids made ≡ row_ids rs → rows_of 64 made ≡ map (clears both link) (rows_of 64 rs)
    → (both ≡ false → sent ≡ sending) → ((i : ℕ) → i < 64 → i ≢ link → at_bit sent i ≡ at_bit sending i) → ((i : ℕ) → i < 64 → i ≢ link → at_bit asked i ≡ at_bit asking i) → IsTable sent asked made
cleared_table sending asking sent asked rs made both link table ids is same others asks = record {
  ascends = subst AreAscending (sym ids) table.ascends;
  unsent = λ i lt h. ap (λ (l : List FlagRow). has_srm l i) is ∙ unsent both same i lt h;
  unasked = λ i lt h. ap (λ (l : List FlagRow). has_ssn l i) is ∙ elim (cases_eq i link) [
    | inl here ↦ ap (λ k. has_ssn (map (clears both link) (rows_of 64 rs)) k) here ∙ unasked_here both link (rows_of 64 rs)
    | inr apart ↦ unasked_still both link i (rows_of 64 rs) (table.unasked i lt (sym (asks i lt apart) ∙ h))
  ];
}
  where
    unsent : (b : Bool) → (b ≡ false → sent ≡ sending) → (i : ℕ) → i < 64 → at_bit sent i ≡ false → has_srm (map (clears b link) (rows_of 64 rs)) i ≡ false
    unsent true same i lt h = elim (cases_eq i link) [
      | inl here ↦ ap (λ k. has_srm (map (clears true link) (rows_of 64 rs)) k) here ∙ unsent_here link (rows_of 64 rs)
      | inr apart ↦ unsent_still true link i (rows_of 64 rs) (table.unsent i lt (sym (others i lt apart) ∙ h))
    ]
    unsent false same i lt h = unsent_still false link i (rows_of 64 rs) (table.unsent i lt (ap (λ m. at_bit m i) (sym (same refl)) ∙ h))

-- a link on which none is to be sent leaves the mask
pub settled_table : (sending asking sent : ℕ) (rs : List Bits) (link : ℕ) → IsTable sending asking rs → link < 64 → list_any (λ b. at_bit b.srm link) rs ≡ false → ((i : ℕ) → i < 64 → i ≢ link → at_bit sent i ≡ at_bit sending i) → IsTable sent asking rs
settled_table sending asking sent rs link table low none others = record {
  ascends = table.ascends;
  unsent = λ i lt h. elim (cases_eq i link) [
    | inl here ↦ ap (λ k. has_srm (rows_of 64 rs) k) here ∙ sym (srm_any 64 rs link low) ∙ none
    | inr apart ↦ table.unsent i lt (sym (others i lt apart) ∙ h)
  ];
  unasked = table.unasked;
}

pub unsent_rows : (sending asking : ℕ) (rs : List Bits) (link n : ℕ) → IsTable sending asking rs → at_bit sending link ≡ false → link < n → n ≤ 64 → has_srm (rows_of n rs) link ≡ false
unsent_rows sending asking rs link n table h lt few = sym (srm_any n rs link lt) ∙ srm_any 64 rs link (omega (arith, lt, few)) ∙ table.unsent link (omega (arith, lt, few)) h

pub unasked_rows : (sending asking : ℕ) (rs : List Bits) (link n : ℕ) → IsTable sending asking rs → at_bit asking link ≡ false → link < n → n ≤ 64 → has_ssn (rows_of n rs) link ≡ false
unasked_rows sending asking rs link n table h lt few = sym (ssn_any n rs link lt) ∙ ssn_any 64 rs link (omega (arith, lt, few)) ∙ table.unasked link (omega (arith, lt, few)) h

-- where the masks say that there is nothing to clear, nothing is
pub idle_cleared : (sending asking : ℕ) (rs : List Bits) (both : Bool) (link n : ℕ) → IsTable sending asking rs → (at_bit asking link || (both && at_bit sending link)) ≡ false → link < n → n ≤ 64 → rows_of n rs ≡ map (clears both link) (rows_of n rs)
idle_cleared sending asking rs both link n table h lt few =
    let parts = or_parts (at_bit asking link) (both && at_bit sending link) h in
    sym (rows_same both link (rows_of n rs) (unasked_rows sending asking rs link n table parts.0 lt few) (unsent both parts.1))
  where
    unsent : (b : Bool) → (b && at_bit sending link) ≡ false → (b && has_srm (rows_of n rs) link) ≡ false
    unsent true k = unsent_rows sending asking rs link n table k lt few
    unsent false k = refl
