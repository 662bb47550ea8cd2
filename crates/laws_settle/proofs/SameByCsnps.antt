-- A router that has received all CSNPs of another, and is idle, has the same live LSPs.
use Rattle.std.proofs.Common.{◌≡◌, ℕ, ◌<◌, ◌==◌, ◌&&◌, nat_lt, Bool, true, false, if◌then◌else◌, List, [], ◌∷◌, map, filter, Option, Some, None, refl, sym, ap, subst, ◌∙◌, arith}
use Rattle.std.specs.List.{AllByRecursion}
use Rattle.std.proofs.lemmas.Bool.{and_from, eq-eqb, eqb-true, true≢false, lt-ltb, ltb-true, ltb-false, or_from}
use Rattle.std.proofs.lemmas.Option.{same_Some}
use Rattle.std.proofs.lemmas.Slice.Eq.{bytes_eq-Decides}
use Rattle.wire_base.specs.declared.addresses.LspId.{LspId}
use Rattle.wire_base.specs.declared.entry.Age.TheVariants.{Newer, Equal, Older}
use Rattle.wire_base.specs.declared.entry.Entry.{Entry}
use Rattle.wire_base.specs.declared.triple.Summary.{Summary}
use Rattle.wire_base.specs.model.Control.{AreAscending, Control, age_by_life, age_of, entry_in, ids_of, is_below, same_id, summary_of}
use Rattle.wire_base.specs.model.Flooding.{due_csnps, is_known, is_live_summary, most_listed, zero_id}
use Rattle.wire_base.specs.model.Lists.{blocks}
use Rattle.wire_base.specs.model.Tlv.{SummaryFits}
use Rattle.lsp_store.specs.Keys.{IsOctets}
use Rattle.wire_base.proofs.OrderLaws.{below_differs, same_turned, same_is}
use Rattle.router_core.proofs.OwnLaws.{kept_of}
use Rattle.quiet_domain.specs.Live.{AreSameLive, are_alike, is_live, is_same}
use Rattle.domain_model.proofs.EachLaws.{each_kept, each_mapped, each_weaker}
use Rattle.domain_model.proofs.FlagLaws.{found_each, found_id, ids_each, none_later}
use Rattle.laws_settle.specs.Csnps.{IsAnswered, IsSoundEntry, NoneDropped, SaySame, after_pdus}
use Rattle.laws_settle.proofs.CsnpAt.{IsPlain, IsReceiving}
use Rattle.laws_settle.proofs.IdOrder.{none_below, zero_octets}
use Rattle.laws_settle.proofs.FlagsAt.{is_flagged}
use Rattle.laws_settle.proofs.PartsAt.{HaveRoom, Part, after_parts, csnps_parts, part_pdu, parts, parts_after, parts_are, parts_cover, parts_like, parts_plain, parts_room, rows_in}
use Rattle.laws_settle.proofs.RowsAt.{AreOnce, IsLike, IsUnlisted, summary_in}

-- ---- what a router lists

abbrev rows_of : List Entry → List Summary
rows_of es = map summary_of (filter is_known es)

-- the row of an entry with a sequence number
known_listed : (es : List Entry) (id : LspId) (e : Entry) → entry_in es id ≡ Some e → is_known e ≡ true → summary_in (rows_of es) id ≡ Some (summary_of e)
known_listed [] id e found known = cc
known_listed (x ∷ xs) id e found known = by (same_id x.id id) refl found (λ is. known_listed xs id e is known)
  where
    skipped : (k : Bool) → same_id x.id id ≡ false → summary_in (map summary_of (if k then x ∷ filter is_known xs else filter is_known xs)) id ≡ summary_in (rows_of xs) id
    skipped true other = rw other refl
    skipped false other = refl

    by : (b : Bool) → same_id x.id id ≡ b → (if b then Some x else entry_in xs id) ≡ Some e → (entry_in xs id ≡ Some e → summary_in (rows_of xs) id ≡ Some (summary_of e)) → summary_in (rows_of (x ∷ xs)) id ≡ Some (summary_of e)
    by true same is rest =
        let it : x ≡ e = same_Some x e is in
        rw (ap is_known it ∙ known, same) (ap (λ (y : Entry). Some (summary_of y)) it)
    by false other is rest = skipped (is_known x) other ∙ rest is

-- the LSP ID has no entry with a sequence number
abbrev IsUnknownAt : Option Entry → Type 0
IsUnknownAt None = Unit {0}
IsUnknownAt (Some e) = is_known e ≡ false

unknown_unlisted : (es : List Entry) (id : LspId) → AreAscending (ids_of es) → IsUnknownAt (entry_in es id) → IsUnlisted id (rows_of es)
unknown_unlisted [] id asc none = tt
unknown_unlisted (x ∷ xs) id asc none = by (same_id x.id id) refl none (λ later. unknown_unlisted xs id asc.1 later)
  where
    gone : same_id x.id id ≡ true → entry_in xs id ≡ None
    gone same = subst (λ (i : LspId). entry_in xs i ≡ None) (same_is x.id id same) (none_later x.id xs asc.0)

    kept : (k : Bool) → same_id x.id id ≡ false → IsUnlisted id (rows_of xs) → IsUnlisted id (map summary_of (if k then x ∷ filter is_known xs else filter is_known xs))
    kept true other rest = (other, rest)
    kept false other rest = rest

    by : (b : Bool) → same_id x.id id ≡ b → IsUnknownAt (if b then Some x else entry_in xs id) → (IsUnknownAt (entry_in xs id) → IsUnlisted id (rows_of xs)) → IsUnlisted id (rows_of (x ∷ xs))
    by true same unknown rest = rw unknown (rest (subst IsUnknownAt (sym (gone same)) tt))
    by false other unknown rest = kept (is_known x) other (rest unknown)

rows_once : (es : List Entry) → AreAscending (ids_of es) → AreOnce (rows_of es)
rows_once [] asc = tt
rows_once (x ∷ xs) asc = by (is_known x) (rows_once xs asc.1)
  where
    others : IsUnlisted x.id (rows_of xs)
    others =
        let above : AllByRecursion (λ e. is_below x.id e.id ≡ true) xs = ids_each (λ i. is_below x.id i ≡ true) xs asc.0 in
        each_mapped (λ s. same_id s.id x.id ≡ false) summary_of (filter is_known xs)
        (each_kept (λ e. same_id e.id x.id ≡ false) is_known xs (each_weaker (λ e. is_below x.id e.id ≡ true) (λ e. same_id e.id x.id ≡ false) (λ e low. same_turned e.id x.id ∙ below_differs x.id e.id low) xs above))

    by : (k : Bool) → AreOnce (rows_of xs) → AreOnce (map summary_of (if k then x ∷ filter is_known xs else filter is_known xs))
    by true rest = (others, rest)
    by false rest = rest

row_fits : (e : Entry) → IsSoundEntry e → SummaryFits (summary_of e)
row_fits e h = record {
  life = h.life;
  id = record { system = h.id.system.six; pseudonode = h.id.pseudonode; fragment = h.id.fragment };
  seq = h.seq;
  sum = h.sum;
}

rows_fit : (es : List Entry) → AllByRecursion IsSoundEntry es → AllByRecursion SummaryFits (rows_of es)
rows_fit es all = each_mapped SummaryFits summary_of (filter is_known es) (each_weaker IsSoundEntry (λ e. SummaryFits (summary_of e)) row_fits (filter is_known es) (each_kept IsSoundEntry is_known es all))

rows_octets : (es : List Entry) → AllByRecursion IsSoundEntry es → AllByRecursion (λ s. IsOctets s.id) (rows_of es)
rows_octets es all = each_mapped (λ s. IsOctets s.id) summary_of (filter is_known es) (each_weaker IsSoundEntry (λ e. IsOctets e.id) (λ e h. h.id) (filter is_known es) (each_kept IsSoundEntry is_known es all))

-- ---- two entries of one LSP ID

-- none that is live
abbrev IsNotLive : Option Entry → Type 0
IsNotLive None = Unit {0}
IsNotLive (Some e) = is_live e ≡ false

none_live : (o p : Option Entry) → IsNotLive o → IsNotLive p → is_same o p ≡ true
none_live None None h k = refl
none_live None (Some y) h k = rw k refl
none_live (Some x) None h k = rw h refl
none_live (Some x) (Some y) h k = rw (h, k) refl

-- a live entry has a sequence number and a checksum
dead_plain : (e : Entry) → IsSoundEntry e → (nat_lt 0 e.life && nat_lt 0 e.seq) ≡ false → is_live e ≡ false
dead_plain e h plain = by (nat_lt 0 e.life) refl plain
  where
    by : (b : Bool) → nat_lt 0 e.life ≡ b → (b && nat_lt 0 e.seq) ≡ false → b ≡ false
    by true live none = sym (lt-ltb 0 e.seq (h.some_seq (ltb-true 0 e.life live))) ∙ none
    by false dead none = refl

dead_unknown : (e : Entry) → IsSoundEntry e → is_known e ≡ false → is_live e ≡ false
dead_unknown e h unknown = by (nat_lt 0 e.life) refl
  where
    by : (b : Bool) → nat_lt 0 e.life ≡ b → b ≡ false
    by true live = sym (lt-ltb 0 e.seq (h.some_seq (ltb-true 0 e.life live))) ∙ unknown
    by false dead = refl

dead_summary : (e : Entry) → IsSoundEntry e → is_live_summary (summary_of e) ≡ false → is_live e ≡ false
dead_summary e h dead = by (nat_lt 0 e.life) refl dead
  where
    by : (b : Bool) → nat_lt 0 e.life ≡ b → (b && (nat_lt 0 e.seq && nat_lt 0 e.sum)) ≡ false → b ≡ false
    by true live none =
        let here : 0 < e.life = ltb-true 0 e.life live in
        sym (and_from _ _ (lt-ltb 0 e.seq (h.some_seq here)) (lt-ltb 0 e.sum (h.some_sum here))) ∙ none
    by false gone none = refl

-- Two entries of equal age: of the same sequence number, and both dead, or both live with the same checksum.
pub record AreEven (x y : Entry) : Type 0 where
  pub seq : x.seq ≡ y.seq
  pub lives : (x.life == 0) ≡ (y.life == 0)
  pub sums : (x.life == 0) ≡ false → x.sum ≡ y.sum

even_of : (x y : Entry) → 0 < x.seq → age_of (Some y) (summary_of x) ≡ Equal → AreEven x y
even_of x y some age = by (y.seq == x.seq) (x.seq == 0) (nat_lt y.seq x.seq) refl refl age
  where
    lived : (d e s : Bool) → (y.life == 0) ≡ d → (x.life == 0) ≡ e → (y.sum == x.sum) ≡ s → y.seq ≡ x.seq → age_by_life d e s ≡ Equal → AreEven x y
    lived true true s p q t same is = record { seq = sym same; lives = q ∙ sym p; sums = λ live. absurd (true≢false (sym q ∙ live)) }
    lived true false s p q t same is = cc
    lived false true s p q t same is = cc
    lived false false true p q t same is = record { seq = sym same; lives = q ∙ sym p; sums = λ live. sym (eqb-true y.sum x.sum t) }
    lived false false false p q t same is = cc

    by : (same none less : Bool) → (y.seq == x.seq) ≡ same → (x.seq == 0) ≡ none → (if same then (if none then Equal else age_by_life (y.life == 0) (x.life == 0) (y.sum == x.sum)) else (if less then Newer else Older)) ≡ Equal → AreEven x y
    by true true less p q is = absurd (let zero_seq = eqb-true x.seq 0 q in omega (arith, zero_seq, some))
    by true false less p q is = lived (y.life == 0) (x.life == 0) (y.sum == x.sum) refl refl refl (eqb-true y.seq x.seq p) is
    by false none true p q is = cc
    by false none false p q is = cc

live_not_zero : (n : ℕ) → nat_lt 0 n ≡ true → (n == 0) ≡ false
live_not_zero n live = by (n == 0) refl
  where
    by : (b : Bool) → (n == 0) ≡ b → b ≡ false
    by true zero_is = absurd (let n_is = eqb-true n 0 zero_is in let more = ltb-true 0 n live in omega (arith, n_is, more))
    by false other = refl

zero_not_live : (n : ℕ) → nat_lt 0 n ≡ false → (n == 0) ≡ true
zero_not_live n dead = eq-eqb n 0 (let none = ltb-false 0 n dead in omega (arith, none))

even_alike : (x y : Entry) → AreEven x y → (0 < x.life → 0 < y.life → x.sum ≡ y.sum → SaySame x y) → are_alike x y ≡ true
even_alike x y e told = by (nat_lt 0 x.life) (nat_lt 0 y.life) refl refl
  where
    by : (a b : Bool) → nat_lt 0 x.life ≡ a → nat_lt 0 y.life ≡ b → are_alike x y ≡ true
    by true true p q =
        let says = told (ltb-true 0 x.life p) (ltb-true 0 y.life q) (e.sums (live_not_zero x.life p)) in
        rw (p, q) (and_from _ _ (eq-eqb x.seq y.seq e.seq) (and_from _ _ (eq-eqb x.flags y.flags says.flags) ((bytes_eq-Decides x.content y.content).1 says.content)))
    by true false p q = absurd (true≢false (sym (e.lives ∙ zero_not_live y.life q) ∙ live_not_zero x.life p))
    by false true p q = absurd (true≢false (sym (zero_not_live x.life p) ∙ (e.lives ∙ live_not_zero y.life q)))
    by false false p q = rw (p, q) refl

-- ---- all LSP IDs

module _ (a b : Control) (link : ℕ) (last : Control) (h : IsAnswered a b link last) where
  abbrev rows : List Summary
  rows = rows_of a.entries

  abbrev ranges : List Part
  ranges = parts zero_id (blocks most_listed rows)

  asc : AreAscending (ids_of a.entries)
  asc = h.sender.control.entries.in_order

  ranges_rows : rows_in ranges ≡ rows
  ranges_rows = parts_are zero_id most_listed rows (omega arith)

  sent_is : due_csnps a true ≡ map (part_pdu a) ranges
  sent_is = csnps_parts a zero_id (blocks most_listed rows)

  fits : AllByRecursion SummaryFits (rows_in ranges)
  fits = subst (AllByRecursion SummaryFits) (sym ranges_rows) (rows_fit a.entries h.sent)

  last_is : last ≡ after_parts link b ranges
  last_is = h.is ∙ ap (after_pdus b link) sent_is ∙ parts_after link a ranges b fits

  room : HaveRoom link b ranges
  room = parts_room link a ranges b fits (subst (NoneDropped b link) sent_is h.room)

  receiving : IsReceiving b.flood.up b
  receiving = record { sound = h.receiver.sound; kept = kept_of b h.receiver }

  idle : (id : LspId) → is_flagged (after_parts link b ranges).flood id link ≡ false
  idle id = subst (λ (c : Control). is_flagged c.flood id link ≡ false) last_is (or_from _ _ (h.idle.srm id) (h.idle.ssn id))

  module _ (id : LspId) where
    listed : (x : Entry) → entry_in a.entries id ≡ Some x → is_known x ≡ true → IsLike (entry_in last.entries id) (summary_of x)
    listed x at known =
        subst (λ (c : Control). IsLike (entry_in c.entries id) (summary_of x)) (sym last_is)
        (parts_like b.flood.up link h.up id ranges b (summary_of x) receiving (subst AreOnce (sym ranges_rows) (rows_once a.entries asc)) (ap (λ (rs : List Summary). summary_in rs id) ranges_rows ∙ known_listed a.entries id x at known) (ltb-true 0 x.seq known) room (idle id))

    unlisted : IsOctets id → IsUnknownAt (entry_in a.entries id) → IsPlain (entry_in last.entries id)
    unlisted octets unknown =
        subst (λ (c : Control). IsPlain (entry_in c.entries id)) (sym last_is)
        (parts_plain b.flood.up link h.up id ranges b receiving (subst (IsUnlisted id) (sym ranges_rows) (unknown_unlisted a.entries id asc unknown)) (parts_cover id octets zero_id most_listed rows zero_octets (rows_octets a.entries h.sent) (none_below id octets)) (idle id))

    -- what the sender has no sequence number of is not live at the receiver
    not_live : IsUnknownAt (entry_in a.entries id) → IsNotLive (entry_in last.entries id)
    not_live unknown = by (entry_in last.entries id) refl
      where
        by : (o : Option Entry) → entry_in last.entries id ≡ o → IsNotLive o
        by None at = tt
        by (Some y) at =
            let sound : IsSoundEntry y = found_each IsSoundEntry last.entries id y h.stored at in
            let octets : IsOctets id = subst IsOctets (same_is y.id id (found_id last.entries id y at)) sound.id in
            dead_plain y sound (subst IsPlain at (unlisted octets unknown))

    like_same : (x : Entry) → entry_in a.entries id ≡ Some x → is_known x ≡ true → (o : Option Entry) → entry_in last.entries id ≡ o → IsLike o (summary_of x) → is_same (Some x) o ≡ true
    like_same x at known None there like = rw (dead_summary x (found_each IsSoundEntry a.entries id x h.sent at) like) refl
    like_same x at known (Some y) there like =
        let even = even_of x y (ltb-true 0 x.seq known) like in
        even_alike x y even (λ p q sums. h.told id x y at there p q even.seq sums)

    same_at : (o : Option Entry) → entry_in a.entries id ≡ o → is_same o (entry_in last.entries id) ≡ true
    same_at None at = none_live None (entry_in last.entries id) tt (not_live (subst IsUnknownAt (sym at) tt))
    same_at (Some x) at = by (is_known x) refl
      where
        by : (k : Bool) → is_known x ≡ k → is_same (Some x) (entry_in last.entries id) ≡ true
        by true known = like_same x at known (entry_in last.entries id) refl (listed x at known)
        by false unknown = none_live (Some x) (entry_in last.entries id) (dead_unknown x (found_each IsSoundEntry a.entries id x h.sent at) unknown) (not_live (subst IsUnknownAt (sym at) unknown))

  pub same_live : AreSameLive a.entries last.entries
  same_live = λ id. same_at id (entry_in a.entries id) refl
