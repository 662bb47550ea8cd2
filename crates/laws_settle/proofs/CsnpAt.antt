-- What a CSNP leaves of one LSP ID: whether it is listed, and is in the CSNP's range.
use Rattle.std.proofs.Common.{◌≡◌, ℕ, zero, suc, ◌<◌, ◌&&◌, not, nat_lt, Bool, true, false, if◌then◌else◌, List, [], ◌∷◌, replicate, slice_index_or, Option, Some, None, is_some, refl, sym, ap, subst, ◌∙◌}
use Rattle.std.specs.List.{fold}
use Rattle.std.proofs.lemmas.Bool.{and_from, and_parts, cond_both, true≢false}
use Rattle.std.proofs.lemmas.Option.{same_Some}
use Rattle.wire_base.specs.declared.addresses.LspId.{LspId}
use Rattle.wire_base.specs.declared.cause.Cause.{Cause}
use Rattle.wire_base.specs.declared.cause.Cause.TheVariants as cause
use Rattle.wire_base.specs.declared.entry.Entry.{Entry}
use Rattle.wire_base.specs.declared.triple.Summary.{Summary}
use Rattle.wire_base.specs.model.Configuration.{IsSound}
use Rattle.wire_base.specs.model.Control.{Control, Flood, entry_in, fragment_0, is_below, put_entry, same_id}
use Rattle.wire_base.specs.model.Flooding.{SnpAnswer, csnp_of, lacks, lists, mark_all, nothing_asked, on_csnp, on_list, on_pdu, reissue, reissue_if, send_lacking, set_srm, snp_done, with_row, csnp_listed}
use Rattle.wire_base.specs.model.Pdu.{row_tlvs}
use Rattle.wire_base.specs.model.Tlv.{rows_of}
use Rattle.laws_router.specs.Kept.{Kept}
use Rattle.wire_base.proofs.OrderLaws.{same_is}
use Rattle.laws_router.proofs.FlagLaws.{keeps_srm}
use Rattle.laws_router.proofs.KeptLaws.{SnpKept, list_kept, range_kept}
use Rattle.laws_router.proofs.StateLaws.{issue_kept}
use Rattle.router_core.specs.Own.{own_past, spent_past}
use Rattle.router_core.proofs.OwnLaws.{past_id, past_live, past_short, reissue_is}
use Rattle.domain_model.proofs.FlagLaws.{found_id}
use Rattle.laws_settle.proofs.FlagsAt.{CanFlag, Passes, can_row, due_flagged, flags_other, is_flagged, marked_flagged, passes_flagged, passes_marked, passes_same, passes_then, unflagged_before}
use Rattle.laws_settle.proofs.RowsAt.{AreOnce, IsDone, IsLike, IsUnlisted, can_flag, rows_like, rows_pass, summary_in}

-- ---- what the CSNP lacks

module _ (link : ℕ) (start last : LspId) (rows : List Summary) where
  can_lack : (f : Flood) (e : Entry) → CanFlag link f → CanFlag link (send_lacking link start last rows f e)
  can_lack f e can = cond_both (lacks start last rows e) (with_row f e.id (set_srm link true)) f (CanFlag link) (λ lacking. can_row link f e.id (set_srm link true) can (keeps_srm f.up link can.up)) (λ listed. can)

  module _ (id : LspId) where
    lack_flagged : (f : Flood) (e : Entry) → CanFlag link f → is_flagged f id link ≡ true → is_flagged (send_lacking link start last rows f e) id link ≡ true
    lack_flagged f e can set = cond_both (lacks start last rows e) (with_row f e.id (set_srm link true)) f (λ g. is_flagged g id link ≡ true) (λ lacking. by (same_id e.id id) refl) (λ listed. set)
      where
        by : (b : Bool) → same_id e.id id ≡ b → is_flagged (with_row f e.id (set_srm link true)) id link ≡ true
        by true same = subst (λ (i : LspId). is_flagged (with_row f e.id (set_srm link true)) i link ≡ true) (same_is e.id id same) (due_flagged link f can e.id)
        by false other = flags_other f e.id id (set_srm link true) link (λ row. refl) other ∙ set

    lacking_flagged : (es : List Entry) (f : Flood) → CanFlag link f → is_flagged f id link ≡ true → is_flagged (fold (send_lacking link start last rows) f es) id link ≡ true
    lacking_flagged [] f can set = set
    lacking_flagged (e ∷ es) f can set = lacking_flagged es (send_lacking link start last rows f e) (can_lack f e can) (lack_flagged f e can set)

    lacking_set : (es : List Entry) (f : Flood) (e : Entry) → CanFlag link f → entry_in es id ≡ Some e → lacks start last rows e ≡ true → is_flagged (fold (send_lacking link start last rows) f es) id link ≡ true
    lacking_set [] f e can found lacking = cc
    lacking_set (x ∷ xs) f e can found lacking = by (same_id x.id id) refl found (λ is. lacking_set xs (send_lacking link start last rows f x) e (can_lack f x can) is lacking)
      where
        next : Flood
        next = send_lacking link start last rows f x

        sent : x ≡ e → next ≡ with_row f x.id (set_srm link true)
        sent is = ap (λ (b : Bool). if b then with_row f x.id (set_srm link true) else f) (ap (lacks start last rows) is ∙ lacking)

        by : (b : Bool) → same_id x.id id ≡ b → (if b then Some x else entry_in xs id) ≡ Some e → (entry_in xs id ≡ Some e → is_flagged (fold (send_lacking link start last rows) next xs) id link ≡ true)
            → is_flagged (fold (send_lacking link start last rows) next xs) id link ≡ true
        by true same is rest =
            lacking_flagged xs next (can_lack f x can)
            (ap (λ (g : Flood). is_flagged g id link) (sent (same_Some x e is))
            ∙ subst (λ (i : LspId). is_flagged (with_row f x.id (set_srm link true)) i link ≡ true) (same_is x.id id same) (due_flagged link f can x.id))
        by false other is rest = rest is

    lacking_passes : (f : Flood) (es : List Entry) → CanFlag link f → Passes id link f es (fold (send_lacking link start last rows) f es) es
    lacking_passes f es can = record { flagged = lacking_flagged es f can; entry = λ none. refl }

none_lists : (id : LspId) (rows : List Summary) → IsUnlisted id rows → lists rows id ≡ false
none_lists id [] others = refl
none_lists id (s ∷ rows) others = rw others.0 (none_lists id rows others.1)

-- ---- the own LSP

-- a router whose flags can be set on an interface
pub record IsReceiving (up : List Bool) (c : Control) : Type 0 where
  pub sound : IsSound c.conf
  pub kept : Kept c.conf.system up c.spent c.flood c.entries

module _ (up : List Bool) where
  reissue_receives : (c : Control) (s : ℕ) → IsReceiving up c → IsReceiving up (reissue c s)
  reissue_receives c s r =
      let own = own_past c.conf c.flood.up s in
      subst (IsReceiving up) (sym (reissue_is c s)) (record {
        sound = r.sound;
        kept = issue_kept c.conf.system up c.spent (spent_past c.spent s) c.flood c.entries own r.kept (past_id c.conf c.flood.up s) (past_short c.conf c.flood.up s r.sound) (past_live c.conf c.flood.up c.spent s);
      })

  pub if_receives : (c : Control) (o : Option ℕ) → IsReceiving up c → IsReceiving up (reissue_if c o)
  if_receives c None r = r
  if_receives c (Some s) r = reissue_receives c s r

module _ (link : ℕ) (id : LspId) (c : Control) (can : CanFlag link c.flood) where
  reissue_passes : (s : ℕ) → Passes id link c.flood c.entries (reissue c s).flood (reissue c s).entries
  reissue_passes s = subst (λ (d : Control). Passes id link c.flood c.entries d.flood d.entries) (sym (reissue_is c s)) (by (same_id own.id id) refl)
    where
      own : Entry
      own = own_past c.conf c.flood.up s

      by : (b : Bool) → same_id own.id id ≡ b → Passes id link c.flood c.entries (mark_all c.flood own.id) (put_entry own c.entries)
      by true same = passes_flagged id link c.flood c.entries (mark_all c.flood own.id) (put_entry own c.entries) (subst (λ (i : LspId). is_flagged (mark_all c.flood own.id) i link ≡ true) (same_is own.id id same) (marked_flagged link c.flood can own.id))
      by false other = passes_marked id link c.flood c.entries own other

  if_passes : (o : Option ℕ) → Passes id link c.flood c.entries (reissue_if c o).flood (reissue_if c o).entries
  if_passes None = passes_same id link c.flood c.entries
  if_passes (Some s) = reissue_passes s

  reissue_flagged : (s : ℕ) → id ≡ fragment_0 c.conf.system → is_flagged (reissue c s).flood id link ≡ true
  reissue_flagged s is =
      let own = own_past c.conf c.flood.up s in
      subst (λ (d : Control). is_flagged d.flood id link ≡ true) (sym (reissue_is c s))
      (subst (λ (i : LspId). is_flagged (mark_all c.flood own.id) i link ≡ true) (past_id c.conf c.flood.up s ∙ sym is) (marked_flagged link c.flood can own.id))

  -- it is not requested of a router that is idle afterwards
  none_asked : (o : Option ℕ) → id ≡ fragment_0 c.conf.system → is_flagged (reissue_if c o).flood id link ≡ false → is_some o ≡ false
  none_asked None is idle = refl
  none_asked (Some s) is idle = absurd (true≢false (sym (reissue_flagged s is) ∙ idle))

-- ---- a CSNP

-- the entry is dead, or only requests an LSP
abbrev pub IsPlain : Option Entry → Type 0
IsPlain None = Unit {0}
IsPlain (Some e) = (nat_lt 0 e.life && nat_lt 0 e.seq) ≡ false

pub none_dropped : (n : ℕ) (x : Cause) → replicate n x ≡ [] → n ≡ 0
none_dropped zero x h = refl
none_dropped (suc n) x h = cc

-- a router after a CSNP: after its rows, then after what it lacks, then with the own LSP
abbrev pub listed_by : ℕ → List Summary → Control → SnpAnswer
listed_by link rows d = on_list d.flood d.entries link rows d.spent

abbrev left_by : ℕ → LspId → LspId → List Summary → Control → Control
left_by link start last rows d = record d { flood = fold (send_lacking link start last rows) (listed_by link rows d).flood (listed_by link rows d).entries; entries = (listed_by link rows d).entries }

abbrev pub after_csnp : ℕ → LspId → LspId → List Summary → Control → Control
after_csnp link start last rows d = reissue_if (left_by link start last rows d) (listed_by link rows d).answer.reissue

pub csnp_after : (link : ℕ) (start last : LspId) (rows : List Summary) (c d : Control) → rows_of (row_tlvs rows) ≡ rows → (on_pdu d link (csnp_of c start last rows)).control ≡ after_csnp link start last rows d
unfolding on_pdu on_csnp
csnp_after link start last rows c d is = ap (λ (rs : List Summary). (snp_done d (csnp_listed d.flood d.entries link start last rs d.spent)).control) is

pub csnp_drops : (link : ℕ) (start last : LspId) (rows : List Summary) (c d : Control) → rows_of (row_tlvs rows) ≡ rows → (on_pdu d link (csnp_of c start last rows)).drops ≡ replicate (listed_by link rows d).answer.full cause.Full
unfolding on_pdu on_csnp
csnp_drops link start last rows c d is = ap (λ (rs : List Summary). (snp_done d (csnp_listed d.flood d.entries link start last rs d.spent)).drops) is

module _ (up : List Bool) (link : ℕ) (open_ : slice_index_or up link false ≡ true) (start last : LspId) (rows : List Summary) (d : Control) (r : IsReceiving up d) where
  abbrev listed : SnpAnswer
  listed = listed_by link rows d

  abbrev all_sent : Flood
  all_sent = fold (send_lacking link start last rows) listed.flood listed.entries

  abbrev left : Control
  left = left_by link start last rows d

  abbrev after : Control
  after = after_csnp link start last rows d

  listed_is : SnpKept d.conf.system up d.spent listed
  listed_is = list_kept d.conf.system up d.spent link open_ d.flood d.entries rows r.kept

  left_is : SnpKept d.conf.system up d.spent (csnp_listed d.flood d.entries link start last rows d.spent)
  left_is = range_kept d.conf.system up d.spent link open_ d.flood d.entries start last rows r.kept

  can_listed : CanFlag link listed.flood
  can_listed = can_flag d.conf.system up d.spent link open_ listed.flood listed.entries listed_is.kept

  can_left : CanFlag link all_sent
  can_left = can_flag d.conf.system up d.spent link open_ all_sent listed.entries left_is.kept

  pub csnp_receives : IsReceiving up after
  csnp_receives = if_receives up left listed.answer.reissue (record { sound = r.sound; kept = left_is.kept })

  module _ (id : LspId) where
    rows_to_after : Passes id link listed.flood listed.entries after.flood after.entries
    rows_to_after =
        passes_then id link listed.flood listed.entries all_sent listed.entries after.flood after.entries
        (lacking_passes link start last rows id listed.flood listed.entries can_listed) (if_passes link id left can_left listed.answer.reissue)

    listed_passes : IsUnlisted id rows → Passes id link d.flood d.entries listed.flood listed.entries
    unfolding on_list
    listed_passes others = rows_pass id link d.spent rows (record { flood = d.flood; entries = d.entries; answer = nothing_asked }) others

    -- what it does not list passes
    pub csnp_passes : IsUnlisted id rows → Passes id link d.flood d.entries after.flood after.entries
    csnp_passes others = passes_then id link d.flood d.entries listed.flood listed.entries after.flood after.entries (listed_passes others) rows_to_after

    left_idle : is_flagged after.flood id link ≡ false → is_flagged all_sent id link ≡ false
    left_idle idle = unflagged_before id link all_sent listed.entries after.flood after.entries (if_passes link id left can_left listed.answer.reissue) idle

    -- and is not to be sent, if its range has it
    pub csnp_plain : IsUnlisted id rows → is_below id start ≡ false → is_below last id ≡ false → is_flagged after.flood id link ≡ false → IsPlain (entry_in after.entries id)
    csnp_plain others low high idle = subst IsPlain (sym (rows_to_after.entry idle)) (plain (entry_in listed.entries id) refl)
      where
        lacking : (e : Entry) → e.id ≡ id → nat_lt 0 e.life && nat_lt 0 e.seq ≡ true → lacks start last rows e ≡ true
        lacking e here live =
            let parts = and_parts (nat_lt 0 e.life) (nat_lt 0 e.seq) live in
            and_from _ _ parts.0
            (and_from _ _ parts.1
            (and_from _ _ (ap (λ (i : LspId). not (is_below i start)) here ∙ ap not low)
            (and_from _ _ (ap (λ (i : LspId). not (is_below last i)) here ∙ ap not high) (ap (λ (i : LspId). not (lists rows i)) here ∙ ap not (none_lists id rows others)))))

        plain : (o : Option Entry) → entry_in listed.entries id ≡ o → IsPlain o
        plain None at = tt
        plain (Some e) at = by (nat_lt 0 e.life && nat_lt 0 e.seq) refl
          where
            by : (b : Bool) → (nat_lt 0 e.life && nat_lt 0 e.seq) ≡ b → (nat_lt 0 e.life && nat_lt 0 e.seq) ≡ false
            by false h = h
            by true h =
                absurd (true≢false
                (sym (lacking_set link start last rows id listed.entries listed.flood e can_listed at (lacking e (same_is e.id id (found_id listed.entries id e at)) h)) ∙ left_idle idle))

    rows_done : is_flagged after.flood id link ≡ false → listed.answer.full ≡ 0 → IsDone link id listed
    rows_done idle room = record {
      idle = unflagged_before id link listed.flood listed.entries after.flood after.entries rows_to_after idle;
      room = room;
      kept = λ same. none_asked link id left can_left listed.answer.reissue (same_is id (fragment_0 listed.flood.own) same ∙ ap fragment_0 listed_is.kept.own_is) idle;
    }

    folded_like : (s : Summary) → AreOnce rows → summary_in rows id ≡ Some s → 0 < s.seq → IsDone link id listed → IsLike (entry_in listed.entries id) s
    unfolding on_list
    folded_like s once found some done =
        rows_like d.conf.system up d.spent link open_ id rows (record { flood = d.flood; entries = d.entries; answer = nothing_asked }) s (record { kept = r.kept; asked = λ n q. cc }) once found some done

    -- what it lists is there as it says
    pub csnp_like : (s : Summary) → AreOnce rows → summary_in rows id ≡ Some s → 0 < s.seq → replicate listed.answer.full cause.Full ≡ [] → is_flagged after.flood id link ≡ false → IsLike (entry_in after.entries id) s
    csnp_like s once found some none idle =
        subst (λ (o : Option Entry). IsLike o s) (sym (rows_to_after.entry idle)) (folded_like s once found some (rows_done idle (none_dropped listed.answer.full cause.Full none)))
