-- What comes in frames finds room in frames, and a router stays one when it takes a PDU: what the PDU makes of it is what
-- the code does, with all that it asks for made ready before.
use Rattle.std.proofs.Common.{◌≡◌, ◌∙◌, ℕ, ◌+◌, ◌≤◌, ◌==◌, ◌&&◌, Bool, true, false, List, [], ◌∷◌, ◌++◌, length, map, replicate, get_or, Option, Some, None, is_none, IfSome, if◌then◌else◌, refl, sym, ap, subst, length-append, arith}
use Rattle.std.proofs.lemmas.Bool.{true≢false}
use Rattle.std.specs.Prelude.{option_map}
use Rattle.byteorder.specs.Endian.{big_bytes}
use Rattle.byteorder.specs.Numbers.{length-bytes_high_first}
use Rattle.wire_base.specs.declared.limits.TheConstants.{MOST_CONTENT}
use Rattle.wire_base.specs.declared.addresses.LspId.{LspId}
use Rattle.wire_base.specs.declared.cause.Cause.TheVariants as cause
use Rattle.wire_base.specs.declared.conf.Level.{Level}
use Rattle.wire_base.specs.declared.conf.RouterConf.{RouterConf}
use Rattle.wire_base.specs.declared.entry.Age.{Age}
use Rattle.wire_base.specs.declared.entry.Age.TheVariants.{Unknown, Newer, Equal, Older, Confused}
use Rattle.wire_base.specs.declared.entry.Entry.{Entry}
use Rattle.wire_base.specs.declared.flood_out.FloodOut.{FloodOut}
use Rattle.wire_base.specs.declared.flood_out.FloodOut.TheVariants as out
use Rattle.wire_base.specs.declared.triple.Summary.{Summary}
use Rattle.wire_base.specs.model.Control.{Control, Flood, IsDatabase, entry_in, age_of, is_full, is_unknown}
use Rattle.wire_base.specs.model.Flooding.{on_lsp, lsp_in, lsp_aged, is_own_ahead, is_unheld_own, snp_done, reissue_if, LspAnswer, SnpAnswer}
use Rattle.wire_base.specs.model.OnFrame.{Drop, Effects, nothing, framed}
use Rattle.wire_base.specs.model.Pdu.{Head, head_summary, Pdu, LspPdu, CsnpPdu, PsnpPdu, HelloPdu, OtherPdu, IsPdu, lsp_type, csnp_type, psnp_type, shaped, shape, lsp_body, csnp_body, psnp_body, lsp_covered}
use Rattle.wire_base.specs.model.Tlv.{lsp_id}
use Rattle.lsp_store.specs.Places.{is_new}
use Rattle.router_core.specs.declared.snp_needs.Ready.{Ready}
use Rattle.router_core.specs.SnpNeeds.{spent_if, flags_issued, entries_issued, count_full, past_of, IsReady}
use Rattle.router_core.specs.Own.{own_past}
use Rattle.router_core.specs.Received.{HasRoom, full_drop, is_kept, list_taken}
use Rattle.laws_router.specs.State.{IsRouter, AreIssued, is_up, control_of}
use Rattle.router_core.proofs.SnpNeedsLaws.{past_is, full_is}
use Rattle.router_core.proofs.IssuedLaws.{issued_now, marked_up}
use Rattle.laws_router.specs.Kept.{Kept, OwnStands}
use Rattle.laws_router.proofs.KeptLaws.{LspKept, SnpKept, lsp_kept, range_kept, list_kept}
use Rattle.router_core.proofs.OwnLaws.{past_id, kept_of, router_of, reissued_is, reissued_keeps}

-- ---- lengths

pub pdu_short : (level : Level) (octets : List ℕ) (p : Pdu) → IsPdu level octets p → length octets ≤ 1497 → HasRoom p
pdu_short level octets (LspPdu head tlvs) is short =
    let whole = ap length is.parts ∙ length-append (shape level is.free (LspPdu head tlvs)) is.rest in
    let a = length-append (shaped is.free 27 (lsp_type level)) (lsp_body head tlvs) in
    let b = length-append (big_bytes 2 (27 + length tlvs)) (big_bytes 2 head.life ++ lsp_covered head tlvs) in
    let c = length-append (big_bytes 2 head.life) (lsp_covered head tlvs) in
    let d = length-append (lsp_id head.id) (big_bytes 4 head.seq ++ (big_bytes 2 head.sum ++ (head.flags ∷ tlvs))) in
    let e = length-append head.id.system.0 (head.id.pseudonode ∷ head.id.fragment ∷ []) in
    let f = length-append (big_bytes 4 head.seq) (big_bytes 2 head.sum ++ (head.flags ∷ tlvs)) in
    let g = length-append (big_bytes 2 head.sum) (head.flags ∷ tlvs) in
    omega (arith, whole, a, b, c, d, e, f, g, is.fits.head_fits.id.system, length-bytes_high_first 2 (27 + length tlvs), length-bytes_high_first 2 head.life, length-bytes_high_first 4 head.seq, length-bytes_high_first 2 head.sum, short)
pdu_short level octets (CsnpPdu source start last tlvs) is short =
    let whole = ap length is.parts ∙ length-append (shape level is.free (CsnpPdu source start last tlvs)) is.rest in
    let a = length-append (shaped is.free 33 (csnp_type level)) (csnp_body is.free.circuit source start last tlvs) in
    let b = length-append (big_bytes 2 (33 + length tlvs)) (source.0 ++ (is.free.circuit ∷ (lsp_id start ++ (lsp_id last ++ tlvs)))) in
    let c = length-append source.0 (is.free.circuit ∷ (lsp_id start ++ (lsp_id last ++ tlvs))) in
    let d = length-append (lsp_id start) (lsp_id last ++ tlvs) in
    let e = length-append (lsp_id last) tlvs in
    omega (arith, whole, a, b, c, d, e, short)
pdu_short level octets (PsnpPdu source tlvs) is short =
    let whole = ap length is.parts ∙ length-append (shape level is.free (PsnpPdu source tlvs)) is.rest in
    let a = length-append (shaped is.free 17 (psnp_type level)) (psnp_body is.free.circuit source tlvs) in
    let b = length-append (big_bytes 2 (17 + length tlvs)) (source.0 ++ (is.free.circuit ∷ tlvs)) in
    let c = length-append source.0 (is.free.circuit ∷ tlvs) in
    omega (arith, whole, a, b, c, short)
pdu_short level octets HelloPdu is short = tt
pdu_short level octets (OtherPdu number) is short = tt

-- ---- what flooding leaves

-- what isn't kept changes nothing
abbrev Unchanged : Flood → List Entry → LspAnswer → Type 0
Unchanged f es a = is_kept a.answer ≡ false → (a.flood ≡ f) × (a.entries ≡ es)

lsp_if : (f : Flood) (es : List Entry) (b : Bool) (x y : LspAnswer) → Unchanged f es x → Unchanged f es y → Unchanged f es (if b then x else y)
lsp_if f es true x y h k = h
lsp_if f es false x y h k = k

aged_changes : (f : Flood) (es : List Entry) (link : ℕ) (h : Head) (tlvs : List ℕ) (age : Age) → Unchanged f es (lsp_aged f es link h tlvs age)
aged_changes f es link h tlvs Unknown q = lsp_if f es (h.life == 0) _ _ (λ _. (refl, refl)) (lsp_if f es (is_full es) _ _ (λ _. (refl, refl)) (λ q. absurd (true≢false q))) q
aged_changes f es link h tlvs Newer q = absurd (true≢false q)
aged_changes f es link h tlvs Confused q = absurd (true≢false q)
aged_changes f es link h tlvs Equal q = absurd (true≢false q)
aged_changes f es link h tlvs Older q = absurd (true≢false q)

lsp_changes : (f : Flood) (es : List Entry) (link : ℕ) (h : Head) (tlvs : List ℕ) (spent : Bool) → Unchanged f es (on_lsp f es link h tlvs spent)
unfolding on_lsp
lsp_changes f es link h tlvs spent = by_age (age_of (entry_in es h.id) (head_summary h))
  where
    by_age : (age : Age) → Unchanged f es (lsp_in f es link h tlvs spent age)
    by_age age =
        lsp_if f es (h.seq == 0) _ _ (λ _. (refl, refl))
        (lsp_if f es (is_own_ahead f h.id spent age) _ _ (λ _. (refl, refl))
        (lsp_if f es (is_unheld_own f h age) _ _ (lsp_if f es (is_unknown age && is_full es) _ _ (λ _. (refl, refl)) (λ q. absurd (true≢false q)))
        (aged_changes f es link h tlvs age)))

module _ (r : RouterConf) (f : Flood) (es : List Entry) (spent : Bool) (k : IsRouter (control_of r f es spent)) (link : ℕ) (open_ : get_or f.up link false ≡ true) where
  whole : Kept r.system f.up spent f es
  whole = kept_of (control_of r f es spent) k

  stays : (f' : Flood) (es' : List Entry) → Kept r.system f.up spent f' es' → IsDatabase es' → IsRouter (control_of r f' es' spent)
  stays f' es' kept database = router_of r f.up spent f' es' k.sound k.control.links kept database

  module _ (h : Head) (tlvs : List ℕ) (short : length tlvs ≤ MOST_CONTENT) (f' : Flood) (es' : List Entry) (answer : FloodOut) (is : on_lsp f es link h tlvs spent ≡ record { flood = f'; entries = es'; answer = answer }) where
    lsp_is : LspKept r.system f.up spent (record { flood = f'; entries = es'; answer = answer })
    lsp_is = subst (λ (a : LspAnswer). LspKept r.system f.up spent a) is (lsp_kept r.system f.up spent f es whole link open_ h tlvs short)

    pub lsp_keeps : IsDatabase es' → IsRouter (control_of r f' es' spent)
    lsp_keeps database = stays f' es' lsp_is.kept database

    pub lsp_up : f'.up ≡ f.up
    lsp_up = lsp_is.kept.up_is

    pub lsp_asks : (s : ℕ) → answer ≡ out.Reissue s → spent ≡ false
    lsp_asks = lsp_is.asked

    pub lsp_unchanged : is_kept answer ≡ false → control_of r f' es' spent ≡ control_of r f es spent
    lsp_unchanged asks =
        let same = subst (λ (a : LspAnswer). Unchanged f es a) is (lsp_changes f es link h tlvs spent) asks in
        ap (λ (g : Flood). control_of r g es' spent) same.0 ∙ ap (λ (l : List Entry). control_of r f l spent) same.1

-- ---- lists of entries

-- what a list of entries leaves of a router, and what it asks for, is what was reported of it
pub record IsListed (c : Control) (rows : List Summary) (a : SnpAnswer) : Type 0 where
  pub kept : SnpKept c.conf.system c.flood.up c.spent a
  pub asked : a.answer.reissue ≡ past_of c rows
  pub counted : a.answer.full ≡ count_full c.entries rows

-- `before` is the router, whose parts are c; f are its flags once rows are reserved
module _ (c before : Control) (k : IsRouter c) (is : c ≡ before) (link : ℕ) (up : is_up before link ≡ true) (f : Flood) (reserved : f ≡ c.flood) (a : SnpAnswer) where
  open_ : get_or c.flood.up link false ≡ true
  open_ = ap (λ (x : Control). get_or x.flood.up link false) is ∙ up

  module _ (range : Option (LspId × LspId)) (rows : List Summary) (done : list_taken f c.entries link range rows c.spent ≡ a) where
    list_done : list_taken c.flood c.entries link range rows c.spent ≡ a
    list_done = ap (λ (g : Flood). list_taken g c.entries link range rows c.spent) (sym reserved) ∙ done

    -- what is asked for beside flags and entries is the same of both kinds of list
    listed_so : (o : Option (LspId × LspId)) → IsListed c rows (list_taken c.flood c.entries link o rows c.spent)
    listed_so None = record {
      kept = list_kept c.conf.system c.flood.up c.spent link open_ c.flood c.entries rows (kept_of c k);
      asked = past_is link c.conf.system c.spent c.flood c.entries rows k.control.own k.own;
      counted = full_is link c.spent c.flood c.entries rows k.control.entries.in_order;
    }
    listed_so (Some o) = record {
      kept = range_kept c.conf.system c.flood.up c.spent link open_ c.flood c.entries o.0 o.1 rows (kept_of c k);
      asked = past_is link c.conf.system c.spent c.flood c.entries rows k.control.own k.own;
      counted = full_is link c.spent c.flood c.entries rows k.control.entries.in_order;
    }

    pub list_listed : IsListed c rows a
    list_listed = subst (λ (x : SnpAnswer). IsListed c rows x) list_done (listed_so range)

    pub list_framed : framed link (snp_done c a) ≡ framed link (snp_done before (list_taken before.flood before.entries link range rows before.spent))
    list_framed = ap (λ (x : SnpAnswer). framed link (snp_done c x)) (sym list_done) ∙ ap (λ (x : Control). framed link (snp_done x (list_taken x.flood x.entries link range rows x.spent))) is

-- what was made ready is all that the list asks for
module _ (c before : Control) (k : IsRouter c) (is : c ≡ before) (rows : List Summary) (a : SnpAnswer) (l : IsListed c rows a) (ready : Ready) (told : IsReady before rows ready) where
  h : IsReady c rows ready
  h = subst (λ (x : Control). IsReady x rows ready) (sym is) told

  pub ready_known : IfSome ready.own (λ e. is_new a.entries e.id ≡ false)
  ready_known = subst (λ (o : Option Entry). IfSome o (λ e. is_new a.entries e.id ≡ false)) (sym h.own) (cases (past_of c rows) l.asked)
    where
      there : (s : ℕ) → OwnStands c.conf.system a.entries → is_new a.entries (own_past c.conf c.flood.up s).id ≡ false
      there s (e, (is, more)) = ap is_none (ap (λ (i : LspId). entry_in a.entries i) (past_id c.conf c.flood.up s) ∙ is)

      cases : (o : Option ℕ) → a.answer.reissue ≡ o → IfSome (option_map (own_past c.conf c.flood.up) o) (λ e. is_new a.entries e.id ≡ false)
      cases None q = tt
      cases (Some s) q = there s (l.kept.kept.stands (l.kept.asked s q))

  module _ (f : Flood) (es : List Entry) (flags : f ≡ flags_issued ready.own a.flood) (put : es ≡ entries_issued ready.own a.entries) where
    abbrev Issued : Option ℕ → Type 0
    Issued o = (f ≡ flags_issued (option_map (own_past c.conf c.flood.up) o) a.flood) × (es ≡ entries_issued (option_map (own_past c.conf c.flood.up) o) a.entries) × (ready.spent ≡ spent_if c.spent o)

    issued : Issued (past_of c rows)
    issued = (flags ∙ ap (λ (o : Option Entry). flags_issued o a.flood) h.own, put ∙ ap (λ (o : Option Entry). entries_issued o a.entries) h.own, h.spent)

    pub ready_keeps : IsDatabase es → IsRouter (control_of c.conf f es ready.spent)
    ready_keeps database = cases (past_of c rows) issued
      where
        cases : (o : Option ℕ) → Issued o → IsRouter (control_of c.conf f es ready.spent)
        cases None (x, y, z) =
            router_of c.conf c.flood.up ready.spent f es k.sound k.control.links
            (subst (λ (b : Bool). Kept c.conf.system c.flood.up b f es) (sym z) (subst (λ (g : Flood). Kept c.conf.system c.flood.up c.spent g es) (sym x) (subst (λ (es' : List Entry). Kept c.conf.system c.flood.up c.spent a.flood es') (sym y) l.kept.kept)))
            database
        cases (Some s) (x, y, z) = reissued_keeps c.conf a.flood a.entries c.spent s c.flood.up (own_past c.conf c.flood.up s) refl f es ready.spent x y z c.flood.up c.spent k.sound k.control.links l.kept.kept database

    pub ready_issued : AreIssued c.conf c.flood.up c.spent a.entries → AreIssued c.conf f.up ready.spent es
    ready_issued all = cases (past_of c rows) issued l.asked
      where
        up_is : a.flood.up ≡ c.flood.up
        up_is = l.kept.kept.up_is

        cases : (o : Option ℕ) → Issued o → a.answer.reissue ≡ o → AreIssued c.conf f.up ready.spent es
        cases None (x, y, z) asks =
            subst (λ (b : Bool). AreIssued c.conf f.up b es) (sym z)
            (subst (λ (l : List Entry). AreIssued c.conf f.up c.spent l) (sym y)
            (subst (λ (u : List Bool). AreIssued c.conf u c.spent a.entries) (sym (ap (λ (g : Flood). g.up) x ∙ up_is)) all))
        cases (Some s) (x, y, z) asks =
            issued_now c.conf c.flood.up f.up c.flood.up c.spent c.spent ready.spent s (own_past c.conf c.flood.up s) a.entries es refl y z (l.kept.asked s asks)
            (sym (ap (λ (g : Flood). g.up) x ∙ marked_up a.flood (own_past c.conf c.flood.up s).id ∙ up_is)) all

    ready_is : control_of c.conf f es ready.spent ≡ reissue_if (control_of c.conf a.flood a.entries c.spent) a.answer.reissue
    ready_is = cases (past_of c rows) issued ∙ ap (λ (o : Option ℕ). reissue_if (control_of c.conf a.flood a.entries c.spent) o) (sym l.asked)
      where
        cases : (o : Option ℕ) → Issued o → control_of c.conf f es ready.spent ≡ reissue_if (control_of c.conf a.flood a.entries c.spent) o
        cases None (x, y, z) = ap (λ (g : Flood). control_of c.conf g es ready.spent) x ∙ ap (λ (es' : List Entry). control_of c.conf a.flood es' ready.spent) y ∙ ap (λ (b : Bool). control_of c.conf a.flood a.entries b) z
        cases (Some s) (x, y, z) = reissued_is c.conf a.flood a.entries c.spent s c.flood.up (own_past c.conf c.flood.up s) refl f es ready.spent x y z (sym l.kept.kept.up_is)

    pub ready_framed : (e : Effects) (link : ℕ) → e ≡ record nothing { drops = ready.drops } → record { control = control_of c.conf f es ready.spent; effects = e } ≡ framed link (snp_done c a)
    unfolding framed
    ready_framed e link dropped =
        ap (λ (x : Control). record { control = x; effects = e }) ready_is
        ∙ ap (λ (x : Effects). record { control = reissue_if (control_of c.conf a.flood a.entries c.spent) a.answer.reissue; effects = x }) dropped
        ∙ ap (λ (d : List Drop). record { control = reissue_if (control_of c.conf a.flood a.entries c.spent) a.answer.reissue; effects = record nothing { drops = d } }) (h.drops ∙ ap (λ n. map full_drop (replicate n cause.Full)) (sym l.counted))
