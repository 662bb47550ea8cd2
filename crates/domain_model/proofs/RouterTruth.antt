-- What every router keeps, each event at a router of a domain keeps: its LSDB never has more entries than the domain
-- has routers, and its own LSP stands.
use Rattle.std.proofs.Common.{◌≡◌, ◌⊎◌, inl, inr, ℕ, ◌+◌, ◌-◌, ◌<◌, ◌≤◌, ◌==◌, Bool, true, false, List, [], length, replicate, slice_set, length-set, Option, Some, None, option_and_then, refl, sym, ap, subst, ◌∙◌, arith}
use mathlib.Core.Bool.{true≢false}
use Rattle.std.specs.List.{filter_map}
use Rattle.std.proofs.lemmas.List.{length-replicate}
use Rattle.std.proofs.lemmas.Bool.{cond_both, eqb-false, lt-ltb, ne_eqb}
use Rattle.wire_base.specs.declared.limits.TheConstants.{MOST_CONTENT, MOST_ROUTERS}
use Rattle.wire_base.specs.declared.addresses.SystemId.{SystemId}
use Rattle.wire_base.specs.declared.conf.End.{End}
use Rattle.wire_base.specs.declared.conf.RouterConf.{RouterConf}
use Rattle.wire_base.specs.declared.entry.Entry.{Entry}
use Rattle.wire_base.specs.declared.flood_out.FloodOut.{FloodOut}
use Rattle.wire_base.specs.declared.flood_out.FloodOut.TheVariants as out
use Rattle.wire_base.specs.model.Configuration.{IsSound}
use Rattle.wire_base.specs.model.Control.{entry_in, seq_of, purge, after_second, Flood, Control, IsDatabase, fragment_0, own_entry_in}
use Rattle.wire_base.specs.model.Flooding.{quiet, issue, last_sequence, reissue, reissue_if, reissue_unless_spent, LspAnswer, answer_lsp, lsp_done, snp_done, on_lsp, on_csnp, on_psnp, on_pdu, aged_all, is_stale, refreshed, tick, send, end_up, end_down, link_up, link_down, new_flood, started, first_control, restart}
use Rattle.wire_base.specs.model.OwnLsp.{own_lsp, own_content}
use Rattle.wire_base.specs.model.Pdu.{Head, Pdu, LspPdu, CsnpPdu, PsnpPdu, HelloPdu, OtherPdu}
use Rattle.laws_format.proofs.ContentLaws.{content_short}
use Rattle.laws_router.specs.State.{IsShort, IsRouter}
use Rattle.laws_router.specs.Kept.{OwnStands, Kept}
use Rattle.laws_router.proofs.KeptLaws.{lsp_kept, csnp_kept, psnp_kept}
use Rattle.laws_router.proofs.StateLaws.{up_kept, down_kept, sent_kept, issue_kept, new_kept, all_aged}
use Rattle.domain_model.specs.World.{is_up}
use Rattle.domain_model.specs.Truth.{IsOwnLsp, IsDeadLsp, IsTrueControl, IsTruePdu}
use Rattle.domain_model.proofs.NamedLaws.{entries_few}
use Rattle.domain_model.proofs.FloodTruth.{IsTrueState, own_id}
use Rattle.domain_model.proofs.AgedTruth.{entry_aged}
use Rattle.domain_model.proofs.ControlTruth.{IsTrueNext, IsTrueReply}

-- ---- the parts and the whole

kept_of : (c : Control) → IsRouter c → Kept c.conf.system c.flood.up c.spent c.flood c.entries
kept_of c k = record { own_is = k.control.own; up_is = refl; flood = k.control.flood; flagged = k.control.flagged; short = k.short; stands = k.own }

router_of : (up : List Bool) (c : Control) → IsSound c.conf → length up ≡ length c.conf.ends → Kept c.conf.system up c.spent c.flood c.entries → IsDatabase c.entries → IsRouter c
router_of up c sound long k database = record {
  control = record { flood = k.flood; entries = database; own = k.own_is; links = ap length k.up_is ∙ long; flagged = k.flagged };
  sound = sound;
  short = k.short;
  own = k.stands;
}

-- an LSDB of true entries is one
database_of : (confs : List RouterConf) (f : Flood) (es : List Entry) → length confs ≤ MOST_ROUTERS → IsTrueState confs f es → IsDatabase es
database_of confs f es small s = record { few = (let few = entries_few confs es s.in_order s.entries_true in omega (arith, few, small)); in_order = s.in_order }

-- ---- the own LSP

own_life : (r : RouterConf) (up : List Bool) (s : ℕ) → 300 < (own_lsp r up s).life
unfolding own_lsp
own_life r up s = omega arith

own_short : (r : RouterConf) (up : List Bool) (s : ℕ) → IsSound r → IsShort (own_lsp r up s)
unfolding own_lsp
own_short r up s sound = omega (arith, content_short r up (own_content r up) sound refl)

-- it stands once it is issued
reissued : (up : List Bool) (c : Control) (before : Bool) (s : ℕ) → IsSound c.conf → length up ≡ length c.conf.ends → Kept c.conf.system up before c.flood c.entries → IsDatabase (reissue c s).entries → IsRouter (reissue c s)
unfolding reissue
reissued up c before s sound long k =
    cond_both (s == last_sequence) (issue (record c { spent = true }) (purge (fragment_0 c.conf.system) s)) (issue c (own_lsp c.conf c.flood.up (s + 1))) (λ (d : Control). IsDatabase d.entries → IsRouter d)
    (λ last database.
    router_of up (issue (record c { spent = true }) (purge (fragment_0 c.conf.system) s)) sound long
    (issue_kept c.conf.system up before true c.flood c.entries (purge (fragment_0 c.conf.system) s) k refl (omega arith) (λ h. absurd (true≢false h))) database)
    (λ more database.
    router_of up (issue c (own_lsp c.conf c.flood.up (s + 1))) sound long
    (issue_kept c.conf.system up before c.spent c.flood c.entries (own_lsp c.conf c.flood.up (s + 1)) k (own_id c.conf c.flood.up (s + 1)) (own_short c.conf c.flood.up (s + 1) sound) (λ h. own_life c.conf c.flood.up (s + 1))) database)

-- what a router keeps when it originates its own LSP anew, unless it is spent
unless_keeps : (up : List Bool) (d : Control) → IsSound d.conf → length up ≡ length d.conf.ends → Kept d.conf.system up d.spent d.flood d.entries → IsDatabase (reissue_unless_spent d).entries → IsRouter (reissue_unless_spent d)
unfolding reissue_unless_spent
unless_keeps up d sound long k =
    cond_both d.spent d (reissue d (seq_of (own_entry_in d))) (λ (x : Control). IsDatabase x.entries → IsRouter x)
    (λ spent database. router_of up d sound long k database)
    (λ more database. reissued up d d.spent (seq_of (own_entry_in d)) sound long k database)

-- ---- events at a router

short_content : (confs : List RouterConf) (h : Head) (tlvs : List ℕ) → IsOwnLsp confs h tlvs ⊎ IsDeadLsp h tlvs → length tlvs ≤ MOST_CONTENT
short_content confs h tlvs (inl own) = let short = content_short own.router own.up tlvs own.earlier.sound own.content in omega (arith, short)
short_content confs h tlvs (inr dead) = let none = ap length dead.empty in omega (arith, none)

module _ (confs : List RouterConf) (small : length confs ≤ MOST_ROUTERS) (c : Control) (t : IsTrueControl confs c) where
  sound : IsSound c.conf
  sound = t.kept.sound

  ends : length c.flood.up ≡ length c.conf.ends
  ends = t.kept.control.links

  base : (d : Control) → IsTrueNext confs c d → IsDatabase d.entries
  base d n = database_of confs d.flood d.entries small n.state

  answered : (a : LspAnswer) (o : FloodOut) → Kept c.conf.system c.flood.up c.spent a.flood a.entries → IsDatabase (answer_lsp (record c { flood = a.flood; entries = a.entries }) o).control.entries → IsRouter (answer_lsp (record c { flood = a.flood; entries = a.entries }) o).control
  answered a out.Kept k database = router_of c.flood.up (record c { flood = a.flood; entries = a.entries }) sound ends k database
  answered a (out.Reissue s) k database = reissued c.flood.up (record c { flood = a.flood; entries = a.entries }) c.spent s sound ends k database
  answered a (out.Ack row) k database = router_of c.flood.up (record c { flood = a.flood; entries = a.entries }) sound ends k database
  answered a out.Full k database = router_of c.flood.up (record c { flood = a.flood; entries = a.entries }) sound ends k database
  answered a out.Zero k database = router_of c.flood.up (record c { flood = a.flood; entries = a.entries }) sound ends k database

  reissued_if : (d : Control) (o : Option ℕ) → d.conf ≡ c.conf → Kept d.conf.system c.flood.up d.spent d.flood d.entries → IsDatabase (reissue_if d o).entries → IsRouter (reissue_if d o)
  reissued_if d None same k database = router_of c.flood.up d (subst IsSound (sym same) sound) (ends ∙ ap (λ (r : RouterConf). length r.ends) (sym same)) k database
  reissued_if d (Some s) same k database = reissued c.flood.up d d.spent s (subst IsSound (sym same) sound) (ends ∙ ap (λ (r : RouterConf). length r.ends) (sym same)) k database

  pub pdu_keeps : (link : ℕ) (p : Pdu) → is_up c link ≡ true → IsTruePdu confs p → IsTrueReply confs c (on_pdu c link p) → IsRouter (on_pdu c link p).control
  unfolding on_pdu
  pdu_keeps link (LspPdu h tlvs) up says reply =
      let a = on_lsp c.flood c.entries link h tlvs c.spent in
      let k = lsp_kept c.conf.system c.flood.up c.spent c.flood c.entries (kept_of c t.kept) link up h tlvs (short_content confs h tlvs says.says.says) in
      answered a a.answer k.kept (base (lsp_done c a).control reply.next)
  pdu_keeps link (CsnpPdu source start last tlvs) up says reply =
      let a = on_csnp c.flood c.entries link start last tlvs c.spent in
      let k = csnp_kept c.conf.system c.flood.up c.spent link up c.flood c.entries start last tlvs (kept_of c t.kept) in
      reissued_if (record c { flood = a.flood; entries = a.entries }) a.answer.reissue refl k.kept (base (snp_done c a).control reply.next)
  pdu_keeps link (PsnpPdu source tlvs) up says reply =
      let a = on_psnp c.flood c.entries link tlvs c.spent in
      let k = psnp_kept c.conf.system c.flood.up c.spent link up c.flood c.entries tlvs (kept_of c t.kept) in
      reissued_if (record c { flood = a.flood; entries = a.entries }) a.answer.reissue refl k.kept (base (snp_done c a).control reply.next)
  pdu_keeps link HelloPdu up says reply = absurd says
  pdu_keeps link (OtherPdu number) up says reply = absurd says

  pub send_keeps : (link : ℕ) → IsTrueReply confs c (send c link) → IsRouter (send c link).control
  unfolding send
  send_keeps link reply = router_of c.flood.up (send c link).control sound ends (sent_kept c.conf.system c.flood.up c.spent c.flood c.entries link (kept_of c t.kept)) (base (send c link).control reply.next)

  pub up_keeps : (link : ℕ) → link < length c.conf.ends → IsTrueReply confs c (end_up c link) → IsRouter (end_up c link).control
  unfolding end_up
  up_keeps link lt reply =
      let d : Control = record c { flood = link_up c.flood c.entries link } in
      unless_keeps (slice_set c.flood.up link true) d sound (length-set c.flood.up link true ∙ ends) (up_kept c.conf.system c.flood.up c.spent c.flood c.entries link (kept_of c t.kept) (omega (arith, lt, ends))) (base (reissue_unless_spent d) reply.next)

  pub down_keeps : (link : ℕ) → IsTrueReply confs c (end_down c link) → IsRouter (end_down c link).control
  unfolding end_down
  down_keeps link reply =
      let d : Control = record c { flood = link_down c.flood link } in
      unless_keeps (slice_set c.flood.up link false) d sound (length-set c.flood.up link false ∙ ends) (down_kept c.conf.system c.flood.up c.spent c.flood c.entries link (kept_of c t.kept)) (base (reissue_unless_spent d) reply.next)

  -- a second later the own LSP stands, unless it is to be issued anew
  second_live : (e : Entry) → 300 < e.life → after_second e ≡ Some (record e { life = e.life - 1 })
  second_live e more = rw (lt-ltb 0 e.life (omega (arith, more)), ne_eqb e.life 1 (λ one. omega (arith, one, more))) refl

  stands_aged : IsSound c.conf → is_stale (own_entry_in (aged_all c)) ≡ false → c.spent ≡ false → OwnStands c.conf.system (aged_all c).entries
  unfolding aged_all
  stands_aged sound fresh unspent =
      let own = t.kept.own unspent in
      let e = own.0 in
      let next : entry_in (filter_map after_second c.entries) (fragment_0 c.conf.system) ≡ Some (record e { life = e.life - 1 }) =
      entry_aged c.entries (fragment_0 c.conf.system) t.kept.control.entries.in_order ∙ ap (option_and_then after_second) own.1.0 ∙ second_live e own.1.1 in
      let other : (e.life - 1 == 300) ≡ false = ap is_stale (sym next) ∙ fresh in
      let differs : e.life - 1 ≡ 300 → ⊥ = eqb-false (e.life - 1) 300 other in
      (record e { life = e.life - 1 }, (next, omega (arith, own.1.1, differs)))

  aged_kept : Kept c.conf.system c.flood.up true (aged_all c).flood (aged_all c).entries
  unfolding aged_all
  aged_kept = all_aged c.conf.system c.flood.up c.spent c.flood c.entries (kept_of c t.kept)

  aged_conf : (aged_all c).conf ≡ c.conf
  unfolding aged_all
  aged_conf = refl

  aged_spent : (aged_all c).spent ≡ c.spent
  unfolding aged_all
  aged_spent = refl

  pub tick_keeps : IsTrueReply confs c (tick c) → IsRouter (tick c).control
  unfolding tick
  tick_keeps reply =
      let d = aged_all c in
      let d_sound : IsSound d.conf = subst IsSound (sym aged_conf) sound in
      let d_ends : length c.flood.up ≡ length d.conf.ends = ends ∙ ap (λ (r : RouterConf). length r.ends) (sym aged_conf) in
      let d_kept : Kept d.conf.system c.flood.up true d.flood d.entries = subst (λ (r : RouterConf). Kept r.system c.flood.up true d.flood d.entries) (sym aged_conf) aged_kept in
      cond_both (is_stale (own_entry_in d)) (reissue d (seq_of (own_entry_in d))) d (λ (x : Control). IsDatabase x.entries → IsRouter x)
      (λ stale database. reissued c.flood.up d true (seq_of (own_entry_in d)) d_sound d_ends d_kept database)
      (λ anew database.
      router_of c.flood.up d d_sound d_ends
      (record {
        own_is = d_kept.own_is;
        up_is = d_kept.up_is;
        flood = d_kept.flood;
        flagged = d_kept.flagged;
        short = d_kept.short;
        stands = λ unspent. subst (λ (r : RouterConf). OwnStands r.system d.entries) (sym aged_conf) (stands_aged sound anew (sym aged_spent ∙ unspent));
      }) database)
      (base (refreshed d) reply.next)

-- ---- a router that starts

started_kept : (r : RouterConf) (up : List Bool) → IsSound r → length up ≡ length r.ends → Kept r.system up (started r up).spent (started r up).flood (started r up).entries
unfolding started
started_kept r up sound long =
    issue_kept r.system up true false (new_flood r.system up) [] (own_lsp r up 1) (new_kept r.system up (omega (arith, long, sound.few_ends))) (own_id r up 1) (own_short r up 1 sound) (λ h. own_life r up 1)

started_router : (confs : List RouterConf) (r : RouterConf) (up : List Bool) → length confs ≤ MOST_ROUTERS → IsSound r → length up ≡ length r.ends → IsTrueState confs (started r up).flood (started r up).entries → IsRouter (started r up)
unfolding started
started_router confs r up small sound long s =
    router_of up (started r up) sound long (started_kept r up sound long) (database_of confs (started r up).flood (started r up).entries small s)

pub first_keeps : (confs : List RouterConf) (r : RouterConf) → length confs ≤ MOST_ROUTERS → IsSound r → IsTrueState confs (first_control r).flood (first_control r).entries → IsRouter (first_control r)
unfolding first_control
first_keeps confs r small sound s = started_router confs r (replicate (length r.ends) true) small sound (length-replicate (length r.ends) true) s

pub restart_keeps : (confs : List RouterConf) (c : Control) → length confs ≤ MOST_ROUTERS → IsRouter c → IsTrueReply confs c (restart c) → IsRouter (restart c).control
unfolding restart
restart_keeps confs c small k reply = started_router confs c.conf c.flood.up small k.sound k.control.links reply.next.state

-- ---- a router whose configuration changes

pub changed_keeps : (confs : List RouterConf) (c : Control) (next : RouterConf) → length confs ≤ MOST_ROUTERS → IsRouter c → IsSound next → next.system ≡ c.conf.system → next.ends ≡ c.conf.ends → IsTrueReply confs (record c { conf = next }) (quiet (reissue_unless_spent (record c { conf = next }))) → IsRouter (reissue_unless_spent (record c { conf = next }))
changed_keeps confs c next small k sound system ends reply =
    let d : Control = record c { conf = next } in
    unless_keeps c.flood.up d sound (k.control.links ∙ ap (λ (es : List End). length es) (sym ends)) (subst (λ (s : SystemId). Kept s c.flood.up c.spent c.flood c.entries) (sym system) (kept_of c k))
    (database_of confs (reissue_unless_spent d).flood (reissue_unless_spent d).entries small reply.next.state)
