-- The router's own LSP, as it is issued.
use Rattle.std.proofs.Common.{◌≡◌, ◌∙◌, ℕ, ◌+◌, ◌<◌, ◌≤◌, ◌==◌, ◌&&◌, ◌||◌, Bool, true, false, List, length, Option, is_none, Result, Ok, Err, IsOk, rules, if◌then◌else◌, refl, sym, ap, subst, arith}
use Rattle.std.proofs.lemmas.Bool.{true≢false}
use Rattle.wire_base.specs.declared.addresses.SystemId.{SystemId}
use Rattle.wire_base.specs.declared.addresses.LspId.{LspId}
use Rattle.wire_base.specs.declared.conf.RouterConf.{RouterConf}
use Rattle.wire_base.specs.declared.entry.Entry.{Entry}
use Rattle.wire_base.specs.declared.faults.PutFault.{PutFault}
use Rattle.wire_base.specs.model.Configuration.{IsSound}
use Rattle.wire_base.specs.model.Control.{Control, Flood, IsDatabase, fragment_0, entry_in, put_entry, purge, is_full}
use Rattle.wire_base.specs.model.Flooding.{mark_all, reissue, last_sequence}
use Rattle.wire_base.specs.model.OwnLsp.{own_lsp, own_content}
use Rattle.lsp_store.specs.Places.{is_new, is_refused, PutAnswers, AnswersWhere}
use Rattle.laws_format.proofs.ContentLaws.{content_short}
use Rattle.router_core.specs.Own.{own_past, spent_past}
use Rattle.laws_router.specs.State.{IsShort, IsRouter, control_of}
use Rattle.laws_router.proofs.EntryLaws.{HasId}
use Rattle.laws_router.specs.Kept.{Kept, OwnStands}
use Rattle.laws_router.proofs.StateLaws.{issue_kept}

-- an entry that isn't refused is put, where there is room for it or its identifier is there
pub put_is_ok : (entries : List Entry) (spare : ℕ) (id : LspId) (answer : Result (Unit {0}) PutFault) → PutAnswers entries spare id answer → is_refused entries id ≡ false → (is_new entries id ≡ true → 1 ≤ spare) → IsOk answer
put_is_ok entries spare id answer says known room = cases answer (subst (λ (b : Bool). AnswersWhere b entries spare id answer) known says)
  where
    cases : (r : Result (Unit {0}) PutFault) → AnswersWhere false entries spare id r → IsOk r
    cases (Ok u) h = search rules
    cases (Err f) h = let more = room h.1 in absurd (omega (arith, h.2, more))

pub known_not_refused : (entries : List Entry) (id : LspId) → HasId entries id → is_refused entries id ≡ false
known_not_refused entries id (e, is) = ap (λ (o : Option Entry). is_none o && is_full entries) is

-- ---- its parts

pub past_id : (r : RouterConf) (up : List Bool) (s : ℕ) → (own_past r up s).id ≡ fragment_0 r.system
unfolding own_past own_lsp
past_id r up s = cases (s == last_sequence)
  where
    cases : (b : Bool) → (if b then purge (fragment_0 r.system) s else own_lsp r up (s + 1)).id ≡ fragment_0 r.system
    cases true = refl
    cases false = refl

pub past_short : (r : RouterConf) (up : List Bool) (s : ℕ) → IsSound r → IsShort (own_past r up s)
unfolding own_past own_lsp
past_short r up s sound = cases (s == last_sequence)
  where
    cases : (b : Bool) → IsShort (if b then purge (fragment_0 r.system) s else own_lsp r up (s + 1))
    cases true = omega arith
    cases false = omega (arith, content_short r up (own_content r up) sound refl)

-- where the router isn't spent then, it is live
pub past_live : (r : RouterConf) (up : List Bool) (spent : Bool) (s : ℕ) → spent_past spent s ≡ false → 300 < (own_past r up s).life
unfolding own_past own_lsp
past_live r up spent s = cases spent (s == last_sequence)
  where
    cases : (t b : Bool) → (t || b) ≡ false → 300 < (if b then purge (fragment_0 r.system) s else own_lsp r up (s + 1)).life
    cases true b h = absurd (true≢false h)
    cases false true h = absurd (true≢false h)
    cases false false h = omega arith

pub reissue_is : (c : Control) (s : ℕ) → reissue c s ≡ control_of c.conf (mark_all c.flood (own_past c.conf c.flood.up s).id) (put_entry (own_past c.conf c.flood.up s) c.entries) (spent_past c.spent s)
unfolding reissue own_past
reissue_is c s = cases (s == last_sequence) c.spent refl
  where
    cases : (b t : Bool) → c.spent ≡ t
        → (if b then control_of c.conf (mark_all c.flood (fragment_0 c.conf.system)) (put_entry (purge (fragment_0 c.conf.system) s) c.entries) true else control_of c.conf (mark_all c.flood (own_lsp c.conf c.flood.up (s + 1)).id) (put_entry (own_lsp c.conf c.flood.up (s + 1)) c.entries) c.spent)
        ≡ control_of c.conf (mark_all c.flood (if b then purge (fragment_0 c.conf.system) s else own_lsp c.conf c.flood.up (s + 1)).id) (put_entry (if b then purge (fragment_0 c.conf.system) s else own_lsp c.conf c.flood.up (s + 1)) c.entries) (c.spent || b)
    cases true true is = ap (λ (x : Bool). control_of c.conf (mark_all c.flood (fragment_0 c.conf.system)) (put_entry (purge (fragment_0 c.conf.system) s) c.entries) (x || true)) (sym is)
    cases true false is = ap (λ (x : Bool). control_of c.conf (mark_all c.flood (fragment_0 c.conf.system)) (put_entry (purge (fragment_0 c.conf.system) s) c.entries) (x || true)) (sym is)
    cases false true is = cc
    cases false false is = cc

-- ---- from the parts to the whole and back

pub kept_of : (c : Control) → IsRouter c → Kept c.conf.system c.flood.up c.spent c.flood c.entries
kept_of c k = record { own_is = k.control.own; up_is = refl; flood = k.control.flood; flagged = k.control.flagged; short = k.short; stands = k.own }

pub router_of : (r : RouterConf) (up : List Bool) (spent : Bool) (f : Flood) (es : List Entry) → IsSound r → length up ≡ length r.ends → Kept r.system up spent f es → IsDatabase es → IsRouter (control_of r f es spent)
router_of r up spent f es sound long k database =
    record {
      control = record { flood = k.flood; entries = database; own = k.own_is; links = ap length k.up_is ∙ long; flagged = k.flagged };
      sound = sound;
      short = k.short;
      own = k.stands;
    }

pub own_not_refused : (own : SystemId) (es : List Entry) (id : LspId) → OwnStands own es → id ≡ fragment_0 own → is_refused es id ≡ false
own_not_refused own es id (e, (there, more)) is = known_not_refused es id (e, ap (λ (i : LspId). entry_in es i) is ∙ there)

-- what the code issues: `own` was made for the links that are up
module _ (r : RouterConf) (f : Flood) (es : List Entry) (spent : Bool) (s : ℕ) (ups : List Bool) (own : Entry) (is : own ≡ own_past r ups s) where
  pub made_id : own.id ≡ fragment_0 r.system
  made_id = ap (λ (e : Entry). e.id) is ∙ past_id r ups s

  pub made_short : IsSound r → IsShort own
  made_short sound = subst IsShort (sym is) (past_short r ups s sound)

  pub made_live : spent_past spent s ≡ false → 300 < own.life
  made_live unspent = let P : Entry → Type 0 = λ e. 300 < e.life in subst P (sym is) (past_live r ups spent s unspent)

  module _ (f' : Flood) (es' : List Entry) (now : Bool) (marked : f' ≡ mark_all f own.id) (put : es' ≡ put_entry own es) (now_is : now ≡ spent_past spent s) where
    pub reissued_is : ups ≡ f.up → control_of r f' es' now ≡ reissue (control_of r f es spent) s
    reissued_is links =
        let same : own ≡ own_past r f.up s = is ∙ ap (λ (u : List Bool). own_past r u s) links in
        ap (λ (x : Flood). control_of r x es' now) (marked ∙ ap (λ (e : Entry). mark_all f e.id) same)
        ∙ ap (λ (x : List Entry). control_of r (mark_all f (own_past r f.up s).id) x now) (put ∙ ap (λ (e : Entry). put_entry e es) same)
        ∙ ap (λ (x : Bool). control_of r (mark_all f (own_past r f.up s).id) (put_entry (own_past r f.up s) es) x) now_is
        ∙ sym (reissue_is (control_of r f es spent) s)

    pub reissued_keeps : (up : List Bool) (before : Bool) → IsSound r → length up ≡ length r.ends → Kept r.system up before f es → IsDatabase es' → IsRouter (control_of r f' es' now)
    reissued_keeps up before sound long k database =
        let one : Kept r.system up (spent_past spent s) (mark_all f own.id) (put_entry own es) = issue_kept r.system up before (spent_past spent s) f es own k made_id (made_short sound) made_live in
        let two : Kept r.system up now (mark_all f own.id) (put_entry own es) = subst (λ (b : Bool). Kept r.system up b (mark_all f own.id) (put_entry own es)) (sym now_is) one in
        let three : Kept r.system up now f' (put_entry own es) = subst (λ (x : Flood). Kept r.system up now x (put_entry own es)) (sym marked) two in
        router_of r up now f' es' sound long (subst (λ (x : List Entry). Kept r.system up now f' x) (sym put) three) database
