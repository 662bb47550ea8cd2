-- What is kept of a view, through the events of a router.
use Rattle.std.proofs.Common.{◌≡◌, ◌∙◌, ℕ, Bool, true, false, List, [], ◌∷◌, ◌++◌, ◌||◌, Option, Some, None, Result, Ok, Err, is_ok, if◌then◌else◌, IfOk, OnOk, OnErr, refl, sym, ap, subst}
use Rattle.std.proofs.lemmas.Bool.{false≢true, true≢false}
use Rattle.std.proofs.lemmas.List.Folds.{list_any-append}
use Rattle.std.specs.List.{list_any}
use Rattle.wire_base.specs.declared.addresses.LspId.{LspId}
use Rattle.wire_base.specs.declared.addresses.SystemId.{SystemId}
use Rattle.wire_base.specs.declared.bsl.Bsl.{Bsl}
use Rattle.wire_base.specs.declared.conf.RouterConf.{RouterConf}
use Rattle.wire_base.specs.declared.conf.SubKind.{SubKind}
use Rattle.wire_base.specs.declared.entry.Entry.{Entry}
use Rattle.wire_base.specs.declared.memory.Memory.{Memory}
use Rattle.wire_base.specs.model.Control.{Control, same_system}
use Rattle.wire_base.specs.model.Flooding.{Reply, on_pdu, send, sent_on, tick, end_up, end_down, relabel, leave, join}
use Rattle.wire_base.specs.model.OnFrame.{Effects, Next, framed, pdu_taken}
use Rattle.wire_base.specs.model.Pdu.{Pdu, LspPdu, CsnpPdu, PsnpPdu, Head}
use Rattle.wire_base.specs.model.Tlv.{rows_of}
use Rattle.wire_base.specs.model.View.{Claim, control_view, view_of}
use Rattle.view_graph.specs.Keep.{Keep, IsUnchanged, heard, is_named, said_by, said_in}
use Rattle.view_graph.proofs.FragmentLaws.{same_is}
use Rattle.view_graph.proofs.HeardLaws.{said_heard}
use Rattle.view_graph.proofs.SystemLaws.{same_turned}
use Rattle.bier_forward.specs.Kept.{AreRoutes}
use Rattle.bier_forward.specs.declared.cache.Routes.{Routes}
use Rattle.bier_forward.proofs.MemberLaws.{routes_stay}
use Rattle.router_core.specs.SnpNeeds.{is_confusing}
use Rattle.router_core.specs.declared.kept.Kept.{Kept}
use Rattle.router_core.specs.Keeping.{IsKept, IsCurrent, IsNow, MayKeep, SaysSame, StaysKept, StaysOwn, is_last}
use Rattle.router_core.proofs.StalenessLaws.{but_says, says_itself, lsp_but, csnp_but, psnp_but, tick_but, up_but, down_but, relabel_but, leave_but, join_but}

-- ---- what may have changed is noted

pub outdated : (c next : Control) (k : Kept) (system : SystemId) (changed : List SystemId) → ((s : SystemId) → same_system s c.conf.system ≡ false → is_named changed s ≡ false → (is_named k.changed s ≡ false) × (same_system system s ≡ false))
    → IsKept c k → SaysSame system c next → IsKept next (record k { is_current = false; changed = changed })
outdated c next k system changed named kept same =
    record {
      system = kept.system ∙ sym (ap (λ (r : RouterConf). r.system) same.one);
      kinds = kept.kinds ∙ sym (ap (λ (r : RouterConf). r.kinds) same.one);
      unchanged = still;
      current = λ is. absurd (false≢true is);
      routes = subst (λ (r : RouterConf). AreRoutes r k.view.nodes k.routes) (sym same.one) (routes_stay c.conf next.conf.subs next.conf.away next.conf.past k.view.nodes k.routes kept.routes);
    }
  where
    still : (s : SystemId) → same_system s k.view.system ≡ false → is_named changed s ≡ false → said_by k.view.others s ≡ said_by (heard k.view.system k.view.kinds next.entries) s
    still s apart away =
        let own : same_system s c.conf.system ≡ false = sym (ap (same_system s) kept.system) ∙ apart in
        let n = named s own away in
        kept.unchanged s apart n.0 ∙ said_heard k.view.kinds c.entries k.view.system s apart ∙ ap (λ (ks : List SubKind). said_in ks c.entries s) kept.kinds ∙ sym (same.said s own n.1)
        ∙ sym (ap (λ (ks : List SubKind). said_in ks next.entries s) kept.kinds) ∙ sym (said_heard k.view.kinds next.entries k.view.system s apart)

-- a system that was noted before
pub noted_before : (c next : Control) (k : Kept) (system : SystemId) → is_named k.changed system ≡ true → IsKept c k → SaysSame system c next → IsKept next (record k { is_current = false })
noted_before c next k system there kept same = outdated c next k system k.changed (λ s apart away. (away, by s away (same_system system s) refl)) kept same
  where
    by : (s : SystemId) → is_named k.changed s ≡ false → (b : Bool) → same_system system s ≡ b → b ≡ false
    by s away true h = absurd (true≢false (sym there ∙ ap (is_named k.changed) (same_is system s h) ∙ away))
    by s away false h = refl

-- a call that succeeded
pub pushed_is : {T E : Type 0} {P : Type 0} (result : Result T E) → is_ok result ≡ true → OnOk result P → P
pushed_is (Ok x) is done = done
pushed_is (Err e) is done = absurd (false≢true is)

-- a system that is noted now
pub noted_now : (c next : Control) (k : Kept) (system : SystemId) (changed : List SystemId) → changed ≡ k.changed ++ system ∷ [] → IsKept c k → SaysSame system c next → IsKept next (record k { is_current = false; changed = changed })
noted_now c next k system changed is kept same = outdated c next k system changed (λ s apart away. both s (sym (ap (λ (l : List SystemId). is_named l s) is ∙ list_any-append (λ x. same_system x s) k.changed (system ∷ [])) ∙ away)) kept same
  where
    parted : (a b : Bool) → (a || (b || false)) ≡ false → (a ≡ false) × (b ≡ false)
    parted true b h = absurd (true≢false h)
    parted false true h = absurd (true≢false h)
    parted false false h = (refl, refl)

    both : (s : SystemId) → (is_named k.changed s || (same_system system s || false)) ≡ false → (is_named k.changed s ≡ false) × (same_system system s ≡ false)
    both s h = parted (is_named k.changed s) (same_system system s) h

-- the router alone
pub own_noted : (c next : Control) (k : Kept) → IsKept c k → SaysSame c.conf.system c next → IsKept next (record k { is_current = false })
own_noted c next k kept same = outdated c next k c.conf.system k.changed (λ s apart away. (away, same_turned c.conf.system s ∙ apart)) kept same

-- ---- what is renewed

pub renewed_is : (c : Control) (r : RouterConf) (up : List Bool) (entries : List Entry) (v : Keep) (changed : List SystemId) (routes : Routes) → r ≡ c.conf → up ≡ c.flood.up → entries ≡ c.entries
    → v.nodes ≡ view_of r up entries → v.system ≡ r.system → v.kinds ≡ r.kinds → v.others ≡ heard r.system r.kinds entries → AreRoutes c.conf v.nodes routes
    → IsCurrent c (record { view = v; is_current = true; changed = changed; routes = routes })
renewed_is c r up entries v changed routes conf ups es exact system kinds others are =
    record {
      kept = record { system = system ∙ ap (λ (x : RouterConf). x.system) conf; kinds = kinds ∙ ap (λ (x : RouterConf). x.kinds) conf; unchanged = λ s apart away. ap (λ (cs : List Claim). said_by cs s) said; current = λ is. now; routes = are };
      view = now;
    }
  where
    now : v.nodes ≡ control_view c
    now = exact ∙ ap (λ (x : RouterConf). view_of x up entries) conf ∙ ap (λ (x : List Bool). view_of c.conf x entries) ups ∙ ap (λ (x : List Entry). view_of c.conf c.flood.up x) es

    said : v.others ≡ heard v.system v.kinds c.entries
    said = others ∙ ap (λ (t : SystemId). heard t r.kinds entries) (sym system) ∙ ap (λ (ks : List SubKind). heard v.system ks entries) (sym kinds) ∙ ap (λ (x : List Entry). heard v.system v.kinds x) es

-- something that is kept, once it was renewed
pub now_is : (c : Control) (kept : Option Kept) (k : Kept) → kept ≡ Some k → IsNow c kept → IsCurrent c k
now_is c kept k is now = subst (IsNow c) is now

-- where packets are forwarded what is kept stays, and where memory runs out nothing is kept
pub forwarded_keeps : {T E : Type 0} (c : Control) (k k' : Option Kept) (result : Result T E) (stays : Bool) → stays ≡ is_ok result → OnOk result (MayKeep c k) → k' ≡ (if stays then k else None) → MayKeep c k'
forwarded_keeps c k k' (Ok e) stays is kept now = subst (MayKeep c) (sym (now ∙ ap (λ (b : Bool). if b then k else None) is)) kept
forwarded_keeps c k k' (Err m) stays is kept now = subst (MayKeep c) (sym (now ∙ ap (λ (b : Bool). if b then k else None) is)) tt

-- so where a system is noted
pub noted_keeps : (system : SystemId) (k k' now : Option Kept) (stays : Bool) → (stays ≡ true → StaysKept system k k') → now ≡ (if stays then k' else None) → StaysKept system k now
noted_keeps system k k' now true all is = λ b next kept same. subst (MayKeep next) (sym is) (all refl b next kept same)
noted_keeps system k k' now false all is = λ b next kept same. subst (MayKeep next) (sym is) tt

-- ---- events

framed_is : (link : ℕ) (r : Reply) → (framed link r).control ≡ r.control
unfolding framed
framed_is link r = refl

-- a call that is done or not
pub done_keeps : (c c' next : Control) (k : Option Kept) (result : Result (Unit {0}) Memory) → OnOk result (c' ≡ next) → OnErr result (c' ≡ c) → MayKeep c k → MayKeep next k → MayKeep c' k
done_keeps c c' next k (Ok u) ok err old new = subst (λ (x : Control). MayKeep x k) (sym ok) new
done_keeps c c' next k (Err m) ok err old new = subst (λ (x : Control). MayKeep x k) (sym err) old

pub taken_keeps : (c c' : Control) (link : ℕ) (p : Pdu) (k : Option Kept) (e : Effects) (result : Result (Unit {0}) Memory) → OnOk result (record { control = c'; effects = e } ≡ pdu_taken c link p) → OnErr result (c' ≡ c) → MayKeep c k → ((l : ℕ) → MayKeep (pdu_taken c l p).control k) → MayKeep c' k
taken_keeps c c' link p k e (Ok u) ok err old new = subst (λ (x : Control). MayKeep x k) (sym (ap (λ (n : Next). n.control) ok)) (new link)
taken_keeps c c' link p k e (Err m) ok err old new = subst (λ (x : Control). MayKeep x k) (sym err) old

pub up_keeps : (c c' : Control) (link : ℕ) (k k' : Option Kept) (result : Result (Unit {0}) Memory) → OnOk result (c' ≡ (end_up c link).control) → OnErr result (c' ≡ c) → MayKeep c k → StaysOwn k k' → MayKeep c' k'
up_keeps c c' link k k' result ok err kept stays = done_keeps c c' (end_up c link).control k' result ok err (stays c c kept (says_itself c.conf.system c)) (stays c (end_up c link).control kept (but_says c.conf.system c (end_up c link).control (up_but c link)))

pub down_keeps : (c c' : Control) (link : ℕ) (k k' : Option Kept) (result : Result (Unit {0}) Memory) → OnOk result (c' ≡ (end_down c link).control) → OnErr result (c' ≡ c) → MayKeep c k → StaysOwn k k' → MayKeep c' k'
down_keeps c c' link k k' result ok err kept stays = done_keeps c c' (end_down c link).control k' result ok err (stays c c kept (says_itself c.conf.system c)) (stays c (end_down c link).control kept (but_says c.conf.system c (end_down c link).control (down_but c link)))

pub relabel_keeps : (c c' : Control) (sd : ℕ) (bsl : Bsl) (label : ℕ) (k k' : Option Kept) (result : Result (Unit {0}) Memory) → OnOk result (c' ≡ (relabel c sd bsl label).control) → OnErr result (c' ≡ c) → MayKeep c k → StaysOwn k k' → MayKeep c' k'
relabel_keeps c c' sd bsl label k k' result ok err kept stays =
    done_keeps c c' (relabel c sd bsl label).control k' result ok err (stays c c kept (says_itself c.conf.system c)) (stays c (relabel c sd bsl label).control kept (but_says c.conf.system c (relabel c sd bsl label).control (relabel_but c sd bsl label)))

pub leave_keeps : (c c' : Control) (sd : ℕ) (k k' : Option Kept) (result : Result (Unit {0}) Memory) → OnOk result (c' ≡ (leave c sd).control) → OnErr result (c' ≡ c) → MayKeep c k → StaysOwn k k' → MayKeep c' k'
leave_keeps c c' sd k k' result ok err kept stays = done_keeps c c' (leave c sd).control k' result ok err (stays c c kept (says_itself c.conf.system c)) (stays c (leave c sd).control kept (but_says c.conf.system c (leave c sd).control (leave_but c sd)))

pub join_keeps : (c c' : Control) (sd : ℕ) (k k' : Option Kept) (result : Result (Unit {0}) Memory) → OnOk result (c' ≡ (join c sd).control) → OnErr result (c' ≡ c) → MayKeep c k → StaysOwn k k' → MayKeep c' k'
join_keeps c c' sd k k' result ok err kept stays = done_keeps c c' (join c sd).control k' result ok err (stays c c kept (says_itself c.conf.system c)) (stays c (join c sd).control kept (but_says c.conf.system c (join c sd).control (join_but c sd)))

pub second_keeps : (c : Control) (k k' : Option Kept) → list_any is_last c.entries ≡ false → MayKeep c k → StaysOwn k k' → MayKeep (tick c).control k'
second_keeps c k k' none kept stays = stays c (tick c).control kept (but_says c.conf.system c (tick c).control (tick_but c none))

pub itself_keeps : (c : Control) (k k' : Option Kept) → MayKeep c k → StaysOwn k k' → MayKeep c k'
itself_keeps c k k' kept stays = stays c c kept (says_itself c.conf.system c)

-- ---- PDUs

pub lsp_keeps : (c : Control) (link : ℕ) (h : Head) (tlvs : List ℕ) (k k' : Option Kept) → MayKeep c k → StaysKept h.id.system k k' → MayKeep (pdu_taken c link (LspPdu h tlvs)).control k'
lsp_keeps c link h tlvs k k' kept stays =
    subst (λ (x : Control). MayKeep x k') (sym (framed_is link (on_pdu c link (LspPdu h tlvs)))) (stays c (on_pdu c link (LspPdu h tlvs)).control kept (but_says h.id.system c (on_pdu c link (LspPdu h tlvs)).control (lsp_but c link h tlvs)))

module _ (c : Control) (tlvs : List ℕ) (k : Option Kept) (all : (next : Control) → (list_any (is_confusing c.entries) (rows_of tlvs) ≡ false → SaysSame c.conf.system c next) → MayKeep next k) where
  pub list_keeps : MayKeep c k
  list_keeps = all c (λ none. says_itself c.conf.system c)

  pub csnp_keeps : (link : ℕ) (source : SystemId) (start last : LspId) → MayKeep (pdu_taken c link (CsnpPdu source start last tlvs)).control k
  csnp_keeps link source start last =
      subst (λ (x : Control). MayKeep x k) (sym (framed_is link (on_pdu c link (CsnpPdu source start last tlvs))))
      (all (on_pdu c link (CsnpPdu source start last tlvs)).control (λ none. but_says c.conf.system c (on_pdu c link (CsnpPdu source start last tlvs)).control (csnp_but c link source start last tlvs none)))

  pub psnp_keeps : (link : ℕ) (source : SystemId) → MayKeep (pdu_taken c link (PsnpPdu source tlvs)).control k
  psnp_keeps link source =
      subst (λ (x : Control). MayKeep x k) (sym (framed_is link (on_pdu c link (PsnpPdu source tlvs))))
      (all (on_pdu c link (PsnpPdu source tlvs)).control (λ none. but_says c.conf.system c (on_pdu c link (PsnpPdu source tlvs)).control (psnp_but c link source tlvs none)))

-- ---- sending

-- where view, configuration and LSDB are the same, what is kept stays
moved : (c c' : Control) (k : Option Kept) → control_view c' ≡ control_view c → c'.conf ≡ c.conf → c'.entries ≡ c.entries → MayKeep c k → MayKeep c' k
moved c c' None view conf entries kept = tt
moved c c' (Some k) view conf entries kept =
    record {
      system = kept.system ∙ sym (ap (λ (r : RouterConf). r.system) conf);
      kinds = kept.kinds ∙ sym (ap (λ (r : RouterConf). r.kinds) conf);
      unchanged = subst (λ (es : List Entry). IsUnchanged k.view k.changed es) (sym entries) kept.unchanged;
      current = λ is. kept.current is ∙ sym view;
      routes = subst (λ (r : RouterConf). AreRoutes r k.view.nodes k.routes) (sym conf) kept.routes;
    }

sent_view : (c : Control) (link : ℕ) → control_view (send c link).control ≡ control_view c
unfolding send sent_on
sent_view c link = refl

sent_conf : (c : Control) (link : ℕ) → (send c link).control.conf ≡ c.conf
unfolding send
sent_conf c link = refl

pub sent_entries : (c : Control) (link : ℕ) → (send c link).control.entries ≡ c.entries
unfolding send
sent_entries c link = refl

pub went_out : (c c' : Control) (link : ℕ) (k : Option Kept) → c' ≡ (send c link).control → MayKeep c k → MayKeep c' k
went_out c c' link k is kept =
    moved c c' k (ap control_view is ∙ sent_view c link) (ap (λ (x : Control). x.conf) is ∙ sent_conf c link) (ap (λ (x : Control). x.entries) is ∙ sent_entries c link) kept

pub sent_keeps : (c c' : Control) (link : ℕ) (k : Option Kept) (result : Result Effects Memory) → IfOk result (λ e. record { control = c'; effects = e } ≡ framed link (send c link)) → OnErr result (c' ≡ c) → MayKeep c k → MayKeep c' k
sent_keeps c c' link k (Ok e) next err kept = went_out c c' link k (ap (λ (n : Next). n.control) next ∙ framed_is link (send c link)) kept
sent_keeps c c' link k (Err m) next err kept = subst (λ (x : Control). MayKeep x k) (sym err) kept
