-- A configuration that is replaced by one that differs in sub-domains and label ranges only: the router keeps its invariants, and its
-- own LSP is made from the new one.
use Rattle.std.proofs.Common.{◌≡◌, ◌∙◌, ℕ, Bool, true, false, List, length, if◌then◌else◌, refl, sym, ap, subst}
use Rattle.std.proofs.lemmas.Bool.{true≢false}
use Rattle.wire_base.specs.declared.addresses.SystemId.{SystemId}
use Rattle.wire_base.specs.declared.bsl.Bsl.{Bsl}
use Rattle.wire_base.specs.declared.conf.RouterConf.{RouterConf}
use Rattle.wire_base.specs.declared.entry.Entry.{Entry}
use Rattle.wire_base.specs.model.Configuration.{IsSound}
use Rattle.wire_base.specs.model.Control.{Control, Flood, IsDatabase, entry_in, fragment_0, put_entry, same_system, seq_of}
use Rattle.wire_base.specs.model.Flooding.{mark_all, reissue, reissue_unless_spent, relabel, leave, join}
use Rattle.wire_base.specs.model.Membership.{relabelled, left, rejoined}
use Rattle.laws_router.specs.Becoming.{AreOfOne}
use Rattle.laws_router.specs.Kept.{Kept}
use Rattle.laws_router.specs.State.{AreIssued, IsRouter, IsWhole, control_of}
use Rattle.router_core.specs.Own.{own_next, own_past, own_seq, spent_past}
use Rattle.router_core.proofs.IssuedLaws.{issued_over, marked_up}
use Rattle.router_core.proofs.OwnLaws.{kept_of, reissued_is, reissued_keeps, router_of}

-- ---- the three changes

pub relabelled_is_one : (r : RouterConf) (sd : ℕ) (bsl : Bsl) (label : ℕ) → AreOfOne (relabelled r sd bsl label) r
unfolding relabelled
relabelled_is_one r sd bsl label = refl

pub left_is_one : (r : RouterConf) (sd : ℕ) → AreOfOne (left r sd) r
unfolding left
left_is_one r sd = refl

pub rejoined_is_one : (r : RouterConf) (sd : ℕ) → AreOfOne (rejoined r sd) r
unfolding rejoined
rejoined_is_one r sd = refl

pub relabel_is : (c : Control) (next : RouterConf) (sd : ℕ) (bsl : Bsl) (label : ℕ) → next ≡ relabelled c.conf sd bsl label → reissue_unless_spent (record c { conf = next }) ≡ (relabel c sd bsl label).control
unfolding relabel
relabel_is c next sd bsl label is = ap (λ (x : RouterConf). reissue_unless_spent (record c { conf = x })) is

pub leave_is : (c : Control) (next : RouterConf) (sd : ℕ) → next ≡ left c.conf sd → reissue_unless_spent (record c { conf = next }) ≡ (leave c sd).control
unfolding leave
leave_is c next sd is = ap (λ (x : RouterConf). reissue_unless_spent (record c { conf = x })) is

pub join_is : (c : Control) (next : RouterConf) (sd : ℕ) → next ≡ rejoined c.conf sd → reissue_unless_spent (record c { conf = next }) ≡ (join c sd).control
unfolding join
join_is c next sd is = ap (λ (x : RouterConf). reissue_unless_spent (record c { conf = x })) is

-- ---- a configuration that replaces another

module _ (r next : RouterConf) (one : AreOfOne next r) (f : Flood) (es : List Entry) (spent : Bool) where
  one_system : next.system ≡ r.system
  one_system = ap (λ (x : RouterConf). x.system) one

  one_ends : length next.ends ≡ length r.ends
  one_ends = ap (λ (x : RouterConf). length x.ends) one

  turned_spent : spent ≡ true → control_of next f es spent ≡ reissue_unless_spent (control_of next f es spent)
  unfolding reissue_unless_spent
  turned_spent h = ap (λ (b : Bool). if b then control_of next f es spent else reissue (control_of next f es spent) (seq_of (entry_in es (fragment_0 next.system)))) (sym h)

  turned_unspent : spent ≡ false → reissue_unless_spent (control_of next f es spent) ≡ reissue (control_of next f es spent) (seq_of (entry_in es (fragment_0 next.system)))
  unfolding reissue_unless_spent
  turned_unspent h = ap (λ (b : Bool). if b then control_of next f es spent else reissue (control_of next f es spent) (seq_of (entry_in es (fragment_0 next.system)))) h

  pub now_spent : spent ≡ true → control_of next f es spent ≡ reissue_unless_spent (record (control_of r f es spent) { conf = next })
  now_spent h = turned_spent h

  -- a router that is spent has no live LSP of its own
  pub spent_stays : AreIssued r f.up spent es → spent ≡ true → AreIssued next f.up spent es
  spent_stays all h = record { each = λ id x there live own. absurd (true≢false (sym h ∙ (all.each id x there live (ap (same_system id.system) (sym one_system) ∙ own)).unspent)) }

  module _ (k : IsRouter (control_of r f es spent)) (sound : IsSound next) where
    kept : Kept next.system f.up spent f es
    kept = subst (λ (s : SystemId). Kept s f.up spent f es) (sym one_system) (kept_of (control_of r f es spent) k)

    pub as_many_ends : length f.up ≡ length next.ends
    as_many_ends = k.control.links ∙ sym one_ends

    pub turned_keeps : IsRouter (control_of next f es spent)
    turned_keeps = router_of next f.up spent f es sound as_many_ends kept k.control.entries

    -- the own LSP was made from the new configuration, and is issued
    module _ (s : ℕ) (ups : List Bool) (own : Entry) (is : own ≡ own_past next ups s) (f' : Flood) (es' : List Entry) (now : Bool) (marked : f' ≡ mark_all f own.id) (put : es' ≡ put_entry own es) (now_is : now ≡ spent_past spent s) where
      pub changed_keeps : IsDatabase es' → IsRouter (control_of next f' es' now)
      changed_keeps database = reissued_keeps next f es spent s ups own is f' es' now marked put now_is f.up spent sound as_many_ends kept database

      pub changed_is : spent ≡ false → s ≡ seq_of (entry_in es (fragment_0 r.system)) → ups ≡ f.up → control_of next f' es' now ≡ reissue_unless_spent (record (control_of r f es spent) { conf = next })
      changed_is unspent seq links =
          reissued_is next f es spent s ups own is f' es' now marked put now_is links
          ∙ ap (λ n. reissue (control_of next f es spent) n) (seq ∙ ap (λ (x : SystemId). seq_of (entry_in es (fragment_0 x))) (sym one_system))
          ∙ sym (turned_unspent unspent)

      pub changed_issued : AreIssued r f.up spent es → spent ≡ false → ups ≡ f.up → AreIssued next f'.up now es'
      changed_issued all unspent links =
          issued_over next ups f'.up spent now s own es es' is put now_is unspent (links ∙ sym (ap (λ (x : Flood). x.up) marked ∙ marked_up f own.id))
          (λ id x there live mine. (all.each id x there live (ap (same_system id.system) (sym one_system) ∙ mine)).fragment ∙ ap fragment_0 (sym one_system))

    -- the parts that replace the router's own
    module _ (f' : Flood) (es' : List Entry) (now : Bool) (exhausted : spent ≡ true → (now ≡ true) × (f' ≡ f) × (es' ≡ es))
        (flags : spent ≡ false → f' ≡ mark_all f (own_next next f es).id) (entries : spent ≡ false → es' ≡ put_entry (own_next next f es) es)
        (database : spent ≡ false → IsDatabase es') (now_is : spent ≡ false → now ≡ spent_past spent (own_seq next es)) where
      pub replaced_keeps : AreIssued r f.up spent es → (b : Bool) → spent ≡ b → IsWhole (control_of next f' es' now)
      replaced_keeps all true h =
          let p = exhausted h in
          rw (p.0, p.1, p.2, sym h) (record { router = turned_keeps; issued = spent_stays all h })
      replaced_keeps all false h = record {
        router = changed_keeps (own_seq next es) f.up (own_next next f es) refl f' es' now (flags h) (entries h) (now_is h) (database h);
        issued = changed_issued (own_seq next es) f.up (own_next next f es) refl f' es' now (flags h) (entries h) (now_is h) all h refl;
      }

      pub replaced_is : (b : Bool) → spent ≡ b → control_of next f' es' now ≡ reissue_unless_spent (record (control_of r f es spent) { conf = next })
      replaced_is true h =
          let p = exhausted h in
          rw (p.0, p.1, p.2) (ap (λ (b : Bool). control_of next f es b) (sym h)) ∙ now_spent h
      replaced_is false h =
          changed_is (own_seq next es) f.up (own_next next f es) refl f' es' now (flags h) (entries h) (now_is h) h (ap (λ (x : SystemId). seq_of (entry_in es (fragment_0 x))) one_system) refl
