-- What becomes of a router's configuration: events change it only where it is given other labels, or leaves or joins a
-- sub-domain.
use Rattle.std.proofs.Common.{◌≡◌, ℕ, ◌+◌, ◌==◌, true, slice_get, Some, refl}
use Rattle.std.proofs.lemmas.Bool.{cond_both}
use Rattle.wire_base.specs.declared.bsl.Bsl.{Bsl}
use Rattle.wire_base.specs.model.Control.{Control, own_entry_in, fragment_0, purge, seq_of}
use Rattle.wire_base.specs.model.Flooding.{issue, last_sequence, reissue, reissue_unless_spent, tick, restart, end_up, end_down, relabel, leave, join, link_up, link_down}
use Rattle.wire_base.specs.model.Membership.{relabelled, left, rejoined}
use Rattle.wire_base.specs.model.OwnLsp.{own_lsp}
use Rattle.domain_model.specs.World.{WorldState}
use Rattle.domain_model.specs.Truth.{confs_now, domain_now, IsTrueControl, IsTruthful}
use Rattle.domain_model.proofs.ControlTruth.{state_of, tick_true, restart_true}
use Rattle.domain_model.proofs.DomainLaws.{own_earlier}
use Rattle.domain_core.proofs.FramedWorld.{control_there}

reissue_conf : (c : Control) (s : ℕ) → (reissue c s).conf ≡ c.conf
unfolding reissue
reissue_conf c s =
    cond_both (s == last_sequence) (issue (record c { spent = true }) (purge (fragment_0 c.conf.system) s)) (issue c (own_lsp c.conf c.flood.up (s + 1))) (λ (d : Control). d.conf ≡ c.conf) (λ e. refl) (λ e. refl)

anew_conf : (c : Control) → (reissue_unless_spent c).conf ≡ c.conf
unfolding reissue_unless_spent
anew_conf c = cond_both c.spent c (reissue c (seq_of (own_entry_in c))) (λ (d : Control). d.conf ≡ c.conf) (λ e. refl) (λ e. reissue_conf c (seq_of (own_entry_in c)))

-- ---- other labels and members

pub relabel_conf : (c : Control) (sd : ℕ) (bsl : Bsl) (label : ℕ) → (relabel c sd bsl label).control.conf ≡ relabelled c.conf sd bsl label
unfolding relabel
relabel_conf c sd bsl label = anew_conf (record c { conf = relabelled c.conf sd bsl label })

pub leave_conf : (c : Control) (sd : ℕ) → (leave c sd).control.conf ≡ left c.conf sd
unfolding leave
leave_conf c sd = anew_conf (record c { conf = left c.conf sd })

pub join_conf : (c : Control) (sd : ℕ) → (join c sd).control.conf ≡ rejoined c.conf sd
unfolding join
join_conf c sd = anew_conf (record c { conf = rejoined c.conf sd })

-- ---- all else

pub up_conf : (c : Control) (link : ℕ) → (end_up c link).control.conf ≡ c.conf
unfolding end_up
up_conf c link = anew_conf (record c { flood = link_up c.flood c.entries link })

pub down_conf : (c : Control) (link : ℕ) → (end_down c link).control.conf ≡ c.conf
unfolding end_down
down_conf c link = anew_conf (record c { flood = link_down c.flood link })

module _ (w : WorldState) (t : IsTruthful w) (a : ℕ) (c : Control) (at : slice_get w.routers a ≡ Some c) where
  kept : IsTrueControl (confs_now w) c
  kept = control_there w t a c at

  pub tick_conf : (tick c).control.conf ≡ c.conf
  tick_conf =
      (tick_true (confs_now w) t.now.few t.now.sound c kept.among (own_earlier (domain_now w) t.now c.conf kept.among) kept.kept.control.links (state_of (confs_now w) c kept) kept.kept.control.flood.in_order).next.conf

  pub restart_conf : (restart c).control.conf ≡ c.conf
  restart_conf = (restart_true (confs_now w) c kept.among (own_earlier (domain_now w) t.now c.conf kept.among) kept.kept.control.links).next.conf
