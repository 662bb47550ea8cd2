-- In each router's LSDB a live LSP in its own name is what it originates in its present state: each event of a domain preserves this.
use Rattle.std.proofs.Common.{◌≡◌, ℕ, ◌+◌, List, [], ◌∷◌, slice_get, slice_set, Some, sym, subst}
use Rattle.std.specs.List.{fold}
use Rattle.wire_base.specs.model.Configuration.{DomainConf, IsValid}
use Rattle.wire_base.specs.model.Control.{Control}
use Rattle.wire_base.specs.model.Flooding.{Reply, end_down, end_up, first_control, join, leave, on_pdu, relabel, restart, send, tick}
use Rattle.wire_base.specs.model.Item.{ControlItem}
use Rattle.wire_base.specs.model.View.{control_view}
use Rattle.replay_text.specs.declared.event.Event.{Event}
use Rattle.replay_text.specs.declared.event.Event.TheVariants.{Inject, Take, Lose, Again, Down, Up, Send, Tick, Restart, Relabel, Leave, Join}
use Rattle.laws_router.specs.State.{IssuesAlone}
use Rattle.domain_model.specs.Moves.{inject_made}
use Rattle.domain_model.specs.Run.{Run, first_run, goes_on, run_of}
use Rattle.domain_model.specs.Step.{Happened, changes, doing, happens}
use Rattle.domain_model.specs.Truth.{IsTrueItem, IsTruthful, confs_now}
use Rattle.domain_model.specs.World.{WorldState, first_world, peer_place, queue_at}
use Rattle.domain_model.proofs.EachLaws.{each_from, each_got, each_mapped, each_set}
use Rattle.domain_model.proofs.WorldTruth.{first_true, happens_true}
use Rattle.laws_ledger.specs.Runs.{AreAllowed, unlined}
use Rattle.laws_course.specs.Course.{Agreed, own_node}
use Rattle.laws_quiet.specs.Quiet.{AreIssuers, IsQuiet}
use Rattle.laws_quiet.proofs.AgreeLaws.{agreed}
use Rattle.laws_settle.proofs.EventCases.{after_again, after_change, after_end, after_inject, after_lose, after_send, after_take}
use Rattle.laws_settle.proofs.Exchange.{router_is}
use Rattle.laws_settle.proofs.OwnIssued.{down_issued, first_issued, join_issued, leave_issued, pdu_issued, relabel_issued, restart_issued, send_issued, tick_issued, up_issued}
use Rattle.laws_course.proofs.OnceLaws.{world_next}

-- ---- an event

module _ (w : WorldState) (t : IsTruthful w) (all : AreIssuers w.routers) where
  issued_at : (a : ℕ) (c : Control) → slice_get w.routers a ≡ Some c → IssuesAlone c
  issued_at a c at = each_got IssuesAlone w.routers a c all at

  set : (a : ℕ) (c : Control) → IssuesAlone c → AreIssuers (slice_set w.routers a c)
  set a c one = each_set IssuesAlone w.routers a c all one

  -- each event leaves routers as they are, or one in a new state
  abbrev Issued : Happened → Type 0
  Issued n = AreIssuers n.world.routers

  changed : (a : ℕ) (change : Control → Reply) → ((c : Control) → slice_get w.routers a ≡ Some c → IssuesAlone (change c).control) → Issued (changes w a change (slice_get w.routers a))
  changed a change one = after_change w Issued all a change (λ c at. set a (change c).control (one c at))

  done : (e : Event) → Issued (doing w e)
  done (Inject a sd bsl ks ttl entropy octets) = after_inject w Issued all a (λ c. inject_made w.domain.routers a c (w.injections + 1) sd bsl ks ttl entropy octets) (λ c. all)
  done (Take a b i) =
      after_take w Issued all a b i
      (λ link back c p toward backward there at up. set b (on_pdu c back p).control (pdu_issued c (router_is w t b c at) (issued_at b c at) back up (confs_now w) p
      (each_got (IsTrueItem (confs_now w) w.injections (peer_place w.domain.routers a link)) (queue_at w.flights a link) i (ControlItem p) (t.items a link) there)))
      (λ link c y. all) (λ link x. all)
  done (Lose a b i) = after_lose w Issued all a b i (λ link x. all)
  done (Again a b i) = after_again w Issued all a b i (λ link p there. all)
  done (Down a b) = after_end w Issued all a b end_down (λ c link at toward. set a (end_down c link).control (down_issued c (issued_at a c at) link))
  done (Up a b) = after_end w Issued all a b end_up (λ c link at toward. set a (end_up c link).control (up_issued c (issued_at a c at) link))
  done (Send a b) = after_send w Issued all a b (λ c link at toward. set a (send c link).control (send_issued c (router_is w t a c at) (issued_at a c at) link))
  done (Tick a) = changed a tick (λ c at. tick_issued c (router_is w t a c at) (issued_at a c at))
  done (Restart a) = changed a restart (λ c at. restart_issued c)
  done (Relabel a sd bsl label) = changed a (λ c. relabel c sd bsl label) (λ c at. relabel_issued c (issued_at a c at) sd bsl label)
  done (Leave a sd) = changed a (λ c. leave c sd) (λ c at. leave_issued c (issued_at a c at) sd)
  done (Join a sd) = changed a (λ c. join c sd) (λ c at. join_issued c (issued_at a c at) sd)

  pub happens_issued : (e : Event) → AreIssuers (happens w e).world.routers
  unfolding happens
  happens_issued e = done e

-- ---- runs

pub first_issuers : (d : DomainConf) → AreIssuers (first_world d).routers
unfolding first_world
first_issuers d = each_mapped IssuesAlone first_control d.routers (each_from (λ r. IssuesAlone (first_control r)) first_issued d.routers)

-- a world that is reached by events each of which is allowed
pub record IsIssuing (w : WorldState) : Type 0 where
  pub truth : IsTruthful w
  pub issuers : AreIssuers w.routers

next_issuing : (w : WorldState) (e : Event) (es : List Event) → IsIssuing w → AreAllowed w (e ∷ es) → IsIssuing (happens w e).world
next_issuing w e es h allowed = record { truth = (happens_true w e h.truth allowed.0 allowed.1).truth; issuers = happens_issued w h.truth h.issuers e }

issuing_on : (es : List (ℕ × Event)) (r : Run) → IsIssuing r.world → AreAllowed r.world (unlined es) → IsIssuing (fold goes_on r es).world
issuing_on [] r h allowed = h
issuing_on (e ∷ es) r h allowed =
    issuing_on es (goes_on r e) (subst IsIssuing (sym (world_next r e)) (next_issuing r.world e.1 (unlined es) h allowed))
    (subst (λ (w : WorldState). AreAllowed w (unlined es)) (sym (world_next r e)) allowed.2)

module _ (d : DomainConf) (es : List (ℕ × Event)) (valid : IsValid d) (allowed : AreAllowed (first_world d) (unlined es)) where
  pub run_issuing : IsIssuing (run_of d es).world
  unfolding run_of first_run
  run_issuing = issuing_on es (first_run d) (record { truth = first_true d valid; issuers = first_issuers d }) allowed

  pub run_agrees : (a : ℕ) (c : Control) → IsQuiet (run_of d es).world → slice_get (run_of d es).world.routers a ≡ Some c → Agreed (run_of d es).world (control_view c) (own_node c)
  run_agrees a c quiet at = agreed (run_of d es).world run_issuing.truth run_issuing.issuers quiet a c at
