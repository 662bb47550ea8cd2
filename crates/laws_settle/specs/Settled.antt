-- A run of gentle events that leaves no link half up: at rest, and before a number of rounds.
use Rattle.std.specs.Prelude.{◌≡◌, ◌⊎◌, ℕ, ◌+◌, ◌≤◌, true, List, ◌∷◌, length, slice_get, Some}
use Rattle.std.specs.List.{AllByRecursion}
use Rattle.wire_base.specs.model.Configuration.{DomainConf, IsValid}
use Rattle.wire_base.specs.model.Control.{Control}
use Rattle.wire_base.specs.model.Hop.{has}
use Rattle.replay_text.specs.declared.event.Event.{Event}
use Rattle.domain_model.specs.Run.{settle_events, world_after}
use Rattle.domain_model.specs.Step.{happens}
use Rattle.domain_model.specs.World.{WorldState, first_world}
use Rattle.laws_ledger.specs.Ledger.{Injection, entered}
use Rattle.laws_ledger.specs.Runs.{AreAllowed}
use Rattle.laws_quiet.specs.Cover.{AreTakes, covers_id}
use Rattle.laws_settle.specs.Fresh.{HasNoneToSend, HasWholeLinks}
use Rattle.laws_settle.specs.Gentle.{AreGentle, IsTraffic}
use Rattle.laws_settle.specs.Width.{HasWidth}

-- In a valid domain events are allowed, no router restarts and no LSP ends. In the world w after them the two interfaces of each link
-- are both up or both down.
pub record IsGentleRun (d : DomainConf) (es : List Event) (w : WorldState) : Type 0 where
  pub valid : IsValid d
  pub allowed : AreAllowed (first_world d) es
  pub gentle : AreGentle (first_world d) es
  pub is : w ≡ world_after (first_world d) es
  pub whole : HasWholeLinks w

-- and no router has an LSP to send on an interface that is up
pub record IsAtRest (d : DomainConf) (es : List Event) (w : WorldState) : Type 0 where
  pub run : IsGentleRun d es w
  pub idle : HasNoneToSend w

-- From w rounds lead to the world v: at least as many as the domain has routers, less one, or as it is wide in w.
pub record IsSettled (d : DomainConf) (es : List Event) (w : WorldState) (rounds : ℕ) (v : WorldState) : Type 0 where
  pub run : IsGentleRun d es w
  pub enough : (length d.routers ≤ rounds + 1) ⊎ HasWidth w rounds
  pub allowed : AreAllowed w (settle_events w rounds)
  pub is : v ≡ world_after w (settle_events w rounds)

-- Traffic leads on from v to the world u.
pub record IsTrafficRun (v : WorldState) (fs : List Event) (u : WorldState) : Type 0 where
  pub traffic : AllByRecursion IsTraffic fs
  pub allowed : AreAllowed v fs
  pub is : u ≡ world_after v fs

-- In the world v the event e is the injection n at the router c, and names k; packets of the injection reach k; and the events fs after
-- it receive copies of the injection. All are allowed.
pub record IsInjectedAt (v : WorldState) (e : Event) (fs : List Event) (c : Control) (n k : ℕ) (i : Injection) : Type 0 where
  pub allowed : AreAllowed v (e ∷ fs)
  pub enters : entered v.injections e n ≡ Some i
  pub names : has i.ids k ≡ true
  pub ingress : slice_get v.routers i.router ≡ Some c
  pub covered : covers_id c i.sd i.bsl i.ttl i.entropy k ≡ true
  pub takes : AreTakes n (happens v e).world fs
