-- Interfaces that follow the adjacencies of their circuits.
use Rattle.std.specs.Prelude.{◌≡◌, ℕ, Bool, List, [], ◌∷◌, length, map}
use Rattle.std.specs.List.{fold}
use Rattle.wire_base.specs.declared.conf.RouterConf.{RouterConf}
use Rattle.wire_base.specs.model.Configuration.{DomainConf}
use Rattle.wire_base.specs.declared.hello_event.HelloEvent.{HelloEvent}
use Rattle.isis_hello.specs.Changes.{up_between}
use Rattle.isis_hello.specs.Circuits.{CircuitsState}
use Rattle.isis_hello.specs.History.{circuits_after}
use Rattle.domain_model.specs.Faults.{is_up_toward}
use Rattle.domain_model.specs.World.{WorldState}
use Rattle.laws_settle.specs.Ups.{ups_of}
use Rattle.domain_handshake.specs.Handshakes.{HandState, Moment}

-- An interface is up exactly where its adjacency is: that of each router toward each other.
abbrev pub EndsFollow : WorldState → CircuitsState → Type 0
EndsFollow w c = (a b : ℕ) → is_up_toward w a b ≡ up_between c a b

-- The interfaces are as the adjacencies are, between two events.
abbrev pub IsFollowed : Moment → Type 0
IsFollowed m = EndsFollow m.world m.circuits

-- events of the circuits as a history, the newest first
abbrev pub history : List HelloEvent → List HelloEvent
history events = fold (λ past e. e ∷ past) [] events

-- ---- the interfaces there are

-- how many interfaces each router has
unfoldable pub widths : List (List Bool) → List ℕ
widths ups = map (λ row. length row) ups

unfoldable pub ends_counts : List RouterConf → List ℕ
ends_counts confs = map (λ r. length r.ends) confs

-- a world of the domain: each router has its interfaces
pub record IsWorldOf (d : DomainConf) (w : WorldState) : Type 0 where
  pub domain : w.domain ≡ d
  pub interfaces : widths (ups_of w) ≡ ends_counts d.routers

-- ---- a run

-- The circuits are those after those events, and the interfaces follow them.
pub record IsRunning (d : DomainConf) (events : List HelloEvent) (s : HandState) : Type 0 where
  pub is : IsWorldOf d s.replay.world
  pub circuits : s.circuits ≡ circuits_after d (history events)
  pub ends : EndsFollow s.replay.world s.circuits
