-- The representation of a running domain, and the effect of one event on it.
use Rattle.std.specs.Prelude.{◌≡◌, ℕ, List, slice_get, Option}
use Rattle.wire_base.specs.declared.bsl.Bsl.{Bsl}
use Rattle.domain_model.specs.declared.fault.EventFault.{EventFault}
use Rattle.domain_core.specs.declared.network.Network.{Network}
use Rattle.domain_model.specs.declared.step_out.StepOut.{StepOut}
use Rattle.frames_in_flight.specs.Told.{told}
use Rattle.domain_model.specs.Faults.{entry_fault}
use Rattle.domain_core.specs.Network.{NetworkState, confs_in, seen_of, world_of, AreFramesOver}
use Rattle.domain_model.specs.Step.{Happened}
use Rattle.domain_model.specs.World.{WorldState}

abbrev pub state_of : Network → NetworkState
state_of n =
    record {
      domain = n.domain;
      routers = n.routers.items;
      flights = n.flights;
      injections = n.injections;
      events = n.events;
    }

abbrev pub world_in : Network → WorldState
world_in n = world_of (state_of n)

-- What happened in a world is what was done, in frames of its items, and what is reported.
pub record IsDone (old new : Network) (n : Happened) (out : StepOut) : Type 0 where
  pub world : world_in new ≡ n.world
  pub frames : AreFramesOver old.domain.routers (confs_in (state_of new)) new.flights
  pub answer : out ≡ told old.domain.routers n.made

abbrev pub heard_in : Network → List ℕ
heard_in n = (seen_of (state_of n)).heard

-- the reason of a router to reject an injection
abbrev pub inject_fault : Network → ℕ → ℕ → Bsl → List ℕ → Option EventFault
inject_fault n a sd bsl ks = entry_fault (slice_get (world_in n).routers a) sd bsl ks
