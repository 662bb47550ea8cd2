use Rattle.std.proofs.Common.{◌≡◌, take}
use Rattle.frames_in_flight.specs.Flights.{ids_carried_by}
use Rattle.frames_in_flight.proofs.flights.ids_in.Given as goal

abbrev pub invariant-loop-queues : goal.invariant-loop-queues
invariant-loop-queues l = l.total ≡ ids_carried_by l.confs (take l.queues-index l.routers)
