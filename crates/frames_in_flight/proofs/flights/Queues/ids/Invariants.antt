use Rattle.std.proofs.Common.{◌≡◌, take}
use Rattle.std.specs.Prelude.{sum_by}
use Rattle.frames_in_flight.specs.Flights.{item_seen}
use Rattle.domain_model.specs.World.{carried}
use Rattle.frames_in_flight.proofs.flights.Queues.ids.Given as goal

abbrev pub invariant-loop-queue : goal.invariant-loop-queue
invariant-loop-queue l = l.total ≡ sum_by (λ queue. sum_by (λ f. carried (item_seen l.confs f)) queue) (take l.queue-index l.self)
