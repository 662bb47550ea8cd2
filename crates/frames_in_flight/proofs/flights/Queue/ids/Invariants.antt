use Rattle.std.proofs.Common.{◌≡◌, take}
use Rattle.std.specs.Prelude.{sum_by}
use Rattle.frames_in_flight.specs.Flights.{item_seen}
use Rattle.domain_model.specs.World.{carried}
use Rattle.frames_in_flight.proofs.flights.Queue.ids.Given as goal

abbrev pub invariant-frames : goal.invariant-frames
invariant-frames l = l.total ≡ sum_by (λ f. carried (item_seen l.fn.confs f)) (take l.i l.fn.self)
