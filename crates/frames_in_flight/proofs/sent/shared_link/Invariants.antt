use Rattle.std.proofs.Common.{take}
use Rattle.std.specs.List.{AllByRecursion}
use Rattle.frames_in_flight.specs.Flights.{IsOver}
use Rattle.frames_in_flight.proofs.sent.shared_link.Given as goal

abbrev pub invariant-frames : goal.invariant-frames
invariant-frames l = AllByRecursion (IsOver l.link) (take l.place l.fn.sent)
