use Rattle.std.proofs.Common.{◌≡◌, take}
use Rattle.frames_in_flight.specs.Flights.{no_frames}
use Rattle.frames_in_flight.proofs.flights.Flights.new.Given as goal

abbrev pub invariant-loop-conf : goal.invariant-loop-conf
invariant-loop-conf l = l.routers.items ≡ no_frames (take l.conf-index l.confs)
