use Rattle.std.proofs.Common.{◌∙◌, List, sym, ap, take}
use Rattle.frames_in_flight.specs.declared.flight.Flight.{Flight}
use Rattle.frames_in_flight.specs.Flights.{frame_count}
use Rattle.frames_in_flight.proofs.FlightLaws.{none_counted}
use Rattle.frames_in_flight.proofs.flights.Flights.new.Goals as goal

pub invariant_of-result : goal.invariant_of-result
invariant_of-result c = sym (ap (λ (f : List (List (List Flight))). frame_count f) c.loop-conf.invariant ∙ none_counted (take c.loop-conf.conf-index c.args.confs.now))
