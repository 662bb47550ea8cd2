use Rattle.std.proofs.Common.{sym}
use Rattle.frames_in_flight.proofs.FlightLaws.{none_gone}
use Rattle.frames_in_flight.proofs.taken.drop_flight.Goals as goal

pub returns-in_default-clause-ok : goal.returns-in_default-clause-ok
returns-in_default-clause-ok c = sym (none_gone c.args.flights.now c.args.place c.args.link c.args.i (sym c.in_default.ensures))
