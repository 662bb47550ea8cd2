use Rattle.std.proofs.Common.{◌≡◌, map}
use Rattle.frames_in_flight.specs.Framed.{got_line}
use Rattle.frames_in_flight.proofs.told.got_lines.Given as goal

abbrev pub invariant-loop-delivery : goal.invariant-loop-delivery
invariant-loop-delivery l = l.lines ≡ map (got_line l.at l.number) l.yielded
