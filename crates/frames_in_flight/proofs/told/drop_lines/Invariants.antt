use Rattle.std.proofs.Common.{◌≡◌, map, option_map, take}
use Rattle.frames_in_flight.specs.Flights.{ids_taken}
use Rattle.frames_in_flight.specs.Framed.{drop_line}
use Rattle.frames_in_flight.proofs.told.drop_lines.Given as goal

abbrev pub invariant-loop-note : goal.invariant-loop-note
invariant-loop-note l = l.lines ≡ map (drop_line l.at l.number (ids_taken (option_map (λ r. r.now) l.reader) (option_map (λ f. f.now) l.taken))) (take l.note-index l.drops)
