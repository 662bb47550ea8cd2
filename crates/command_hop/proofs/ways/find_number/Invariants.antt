use Rattle.std.proofs.Common.{◌≡◌, false, take}
use Rattle.command_hop.specs.Ways.{has_name}
use Rattle.command_hop.proofs.ways.find_number.Given as goal

abbrev pub invariant-loop-n : goal.invariant-loop-n
invariant-loop-n l = has_name (take l.n l.names) l.text ≡ false
