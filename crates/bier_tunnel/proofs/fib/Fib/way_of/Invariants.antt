use Rattle.std.proofs.Common.{◌≡◌, drop}
use Rattle.bier_tunnel.specs.Ways.{way_of}
use Rattle.bier_tunnel.proofs.fib.Fib.way_of.Given as goal

abbrev pub invariant-loop-way : goal.invariant-loop-way
invariant-loop-way l = way_of (drop l.way-index l.way-items) l.target ≡ way_of l.way-items l.target
