use Rattle.std.proofs.Common.{◌≡◌, drop}
use Rattle.bier_tunnel.specs.Ways.{link_with}
use Rattle.bier_tunnel.proofs.fib.Fib.link_with.Given as goal

abbrev pub invariant-loop-way : goal.invariant-loop-way
invariant-loop-way l = link_with (drop l.way-index l.way-items) l.prefix ≡ link_with l.way-items l.prefix
