use Rattle.std.proofs.Common.{◌≡◌, drop}
use Rattle.bier_tunnel.specs.Ways.{prefix_in}
use Rattle.bier_tunnel.proofs.ways.prefix_in.Given as goal

abbrev pub invariant-loop-own : goal.invariant-loop-own
invariant-loop-own l = prefix_in (drop l.own-index l.prefixes) l.sd ≡ prefix_in l.prefixes l.sd
