use Rattle.std.proofs.Common.{◌≡◌, map, take}
use Rattle.bier_tunnel.specs.Ways.{own_prefix}
use Rattle.bier_tunnel.proofs.ways.prefixes_of.Given as goal

abbrev pub invariant-loop-sub : goal.invariant-loop-sub
invariant-loop-sub l = l.prefixes ≡ map own_prefix (take l.sub-index l.subs)
