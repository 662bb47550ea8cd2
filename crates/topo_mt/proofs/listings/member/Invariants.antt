use Rattle.std.proofs.Common.{◌≡◌, length}
use Rattle.topo_mt.specs.MultiTopology.{member_in}
use Rattle.topo_mt.proofs.listings.member.Given as goal

abbrev pub invariant-entries : goal.invariant-entries
invariant-entries l = member_in l.mt l.rest ≡ member_in l.mt l.value

abbrev pub decreases-entries : goal.decreases-entries
decreases-entries l = length l.rest
