use Rattle.std.proofs.Common.{◌≡◌, ◌++◌, length, map}
use Rattle.wire_base.specs.declared.limits.TheConstants.{MOST_LISTED}
use Rattle.wire_base.specs.model.Lists.{blocks}
use Rattle.wire_base.specs.model.OnFrame.{frames_of}
use Rattle.router_core.specs.Sending.{psnp_listing}
use Rattle.router_core.proofs.sending.push_psnps.Given as goal

-- those so far and those that follow are all
abbrev pub invariant-cuts : goal.invariant-cuts
invariant-cuts l = l.out ++ frames_of l.conf l.link (map (psnp_listing l.conf.system) (blocks MOST_LISTED l.rest)) ≡ l.fn.out ++ frames_of l.conf l.link (map (psnp_listing l.conf.system) (blocks MOST_LISTED l.rows))

abbrev pub decreases-cuts : goal.decreases-cuts
decreases-cuts l = length l.rest
