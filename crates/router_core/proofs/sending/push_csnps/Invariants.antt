use Rattle.std.proofs.Common.{◌≡◌, ◌++◌, length}
use Rattle.wire_base.specs.declared.limits.TheConstants.{MOST_LISTED}
use Rattle.wire_base.specs.model.Flooding.{csnps, zero_id}
use Rattle.wire_base.specs.model.Lists.{blocks}
use Rattle.wire_base.specs.model.OnFrame.{frames_of}
use Rattle.router_core.specs.Sending.{conf_alone}
use Rattle.router_core.proofs.sending.push_csnps.Given as goal

-- those so far and those that follow are all
abbrev pub invariant-cuts : goal.invariant-cuts
invariant-cuts l = l.out ++ frames_of l.conf l.link (csnps (conf_alone l.conf) l.start (blocks MOST_LISTED l.rest)) ≡ l.fn.out ++ frames_of l.conf l.link (csnps (conf_alone l.conf) zero_id (blocks MOST_LISTED l.rows))

abbrev pub decreases-cuts : goal.decreases-cuts
decreases-cuts l = length l.rest
