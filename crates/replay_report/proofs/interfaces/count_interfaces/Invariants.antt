use Rattle.std.proofs.Common.{◌≡◌, ◌≤◌, ◌*◌, length, take}
use Rattle.std.specs.Prelude.{sum_by}
use Rattle.wire_base.specs.declared.conf.RouterConf.{RouterConf}
use Rattle.wire_base.specs.declared.limits.TheConstants.{MOST_ENDS}
use Rattle.replay_report.proofs.interfaces.count_interfaces.Given as goal

abbrev pub invariant-loop-router : goal.invariant-loop-router
invariant-loop-router l =
    (l.count ≡ sum_by (λ (r : RouterConf). length r.ends) (take l.router-index l.routers)) × (l.count ≤ MOST_ENDS * l.router-index)
