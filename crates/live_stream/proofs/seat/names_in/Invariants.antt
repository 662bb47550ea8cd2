use Rattle.std.proofs.Common.{◌≡◌, take, map}
use Rattle.wire_base.specs.declared.conf.RouterConf.{RouterConf}
use Rattle.live_stream.proofs.seat.names_in.Given as goal

abbrev pub invariant-loop-router : goal.invariant-loop-router
invariant-loop-router l = l.names ≡ map (λ (r : RouterConf). r.name) (take l.router-index l.domain.routers)
