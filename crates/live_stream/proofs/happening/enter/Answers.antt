use Rattle.std.proofs.Common.{ap}
use Rattle.laws_router.specs.State.{RouterState}
use Rattle.live_stream.proofs.HappenLaws.{entered_so}
use Rattle.live_stream.proofs.happening.enter.Goals as goal

pub returns-clause-done : goal.returns-clause-done
returns-clause-done c =
    entered_so c.args.router.now.control _ c.args.sd c.args.bsl c.args.ids.now c.args.header.0 c.args.header.1 c.args.payload.now c.inject-done.result c.entered.result
    c.inject-done.ensures.effects c.inject-done.ensures.refused c.entered.ensures.done (ap (λ (r : RouterState). r.control) c.inject-done.ensures.state)
