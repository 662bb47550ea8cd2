use Rattle.std.proofs.Common.{◌≡◌, Some, subst}
use Rattle.domain_model.specs.World.{link_between}
use Rattle.domain_core.specs.Idle.{IsIdleSend}
use Rattle.domain_core.specs.Network.{Seen}
use Rattle.domain_core.proofs.world.World.is_idle.Goals as goal

pub returns : goal.returns
returns c = λ to idle.
    subst (λ (s : Seen). link_between s.world.domain.routers c.args.from to ≡ Some c.args.link → IsIdleSend s.world c.args.from to) c.self.view_is (c.is_idle.ensures to idle)
