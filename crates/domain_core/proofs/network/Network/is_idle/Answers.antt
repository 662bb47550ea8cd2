use Rattle.std.proofs.Common.{sym}
use Rattle.domain_core.specs.Held.{world_in}
use Rattle.domain_core.proofs.EventLaws.{send_allowed}
use Rattle.domain_core.proofs.network.Network.is_idle.Goals as goal

pub returns : goal.returns
returns c = λ to idle joined.
    let done = c.owes_nothing.ensures to idle joined in
    record {
      allowed = send_allowed (world_in c.args.self.now) c.args.from to c.args.link joined (sym c.in_default.ensures);
      world = sym done.world;
      answer = done.answer;
    }
