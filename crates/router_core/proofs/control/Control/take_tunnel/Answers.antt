use Rattle.router_core.proofs.KeepLaws.{forwarded_keeps}
use Rattle.router_core.proofs.control.Control.take_tunnel.Goals as goal

pub returns-clause-kept : goal.returns-clause-kept
returns-clause-kept c = forwarded_keeps c.args.self.now c.forward_tunnel-effects.new.kept c.keep_if.new.kept c.forward_tunnel-effects.result c.is_ok.result c.is_ok.ensures.value c.forward_tunnel-effects.ensures.kept c.keep_if.ensures
