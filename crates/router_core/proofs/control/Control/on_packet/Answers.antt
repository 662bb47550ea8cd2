use Rattle.router_core.proofs.KeepLaws.{forwarded_keeps}
use Rattle.router_core.proofs.control.Control.on_packet.Goals as goal

pub returns-in-Ok-clause-kept : goal.returns-in-Ok-clause-kept
returns-in-Ok-clause-kept c = forwarded_keeps c.args.self.now c.hop-done.new.kept c.keep_if.new.kept c.hop-done.result c.is_ok.result c.is_ok.ensures.value c.hop-done.ensures.kept c.keep_if.ensures
