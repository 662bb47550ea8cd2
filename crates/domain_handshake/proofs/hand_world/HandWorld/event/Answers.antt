use Rattle.std.proofs.Common.{subst}
use Rattle.domain_handshake.specs.Doing.{Does}
use Rattle.domain_handshake.specs.Handshakes.{Outcome}
use Rattle.domain_handshake.proofs.Steps.{other_event}
use Rattle.domain_handshake.proofs.hand_world.HandWorld.event.Goals as goal

pub returns-in_default : goal.returns-in_default
returns-in_default c = record {
  does = subst (λ (o : Outcome). Does o c.do_event.new.self c.args.texts.now c.do_event.new.texts c.do_event.result) (other_event c.args.line c.args.self.now c.args.event.now c.in_default.not-Tick c.in_default.not-Restart) c.do_event.ensures.does;
  domain = c.do_event.ensures.domain;
}
