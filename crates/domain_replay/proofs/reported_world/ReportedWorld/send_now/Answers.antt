use Rattle.std.proofs.Common.{sym, subst}
use Rattle.domain_replay.specs.Telling.{Told, with_texts}
use Rattle.domain_replay.specs.Replaying.{Tells}
use Rattle.domain_replay.proofs.SendLaws.{sends_none, sends_one}
use Rattle.domain_replay.proofs.reported_world.ReportedWorld.send_now.Goals as goal

pub returns-then-not-may_send-clause-told : goal.returns-then-not-may_send-clause-told
returns-then-not-may_send-clause-told c = sends_none c.args.line (with_texts c.args.self.now c.args.texts.now) c.args.direction (sym c.if-not-may_send.ensures)

pub returns-clause-told : goal.returns-clause-told
returns-clause-told c =
    subst (λ (t : Told). Tells t (with_texts c.send_one.new.self c.send_one.new.texts) c.send_one.result) (sym (sends_one c.args.line (with_texts c.args.self.now c.args.texts.now) c.args.direction (sym c.if-not-may_send.ensures))) c.send_one.ensures.told
