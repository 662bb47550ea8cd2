use Rattle.std.proofs.Common.{arith, sym}
use Rattle.domain_replay.proofs.IdleLaws.{down_idle, up_idle}
use Rattle.domain_replay.proofs.reported_world.ReportedWorld.idle_sends_of.Goals as goal

pub returns-then-not-may_send-clause-idle : goal.returns-then-not-may_send-clause-idle
returns-then-not-may_send-clause-idle c = down_idle c.args.self.now.world c.args.direction (omega (arith, c.waiting.ensures, c.if-waiting-gt0.false)) (sym c.if-not-may_send.ensures)

pub returns-then-is_idle-clause-idle : goal.returns-then-is_idle-clause-idle
returns-then-is_idle-clause-idle c =
    up_idle c.args.self.now.world c.args.direction (omega (arith, c.waiting.ensures, c.if-waiting-gt0.false)) (sym c.if-not-may_send.ensures) (c.is_idle.ensures c.if-is_idle.true)
