use Rattle.std.proofs.Common.{◌≡◌, ◌-◌}
use Rattle.std.specs.Prelude.{IfSome}
use Rattle.domain_model.specs.Run.{settle_events}
use Rattle.domain_replay.specs.Telling.{Telling, with_texts, told, tells_all}
use Rattle.domain_replay.specs.Replaying.{AreIdle, StopsIn}
use Rattle.domain_replay.proofs.reported_world.ReportedWorld.do_rounds.Given as goal

abbrev pub invariant-loop-round : goal.invariant-loop-round
invariant-loop-round l =
    record {
      left : tells_all l.line (told (with_texts l.fn.self l.fn.texts)) (settle_events l.fn.self.world l.rounds) ≡ tells_all l.line (told (with_texts l.self l.texts)) (settle_events l.self.world (l.rounds - l._round));
      idle : IfSome l.idle (λ n. AreIdle l.self.world l.all n);
      domain : l.self.world.domain ≡ l.fn.self.world.domain;
      stops : (now : Telling) → StopsIn l.line (with_texts l.self l.texts) (settle_events l.self.world (l.rounds - l._round)) now → StopsIn l.line (with_texts l.fn.self l.fn.texts) (settle_events l.fn.self.world l.rounds) now;
    }
