use Rattle.std.proofs.Common.{◌≡◌, ◌-◌, replicate}
use Rattle.replay_text.specs.declared.event.Event.TheVariants.{Take}
use Rattle.domain_replay.specs.Telling.{Telling, with_texts, told, tells_all}
use Rattle.domain_replay.specs.Replaying.{StopsIn}
use Rattle.domain_replay.proofs.reported_world.ReportedWorld.take_now.Given as goal

abbrev pub invariant-loop-time : goal.invariant-loop-time
invariant-loop-time l =
    record {
      left : tells_all l.line (told (with_texts l.fn.self l.fn.texts)) (replicate l.count (Take l.direction.from l.direction.to 0)) ≡ tells_all l.line (told (with_texts l.self l.texts)) (replicate (l.count - l._time) (Take l.direction.from l.direction.to 0));
      domain : l.self.world.domain ≡ l.fn.self.world.domain;
      stops : (now : Telling) → StopsIn l.line (with_texts l.self l.texts) (replicate (l.count - l._time) (Take l.direction.from l.direction.to 0)) now → StopsIn l.line (with_texts l.fn.self l.fn.texts) (replicate l.count (Take l.direction.from l.direction.to 0)) now;
    }
