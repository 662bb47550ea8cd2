use Rattle.std.proofs.Common.{◌≡◌, drop}
use Rattle.domain_replay.specs.Telling.{Telling, with_texts, told, tells_all}
use Rattle.domain_replay.specs.Replaying.{StopsIn, sends_in}
use Rattle.domain_replay.proofs.reported_world.ReportedWorld.do_sends.Given as goal

abbrev pub invariant-loop-direction : goal.invariant-loop-direction
invariant-loop-direction l =
    record {
      left : tells_all l.line (told (with_texts l.fn.self l.fn.texts)) (sends_in l.fn.self.world l.all) ≡ tells_all l.line (told (with_texts l.self l.texts)) (sends_in l.self.world (drop l.direction-index l.all));
      domain : l.self.world.domain ≡ l.fn.self.world.domain;
      stops : (now : Telling) → StopsIn l.line (with_texts l.self l.texts) (sends_in l.self.world (drop l.direction-index l.all)) now → StopsIn l.line (with_texts l.fn.self l.fn.texts) (sends_in l.fn.self.world l.all) now;
    }
