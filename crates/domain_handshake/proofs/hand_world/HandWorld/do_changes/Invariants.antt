use Rattle.std.proofs.Common.{◌≡◌, take, None}
use Rattle.domain_handshake.specs.Doing.{Did}
use Rattle.domain_handshake.specs.Handshakes.{in_turn, change_does}
use Rattle.domain_handshake.proofs.hand_world.HandWorld.do_changes.Given as goal

abbrev pub invariant-loop-change : goal.invariant-loop-change
invariant-loop-change l =
    record {
      did : Did (in_turn (change_does l.line) l.fn.self (take l.change-index l.changes)) l.self None l.fn.texts l.texts;
      domain : l.self.replay.world.domain ≡ l.fn.self.replay.world.domain;
    }
