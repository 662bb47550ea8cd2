use Rattle.std.proofs.Common.{◌≡◌, replicate, None}
use Rattle.domain_handshake.specs.Doing.{Did}
use Rattle.domain_handshake.specs.Handshakes.{in_turn, greet_on}
use Rattle.domain_handshake.proofs.hand_world.HandWorld.greets_on.Given as goal

abbrev pub invariant-loop-time : goal.invariant-loop-time
invariant-loop-time l =
    record {
      did : Did (in_turn (greet_on l.line) l.fn.self (replicate l._time l.direction)) l.self None l.fn.texts l.texts;
      domain : l.self.replay.world.domain ≡ l.fn.self.replay.world.domain;
    }
