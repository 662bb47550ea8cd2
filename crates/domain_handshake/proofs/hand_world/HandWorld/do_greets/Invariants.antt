use Rattle.std.proofs.Common.{◌≡◌, take, None}
use Rattle.domain_handshake.specs.Doing.{Did}
use Rattle.domain_handshake.specs.Handshakes.{in_turn, greets_on}
use Rattle.domain_handshake.proofs.hand_world.HandWorld.do_greets.Given as goal

abbrev pub invariant-loop-direction : goal.invariant-loop-direction
invariant-loop-direction l =
    record {
      did : Did (in_turn (greets_on l.line) l.fn.self (take l.direction-index l.all)) l.self None l.fn.texts l.texts;
      domain : l.self.replay.world.domain ≡ l.fn.self.replay.world.domain;
    }
