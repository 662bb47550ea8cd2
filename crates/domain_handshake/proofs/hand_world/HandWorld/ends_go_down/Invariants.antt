use Rattle.std.proofs.Common.{◌≡◌, take, None}
use Rattle.domain_handshake.specs.Doing.{Did}
use Rattle.domain_handshake.specs.Handshakes.{in_turn, end_goes_down}
use Rattle.domain_handshake.proofs.hand_world.HandWorld.ends_go_down.Given as goal

abbrev pub invariant-loop-direction : goal.invariant-loop-direction
invariant-loop-direction l =
    record {
      did : Did (in_turn end_goes_down l.fn.self (take l.direction-index l.all)) l.self None l.fn.texts l.texts;
      domain : l.self.replay.world.domain ≡ l.fn.self.replay.world.domain;
    }
