use Rattle.std.proofs.Common.{◌≤◌, take}
use Rattle.domain_replay.specs.Replaying.{AreIdle}
use Rattle.domain_replay.proofs.reported_world.ReportedWorld.idle_sends.Given as goal

-- the directions so far are idle
abbrev pub invariant-loop-direction : goal.invariant-loop-direction
invariant-loop-direction l = record {
  idle : AreIdle l.self.world (take l.direction-index l.all) l.sends;
  few : l.sends ≤ l.direction-index;
}
