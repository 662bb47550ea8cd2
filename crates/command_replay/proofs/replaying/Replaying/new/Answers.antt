use Rattle.command_replay.proofs.Steps.{start_named}
use Rattle.command_replay.proofs.replaying.Replaying.new.Goals as goal

pub invariant_of-result : goal.invariant_of-result
invariant_of-result c = record {
  few = c.in_ok-names.ensures.few;
  named = start_named c.args.recording c.args.domain c.in_ok-names.names c.in_ok-replay.replay c.in_ok-names.ensures.names c.in_ok-replay.ensures;
}
