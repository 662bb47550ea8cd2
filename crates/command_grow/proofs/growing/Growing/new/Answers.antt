use Rattle.std.proofs.Common.{ap, ◌∙◌}
use Rattle.wire_base.specs.model.Configuration.{DomainConf}
use Rattle.replay_report.specs.declared.recording.Recording.TheVariants.{Discarded}
use Rattle.domain_replay.specs.Telling.{first_state}
use Rattle.command_grow.proofs.GrowLaws.{start_count}
use Rattle.command_grow.proofs.growing.Growing.new.Goals as goal

pub invariant_of-result : goal.invariant_of-result
invariant_of-result c = record {
  few = c.requires.few;
  some = c.requires.some;
  routers = start_count c.args.n c.in_ok-replay.replay (c.in_ok-replay.ensures ∙ ap (λ (d : DomainConf). first_state Discarded d) c.in_ok-grown.ensures);
}
