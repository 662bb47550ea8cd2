use Rattle.std.proofs.Common.{ap}
use Rattle.domain_replay.specs.Telling.{ReplayState}
use Rattle.domain_replay.proofs.DirectionLaws.{facing_found}
use Rattle.domain_replay.proofs.reported_world.ReportedWorld.facing.Goals as goal

pub returns-clause-some : goal.returns-clause-some
returns-clause-some c =
    let d = c.direction.inside in
    facing_found c.self.inside.world.world c.args.self.now.world (record { from = d.from; link = d.link; to = d.to }) c.args.direction c.back.result c.back.ensures.truth
    (ap (λ (s : ReplayState). s.world) c.self.view_is) c.direction.view_is c.requires.link c.back.ensures.back
