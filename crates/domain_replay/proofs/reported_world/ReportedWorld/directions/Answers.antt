use Rattle.std.proofs.Common.{◌∙◌, ap, subst}
use Rattle.std.specs.Prelude.{IfOk}
use Rattle.std.specs.List.{AllByRecursion}
use Rattle.wire_base.specs.model.Configuration.{DomainConf}
use Rattle.domain_replay.specs.Telling.{ReplayState}
use Rattle.domain_replay.specs.Replaying.{IsJoining}
use Rattle.domain_replay.proofs.SendLaws.{joins_ok}
use Rattle.domain_replay.proofs.reported_world.ReportedWorld.directions.Goals as goal

pub returns-clause-joins : goal.returns-clause-joins
returns-clause-joins c =
    subst (λ (s : ReplayState). IfOk c.directions.result (λ all. AllByRecursion (IsJoining s.world.domain.routers) all)) c.self.view_is
    (joins_ok _ c.self.inside.world.world.domain c.confs_of.result.now c.directions.result c.domain.invariant (c.domain.view_is ∙ c.domain-domain.ensures.domain)
    (c.confs_of.ensures.confs ∙ ap (λ (d : DomainConf). d.routers) c.domain-domain.ensures.domain) c.directions.ensures)
