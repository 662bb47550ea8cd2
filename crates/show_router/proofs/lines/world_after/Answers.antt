use Rattle.std.proofs.Common.{ap, length, sym, ◌∙◌}
use Rattle.wire_base.specs.model.Configuration.{DomainConf}
use Rattle.domain_model.specs.World.{WorldState, first_world}
use Rattle.show_router.proofs.lines.world_after.Goals as goal

pub do_lines-requires-clause-names : goal.do_lines-requires-clause-names
unfolding first_world
do_lines-requires-clause-names c = c.requires.names ∙ ap (λ (w : WorldState). length w.domain.routers) (sym c.in_ok-world.ensures.world)

pub returns : goal.returns
unfolding first_world
returns c = ap (λ (d : DomainConf). length d.routers) c.do_lines.ensures ∙ ap (λ (w : WorldState). length w.domain.routers) c.in_ok-world.ensures.world ∙ sym c.requires.names
