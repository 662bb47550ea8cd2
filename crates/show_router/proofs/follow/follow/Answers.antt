use Rattle.std.proofs.Common.{ap, length, sym, ◌∙◌}
use Rattle.domain_model.specs.World.{WorldState, first_world}
use Rattle.show_router.proofs.follow.follow.Goals as goal

pub follow_lines-requires-clause-names : goal.follow_lines-requires-clause-names
unfolding first_world
follow_lines-requires-clause-names c = c.in_ok-names.ensures.each ∙ ap (λ (w : WorldState). length w.domain.routers) (sym c.in_ok-world.ensures.world)
