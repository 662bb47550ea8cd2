use Rattle.std.proofs.Common.{ap, ◌∙◌}
use Rattle.replay_text.specs.declared.event.Line.TheVariants.{One}
use Rattle.domain_replay.specs.Telling.{ReplayState, with_texts}
use Rattle.domain_replay.proofs.SameDomain.{line_directions, line_domain}
use Rattle.domain_replay.proofs.replay.Replay.event.Goals as goal

pub invariant_of-self : goal.invariant_of-self
invariant_of-self c =
    line_directions c.args.line (with_texts c.self.inside.told c.args.texts.now) (with_texts c.do_one.new.self c.do_one.new.texts) (One c.args.event.now) c.do_one.result c.self.inside.directions c.do_one.ensures.told c.do_one.ensures.stops c.self.invariant

pub returns-clause-domain : goal.returns-clause-domain
returns-clause-domain c =
    line_domain c.args.line (with_texts c.self.inside.told c.args.texts.now) (with_texts c.do_one.new.self c.do_one.new.texts) (One c.args.event.now) c.do_one.result c.do_one.ensures.told c.do_one.ensures.stops
    ∙ ap (λ (t : ReplayState). t.world.domain) c.self.view_is
