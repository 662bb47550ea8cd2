use Rattle.std.proofs.Common.{ap}
use Rattle.laws_router.specs.State.{RouterState}
use Rattle.router_core.proofs.BoundLaws.{few_sent, untaken_stays}
use Rattle.router_core.proofs.SizeLaws.{frame_fits}
use Rattle.router_core.proofs.router.Router.frame_into.Goals as goal

pub returns-clause-untaken : goal.returns-clause-untaken
returns-clause-untaken c = untaken_stays c.self.inside.control c.frame.new.self c.args.self.now.control c.frame.new.effects c.args.link c.args.bytes.now c.in_ok-frame.ensures.next (ap (λ (s : RouterState). s.control) c.self.view_is)

pub returns-clause-few : goal.returns-clause-few
returns-clause-few c = few_sent c.self.inside.control c.frame.new.self c.args.self.now.control c.frame.new.effects c.args.link c.args.bytes.now c.in_ok-frame.ensures.next (ap (λ (s : RouterState). s.control) c.self.view_is)

pub returns-clause-sizes : goal.returns-clause-sizes
returns-clause-sizes c = frame_fits c.self.inside.control c.frame.new.self c.frame.new.effects c.args.link c.args.bytes.now c.in_ok-frame.ensures.next c.conf-few.ensures.keeps.sound c.requires.short
