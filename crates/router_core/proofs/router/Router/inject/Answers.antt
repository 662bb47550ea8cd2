use Rattle.router_core.proofs.SizeLaws.{inject_fits}
use Rattle.router_core.proofs.router.Router.inject.Goals as goal

pub returns-clause-sizes : goal.returns-clause-sizes
returns-clause-sizes c =
    inject_fits c.inject.result c.self.inside.control c.args.sd c.args.bsl c.args.ids.now c.args.ttl c.args.entropy c.args.payload.now c.inject.ensures.effects c.conf-sound.ensures.keeps.sound c.requires.payload
