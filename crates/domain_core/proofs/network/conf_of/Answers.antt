use Rattle.std.proofs.Common.{◌∙◌, Some, sym, ap, arith}
use Rattle.wire_base.specs.declared.conf.RouterConf.{RouterConf}
use Rattle.domain_core.proofs.SeenLaws.{conf_got, no_conf}
use Rattle.domain_core.proofs.TurnLaws.{router_there}
use Rattle.domain_core.proofs.network.conf_of.Goals as goal

pub returns-then-at-routers-clause-conf : goal.returns-then-at-routers-clause-conf
returns-then-at-routers-clause-conf c =
    let routers = c.args.routers.now in
    let r = c.index-routers-at.result in
    ap (λ (q : RouterConf). Some q) c.conf.ensures.conf
    ∙ sym (conf_got routers c.args.place r (router_there routers c.from-at.result c.args.place r c.from-at.ensures (omega (arith, c.from-at.ensures)) c.index-routers-at.is))

pub returns-else-at-routers-clause-conf : goal.returns-else-at-routers-clause-conf
returns-else-at-routers-clause-conf c = no_conf c.args.routers.now c.args.place (omega (arith, c.from-at.ensures))
