use Rattle.std.proofs.Common.{◌∙◌, ap}
use Rattle.wire_base.specs.model.Control.{Control}
use Rattle.router_core.proofs.KeepLaws.{renewed_is}
use Rattle.router_core.proofs.control.Control.renew.Goals as goal

pub returns : goal.returns
returns c =
    renewed_is c.args.self.now c.conf-conf.result.now c.as_slice.result.now c.self.inside.store.entries c.renew.new.self c.new.result c.renew_routes.new.routes c.conf-conf.ensures.conf (c.as_slice.ensures.value ∙ c.in_ok-up.ensures) (ap (λ (x : Control). x.entries) c.self.view_is)
    c.in_ok-is_new.ensures.exact c.in_ok-is_new.ensures.system c.in_ok-is_new.ensures.kinds c.in_ok-is_new.ensures.heard
    (c.renew_routes.ensures c.args.self.now.conf c.args.kept.now.view.nodes c.renew.new.self.nodes c.requires.routes c.in_ok-is_new.ensures.answer)
