use Rattle.std.proofs.Common.{◌∙◌, ap}
use Rattle.wire_base.specs.model.Control.{Control}
use Rattle.router_core.proofs.KeepLaws.{renewed_is}
use Rattle.router_core.proofs.control.Control.first_kept.Goals as goal

pub returns : goal.returns
returns c =
    renewed_is c.args.self.now c.conf.result.now c.as_slice.result.now c.self.inside.store.entries c.in_ok-new.field-0 c.new-2.result c.new-3.result c.conf.ensures.conf (c.as_slice.ensures.value ∙ c.in_ok-up.ensures) (ap (λ (x : Control). x.entries) c.self.view_is)
    c.in_ok-new.ensures.exact c.in_ok-new.ensures.system c.in_ok-new.ensures.kinds c.in_ok-new.ensures.heard (c.new-3.ensures c.args.self.now.conf c.in_ok-new.field-0.nodes)
