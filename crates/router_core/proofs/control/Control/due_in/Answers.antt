use Rattle.std.proofs.Common.{◌≡◌, IfOk, subst}
use Rattle.wire_base.specs.model.Control.{Control}
use Rattle.wire_base.specs.model.Flooding.{send}
use Rattle.wire_base.specs.model.OnFrame.{framed, nothing}
use Rattle.router_core.proofs.SendLaws.{all_due}
use Rattle.router_core.proofs.control.Control.due_in.Goals as goal

pub returns-clause-due : goal.returns-clause-due
returns-clause-due c =
    subst (λ (s : Control). IfOk c.due_frames.result (λ sent. record nothing { sent = sent } ≡ (framed c.args.link (send s c.args.link)).effects)) c.self.view_is
    (all_due c.due_frames.result _ c.args.link (c.due_frames.ensures.due c.self.inside.spent))
