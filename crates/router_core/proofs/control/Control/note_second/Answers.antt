use Rattle.std.proofs.Common.{◌∙◌, sym, ap}
use Rattle.std.specs.List.{list_any}
use Rattle.wire_base.specs.model.Control.{Control}
use Rattle.router_core.specs.Keeping.{is_last}
use Rattle.router_core.proofs.KeepLaws.{itself_keeps, second_keeps}
use Rattle.router_core.proofs.control.Control.note_second.Goals as goal

pub returns-else-any_last-clause-now : goal.returns-else-any_last-clause-now
returns-else-any_last-clause-now c = itself_keeps c.args.self.now c.args.kept.now c.note_own.new.kept c.requires c.note_own.ensures

pub returns-else-any_last-clause-next : goal.returns-else-any_last-clause-next
returns-else-any_last-clause-next c =
    second_keeps c.args.self.now c.args.kept.now c.note_own.new.kept (ap (list_any is_last) (sym (ap (λ (x : Control). x.entries) c.self.view_is)) ∙ sym c.any_last.ensures ∙ c.if-any_last.false) c.requires c.note_own.ensures
