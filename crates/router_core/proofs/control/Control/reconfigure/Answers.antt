use Rattle.std.proofs.Common.{ap, refl, sym, subst, ◌∙◌}
use Rattle.wire_base.specs.model.Control.{Control}
use Rattle.wire_base.specs.model.Flooding.{reissue_unless_spent}
use Rattle.laws_router.specs.Becoming.{AreOfOne}
use Rattle.router_core.proofs.ReconfigurationLaws.{replaced_keeps, replaced_is}
use Rattle.router_core.proofs.control.Control.reconfigure.Goals as goal

pub invariant_of-self-2 : goal.invariant_of-self-2
invariant_of-self-2 c =
    let one : AreOfOne c.args.next c.self.inside.conf = subst (λ (x : Control). AreOfOne c.args.next x.conf) (sym c.self.view_is) c.requires.one in
    let does = c.in_ok-self-inside.ensures in
    replaced_keeps c.self.inside.conf c.args.next one c.self.inside.flood.flood c.self.inside.store.entries c.self.inside.spent c.self.invariant.router c.requires.sound
    c.issue_from.new.flood.flood c.issue_from.new.store.entries c.in_ok-self-inside.field-0 does.exhausted does.flood does.entries does.database does.spent c.self.invariant.issued c.self.inside.spent refl

pub returns-clause-ok : goal.returns-clause-ok
returns-clause-ok c =
    let one : AreOfOne c.args.next c.self.inside.conf = subst (λ (x : Control). AreOfOne c.args.next x.conf) (sym c.self.view_is) c.requires.one in
    let does = c.in_ok-self-inside.ensures in
    replaced_is c.self.inside.conf c.args.next one c.self.inside.flood.flood c.self.inside.store.entries c.self.inside.spent c.self.invariant.router c.requires.sound
    c.issue_from.new.flood.flood c.issue_from.new.store.entries c.in_ok-self-inside.field-0 does.exhausted does.flood does.entries does.database does.spent c.self.inside.spent refl
    ∙ ap (λ (x : Control). reissue_unless_spent (record x { conf = c.args.next })) c.self.view_is
