use Rattle.std.proofs.Common.{◌∙◌, sym, ap, is_some}
use Rattle.wire_base.specs.model.Lists.{or_else}
use Rattle.wire_base.specs.model.Place.{labelled}
use Rattle.wire_base.specs.Searches.{sub_labelled}
use Rattle.wire_base.proofs.MeaningLemmas.{all_labelled, or_else_first, or_else_second}
use Rattle.wire_base.proofs.router_conf.label_meaning.Goals as goal

pub returns-then-is_some : goal.returns-then-is_some
returns-then-is_some c =
    c.in_subs-now.ensures
    ∙ or_else_first _ (or_else (sub_labelled c.args.kinds.now c.args.away.now c.args.label) (labelled c.args.kinds.now c.args.past.now c.args.label)) (sym (ap is_some c.in_subs-now.ensures) ∙ sym c.is_some.ensures ∙ c.if-is_some.true)
    ∙ all_labelled c.args.kinds.now c.args.subs.now c.args.away.now c.args.past.now c.args.label

pub returns-then-is_some-2 : goal.returns-then-is_some-2
returns-then-is_some-2 c =
    c.in_subs-left.ensures
    ∙ or_else_first _ (labelled c.args.kinds.now c.args.past.now c.args.label) (sym (ap is_some c.in_subs-left.ensures) ∙ sym c.is_some-2.ensures ∙ c.if-is_some-2.true)
    ∙ or_else_second (sub_labelled c.args.kinds.now c.args.subs.now c.args.label) _ (sym (ap is_some c.in_subs-now.ensures) ∙ sym c.is_some.ensures ∙ c.if-is_some.false)
    ∙ all_labelled c.args.kinds.now c.args.subs.now c.args.away.now c.args.past.now c.args.label

pub returns : goal.returns
returns c =
    c.in_past.ensures
    ∙ or_else_second (sub_labelled c.args.kinds.now c.args.away.now c.args.label) _ (sym (ap is_some c.in_subs-left.ensures) ∙ sym c.is_some-2.ensures ∙ c.if-is_some-2.false)
    ∙ or_else_second (sub_labelled c.args.kinds.now c.args.subs.now c.args.label) _ (sym (ap is_some c.in_subs-now.ensures) ∙ sym c.is_some.ensures ∙ c.if-is_some.false)
    ∙ all_labelled c.args.kinds.now c.args.subs.now c.args.away.now c.args.past.now c.args.label
