use Rattle.std.proofs.Common.{ap, sym, ◌∙◌, Some}
use Rattle.domain_conf.proofs.KeyLemmas.{unknown_first, unknown_next, unknown_none}
use Rattle.domain_conf.specs.Fields as fields
use Rattle.domain_conf.proofs.entry.unknown_in.Goals as goal

pub returns-then-not-is_among : goal.returns-then-not-is_among
returns-then-not-is_among c =
    ap Some c.as_str-then-not-is_among.ensures.value
    ∙ unknown_first _ c.in-Some.key.now c.in-Some._value.now c.next.new.self c.loop-key.key-iterator _
    (sym (ap (fields.is_among _) c.as_str.ensures.value) ∙ (sym c.is_among.ensures ∙ c.if-not-is_among.true)) c.in-Some.ensures.steps c.loop-key.invariant.0 c.loop-key.invariant.1

pub loop-key-preserved : goal.loop-key-preserved
loop-key-preserved c =
    unknown_next _ c.in-Some.key.now c.in-Some._value.now c.next.new.self c.loop-key.key-iterator _
    (sym (ap (fields.is_among _) c.as_str.ensures.value) ∙ (sym c.is_among.ensures ∙ c.if-not-is_among.false)) c.in-Some.ensures.steps c.loop-key.invariant.0 c.loop-key.invariant.1

pub returns : goal.returns
returns c = unknown_none _ c.loop-key.key-iterator _ c.in-None.ensures.steps.0 c.loop-key.invariant.0
