use Rattle.std.proofs.Common.{sym, ◌∙◌, arith, lt-ltb, le-ltb}
use mathlib.Core.Bool.{false≢true}
use Rattle.bier_forward.proofs.NodeLaws.{before-by-key, between-all, first-between, lower-half, upper-half}
use Rattle.bier_forward.proofs.bift.place_from.Goals as goal

pub halves-init : goal.halves-init
halves-init c = between-all c.args.nodes.now c.args.system

pub halves-preserved-then-system_key-key : goal.halves-preserved-then-system_key-key
halves-preserved-then-system_key-key c =
    upper-half c.args.nodes.now c.args.system c.halves.from c.halves.to _ c.requires c.halves.invariant (omega arith) (omega (arith, c.halves-test.true)) c.index-nodes-middle.result
    (before-by-key _ c.args.system c.system_key.ensures.octets c.system_key-key.ensures.octets
    ∙ lt-ltb _ _ (omega (arith, c.if-system_key-key.true, c.system_key.ensures.key, c.system_key-key.ensures.key)))

pub halves-preserved : goal.halves-preserved
halves-preserved c =
    lower-half c.args.nodes.now c.args.system c.halves.from c.halves.to _ c.requires c.halves.invariant (omega arith) (omega (arith, c.halves-test.true)) c.index-nodes-middle.result
    (λ before. false≢true (sym (le-ltb _ _ (omega (arith, c.if-system_key-key.false, c.system_key.ensures.key, c.system_key-key.ensures.key)))
    ∙ sym (before-by-key _ c.args.system c.system_key.ensures.octets c.system_key-key.ensures.octets) ∙ before))

pub returns-clause-within : goal.returns-clause-within
returns-clause-within c = omega (arith, c.halves.invariant.ends, c.halves.invariant.within)

pub returns-clause-first : goal.returns-clause-first
returns-clause-first c = first-between c.args.nodes.now c.args.system c.halves.from c.halves.to c.halves.invariant c.halves-test.false
