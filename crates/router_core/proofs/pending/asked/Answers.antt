use Rattle.std.proofs.Common.{List, length, sym, ap, ◌∙◌, arith}
use Rattle.wire_base.specs.declared.entry.Entry.{Entry}
use Rattle.wire_base.specs.model.Control.{ssn_in}
use Rattle.isis_flood.proofs.EntryLaws.{one_more, none_more}
use Rattle.router_core.proofs.IdleLaws.{idle-asked}
use Rattle.router_core.proofs.pending.asked.Goals.{then-ssn, else-ssn}
use Rattle.router_core.proofs.pending.asked.Goals as goal

pub returns-then-not-may_ask-clause-asked : goal.returns-then-not-may_ask-clause-asked
returns-then-not-may_ask-clause-asked c = sym (ap (λ (es : List Entry). length es) (idle-asked c.args.flood.now.flood.rows c.args.link c.args.store.now.entries (c.may_ask.ensures c.if-not-may_ask.true)))

pub entries-preserved : goal.entries-preserved
entries-preserved c = elim c.if-ssn.branch [
  | then-ssn w ↦
      let more = one_more c.args.store.now.entries c.entries.place c.at.result.now c.at.ensures (λ (e : Entry). ssn_in c.args.flood.now.flood.rows e.id c.args.link) (sym c.ssn.ensures ∙ w.if-ssn.true) in
      record { counted = omega (arith, more); few = omega arith }
  | else-ssn w ↦
      let same = none_more c.args.store.now.entries c.entries.place c.at.result.now c.at.ensures (λ (e : Entry). ssn_in c.args.flood.now.flood.rows e.id c.args.link) (sym c.ssn.ensures ∙ w.if-ssn.false) in
      record { counted = omega (arith, same); few = omega arith }
]
