use Rattle.std.proofs.Common.{List, length, sym, ap, ◌∙◌, arith}
use Rattle.wire_base.specs.declared.entry.Entry.{Entry}
use Rattle.wire_base.specs.model.Control.{srm_in}
use Rattle.isis_flood.proofs.EntryLaws.{one_more, none_more}
use Rattle.router_core.proofs.IdleLaws.{idle-marked}
use Rattle.router_core.proofs.pending.marked.Goals.{then-srm, else-srm}
use Rattle.router_core.proofs.pending.marked.Goals as goal

pub returns-then-not-may_send-clause-marked : goal.returns-then-not-may_send-clause-marked
returns-then-not-may_send-clause-marked c = sym (ap (λ (es : List Entry). length es) (idle-marked c.args.flood.now.flood.rows c.args.link c.args.store.now.entries (c.may_send.ensures c.if-not-may_send.true)))

pub entries-preserved : goal.entries-preserved
entries-preserved c = elim c.if-srm.branch [
  | then-srm w ↦
      let more = one_more c.args.store.now.entries c.entries.place c.at.result.now c.at.ensures (λ (e : Entry). srm_in c.args.flood.now.flood.rows e.id c.args.link) (sym c.srm.ensures ∙ w.if-srm.true) in
      record { counted = omega (arith, more); few = omega arith }
  | else-srm w ↦
      let same = none_more c.args.store.now.entries c.entries.place c.at.result.now c.at.ensures (λ (e : Entry). srm_in c.args.flood.now.flood.rows e.id c.args.link) (sym c.srm.ensures ∙ w.if-srm.false) in
      record { counted = omega (arith, same); few = omega arith }
]
