use Rattle.std.proofs.Common.{sym, ◌∙◌, arith}
use Rattle.wire_base.specs.model.Flooding.{is_known}
use Rattle.isis_flood.proofs.EntryLaws.{one_more, none_more}
use Rattle.router_core.proofs.pending.known.Goals.{then-is_known, else-is_known}
use Rattle.router_core.proofs.pending.known.Goals as goal

pub entries-preserved : goal.entries-preserved
entries-preserved c = elim c.if-is_known.branch [
  | then-is_known w ↦
      let more = one_more c.args.store.now.entries c.entries.place c.at.result.now c.at.ensures is_known (sym c.is_known.ensures ∙ w.if-is_known.true) in
      record { counted = omega (arith, more); few = omega arith }
  | else-is_known w ↦
      let same = none_more c.args.store.now.entries c.entries.place c.at.result.now c.at.ensures is_known (sym c.is_known.ensures ∙ w.if-is_known.false) in
      record { counted = omega (arith, same); few = omega arith }
]
