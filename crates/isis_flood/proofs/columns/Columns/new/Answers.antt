use Rattle.std.proofs.Common.{sym, ap, ◌∙◌, length}
use Rattle.isis_flood.proofs.columns.Columns.new.Goals as goal

-- both lists of masks keep as much of them
pub invariant_of-result : goal.invariant_of-result
invariant_of-result c = record {
  even = record { sent = ap length c.new-2.ensures.masks ∙ sym (ap length c.new.ensures.items); asked = ap length c.new-3.ensures.masks ∙ sym (ap length c.new.ensures.items) };
  alike = c.new-3.ensures.narrow ∙ sym c.new-2.ensures.narrow;
}
