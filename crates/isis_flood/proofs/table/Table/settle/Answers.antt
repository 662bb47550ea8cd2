use Rattle.std.proofs.Common.{sym, ◌∙◌}
use Rattle.isis_flood.proofs.BusyLaws.{settled_table}
use Rattle.isis_flood.proofs.table.Table.settle.Goals as goal

pub invariant_of-self : goal.invariant_of-self
invariant_of-self c =
    settled_table c.self.inside.sending c.self.inside.asking c.without_bit-self-inside.result c.self.inside.items.rows c.args.link c.self.invariant c.requires (sym c.any_sent.ensures ∙ c.if-not-any_sent.true) c.without_bit-self-inside.ensures.others
