use Rattle.std.proofs.Common.{sym, ap, ◌∙◌}
use Rattle.isis_flood.specs.Flags.{has_ssn}
use Rattle.isis_flood.specs.Masks.{Held, rows_of}
use Rattle.isis_flood.proofs.BusyLaws.{unasked_rows}
use Rattle.isis_flood.proofs.table.Table.may_ask.Goals as goal

pub returns : goal.returns
returns c = λ n lt few none.
    ap (λ (t : Held). has_ssn (rows_of n t.rows) c.args.link) (sym c.self.view_is)
    ∙ unasked_rows c.self.inside.sending c.self.inside.asking c.self.inside.items.rows c.args.link n c.self.invariant (sym c.has_bit.ensures ∙ none) lt few
