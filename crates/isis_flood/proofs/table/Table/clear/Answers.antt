use Rattle.std.proofs.Common.{sym, ◌∙◌, subst, ◌≡◌, map, arith}
use Rattle.isis_flood.specs.Masks.{Held, rows_of, clears}
use Rattle.isis_flood.proofs.BusyLaws.{idle_cleared, cleared_table}
use Rattle.isis_flood.proofs.table.Table.clear.Goals as goal

pub returns-then-not-may_clear-clause-rows : goal.returns-then-not-may_clear-clause-rows
returns-then-not-may_clear-clause-rows c = λ n lt few.
    subst (λ (t : Held). rows_of n t.rows ≡ map (clears c.args.both c.args.link) (rows_of n t.rows)) c.self.view_is
    (idle_cleared c.self.inside.sending c.self.inside.asking c.self.inside.items.rows c.args.both c.args.link n c.self.invariant (sym c.may_clear.ensures ∙ c.if-not-may_clear.true) lt few)

pub invariant_of-self : goal.invariant_of-self
invariant_of-self c =
    cleared_table c.self.inside.sending c.self.inside.asking c.without_if-self-inside.result c.without_bit-self-inside.result c.self.inside.items.rows c.clear.new.self.rows c.args.both c.args.link c.self.invariant c.clear.ensures.ids (c.clear.ensures.rows 64 c.requires (omega arith))
    c.without_if-self-inside.ensures.same c.without_if-self-inside.ensures.others c.without_bit-self-inside.ensures.others
