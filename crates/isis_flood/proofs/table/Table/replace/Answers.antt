use Rattle.std.proofs.Common.{Bool, set, sym, ap, ◌∙◌}
use Rattle.isis_flood.specs.Masks.{Held, held_row, put_bits}
use Rattle.isis_flood.proofs.BusyLaws.{put_table}
use Rattle.isis_flood.proofs.TableLaws.{set_within, set_puts, set_ascends}
use Rattle.isis_flood.proofs.table.Table.replace.Goals as goal

pub set-requires : goal.set-requires
set-requires c = set_within c.self.inside.items.rows c.args.self.now.rows c.args.place c.args.row.id (ap (λ (t : Held). t.rows) c.self.view_is) c.requires

pub invariant_of-self : goal.invariant_of-self
invariant_of-self c =
    let same = ap (λ (t : Held). t.rows) c.self.view_is in
    let row = held_row c.self.inside.items.narrow c.args.row in
    put_table c.self.inside.sending c.self.inside.asking c.joined-self-inside.result c.joined-self-inside-2.result c.self.inside.items.rows c.set.new.self.rows c.self.inside.items.narrow c.args.row c.self.invariant
    (set_ascends c.self.inside.items.rows c.args.self.now.rows c.set.new.self.rows c.args.place row same c.self.invariant.ascends c.requires c.set.ensures.rows)
    (set_puts c.self.inside.items.rows c.args.self.now.rows c.set.new.self.rows c.args.place row same c.requires c.set.ensures.rows ∙ ap (put_bits row) (sym same)) c.joined-self-inside.ensures c.joined-self-inside-2.ensures

pub returns-clause-rows : goal.returns-clause-rows
returns-clause-rows c =
    set_puts c.self.inside.items.rows c.args.self.now.rows c.set.new.self.rows c.args.place (held_row c.args.self.now.narrow c.args.row) (ap (λ (t : Held). t.rows) c.self.view_is) c.requires
    (c.set.ensures.rows ∙ ap (λ (b : Bool). set c.self.inside.items.rows c.args.place (held_row b c.args.row)) (ap (λ (t : Held). t.narrow) c.self.view_is))
