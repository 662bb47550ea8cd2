use Rattle.std.proofs.Common.{Bool, ℕ, false, sym, ap, ◌∙◌}
use Rattle.std.specs.List.{insert}
use Rattle.wire_base.specs.declared.addresses.LspId.{LspId}
use Rattle.isis_flood.specs.declared.table.Bits.{Bits}
use Rattle.isis_flood.specs.Masks.{Held, held_row, put_bits}
use Rattle.isis_flood.proofs.BusyLaws.{put_table}
use Rattle.isis_flood.proofs.TableLaws.{add_within, add_puts, add_ascends}
use Rattle.isis_flood.proofs.table.Table.insert.Goals as goal

abbrev bits : LspId → ℕ → ℕ → Bits
bits id srm ssn = record { id = id; srm = srm; ssn = ssn }

pub insert-requires : goal.insert-requires
insert-requires c = add_within c.self.inside.items.rows c.args.self.now.rows c.args.place c.args.id false (ap (λ (t : Held). t.rows) c.self.view_is) c.requires

pub invariant_of-self-2 : goal.invariant_of-self-2
invariant_of-self-2 c =
    let same = ap (λ (t : Held). t.rows) c.self.view_is in
    let row = held_row c.self.inside.items.narrow (bits c.args.id c.args.srm c.args.ssn) in
    put_table c.self.inside.sending c.self.inside.asking c.joined-self-inside.result c.joined-self-inside-2.result c.self.inside.items.rows c.insert.new.self.rows c.self.inside.items.narrow (bits c.args.id c.args.srm c.args.ssn) c.self.invariant
    (add_ascends c.self.inside.items.rows c.args.self.now.rows c.insert.new.self.rows c.args.place row same c.self.invariant.ascends c.requires c.in_ok-insert.ensures.ok)
    (add_puts c.self.inside.items.rows c.args.self.now.rows c.insert.new.self.rows c.args.place row same c.requires c.in_ok-insert.ensures.ok ∙ ap (put_bits row) (sym same)) c.joined-self-inside.ensures c.joined-self-inside-2.ensures

pub returns-clause-ok : goal.returns-clause-ok
returns-clause-ok c =
    add_puts c.self.inside.items.rows c.args.self.now.rows c.insert.new.self.rows c.args.place (held_row c.args.self.now.narrow (bits c.args.id c.args.srm c.args.ssn)) (ap (λ (t : Held). t.rows) c.self.view_is) c.requires
    (c.in_ok-insert.ensures.ok ∙ ap (λ (b : Bool). insert c.self.inside.items.rows c.args.place (held_row b (bits c.args.id c.args.srm c.args.ssn))) (ap (λ (t : Held). t.narrow) c.self.view_is))
