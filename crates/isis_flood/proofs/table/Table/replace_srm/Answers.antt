use Rattle.std.proofs.Common.{Bool, get_or, set, sym, ap, ◌∙◌}
use Rattle.isis_flood.specs.declared.table.Bits.{Bits}
use Rattle.isis_flood.specs.Masks.{Held, held_mask, put_bits}
use Rattle.isis_flood.proofs.BusyLaws.{sent_table}
use Rattle.isis_flood.proofs.TableLaws.{set_within, set_puts, set_ascends, sent_is}
use Rattle.isis_flood.proofs.table.Table.replace_srm.Goals as goal

pub set_srm-requires : goal.set_srm-requires
set_srm-requires c = set_within c.self.inside.items.rows c.args.self.now.rows c.args.place c.args.row.id (ap (λ (t : Held). t.rows) c.self.view_is) c.requires.place

pub invariant_of-self : goal.invariant_of-self
invariant_of-self c =
    let same = ap (λ (t : Held). t.rows) c.self.view_is in
    let mask = held_mask c.self.inside.items.narrow c.args.row.srm in
    let row : Bits = record c.args.row { srm = mask } in
    let made = c.set_srm.ensures.rows c.args.row ∙ ap (λ (r : Bits). set c.self.inside.items.rows c.args.place r) (sent_is c.self.inside.items.rows c.args.self.now.rows c.args.place mask c.args.row same c.requires.place c.requires.ssn) in
    sent_table c.self.inside.sending c.self.inside.asking c.joined-self-inside.result c.self.inside.items.rows c.set_srm.new.self.rows c.self.inside.items.narrow c.args.place c.args.row c.self.invariant
    (set_ascends c.self.inside.items.rows c.args.self.now.rows c.set_srm.new.self.rows c.args.place row same c.self.invariant.ascends c.requires.place made)
    (set_puts c.self.inside.items.rows c.args.self.now.rows c.set_srm.new.self.rows c.args.place row same c.requires.place made ∙ ap (put_bits row) (sym same)) (c.set_srm.ensures.rows c.args.row) c.joined-self-inside.ensures

pub returns-clause-rows : goal.returns-clause-rows
returns-clause-rows c =
    let same = ap (λ (t : Held). t.rows) c.self.view_is in
    set_puts c.self.inside.items.rows c.args.self.now.rows c.set_srm.new.self.rows c.args.place (record c.args.row { srm = held_mask c.args.self.now.narrow c.args.row.srm }) same c.requires.place
    (c.set_srm.ensures.rows c.args.row ∙ ap (λ (b : Bool). set c.self.inside.items.rows c.args.place (record (get_or c.self.inside.items.rows c.args.place c.args.row) { srm = held_mask b c.args.row.srm })) (ap (λ (t : Held). t.narrow) c.self.view_is)
    ∙ ap (λ (r : Bits). set c.self.inside.items.rows c.args.place r) (sent_is c.self.inside.items.rows c.args.self.now.rows c.args.place (held_mask c.args.self.now.narrow c.args.row.srm) c.args.row same c.requires.place c.requires.ssn))
