use Rattle.std.proofs.Common.{◌<◌, length, ap, ◌∙◌, arith, set}
use Rattle.lsp_store.specs.Views.{Stored}
use Rattle.lsp_store.proofs.EntryListLaws.{listed, replaced}
use Rattle.lsp_store.proofs.entry_list.EntryList.put.Goals as goal

pub returns-clause-entries : goal.returns-clause-entries
returns-clause-entries c =
    let long = listed c.self.inside.items.items c.self.inside.order.items in
    let lt : c.args.place < length c.self.inside.order.items = omega (arith, c.requires, ap (λ (s : Stored). length s.entries) c.self.view_is, long) in
    rw c.from-index.ensures (replaced c.self.inside.items.items c.self.inside.order.items c.args.place c.index.result.now c.args.e c.self.invariant.within c.self.invariant.apart lt c.index.ensures)
    ∙ ap (λ (s : Stored). set s.entries c.args.place c.args.e) c.self.view_is
