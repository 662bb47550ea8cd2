use Rattle.std.proofs.Common.{◌<◌, length, ap, arith}
use Rattle.lsp_store.specs.Views.{Stored}
use Rattle.lsp_store.proofs.EntryListLaws.{listed, second_at}
use Rattle.lsp_store.proofs.entry_list.EntryList.pass_second.Goals as goal

pub returns-clause-second : goal.returns-clause-second
returns-clause-second c =
    let long = listed c.self.inside.items.items c.self.inside.order.items in
    let lt : c.args.place < length c.self.inside.order.items = omega (arith, c.requires, ap (λ (s : Stored). length s.entries) c.self.view_is, long) in
    rw c.from-index.ensures (second_at c.self.inside.items.items c.args.self.now.entries c.self.inside.order.items c.args.place c.index.result.now c.index_mut.result.now c.pass_second.new.entry c.pass_second.result c.self.invariant (ap (λ (s : Stored). s.entries) c.self.view_is) lt c.index.ensures (rw c.from-index.ensures at c.index_mut.ensures.value) c.pass_second.ensures.answer c.pass_second.ensures.becomes)
