use Rattle.std.proofs.Common.{◌<◌, length, ap, ◌∙◌, arith}
use Rattle.std.specs.List.{remove}
use Rattle.lsp_store.specs.Views.{Stored}
use Rattle.lsp_store.proofs.EntryListLaws.{listed, removed, removed_order}
use Rattle.lsp_store.proofs.entry_list.EntryList.remove.Goals as goal

pub invariant_of-self : goal.invariant_of-self
invariant_of-self c =
    let long = listed c.self.inside.items.items c.self.inside.order.items in
    let lt : c.args.place < length c.self.inside.order.items = omega (arith, c.requires, ap (λ (s : Stored). length s.entries) c.self.view_is, long) in
    rw (c.remove.ensures.items, c.from.ensures, c.move_down.ensures.items, c.remove-index.ensures.items) (removed_order c.self.inside.items.items c.self.inside.order.items c.args.place c.remove-index.result c.self.invariant lt c.remove-index.ensures.value)

pub returns-clause-entries : goal.returns-clause-entries
returns-clause-entries c =
    let long = listed c.self.inside.items.items c.self.inside.order.items in
    let lt : c.args.place < length c.self.inside.order.items = omega (arith, c.requires, ap (λ (s : Stored). length s.entries) c.self.view_is, long) in
    rw (c.remove.ensures.items, c.from.ensures, c.move_down.ensures.items, c.remove-index.ensures.items) (removed c.self.inside.items.items c.self.inside.order.items c.args.place c.remove-index.result c.self.invariant lt c.remove-index.ensures.value)
    ∙ ap (λ (s : Stored). remove s.entries c.args.place) c.self.view_is
