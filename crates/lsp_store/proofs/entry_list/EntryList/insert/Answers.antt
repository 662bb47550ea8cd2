use Rattle.std.proofs.Common.{ℕ, List, ◌≤◌, length, insert, ap, ◌∙◌, arith}
use Rattle.lsp_store.specs.Views.{Stored}
use Rattle.lsp_store.proofs.EntryListLaws.{listed, added_as, added_order_as}
use Rattle.lsp_store.proofs.entry_list.EntryList.insert.Goals as goal

pub invariant_of-self-2 : goal.invariant_of-self-2
invariant_of-self-2 c =
    let long = listed c.self.inside.items.items c.self.inside.order.items in
    let le : c.args.place ≤ length c.self.inside.order.items = omega (arith, c.requires.place, ap (λ (s : Stored). length s.entries) c.self.view_is, long) in
    added_order_as c.self.inside.items.items c.push.new.self.items c.self.inside.order.items c.insert_within.new.list.items c.args.place c.len-index.result c.args.e c.self.invariant le c.in_ok-push.ensures.items (c.len-index.ensures ∙ c.self.inside.items.ok.0) (c.insert_within.ensures.items ∙ ap (λ (is : List ℕ). insert is c.args.place c.len-index.result) c.reserve.ensures.items)

pub returns-clause-ok : goal.returns-clause-ok
returns-clause-ok c =
    added_as c.self.inside.items.items c.push.new.self.items c.self.inside.order.items c.insert_within.new.list.items c.args.place c.len-index.result c.args.e c.self.invariant c.in_ok-push.ensures.items (c.len-index.ensures ∙ c.self.inside.items.ok.0) (c.insert_within.ensures.items ∙ ap (λ (is : List ℕ). insert is c.args.place c.len-index.result) c.reserve.ensures.items)
    ∙ ap (λ (s : Stored). insert s.entries c.args.place c.args.e) c.self.view_is
