use Rattle.std.proofs.Common.{◌<◌, sym, ap, ◌∙◌, arith, length}
use Rattle.lsp_store.specs.Views.{Stored}
use Rattle.lsp_store.proofs.PlaceLaws.{removed_kept, second_kept, second_long, second_removes, second_changes}
use Rattle.lsp_store.proofs.store.Store.age_at.Goals as goal

pub invariant_of-self : goal.invariant_of-self
invariant_of-self c =
    let lt : c.args.i < length c.self.inside.list.entries = omega (arith, c.requires, ap (λ (s : Stored). length s.entries) c.self.view_is) in
    let mid = c.pass_second-answer.new.self.entries in
    let long = second_long c.self.inside.list.entries mid c.args.i c.pass_second-answer.result lt c.pass_second-answer.ensures.second in
    removed_kept mid c.remove.new.self.entries c.args.i (omega (arith, lt, long)) (second_kept c.self.inside.list.entries mid c.args.i c.pass_second-answer.result lt c.self.invariant c.pass_second-answer.ensures.second) c.remove.ensures.entries

pub invariant_of-self-else-is_removed : goal.invariant_of-self-else-is_removed
invariant_of-self-else-is_removed c =
    let lt : c.args.i < length c.self.inside.list.entries = omega (arith, c.requires, ap (λ (s : Stored). length s.entries) c.self.view_is) in
    second_kept c.self.inside.list.entries c.pass_second-answer.new.self.entries c.args.i c.pass_second-answer.result lt c.self.invariant c.pass_second-answer.ensures.second

pub returns-then-is_removed-clause-second : goal.returns-then-is_removed-clause-second
returns-then-is_removed-clause-second c =
    let lt : c.args.i < length c.self.inside.list.entries = omega (arith, c.requires, ap (λ (s : Stored). length s.entries) c.self.view_is) in
    second_removes c.self.inside.list.entries c.args.self.now.entries c.pass_second-answer.new.self.entries c.remove.new.self.entries c.args.i c.pass_second-answer.result (ap (λ (s : Stored). s.entries) c.self.view_is) lt c.pass_second-answer.ensures.second (sym c.is_removed.ensures ∙ c.if-is_removed.true) c.remove.ensures.entries

pub returns-then-is_removed-clause-database : goal.returns-then-is_removed-clause-database
returns-then-is_removed-clause-database c =
    let lt : c.args.i < length c.self.inside.list.entries = omega (arith, c.requires, ap (λ (s : Stored). length s.entries) c.self.view_is) in
    let mid = c.pass_second-answer.new.self.entries in
    let long = second_long c.self.inside.list.entries mid c.args.i c.pass_second-answer.result lt c.pass_second-answer.ensures.second in
    removed_kept mid c.remove.new.self.entries c.args.i (omega (arith, lt, long)) (second_kept c.self.inside.list.entries mid c.args.i c.pass_second-answer.result lt c.self.invariant c.pass_second-answer.ensures.second) c.remove.ensures.entries

pub returns-else-is_removed-clause-second : goal.returns-else-is_removed-clause-second
returns-else-is_removed-clause-second c =
    let lt : c.args.i < length c.self.inside.list.entries = omega (arith, c.requires, ap (λ (s : Stored). length s.entries) c.self.view_is) in
    second_changes c.self.inside.list.entries c.args.self.now.entries c.pass_second-answer.new.self.entries c.args.i c.pass_second-answer.result (ap (λ (s : Stored). s.entries) c.self.view_is) lt c.pass_second-answer.ensures.second (sym c.is_removed.ensures ∙ c.if-is_removed.false)

pub returns-else-is_removed-clause-database : goal.returns-else-is_removed-clause-database
returns-else-is_removed-clause-database c =
    let lt : c.args.i < length c.self.inside.list.entries = omega (arith, c.requires, ap (λ (s : Stored). length s.entries) c.self.view_is) in
    second_kept c.self.inside.list.entries c.pass_second-answer.new.self.entries c.args.i c.pass_second-answer.result lt c.self.invariant c.pass_second-answer.ensures.second
