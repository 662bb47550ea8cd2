use Rattle.std.proofs.Common.{sym, ◌∙◌, arith}
use Rattle.std.proofs.lemmas.List.{drop_all}
use Rattle.quiet_domain.specs.Live.{IsLeastDifference}
use Rattle.quiet_domain.proofs.DifferLaws.{is_first_difference}
use Rattle.quiet_domain.proofs.LiveLaws.{entry_and_rest, equal_goes, equal_stops, greater_goes, greater_stops, left_ends, less_goes, less_stops, right_ends}
use Rattle.quiet_domain.proofs.live.same_live.Goals as goal

pub returns-then-left-left_count : goal.returns-then-left-left_count
returns-then-left-left_count c =
    let least : IsLeastDifference c.args.a.now.entries c.args.b.now.entries c.first_live.result = rw c.first_live.ensures (left_ends _ _ _ _ c.merge.invariant (drop_all c.merge.left c.args.a.now.entries (omega (arith, c.if-left-left_count.true, c.len-left_count.ensures.len)))) in
    record { least = least; value = is_first_difference _ _ c.len-left_count.ensures.database.in_order c.len-right_count.ensures.database.in_order _ least }

pub returns-then-right-right_count : goal.returns-then-right-right_count
returns-then-right-right_count c =
    let least : IsLeastDifference c.args.a.now.entries c.args.b.now.entries c.first_live-then-right-right_count.result = rw c.first_live-then-right-right_count.ensures (right_ends _ _ _ _ c.merge.invariant (drop_all c.merge.right c.args.b.now.entries (omega (arith, c.if-right-right_count.true, c.len-right_count.ensures.len)))) in
    record { least = least; value = is_first_difference _ _ c.len-left_count.ensures.database.in_order c.len-right_count.ensures.database.in_order _ least }

pub returns-then-is_live : goal.returns-then-is_live
returns-then-is_live c =
    let least = less_stops _ _ _ _ _ _ _ _ (entry_and_rest c.args.a.now.entries c.merge.left c.at-x.result.now c.at-x.ensures) (entry_and_rest c.args.b.now.entries c.merge.right c.at-y.result.now c.at-y.ensures) c.merge.invariant (sym c.in-Less.ensures) (sym c.is_live.ensures ∙ c.if-is_live.true) in
    record { least = least; value = is_first_difference _ _ c.len-left_count.ensures.database.in_order c.len-right_count.ensures.database.in_order _ least }

pub merge-preserved-in-Less : goal.merge-preserved-in-Less
merge-preserved-in-Less c =
    less_goes _ _ _ _ _ _ _ _ (entry_and_rest c.args.a.now.entries c.merge.left c.at-x.result.now c.at-x.ensures) (entry_and_rest c.args.b.now.entries c.merge.right c.at-y.result.now c.at-y.ensures) c.merge.invariant
    (sym c.is_live.ensures ∙ c.if-is_live.false)

pub returns-then-is_live-2 : goal.returns-then-is_live-2
returns-then-is_live-2 c =
    let least = greater_stops _ _ _ _ _ _ _ _ (entry_and_rest c.args.a.now.entries c.merge.left c.at-x.result.now c.at-x.ensures) (entry_and_rest c.args.b.now.entries c.merge.right c.at-y.result.now c.at-y.ensures) c.merge.invariant (sym c.in-Greater.ensures) (sym c.is_live-in-Greater.ensures ∙ c.if-is_live-2.true) in
    record { least = least; value = is_first_difference _ _ c.len-left_count.ensures.database.in_order c.len-right_count.ensures.database.in_order _ least }

pub merge-preserved-in-Greater : goal.merge-preserved-in-Greater
merge-preserved-in-Greater c =
    greater_goes _ _ _ _ _ _ _ _ (entry_and_rest c.args.a.now.entries c.merge.left c.at-x.result.now c.at-x.ensures) (entry_and_rest c.args.b.now.entries c.merge.right c.at-y.result.now c.at-y.ensures) c.merge.invariant
    (sym c.is_live-in-Greater.ensures ∙ c.if-is_live-2.false)

pub returns-then-not-are_alike : goal.returns-then-not-are_alike
returns-then-not-are_alike c =
    let least = equal_stops _ _ _ _ _ _ _ _ (entry_and_rest c.args.a.now.entries c.merge.left c.at-x.result.now c.at-x.ensures) (entry_and_rest c.args.b.now.entries c.merge.right c.at-y.result.now c.at-y.ensures) c.merge.invariant (sym c.in-Equal.ensures) (sym c.are_alike.ensures ∙ c.if-not-are_alike.true) in
    record { least = least; value = is_first_difference _ _ c.len-left_count.ensures.database.in_order c.len-right_count.ensures.database.in_order _ least }

pub merge-preserved : goal.merge-preserved
merge-preserved c =
    equal_goes _ _ _ _ _ _ _ _ (entry_and_rest c.args.a.now.entries c.merge.left c.at-x.result.now c.at-x.ensures) (entry_and_rest c.args.b.now.entries c.merge.right c.at-y.result.now c.at-y.ensures) c.merge.invariant
    (sym c.in-Equal.ensures) (sym c.are_alike.ensures ∙ c.if-not-are_alike.false)
