use Rattle.std.proofs.Common.{sym, ◌∙◌}
use Rattle.topo_mt.specs.MultiTopology.{is_member, lists_part}
use Rattle.topo_mt.proofs.MemberLaws.{any_at, none_yet}
use Rattle.topo_mt.proofs.listings.is_member.Goals as goal

pub returns-then-lists_part : goal.returns-then-lists_part
unfolding is_member
returns-then-lists_part c = sym (any_at c.args.store.now.entries c.entries.place c.at.result.now c.at.ensures (lists_part c.args.mt c.args.system) (sym c.lists_part.ensures ∙ c.if-lists_part.true))

pub entries-preserved : goal.entries-preserved
entries-preserved c = none_yet c.args.store.now.entries c.entries.place c.at.result.now c.at.ensures (lists_part c.args.mt c.args.system) c.entries.invariant (sym c.lists_part.ensures ∙ c.if-lists_part.false)
