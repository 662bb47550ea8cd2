use Rattle.std.proofs.Common.{sym, arith}
use Rattle.router_core.specs.Keeping.{is_last}
use Rattle.isis_flood.proofs.EntryLaws.{any_at, none_yet}
use Rattle.router_core.proofs.staleness.any_last.Goals as goal

pub returns-then-at-eq1 : goal.returns-then-at-eq1
returns-then-at-eq1 c = sym (any_at c.args.store.now.entries c.entries.place c.at.result.now c.at.ensures is_last (grind (arith, c.if-at-eq1.true)))

pub entries-preserved : goal.entries-preserved
entries-preserved c = none_yet c.args.store.now.entries c.entries.place c.at.result.now c.at.ensures is_last c.entries.invariant (grind (arith, c.if-at-eq1.false))
