use Rattle.std.proofs.Common.{arith}
use Rattle.router_core.proofs.SnpNeedsLaws.{none_full}
use Rattle.router_core.proofs.snp_needs.count_full.Goals as goal

pub returns-then-len-rows-le-MOST_ENTRIES : goal.returns-then-len-rows-le-MOST_ENTRIES
returns-then-len-rows-le-MOST_ENTRIES c = none_full c.args.store.now.entries c.args.rows.now (omega (arith, c.len.ensures.len, c.if-len-rows-le-MOST_ENTRIES.true))
