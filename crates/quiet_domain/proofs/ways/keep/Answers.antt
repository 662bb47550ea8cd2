use Rattle.std.proofs.Common.{arith}
use Rattle.quiet_domain.proofs.PathsLaws.{kept_there, one_kept, some_there}
use Rattle.quiet_domain.proofs.ways.keep.Goals as goal

pub returns-in_ok-birt_of-clause-birts : goal.returns-in_ok-birt_of-clause-birts
returns-in_ok-birt_of-clause-birts c = one_kept _ _ _ _ _ _ _ c.requires.birts c.from-at.ensures c.requires.node c.in_ok-birt_of.ensures

pub returns-in_ok-birt_of-clause-there : goal.returns-in_ok-birt_of-clause-there
returns-in_ok-birt_of-clause-there c = kept_there _ _ _ _ c.from-at.ensures (omega (arith, c.requires.birts.count, c.requires.node))

pub returns-else-is_none-clause-there : goal.returns-else-is_none-clause-there
returns-else-is_none-clause-there c = some_there _ _ _ _ _ _ c.index.result.now c.requires.birts c.from-at.ensures c.requires.node c.index.ensures _ c.is_none.ensures c.if-is_none.false
