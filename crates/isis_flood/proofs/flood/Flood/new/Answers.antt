use Rattle.isis_flood.proofs.FloodLaws.{starts}
use Rattle.isis_flood.proofs.MaskLaws.{links_long}
use Rattle.isis_flood.proofs.flood.Flood.new.Goals as goal

pub returns-clause-flood : goal.returns-clause-flood
returns-clause-flood c = starts c.args.own c.args.links c.mask_of-up.result c.args.up.now c.new.result.rows c.requires.links c.mask_of-up.ensures c.new.ensures.rows

pub returns-clause-links : goal.returns-clause-links
returns-clause-links c = links_long c.args.links c.mask_of-up.result
