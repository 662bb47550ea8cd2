use Rattle.std.proofs.Common.{true, false, length, set}
use Rattle.wire_base.specs.model.Control.{FlagRow}
use Rattle.wire_base.specs.model.Flooding.{no_links}
use Rattle.isis_flood.proofs.FloodLaws.{passed_row}
use Rattle.isis_flood.proofs.flood.Flood.pass.Goals as goal

pub returns-clause-ok : goal.returns-clause-ok
returns-clause-ok c =
    c.set_row.ensures.ok (λ (row : FlagRow). record row { srm = set c.args.self.now.flood.up c.args.link false; ssn = set (no_links c.args.self.now.flood) c.args.link true })
    (passed_row c.args.self.now.flood c.args.link c.up_mask-up.result c.without.result c.with.result c.args.id c.up_mask-up.ensures.up (c.without.ensures (length c.args.self.now.flood.up) c.requires c.up_mask-up.ensures.few) (c.with.ensures (length c.args.self.now.flood.up) c.requires c.up_mask-up.ensures.few))
