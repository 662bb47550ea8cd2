use Rattle.std.proofs.Common.{ap, length, arith}
use Rattle.isis_flood.proofs.KeptLaws.{lacking_few}
use Rattle.isis_flood.proofs.flood.Flood.apply_csnp.Goals as goal

-- what it lacks is among what was there, for which there is room beside the rows of what it lists
pub send_lacking-requires-clause-flags : goal.send_lacking-requires-clause-flags
send_lacking-requires-clause-flags c =
    let few = lacking_few c.args.link c.args.start.now c.args.last.now c.args.rows.now c.args.rows.now c.args.spent _ _ c.on_list.ensures.next in
    let entries = ap length c.reserve-2.ensures.entries in
    omega (arith, few, entries, c.in_ok-reserve.ensures.ok, c.len.ensures.len, c.on_list.ensures.spare)

pub returns-clause-spare : goal.returns-clause-spare
returns-clause-spare c =
    let few = lacking_few c.args.link c.args.start.now c.args.last.now c.args.rows.now c.args.rows.now c.args.spent _ _ c.on_list.ensures.next in
    let entries = ap length c.reserve-2.ensures.entries in
    omega (arith, few, entries, c.reserve.ensures.spare, c.on_list.ensures.spare, c.send_lacking.ensures.spare)
