use Rattle.isis_flood.proofs.ListLaws.{appended_few}
use Rattle.isis_flood.proofs.entries.append_listed.Goals as goal

pub returns-in-Ok-clause-few : goal.returns-in-Ok-clause-few
returns-in-Ok-clause-few c = appended_few c.args.rows.now c.append_items.new.rows c.args.tlvs.now c.in-Ok.ensures.ok
