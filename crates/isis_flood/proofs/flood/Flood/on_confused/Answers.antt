use Rattle.std.proofs.lemmas.Result.{on_ok_weaker}
use Rattle.isis_flood.proofs.ListLaws.{marked_links}
use Rattle.isis_flood.proofs.flood.Flood.on_confused.Goals as goal

pub returns-clause-links : goal.returns-clause-links
returns-clause-links c = on_ok_weaker c.mark_all.result (marked_links c.args.self.now.flood c.mark_all.new.self.flood c.args.s.now.id) c.mark_all.ensures.ok
