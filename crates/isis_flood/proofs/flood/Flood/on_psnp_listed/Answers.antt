use Rattle.std.proofs.Common.{ap, List, Bool, length}
use Rattle.isis_flood.proofs.KeptLaws.{Keeps, list_keeps, snp_done_keeps}
use Rattle.isis_flood.proofs.flood.Flood.on_psnp_listed.Goals as goal

keeps : (c : goal.After-apply_psnp) → Keeps c.args.self.now.flood c.args.store.now.entries c.apply_psnp.new.self.flood c.apply_psnp.new.store.entries
keeps c =
    snp_done_keeps c.apply_psnp.result c.args.self.now.flood c.args.store.now.entries c.apply_psnp.new.self.flood c.apply_psnp.new.store.entries _
    (list_keeps c.args.self.now.flood c.args.store.now.entries c.args.link c.args.rows.now c.args.spent) c.apply_psnp.ensures.done

pub returns-clause-kept : goal.returns-clause-kept
returns-clause-kept c = (keeps c).entries

pub returns-clause-links : goal.returns-clause-links
returns-clause-links c = ap (λ (l : List Bool). length l) (keeps c).up
