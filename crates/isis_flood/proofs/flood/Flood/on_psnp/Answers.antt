use Rattle.isis_flood.proofs.KeptLaws.{not_lowered_refl}
use Rattle.isis_flood.proofs.flood.Flood.on_psnp.Goals as goal

pub returns-in_err-rows-clause-kept : goal.returns-in_err-rows-clause-kept
returns-in_err-rows-clause-kept c = not_lowered_refl c.args.store.now.entries
