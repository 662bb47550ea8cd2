use Rattle.laws_router.proofs.MeaningLaws.{earlier_means, means_kept, earlier_self, earlier_kept}
use Rattle.laws_router.proofs.meanings.labels_keep_their_meaning.Goals as goal

pub returns : goal.returns
returns c = record { advertised = earlier_means; kept = means_kept; own = earlier_self; earlier = earlier_kept }
