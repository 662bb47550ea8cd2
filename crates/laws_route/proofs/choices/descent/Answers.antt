use Rattle.laws_route.proofs.HopCountLemmas.{descends}
use Rattle.laws_route.proofs.choices.descent.Goals as goal

pub returns : goal.returns
returns _ g kinds table t class k u x good node q = descends g kinds table t class k u x good node q
