use Rattle.laws_route.proofs.ChoiceLemmas.{firsts-are, firsts-have}
use Rattle.laws_route.proofs.choices.firsts_are_listed.Goals as goal

pub returns : goal.returns
returns _ g c d u x good node = (firsts-are g good c d u x node, firsts-have g good c d u x node)
