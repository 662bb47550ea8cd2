use Rattle.laws_route.proofs.RouteLemmas.{tunnel_links-some}
use Rattle.laws_route.proofs.choices.tunnels_arrive.Goals as goal

pub returns : goal.returns
returns _ g u x n good node q = tunnel_links-some g good x u n node q
