use Rattle.laws_course.proofs.TunnelLaws.{links_left, ttl_left}
use Rattle.laws_course.proofs.tunnels.outer_ttls_cover_short_tunnels.Goals as goal

pub returns-clause-left : goal.returns-clause-left
returns-clause-left _ g u x y h j graph node links follows = links_left g graph x j u y h node links follows

pub returns-clause-enough : goal.returns-clause-enough
returns-clause-enough _ g u x y h j graph node links few follows = ttl_left g graph x j u y h node links few follows
