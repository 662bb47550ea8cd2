use Rattle.std.proofs.Common.{length}
use Rattle.wire_base.proofs.router_conf.+octets_of_subs.Given as goal

abbrev pub decreases-octets_of_subs : goal.decreases-octets_of_subs
decreases-octets_of_subs l = length l.subs.now
