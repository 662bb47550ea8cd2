use Rattle.examples_settle.proofs.QuietRest.{covered_neighbor, covered_own, covered_tunnel}
use Rattle.examples_settle.proofs.quiet.quiet_premises_can_be_met.Goals as goal

pub returns-clause-own : goal.returns-clause-own
returns-clause-own c = covered_own

pub returns-clause-neighbor : goal.returns-clause-neighbor
returns-clause-neighbor c = covered_neighbor

pub returns-clause-tunnel : goal.returns-clause-tunnel
returns-clause-tunnel c = covered_tunnel
