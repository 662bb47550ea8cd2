use Rattle.gre_ip.proofs.Tunnels.{tunnel_found, tunnel_only, tunnel_spelled, tunnel_one, onward_is, spelled_onward}
use Rattle.gre_ip.proofs.laws.tunnel_law.Goals as goal

pub returns-clause-read : goal.returns-clause-read
returns-clause-read c = tunnel_found

pub returns-clause-only : goal.returns-clause-only
returns-clause-only c = tunnel_only

pub returns-clause-spelled : goal.returns-clause-spelled
returns-clause-spelled c = tunnel_spelled

pub returns-clause-one : goal.returns-clause-one
returns-clause-one c = tunnel_one

pub returns-clause-onward : goal.returns-clause-onward
returns-clause-onward c = onward_is

pub returns-clause-spelled_onward : goal.returns-clause-spelled_onward
returns-clause-spelled_onward c = spelled_onward
