use Rattle.bier_tunnel.proofs.OnwardLemmas.{leads-over, link-within, no-way}
use Rattle.bier_tunnel.proofs.laws.tunnel_ways.Goals as goal

pub returns-clause-onward : goal.returns-clause-onward
returns-clause-onward c r g u x link good node q = leads-over g good u node r x link q

pub returns-clause-within : goal.returns-clause-within
returns-clause-within c r g u x link q = link-within r g u x link q

pub returns-clause-none : goal.returns-clause-none
returns-clause-none c r g u x good node leads = no-way g good u node r x leads
