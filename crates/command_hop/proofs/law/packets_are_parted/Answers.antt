use Rattle.command_hop.proofs.Packets.{all_parted}
use Rattle.command_hop.proofs.law.packets_are_parted.Goals as goal

pub returns : goal.returns
returns c = all_parted
