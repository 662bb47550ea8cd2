use Rattle.gre_ip.proofs.Tunnels.{packet_at}
use Rattle.gre_ip.proofs.read.tunnel_of.Goals as goal

pub returns-clause-value : goal.returns-clause-value
returns-clause-value c =
    packet_at c.args.bytes.now c.args.inner c.address_at.result c.address_at-2.result c.total_of.result c.address_at.ensures c.address_at-2.ensures c.total_of.ensures c.requires.heads
