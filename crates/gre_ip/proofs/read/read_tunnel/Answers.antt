use Rattle.std.proofs.Common.{arith}
use Rattle.gre_ip.proofs.Tunnels.{found_from, only_from}
use Rattle.gre_ip.proofs.read.read_tunnel.Goals as goal

pub returns-clause-found : goal.returns-clause-found
returns-clause-found c = found_from c.args.bytes.now c.tunnel_in.result (λ k. omega (arith, c.type_inv.bytes k)) c.tunnel_in.ensures.exact

pub returns-clause-only : goal.returns-clause-only
returns-clause-only c = only_from c.args.bytes.now c.tunnel_in.result c.tunnel_in.ensures.exact
