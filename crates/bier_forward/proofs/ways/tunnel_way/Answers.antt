use Rattle.std.proofs.Common.{sym}
use Rattle.bier_forward.proofs.WayLaws.{way-without-node}
use Rattle.bier_forward.proofs.ways.tunnel_way.Goals as goal

pub returns-in-None : goal.returns-in-None
returns-in-None c g built node = sym (way-without-node c.args.conf.now g c.args.triple c.args.to c.args.bift c.args.fib.now node c.in-None.is)
