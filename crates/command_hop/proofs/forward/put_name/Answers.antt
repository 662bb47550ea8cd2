use Rattle.std.proofs.Common.{length, ap, arith}
use Rattle.command_hop.proofs.forward.put_name.Goals.{in-Some, in_default}
use Rattle.command_hop.proofs.forward.put_name.Goals as goal

pub push-requires : goal.push-requires
push-requires c = elim c.match-get.branch [
  | in-Some w ↦ omega (arith, ap length w.block-is, w.append_short.ensures.few, c.requires)
  | in_default w ↦ omega (arith, ap length w.block-is, c.requires)
]
