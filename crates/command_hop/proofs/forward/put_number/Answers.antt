use Rattle.std.proofs.Common.{arith}
use Rattle.replay_text.proofs.Digits.{length_many}
use Rattle.command_hop.proofs.forward.put_number.Goals as goal

pub number-requires : goal.number-requires
number-requires c = omega (arith, length_many c.args.number c.ranges.number.fits, c.in_ok-make_room_for.ensures.room)
