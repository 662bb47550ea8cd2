use Rattle.std.proofs.Common.{arith}
use Rattle.std.proofs.Math.Nat.{one-le-pow}
use Rattle.pcapng_frames.proofs.moment.units_of.Goals as goal

pub returns-in-0-to-18-clause-some : goal.returns-in-0-to-18-clause-some
returns-in-0-to-18-clause-some c = omega (arith, c.power.ensures, one-le-pow c.args.resolution 10 (omega arith))
