use Rattle.bier_bits.proofs.Joined.{without_eight}
use Rattle.bier_bits.proofs.words.WithoutJoint.eight.Goals as goal

pub returns : goal.returns
returns c = without_eight c.args.a c.args.b
