use Rattle.std.specs.Simd.Lanes.{chunk}
use Rattle.std.proofs.Common.{◌∙◌}
use Rattle.isis_flood.proofs.ChunkLaws.{joined_has}
use Rattle.isis_flood.proofs.masks.has_eight.Goals as goal

pub returns : goal.returns
returns c = c.has_bit.ensures ∙ joined_has c.args.link (chunk c.args.at 8 c.args.masks.now)
