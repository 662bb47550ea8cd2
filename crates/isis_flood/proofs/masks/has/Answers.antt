use Rattle.std.proofs.Common.{sym, ◌∙◌}
use Rattle.isis_flood.proofs.MaskLaws.{links_get}
use Rattle.isis_flood.proofs.masks.has.Goals as goal

pub returns : goal.returns
returns c = λ n lt. c.has_bit.ensures ∙ sym (links_get c.args.mask c.args.link n lt)
