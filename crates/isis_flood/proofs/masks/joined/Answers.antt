use Rattle.isis_flood.proofs.BusyLaws.{or_idle}
use Rattle.isis_flood.proofs.masks.joined.Goals as goal

pub returns : goal.returns
returns c = λ i h. or_idle c.args.mask c.args.more i h
