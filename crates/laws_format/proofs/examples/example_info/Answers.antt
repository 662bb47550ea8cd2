use Rattle.std.proofs.Common.{refl}
use Rattle.wire_base.specs.model.BierInfo.{info_at, parts_within, take_part}
use Rattle.laws_format.proofs.examples.example_info.Goals as goal

pub returns-clause-repeated : goal.returns-clause-repeated
unfolding info_at parts_within take_part
returns-clause-repeated c = refl

pub returns-clause-both : goal.returns-clause-both
unfolding info_at parts_within take_part
returns-clause-both c = refl

pub returns-clause-skipped : goal.returns-clause-skipped
unfolding info_at parts_within take_part
returns-clause-skipped c = refl
