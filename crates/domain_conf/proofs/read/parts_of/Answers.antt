use Rattle.toml.specs.View.{table_view}
use Rattle.domain_conf.specs.Views.{arrays_view}
use Rattle.domain_conf.proofs.read.parts_of.Goals as goal
use Rattle.domain_conf.proofs.ValidFile.{few_subs}

pub assemble-requires : goal.assemble-requires
assemble-requires c = few_subs c.in_ok-level.level c.in_ok-area.area (table_view c.args.top.now) (arrays_view c.in_ok-arrays.arrays) c.in_ok-entries.entries c.in_ok-area.ensures c.in_ok-arrays.ensures.value c.in_ok-entries.ensures
