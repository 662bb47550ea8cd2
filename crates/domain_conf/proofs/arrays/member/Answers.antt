use Rattle.toml.proofs.Views.{table_get}
use Rattle.domain_conf.proofs.arrays.member.Goals as goal

pub returns : goal.returns
returns c = table_get c.get.result c.args.key.now c.args.top.now.entries c.get.ensures.value
