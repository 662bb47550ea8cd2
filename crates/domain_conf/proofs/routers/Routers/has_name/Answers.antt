use Rattle.std.proofs.Common.{ap, ◌∙◌, is_some}
use Rattle.domain_conf.proofs.IndexLemmas.{is_some-place_of}
use Rattle.domain_conf.proofs.routers.Routers.has_name.Goals as goal

pub returns : goal.returns
returns c = c.is_some.ensures ∙ (ap is_some c.place_of.ensures.value ∙ is_some-place_of c.args.self.now c.args.name.now)
