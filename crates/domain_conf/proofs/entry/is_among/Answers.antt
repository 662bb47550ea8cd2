use Rattle.std.proofs.Common.{sym, ◌∙◌}
use Rattle.std.specs.Str.{bytes_eq}
use Rattle.domain_conf.proofs.ListLemmas.{list_any-map}
use Rattle.domain_conf.proofs.entry.is_among.Goals as goal

pub returns : goal.returns
returns c = c.contains.ensures.value ∙ sym (list_any-map (λ k. bytes_eq k c.args.key.now) (λ k. k.now) c.args.known.now)
