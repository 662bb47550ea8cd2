use Rattle.std.proofs.Common.{Ok, arith}
use Rattle.laws_format.proofs.FieldLaws.{gives_along}
use Rattle.isis_tlv.proofs.ReadLemmas.{prefix_found, prefix_only}
use Rattle.isis_tlv.proofs.prefixes.read_prefix.Goals as goal

pub returns-clause-found : goal.returns-clause-found
returns-clause-found c = prefix_found c.args.bytes.now c.prefix_sized.result (λ i. omega (arith, c.type_inv.bytes i)) c.prefix_sized.ensures.exact

pub returns-clause-only : goal.returns-clause-only
returns-clause-only c = λ v rest fits e. gives_along _ c.prefix_sized.result _ (Ok (v, rest)) (prefix_only c.args.bytes.now v rest fits e) c.prefix_sized.ensures.exact
