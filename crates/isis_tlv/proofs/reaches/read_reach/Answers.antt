use Rattle.std.proofs.Common.{Ok, arith}
use Rattle.laws_format.proofs.FieldLaws.{gives_along}
use Rattle.isis_tlv.proofs.ReadLemmas.{reach_found, reach_only}
use Rattle.isis_tlv.proofs.reaches.read_reach.Goals as goal

pub returns-clause-found : goal.returns-clause-found
returns-clause-found c = reach_found c.args.bytes.now c.reach_sized.result (λ i. omega (arith, c.type_inv.bytes i)) c.reach_sized.ensures.exact

pub returns-clause-only : goal.returns-clause-only
returns-clause-only c = λ v rest fits e. gives_along _ c.reach_sized.result _ (Ok (v, rest)) (reach_only c.args.bytes.now v rest fits e) c.reach_sized.ensures.exact
