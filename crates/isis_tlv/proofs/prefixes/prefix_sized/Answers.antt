use Rattle.std.proofs.Common.{Ok, ap, sym, ◌∙◌, arith}
use Rattle.isis_tlv.specs.Views.{prefix_of}
use Rattle.isis_tlv.proofs.ReadLemmas.{prefix_rest}
use Rattle.isis_tlv.proofs.prefixes.prefix_sized.Goals as goal

pub overflow_sub-result : goal.overflow_sub-result
overflow_sub-result c = (prefix_rest c.args.bytes.now (prefix_of c.in_ok-entry.entry) c.in_ok-entry.rest.now (λ i. omega (arith, c.type_inv.bytes i)) c.in_ok-entry.ensures.exact).within

pub returns-clause-exact : goal.returns-clause-exact
returns-clause-exact c = c.in_ok-entry.ensures.exact ∙ ap (λ r. Ok (prefix_of c.in_ok-entry.entry, r)) (sym (prefix_rest c.args.bytes.now (prefix_of c.in_ok-entry.entry) c.in_ok-entry.rest.now (λ i. omega (arith, c.type_inv.bytes i)) c.in_ok-entry.ensures.exact).size)
