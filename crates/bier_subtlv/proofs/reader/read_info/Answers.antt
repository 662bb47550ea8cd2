use Rattle.std.proofs.Common.{Ok, arith}
use Rattle.laws_format.proofs.FieldLaws.{gives_along}
use Rattle.laws_format.proofs.InfoLaws.{info_only}
use Rattle.bier_subtlv.proofs.ReadLemmas.{read_found, read_fits}
use Rattle.bier_subtlv.proofs.reader.read_info.Goals as goal

pub returns-clause-found : goal.returns-clause-found
returns-clause-found c = read_found c.args.value.now c.whole_info.result (λ i. omega (arith, c.type_inv.value i)) c.whole_info.ensures.exact

pub returns-clause-only : goal.returns-clause-only
returns-clause-only c = λ i is. gives_along _ c.whole_info.result _ (Ok i) (info_only c.args.value.now i is) c.whole_info.ensures.exact

pub returns-clause-fits : goal.returns-clause-fits
returns-clause-fits c = read_fits c.args.value.now c.whole_info.result (λ i. omega (arith, c.type_inv.value i)) c.whole_info.ensures.exact c.whole_info.ensures.few
