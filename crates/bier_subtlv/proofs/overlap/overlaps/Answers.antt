use Rattle.std.proofs.Common.{sym, ◌∙◌}
use Rattle.laws_format.proofs.InfoLaws.{overlap_found, overlap_test}
use Rattle.bier_subtlv.proofs.overlap.overlaps.Goals as goal

pub returns-clause-shared : goal.returns-clause-shared
returns-clause-shared c = ((λ yes. overlap_found c.args.ranges.now (sym c.any_shared.ensures ∙ yes)), (λ o. c.any_shared.ensures ∙ overlap_test c.args.ranges.now o))
