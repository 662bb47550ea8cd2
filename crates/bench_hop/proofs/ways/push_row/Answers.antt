use Rattle.std.proofs.Common.{◌≡◌, ◌+◌, ◌∷◌, [], ◌++◌, length, length-append, List, ap, ◌∙◌}
use Rattle.wire_base.specs.declared.view.First.{First}
use Rattle.wire_base.specs.FirstLists.{extend_last}
use Rattle.wire_base.proofs.FirstListLaws.{extend_new}
use Rattle.bench_hop.proofs.ways.push_row.Goals as goal

longer : (first : First) (old begun new : List (List First)) → new ≡ extend_last first begun → begun ≡ old ++ [] ∷ [] → length new ≡ length old + 1
longer first old begun new pushed begins = ap length (pushed ∙ ap (extend_last first) begins ∙ extend_new old [] first) ∙ length-append old ((first ∷ []) ∷ [])

pub returns : goal.returns
returns c = longer _ c.args.stored.now c.begin.new.self c.push.new.self c.in_ok-push.ensures.ok c.in_ok-begin.ensures.ok
