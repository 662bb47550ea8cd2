use Rattle.std.proofs.Common.{◌∙◌, ap, ◌∷◌, List, ℕ}
use Rattle.domain_conf.proofs.Cutting.{cut_goes, more_than_four}
use Rattle.domain_conf.proofs.forms.prefix_octets.Goals as goal

pub returns-in_default : goal.returns-in_default
returns-in_default c =
    let one = cut_goes 46 c.args.text.now c.cut.result.0.now c.cut.result.1 c.in_ok-rest.field-0 c.cut.ensures c.in_ok-rest.was in
    let two = cut_goes 46 c.in_ok-rest.field-0.now c.cut-2.result.0.now c.cut-2.result.1 c.in_ok-rest-2.field-0 c.cut-2.ensures c.in_ok-rest-2.was in
    let three = cut_goes 46 c.in_ok-rest-2.field-0.now c.cut-3.result.0.now c.cut-3.result.1 c.in_ok-rest-3.field-0 c.cut-3.ensures c.in_ok-rest-3.was in
    let four = cut_goes 46 c.in_ok-rest-3.field-0.now c.cut-4.result.0.now c.cut-4.result.1 c.in_default.field-0 c.cut-4.ensures c.in_default.is in
    more_than_four c.args.text.now c.cut.result.0.now c.cut-2.result.0.now c.cut-3.result.0.now c.cut-4.result.0.now c.in_default.field-0.now
    (one ∙ ap (λ (l : List (List ℕ)). c.cut.result.0.now ∷ l) (two ∙ ap (λ (l : List (List ℕ)). c.cut-2.result.0.now ∷ l) (three ∙ ap (λ (l : List (List ℕ)). c.cut-3.result.0.now ∷ l) four)))
