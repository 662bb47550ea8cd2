use Rattle.std.proofs.Common.{◌≡◌, ◌<◌, [], ◌∷◌, ◌+◌, length, ap, sym, ◌∙◌}
use Rattle.bier_hop.specs.Outcomes.{left, outcome, left_after, cost}
use Rattle.bier_hop.proofs.NextLaws.{mapped-matches, mapped-none, mapped-some}
use Rattle.bier_hop.proofs.hop.Hop.next.Goals as goal

pub returns-clause-outcomes : goal.returns-clause-outcomes
returns-clause-outcomes g c number choose is =
    mapped-matches {w = g.row.W} c.next_into-action.result c.next_into-action.new.set c.out_of.result (left choose c.args.self.now ≡ []) (λ out. left choose c.args.self.now ≡ outcome number out ∷ left choose c.next_into-action.new.self)
    c.out_of.ensures (c.next_into-action.ensures.outcomes number choose is)

pub returns-clause-none : goal.returns-clause-none
returns-clause-none g c = mapped-none {w = g.row.W} c.next_into-action.result c.next_into-action.new.set c.out_of.result c.out_of.ensures ∙ c.next_into-action.ensures.none

pub returns-clause-rest : goal.returns-clause-rest
returns-clause-rest g c = c.next_into-action.ensures.rest ∙ sym (ap (left_after c.args.self.now.rest) c.out_of.ensures)

pub returns-clause-shorter : goal.returns-clause-shorter
returns-clause-shorter g c =
    mapped-some {w = g.row.W} c.next_into-action.result c.next_into-action.new.set c.out_of.result (length c.next_into-action.new.self.rest < length c.args.self.now.rest) c.out_of.ensures c.next_into-action.ensures.shorter

pub returns-clause-steps : goal.returns-clause-steps
returns-clause-steps g c = c.next_into-action.ensures.steps ∙ sym (ap (λ o. c.args.steps.now + cost o) c.out_of.ensures)
