use Rattle.std.proofs.Common.{◌≡◌, ◌++◌, ◌∷◌, List, sym, ap, ◌∙◌}
use Rattle.wire_base.specs.model.Hop as model
use Rattle.bier_hop.specs.Outcomes.{IsNumbering, left, out_of, outcome}
use Rattle.command_hop.specs.Forward.{outcome_text}
use Rattle.command_hop.specs.Ways.{number_of, chosen, seen, texts}
use Rattle.command_hop.proofs.BlockLines.{piece_put}
use Rattle.command_hop.proofs.forward.put_left.Goals as goal

pub outcomes-preserved : goal.outcomes-preserved
outcomes-preserved g c =
    let choose = chosen c.args.hop.now.table in
    let numbered : IsNumbering c.outcomes.hop.table number_of choose = rw c.outcomes.invariant.table c.requires.numbered in
    let first = outcome number_of (out_of {w = g.row.W} c.next_into.new.set c.in-Some.action) in
    let later = left choose c.next_into.new.self in
    let next : left choose c.outcomes.hop ≡ first ∷ later = c.in-Some.ensures.outcomes number_of choose numbered in
    let text = texts c.args.line.now c.args.names.now in
    let was = sym (ap (λ (os : List model.Outcome). c.outcomes.out ++ (c.outcomes.block ++ text os)) next) ∙ c.outcomes.invariant.texts in
    record {
      table = c.in-Some.ensures.table ∙ c.outcomes.invariant.table;
      texts = piece_put c.outcomes.out c.outcomes.block (outcome_text c.args.line.now (seen c.args.names.now first)) (text later) c.put_outcome.new.out c.put_outcome.new.block _ c.in_ok-put_outcome.ensures was;
    }
