use Rattle.command_hop.specs.Ways.{has_name}
use Rattle.std.proofs.Common.{◌≡◌, ◌++◌, ◌∷◌, [], List, ℕ, sym, ap, ◌∙◌}
use Rattle.command_hop.proofs.WayLaws.{pushed_number}
use Rattle.command_hop.proofs.ways.number_for.Goals as goal

pub returns-clause-number : goal.returns-clause-number
returns-clause-number c =
    let grown : c.push.new.self ≡ c.args.names.now ++ c.args.name.now ∷ [] = c.in_ok-push.ensures.ok ∙ ap (λ (l : List ℕ). c.args.names.now ++ l ∷ []) c.copy.ensures in
    pushed_number c.args.names.now c.push.new.self c.args.name.now c.len-n.result (ap (λ (l : List (List ℕ)). has_name l c.args.name.now) (sym c.as_slice.ensures) ∙ ap (λ (t : List ℕ). has_name c.as_slice.result.now t) (sym c.as_slice-2.ensures) ∙ c.in_default.ensures) grown c.len-n.ensures
