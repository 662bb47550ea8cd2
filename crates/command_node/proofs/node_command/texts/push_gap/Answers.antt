use Rattle.std.proofs.Common.{ℕ, [], ◌∷◌, ◌++◌, ap, ◌∙◌}
use Rattle.std.specs.Prelude.{codes}
use Rattle.std.specs.Fmt.{decimal}
use Rattle.command_drive.proofs.Appends.{last_part, same_text, rule_front}
use Rattle.command_node.proofs.node_command.texts.push_gap.Goals as goal

pub returns : goal.returns
returns c =
    same_text c.push-3.result c.args.out.now c.push-3.new.self _ _ (rule_front c.args.number 7 (codes "Gap") (32 ∷ (decimal c.args.gap.0 ++ 32 ∷ (decimal c.args.gap.1 ++ 10 ∷ []))))
    (last_part c.push-3.result c.args.out.now c.push_refused.new.out c.push-3.new.self _ _ c.in_ok-push_refused.ensures
    (last_part c.push-3.result c.push_refused.new.out c.push.new.self c.push-3.new.self _ _ c.in_ok-push.ensures.ok
    (last_part c.push-3.result c.push.new.self c.append_number.new.self c.push-3.new.self _ _ (c.in_ok-append_number.ensures.ok ∙ ap (λ (k : ℕ). c.push.new.self ++ decimal k) c.from.ensures)
    (last_part c.push-3.result c.append_number.new.self c.push-2.new.self c.push-3.new.self _ _ c.in_ok-push-2.ensures.ok
    (last_part c.push-3.result c.push-2.new.self c.append_number-2.new.self c.push-3.new.self _ _ (c.in_ok-append_number-2.ensures.ok ∙ ap (λ (k : ℕ). c.push-2.new.self ++ decimal k) c.from-2.ensures) c.push-3.ensures.ok)))))
