use Rattle.command_drive.proofs.Appends.{last_part}
use Rattle.command_drive.proofs.captured.push_refused.Goals as goal

pub returns : goal.returns
returns c =
    last_part c.push_rule.result c.args.out.now c.append.new.self c.push_rule.new.out _ _ c.in_ok-append.ensures.ok
    (last_part c.push_rule.result c.append.new.self c.append_number.new.self c.push_rule.new.out _ _ c.in_ok-append_number.ensures.ok
    (last_part c.push_rule.result c.append_number.new.self c.push.new.self c.push_rule.new.out _ _ c.in_ok-push.ensures.ok c.push_rule.ensures))
