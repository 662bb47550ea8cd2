use Rattle.command_drive.proofs.Appends.{last_part}
use Rattle.command_node.proofs.node_command.texts.push_counts.Goals as goal

pub returns : goal.returns
returns c =
    last_part c.push.result c.args.out.now c.push_count.new.out c.push.new.self _ _ c.in_ok-push_count.ensures
    (last_part c.push.result c.push_count.new.out c.push_count-2.new.out c.push.new.self _ _ c.in_ok-push_count-2.ensures
    (last_part c.push.result c.push_count-2.new.out c.push_count-3.new.out c.push.new.self _ _ c.in_ok-push_count-3.ensures
    (last_part c.push.result c.push_count-3.new.out c.push_count-4.new.out c.push.new.self _ _ c.in_ok-push_count-4.ensures
    (last_part c.push.result c.push_count-4.new.out c.push_count-5.new.out c.push.new.self _ _ c.in_ok-push_count-5.ensures
    (last_part c.push.result c.push_count-5.new.out c.push_count-6.new.out c.push.new.self _ _ c.in_ok-push_count-6.ensures c.push.ensures.ok)))))
