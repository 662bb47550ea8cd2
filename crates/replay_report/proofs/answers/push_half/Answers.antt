use Rattle.std.specs.Prelude.{codes}
use Rattle.std.specs.Fmt.{decimal}
use Rattle.std.proofs.lemmas.Result.{on_ok_weaker}
use Rattle.replay_report.specs.Lines.{name_at}
use Rattle.replay_report.proofs.AnswerLines.{names_last}
use Rattle.replay_report.proofs.answers.push_half.Goals as goal

pub returns : goal.returns
returns c =
    on_ok_weaker c.push.result
    (names_last c.args.out.now c.push_front.new.out c.append.new.self c.push.new.self (decimal c.args.line) (codes " quiet no half ") c.name_at.result.now c.name_at-2.result.now (name_at c.args.routers.now c.args.a)
    (name_at c.args.routers.now c.args.b) c.in_ok-push_front.ensures.ok c.in_ok-append.ensures.ok c.name_at.ensures c.name_at-2.ensures)
    c.push.ensures.ok
