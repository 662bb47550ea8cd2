use Rattle.std.proofs.Common.{◌∙◌, ◌++◌, ℕ, ap}
use Rattle.std.specs.Prelude.{codes}
use Rattle.std.specs.Fmt.{decimal}
use Rattle.std.proofs.lemmas.Result.{on_ok_weaker}
use Rattle.replay_report.specs.Lines.{name_at}
use Rattle.replay_report.proofs.AnswerLines.{name_last}
use Rattle.replay_report.proofs.answers.push_spent.Goals as goal

pub returns : goal.returns
returns c =
    on_ok_weaker c.push.result
    (name_last c.args.out.now c.append_number.new.self c.append.new.self c.append-2.new.self c.push.new.self (decimal c.args.line) (codes " quiet no spent ") c.name_at.result.now (name_at c.args.routers.now c.args.router)
    (c.in_ok-append_number.ensures.ok ∙ ap (λ (n : ℕ). c.args.out.now ++ decimal n) c.from.ensures) c.in_ok-append.ensures.ok c.in_ok-append-2.ensures.ok c.name_at.ensures)
    c.push.ensures.ok
