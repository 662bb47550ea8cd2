use Rattle.std.proofs.Common.{◌+◌, arith}
use Rattle.std.proofs.lemmas.List.{take_rest}
use Rattle.replay_text.proofs.FirstIds.{first_part}
use Rattle.replay_text.proofs.ids.first_number.Goals as goal

pub returns-clause-value : goal.returns-clause-value
returns-clause-value c =
    let front = c.front_number-number in
    first_part c.args.text.now _ front.result.1 front.result.0 (omega (arith, c.if-count-text.false, front.ensures.within)) front.ensures.few front.ensures.value c.if-text-count-ne44.false (take_rest c.args.text.now (front.result.1 + 1))
