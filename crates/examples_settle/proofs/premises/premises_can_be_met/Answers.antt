use Rattle.std.proofs.Common.{[]}
use Rattle.examples_model.specs.Domains.{pair}
use Rattle.examples_settle.specs.Runs.{after, disturbed, enters, ingress, taken, the_injection, with_rounds}
use Rattle.examples_settle.proofs.RunLaws.{all_received, injected, none_yet, settles, settles_by_width}
use Rattle.examples_settle.proofs.premises.premises_can_be_met.Goals as goal

pub returns-clause-settled : goal.returns-clause-settled
returns-clause-settled c = settles c.pair_is_valid.ensures

pub returns-clause-wide : goal.returns-clause-wide
returns-clause-wide c = settles_by_width c.pair_is_valid.ensures

pub returns-clause-quiet : goal.returns-clause-quiet
returns-clause-quiet c =
    let w = with_rounds (after disturbed) 1 in
    c.flooding_settles.ensures.same pair disturbed (after disturbed) 1 w [] w (settles_by_width c.pair_is_valid.ensures) (none_yet w)

pub returns-clause-injected : goal.returns-clause-injected
returns-clause-injected c = injected

pub returns-clause-once : goal.returns-clause-once
returns-clause-once c =
    let w = with_rounds (after disturbed) 2 in
    c.flooding_settles.ensures.deliver pair disturbed (after disturbed) 2 w [] w enters taken ingress 1 2 the_injection (settles c.pair_is_valid.ensures) (none_yet w) injected all_received
