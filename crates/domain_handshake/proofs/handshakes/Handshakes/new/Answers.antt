use Rattle.std.proofs.Common.{◌∙◌}
use Rattle.domain_handshake.proofs.Steps.{fresh_domain, started_so}
use Rattle.domain_handshake.proofs.handshakes.Handshakes.new.Goals as goal

pub returns-clause-started : goal.returns-clause-started
returns-clause-started c =
    started_so c.args.recording c.args.domain c.in_ok-hand.hand c.ends_go_down.new.self c.as_slice.result.now c.args.texts.now c.ends_go_down.new.texts c.in_ok-hand.ensures (c.as_slice.ensures ∙ c.in_ok-directions.ensures.value) c.in_ok-ends_go_down.ensures.does

pub returns-clause-domain : goal.returns-clause-domain
returns-clause-domain c = c.in_ok-ends_go_down.ensures.domain ∙ fresh_domain c.args.recording c.args.domain c.in_ok-hand.hand c.in_ok-hand.ensures
