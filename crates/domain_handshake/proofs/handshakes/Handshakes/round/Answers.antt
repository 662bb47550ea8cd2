use Rattle.std.proofs.Common.{subst, ◌∙◌}
use Rattle.domain_handshake.specs.Doing.{Does}
use Rattle.domain_handshake.specs.Handshakes.{HandState, round_does}
use Rattle.domain_handshake.proofs.Steps.{round_so}
use Rattle.domain_handshake.proofs.handshakes.Handshakes.round.Goals as goal

pub returns-clause-does : goal.returns-clause-does
returns-clause-does c =
    subst (λ (s : HandState). Does (round_does c.args.line s) c.round.new.self c.args.texts.now c.round.new.texts c.round.result) c.self.view_is
    (round_so c.args.line c.self.inside.hand c.round.new.self c.as_slice.result.now c.args.texts.now c.round.new.texts c.round.result (c.as_slice.ensures ∙ c.self.invariant.value) c.round.ensures.does)
