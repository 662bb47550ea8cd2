use Rattle.std.proofs.Common.{◌≡◌, ℕ, None, Ok, Err, refl, replicate, subst, ◌∙◌, arith}
use Rattle.std.proofs.lemmas.Result.{err_from_is_err_and}
use Rattle.domain_handshake.specs.Doing.{Did}
use Rattle.domain_handshake.specs.Handshakes.{in_turn, greet_on}
use Rattle.domain_handshake.proofs.Parts.{turn_none, times_next, times_stops}
use Rattle.domain_handshake.proofs.Steps.{count_is, greets_so}
use Rattle.domain_handshake.proofs.hand_world.HandWorld.greets_on.Goals as goal

pub loop-time-init : goal.loop-time-init
loop-time-init c = record { did = turn_none (greet_on c.args.line) c.args.self.now c.args.texts.now; domain = refl }

pub returns-in_err-greet_on-clause-does : goal.returns-in_err-greet_on-clause-does
returns-in_err-greet_on-clause-does c =
    let p = err_from_is_err_and c.from_residual.result c.from_residual.ensures.1 in
    let count = count_is c.hellos-count.result (record { replay = c.self.inside.replay; circuits = c.self.inside.circuits }) c.args.self.now (record { from = c.direction.inside.from; link = c.direction.inside.link; to = c.direction.inside.to }) c.args.direction c.self.view_is c.direction.view_is c.hellos-count.ensures in
    rw (p.1, p.2) (greets_so c.args.line c.args.self.now c.greet_on.new.self c.args.direction c.hellos-count.result c.args.texts.now c.greet_on.new.texts (Err c.in_err-greet_on.field-0.0) count
    (times_stops (greet_on c.args.line) c.args.self.now c.args.texts.now c.loop-time.self c.greet_on.new.self c.loop-time.texts c.greet_on.new.texts c.args.direction c.hellos-count.result c.loop-time._time c.in_err-greet_on.field-0.0 c.loop-time-test.true c.loop-time.invariant.did c.in_err-greet_on.ensures.does))

pub loop-time-preserved : goal.loop-time-preserved
loop-time-preserved c = record {
  did = times_next (greet_on c.args.line) c.args.self.now c.args.texts.now c.loop-time.self c.greet_on.new.self c.loop-time.texts c.greet_on.new.texts c.args.direction c.loop-time._time c.loop-time.invariant.did c.in_ok-greet_on.ensures.does;
  domain = c.in_ok-greet_on.ensures.domain ∙ c.loop-time.invariant.domain;
}

pub returns-clause-does : goal.returns-clause-does
returns-clause-does c =
    let count = count_is c.hellos-count.result (record { replay = c.self.inside.replay; circuits = c.self.inside.circuits }) c.args.self.now (record { from = c.direction.inside.from; link = c.direction.inside.link; to = c.direction.inside.to }) c.args.direction c.self.view_is c.direction.view_is c.hellos-count.ensures in
    let all : c.loop-time._time ≡ c.hellos-count.result = omega (arith, c.loop-time-test.false, c.loop-time.auto._time-end) in
    greets_so c.args.line c.args.self.now c.loop-time.self c.args.direction c.hellos-count.result c.args.texts.now c.loop-time.texts (Ok tt) count
    (subst (λ (n : ℕ). Did (in_turn (greet_on c.args.line) c.args.self.now (replicate n c.args.direction)) c.loop-time.self None c.args.texts.now c.loop-time.texts) all c.loop-time.invariant.did)
