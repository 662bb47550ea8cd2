use Rattle.std.proofs.Common.{refl, ◌∙◌}
use Rattle.std.proofs.lemmas.Result.{err_from_is_err_and}
use Rattle.domain_handshake.specs.Handshakes.{hello_on}
use Rattle.domain_handshake.proofs.Parts.{turn_none, turn_next, turn_stops}
use Rattle.domain_handshake.proofs.hand_world.HandWorld.do_hellos.Goals as goal

pub loop-direction-init : goal.loop-direction-init
loop-direction-init c = record { did = turn_none (hello_on c.args.line) c.args.self.now c.args.texts.now; domain = refl }

pub returns-in_err-hello_on-clause-does : goal.returns-in_err-hello_on-clause-does
returns-in_err-hello_on-clause-does c =
    let p = err_from_is_err_and c.from_residual.result c.from_residual.ensures.1 in
    rw (p.1, p.2) (turn_stops (hello_on c.args.line) c.args.self.now c.args.texts.now c.loop-direction.self c.hello_on.new.self c.loop-direction.texts c.hello_on.new.texts c.args.all.now c.loop-direction.direction-index c.direction-item.result _ c.loop-direction-test.true c.direction-item.is c.loop-direction.invariant.did c.in_err-hello_on.ensures.does)

pub loop-direction-preserved : goal.loop-direction-preserved
loop-direction-preserved c = record {
  did = turn_next (hello_on c.args.line) c.args.self.now c.args.texts.now c.loop-direction.self c.hello_on.new.self c.loop-direction.texts c.hello_on.new.texts c.args.all.now c.loop-direction.direction-index c.direction-item.result c.loop-direction-test.true c.direction-item.is c.loop-direction.invariant.did c.in_ok-hello_on.ensures.does;
  domain = c.in_ok-hello_on.ensures.domain ∙ c.loop-direction.invariant.domain;
}
