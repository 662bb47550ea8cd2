use Rattle.std.proofs.Common.{refl, ◌∙◌}
use Rattle.std.proofs.lemmas.Result.{err_from_is_err_and}
use Rattle.domain_handshake.specs.Handshakes.{end_goes_down}
use Rattle.domain_handshake.proofs.Parts.{turn_none, turn_next, turn_stops}
use Rattle.domain_handshake.proofs.hand_world.HandWorld.ends_go_down.Goals as goal

pub loop-direction-init : goal.loop-direction-init
loop-direction-init c = record { did = turn_none end_goes_down c.args.self.now c.args.texts.now; domain = refl }

pub returns-in_err-end_goes_down-clause-does : goal.returns-in_err-end_goes_down-clause-does
returns-in_err-end_goes_down-clause-does c =
    let p = err_from_is_err_and c.from_residual.result c.from_residual.ensures.1 in
    rw (p.1, p.2) (turn_stops end_goes_down c.args.self.now c.args.texts.now c.loop-direction.self c.end_goes_down.new.self c.loop-direction.texts c.end_goes_down.new.texts c.args.all.now c.loop-direction.direction-index c.direction-item.result _ c.loop-direction-test.true c.direction-item.is c.loop-direction.invariant.did c.in_err-end_goes_down.ensures.does)

pub loop-direction-preserved : goal.loop-direction-preserved
loop-direction-preserved c = record {
  did = turn_next end_goes_down c.args.self.now c.args.texts.now c.loop-direction.self c.end_goes_down.new.self c.loop-direction.texts c.end_goes_down.new.texts c.args.all.now c.loop-direction.direction-index c.direction-item.result c.loop-direction-test.true c.direction-item.is c.loop-direction.invariant.did c.in_ok-end_goes_down.ensures.does;
  domain = c.in_ok-end_goes_down.ensures.domain ∙ c.loop-direction.invariant.domain;
}
