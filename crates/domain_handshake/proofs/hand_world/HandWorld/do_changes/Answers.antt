use Rattle.std.proofs.Common.{refl, ◌∙◌}
use Rattle.std.proofs.lemmas.List.{get_or_default}
use Rattle.std.proofs.lemmas.Result.{err_from_is_err_and}
use Rattle.domain_handshake.specs.Handshakes.{change_does}
use Rattle.domain_handshake.proofs.Parts.{turn_none, turn_next, turn_stops}
use Rattle.domain_handshake.proofs.hand_world.HandWorld.do_changes.Goals as goal

pub loop-change-init : goal.loop-change-init
loop-change-init c = record { did = turn_none (change_does c.args.line) c.args.self.now c.args.texts.now; domain = refl }

pub returns-in_err-change-clause-does : goal.returns-in_err-change-clause-does
returns-in_err-change-clause-does c =
    let p = err_from_is_err_and c.from_residual.result c.from_residual.ensures.1 in
    rw (p.1, p.2) (turn_stops (change_does c.args.line) c.args.self.now c.args.texts.now c.loop-change.self c.change.new.self c.loop-change.texts c.change.new.texts c.args.changes.now c.loop-change.change-index _ _ c.loop-change-test.true (get_or_default c.args.changes.now c.loop-change.change-index _ _ c.loop-change-test.true) c.loop-change.invariant.did c.in_err-change.ensures.does)

pub loop-change-preserved : goal.loop-change-preserved
loop-change-preserved c = record {
  did = turn_next (change_does c.args.line) c.args.self.now c.args.texts.now c.loop-change.self c.change.new.self c.loop-change.texts c.change.new.texts c.args.changes.now c.loop-change.change-index _ c.loop-change-test.true (get_or_default c.args.changes.now c.loop-change.change-index _ _ c.loop-change-test.true) c.loop-change.invariant.did c.in_ok-change.ensures.does;
  domain = c.in_ok-change.ensures.domain ∙ c.loop-change.invariant.domain;
}
