use Rattle.std.proofs.Common.{refl, subst, ap, [], inr}
use Rattle.wire_base.specs.declared.status.Status.TheVariants.{Done, InputRefused}
use Rattle.command_drive.specs.Doing.{Concludes}
use Rattle.command_drive.specs.Reading.{Closed}
use Rattle.command_drive.specs.Texts.{Ended, Longer}
use Rattle.command_hop.specs.Owed.{Reached, owed, closing}
use Rattle.command_hop.proofs.Steps.{concludes, past_end}
use Rattle.command_hop.proofs.hop.HopCommandOctets.close.Goals as goal

pub returns-in-Ended-clause-concluded : goal.returns-in-Ended-clause-concluded
returns-in-Ended-clause-concluded c =
    let before : Reached = record { state = c.self.inside.state; lines = c.self.inside.lines; packets = c.self.inside.packets } in
    let after = record c.args.texts.now { report = c.push_done.new.out } in
    subst (λ (b : Reached). Concludes Done (owed b [] (Closed c.args.close)) c.args.texts.now after) c.self.view_is
    (concludes Ended before (Closed c.args.close) Done c.args.texts.now after (ap (λ h. closing (Closed h)) c.in-Ended.is) refl c.in_ok-push_done.ensures refl)

pub returns : goal.returns
returns c =
    let before : Reached = record { state = c.self.inside.state; lines = c.self.inside.lines; packets = c.self.inside.packets } in
    let after = record c.args.texts.now { report = c.push_refused.new.out } in
    record {
      concluded = subst (λ (b : Reached). Concludes InputRefused (owed b [] (Closed c.args.close)) c.args.texts.now after) c.self.view_is
          (concludes Longer before (Closed c.args.close) InputRefused c.args.texts.now after (past_end c.args.close c.in_default.not-Ended) refl c.in_ok-push_refused.ensures refl);
      done = λ is. absurd cc;
      statuses = inr refl;
    }
