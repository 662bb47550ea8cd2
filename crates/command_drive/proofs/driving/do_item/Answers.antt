use Rattle.std.proofs.Common.{◌∷◌, arith}
use Rattle.command_drive.proofs.Written.{on_err}
use Rattle.command_drive.specs.Driving.{total}
use Rattle.command_drive.proofs.Along.{going, going_more, moves_none, moves_on, moves_wrote, fronts_texts, fronts_none, fronts_past, quiet_none, quiet_on}
use Rattle.command_drive.proofs.driving.do_item.Goals as goal

pub rounds-init : goal.rounds-init
rounds-init g c =
    record {
      goes = going g.C.Sink g.R.Sink c.in_ok-flow.flow g.K.Command.refusal (total c.args.texts.now (λ more behind. g.K.Command.owes c.args.command.now (c.args.item.now ∷ more) behind)) (λ more behind. g.K.Command.owes c.args.command.now (c.args.item.now ∷ more) behind) (g.K.Command.owes c.item.new.self)
          c.args.texts.now c.item.new.texts c.args.frames.now c.args.frames.now c.args.report.now c.args.report.now
          (moves_none g.C.Sink g.R.Sink (total c.args.texts.now (λ more behind. g.K.Command.owes c.args.command.now (c.args.item.now ∷ more) behind)) c.args.frames.now c.args.report.now) c.in_ok-flow.ensures.did;
      rests = c.in_ok-flow.ensures.rests;
      room = c.in_ok-flow.ensures.room;
      quiet = quiet_none g.C.Sink g.R.Sink c.args.frames.now c.args.report.now;
    }

pub returns-in_default-clause-front : goal.returns-in_default-clause-front
returns-in_default-clause-front g c =
    let moved = going_more g.C.Sink g.R.Sink c.rounds.flow g.K.Command.refusal (total c.args.texts.now (λ more behind. g.K.Command.owes c.args.command.now (c.args.item.now ∷ more) behind)) (total c.rounds.texts (g.K.Command.owes c.rounds.command)) c.rounds.texts c.args.frames.now c.rounds.frames c.args.report.now c.rounds.report c.in-More.is c.rounds.invariant.goes in
    fronts_past g.C.Sink g.R.Sink (total c.args.texts.now (λ more behind. g.K.Command.owes c.args.command.now (c.args.item.now ∷ more) behind)) (total c.rounds.texts (g.K.Command.owes c.rounds.command)) c.args.frames.now c.rounds.frames c.flush_both.new.frames c.args.report.now c.rounds.report c.flush_both.new.report moved
    (fronts_texts g.C.Sink g.R.Sink (g.K.Command.owes c.rounds.command) c.rounds.texts c.rounds.frames c.flush_both.new.frames c.rounds.report c.flush_both.new.report c.in_default.ensures.front)

pub returns-in_err-flow-2-clause-front : goal.returns-in_err-flow-2-clause-front
returns-in_err-flow-2-clause-front g c =
    let moved = going_more g.C.Sink g.R.Sink c.rounds.flow g.K.Command.refusal (total c.args.texts.now (λ more behind. g.K.Command.owes c.args.command.now (c.args.item.now ∷ more) behind)) (total c.rounds.texts (g.K.Command.owes c.rounds.command)) c.rounds.texts c.args.frames.now c.rounds.frames c.args.report.now c.rounds.report c.in-More.is c.rounds.invariant.goes in
    let wrote = moves_wrote g.C.Sink g.R.Sink (g.K.Command.owes c.rounds.command) c.rounds.texts c.flush_both.new.texts c.rounds.frames c.flush_both.new.frames c.rounds.report c.flush_both.new.report c.in-Ok.ensures.wrote in
    let all = moves_on g.C.Sink g.R.Sink (total c.args.texts.now (λ more behind. g.K.Command.owes c.args.command.now (c.args.item.now ∷ more) behind)) (total c.rounds.texts (g.K.Command.owes c.rounds.command)) (total c.flush_both.new.texts (g.K.Command.owes c.rounds.command)) c.args.frames.now c.rounds.frames c.flush_both.new.frames c.args.report.now c.rounds.report c.flush_both.new.report moved wrote in
    on_err c.from_residual-in_err-flow-2.result _
    (fronts_past g.C.Sink g.R.Sink (total c.args.texts.now (λ more behind. g.K.Command.owes c.args.command.now (c.args.item.now ∷ more) behind)) (total c.flush_both.new.texts (g.K.Command.owes c.rounds.command)) c.args.frames.now c.flush_both.new.frames c.flush_both.new.frames c.args.report.now c.flush_both.new.report c.flush_both.new.report all
    (fronts_none g.C.Sink g.R.Sink (total c.flush_both.new.texts (g.K.Command.owes c.rounds.command)) c.flush_both.new.frames c.flush_both.new.report))

pub rounds-preserved : goal.rounds-preserved
rounds-preserved g c =
    let moved = going_more g.C.Sink g.R.Sink c.rounds.flow g.K.Command.refusal (total c.args.texts.now (λ more behind. g.K.Command.owes c.args.command.now (c.args.item.now ∷ more) behind)) (total c.rounds.texts (g.K.Command.owes c.rounds.command)) c.rounds.texts c.args.frames.now c.rounds.frames c.args.report.now c.rounds.report c.in-More.is c.rounds.invariant.goes in
    let wrote = moves_wrote g.C.Sink g.R.Sink (g.K.Command.owes c.rounds.command) c.rounds.texts c.flush_both.new.texts c.rounds.frames c.flush_both.new.frames c.rounds.report c.flush_both.new.report c.in-Ok.ensures.wrote in
    let all = moves_on g.C.Sink g.R.Sink (total c.args.texts.now (λ more behind. g.K.Command.owes c.args.command.now (c.args.item.now ∷ more) behind)) (total c.rounds.texts (g.K.Command.owes c.rounds.command)) (total c.flush_both.new.texts (g.K.Command.owes c.rounds.command)) c.args.frames.now c.rounds.frames c.flush_both.new.frames c.args.report.now c.rounds.report c.flush_both.new.report moved wrote in
    record {
      goes = going g.C.Sink g.R.Sink c.in_ok-flow-2.flow g.K.Command.refusal (total c.args.texts.now (λ more behind. g.K.Command.owes c.args.command.now (c.args.item.now ∷ more) behind)) (g.K.Command.owes c.rounds.command) (g.K.Command.owes c.more.new.self)
          c.flush_both.new.texts c.more.new.texts c.args.frames.now c.flush_both.new.frames c.args.report.now c.flush_both.new.report
          all c.in_ok-flow-2.ensures.did;
      rests = c.in_ok-flow-2.ensures.rests;
      room = omega (arith, c.rounds.invariant.room, c.in_ok-flow-2.ensures.room);
      quiet = quiet_on g.C.Sink g.R.Sink c.args.frames.now c.rounds.frames c.flush_both.new.frames c.args.report.now c.rounds.report c.flush_both.new.report c.rounds.invariant.quiet c.in-Ok.ensures.quiet;
    }
