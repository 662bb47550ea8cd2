use Rattle.std.proofs.Common.{rules, subst, ◌∙◌}
use Rattle.std.specs.Io.KnownBytes.{Appends}
use Rattle.command_drive.specs.Answer.{IsDecided}
use Rattle.command_drive.specs.Outside.{Meets, AppendsFront}
use Rattle.command_node.specs.DomainFile.{HasNone}
use Rattle.command_node.proofs.Told.{write_fault}
use Rattle.replay_run.proofs.Replays.{played, refused_meets, refused_front, none_front}
use Rattle.replay_run.proofs.Answered.{Stopped}
use Rattle.replay_run.proofs.schedule.replay.Goals as goal

pub returns-in-Ok-clause-does : goal.returns-in-Ok-clause-does
returns-in-Ok-clause-does g c =
    let answer = λ (decided : IsDecided c.execute.result).
    played c.args.kind (g.D.Source.left c.args.conf.now) (g.S.Source.left c.args.input.now) c.in-Ok.domain
    (λ owed. Meets owed c.execute.result (g.R.Sink.written c.args.report.now) (g.R.Sink.written c.execute.new.report) (g.C.Sink.written c.args.frames.now) (g.C.Sink.written c.execute.new.frames))
    c.in-Ok.ensures.domain (c.execute.ensures.answer decided) in
    let front = λ (stopped : Stopped c.execute.result).
    played c.args.kind (g.D.Source.left c.args.conf.now) (g.S.Source.left c.args.input.now) c.in-Ok.domain
    (λ owed. AppendsFront (g.R.Sink.written c.args.report.now) (g.R.Sink.written c.execute.new.report) owed.report × AppendsFront (g.C.Sink.written c.args.frames.now) (g.C.Sink.written c.execute.new.frames) owed.frames)
    c.in-Ok.ensures.domain (c.execute.ensures.front stopped) in
    search rules

pub returns-in-Err-Refused-clause-does : goal.returns-in-Err-Refused-clause-does
returns-in-Err-Refused-clause-does g c =
    let answer = λ (decided : IsDecided c.deliver.result).
    let none = subst (HasNone (g.D.Source.left c.args.conf.now) (g.D.Source.faults c.args.conf.now) (g.D.Source.faults c.domain_in.new.conf)) c.in-Err-Refused.field-0-is c.in-Err-Refused.ensures.none in
    refused_meets c.args.kind (g.D.Source.left c.args.conf.now) (g.S.Source.left c.args.input.now) (g.R.Sink.written c.args.report.now) (g.R.Sink.written c.deliver.new.report) (g.C.Sink.written c.args.frames.now) c.deliver.result c.in-Err-Refused.line
    none.1 decided c.deliver.ensures.status (subst (Appends (g.R.Sink.written c.args.report.now) (g.R.Sink.written c.deliver.new.report)) (c.as_slice.ensures ∙ c.in-Err-Refused.line-is) (c.deliver.ensures.written decided)) in
    let front = λ (stopped : Stopped c.deliver.result).
    let none = subst (HasNone (g.D.Source.left c.args.conf.now) (g.D.Source.faults c.args.conf.now) (g.D.Source.faults c.domain_in.new.conf)) c.in-Err-Refused.field-0-is c.in-Err-Refused.ensures.none in
    refused_front c.args.kind (g.D.Source.left c.args.conf.now) (g.S.Source.left c.args.input.now) (g.R.Sink.written c.args.report.now) (g.R.Sink.written c.deliver.new.report) (g.C.Sink.written c.args.frames.now) c.in-Err-Refused.line
    none.1 (subst (AppendsFront (g.R.Sink.written c.args.report.now) (g.R.Sink.written c.deliver.new.report)) (c.as_slice.ensures ∙ c.in-Err-Refused.line-is) (c.deliver.ensures.front (write_fault _ c.deliver.result tt c.deliver.ensures.status stopped))) in
    search rules

pub returns-in-Err-Stopped-clause-does : goal.returns-in-Err-Stopped-clause-does
returns-in-Err-Stopped-clause-does g c =
    let front = none_front c.args.kind (g.D.Source.left c.args.conf.now) (g.S.Source.left c.args.input.now) (g.R.Sink.written c.args.report.now) (g.C.Sink.written c.args.frames.now) in
    search rules
