use Rattle.std.proofs.Common.{sym, subst, inl, inr, ◌≡◌, ◌∙◌}
use Rattle.std.specs.Prelude.{◌⊎◌}
use Rattle.wire_base.specs.declared.status.Status.{Status}
use Rattle.wire_base.specs.declared.status.Status.TheVariants.{Done, ConfRefused, CaptureRefused, ReadFault, WriteFault, Memory}
use Rattle.command_drive.specs.Answer.{IsDecided}
use Rattle.command_drive.specs.Driving.{Drives}
use Rattle.command_drive.specs.Outside.{Meets, AppendsFront}
use Rattle.command_node.specs.Owed.{node_means}
use Rattle.command_node.proofs.Told.{write_fault}
use Rattle.command_node.proofs.Named.{named_so, some_named, answers_so, none_meets, none_front}
use Rattle.command_node.proofs.NodeRecords.{cut_leaves}
use Rattle.command_node.proofs.by_name.node_in.Goals as goal

three_statuses : (ended : Status) → (ended ≡ Done) ⊎ (ended ≡ CaptureRefused) → (ended ≡ Done) ⊎ ((ended ≡ ConfRefused) ⊎ (ended ≡ CaptureRefused))
three_statuses ended (inl done) = inl done
three_statuses ended (inr refused) = inr (inr refused)

not_refused : (ended : Status) → ended ≡ ConfRefused → (ended ≡ Done) ⊎ (ended ≡ CaptureRefused) → ⊥
not_refused ended is (inl done) = no (sym is ∙ done)
  where
    no : ConfRefused ≡ Done → ⊥
    no e = cc
not_refused ended is (inr refused) = no (sym is ∙ refused)
  where
    no : ConfRefused ≡ CaptureRefused → ⊥
    no e = cc

no_write : (ended : Status) → (ended ≡ Done) ⊎ (ended ≡ CaptureRefused) → ended ≡ WriteFault → ⊥
no_write ended (inl is) e = no (sym is ∙ e)
  where
    no : Done ≡ WriteFault → ⊥
    no e = cc
no_write ended (inr is) e = no (sym is ∙ e)
  where
    no : CaptureRefused ≡ WriteFault → ⊥
    no e = cc

no_memory : (ended : Status) → (ended ≡ Done) ⊎ (ended ≡ CaptureRefused) → ended ≡ Memory → ⊥
no_memory ended (inl is) e = no (sym is ∙ e)
  where
    no : Done ≡ Memory → ⊥
    no e = cc
no_memory ended (inr is) e = no (sym is ∙ e)
  where
    no : CaptureRefused ≡ Memory → ⊥
    no e = cc

apart_write : ReadFault ≡ WriteFault → ⊥
apart_write e = cc

apart_memory : ReadFault ≡ Memory → ⊥
apart_memory e = cc

pub returns-in-Some-clause-answer : goal.returns-in-Some-clause-answer
returns-in-Some-clause-answer g c decided =
    let named = named_so c.args.domain.now c.args.router.now c.in-Some.place (λ own. Drives g.S.Source g.C.Sink g.R.Sink CaptureRefused (node_means own) c.node.result c.args.input.now c.node.new.input c.args.frames.now c.node.new.frames c.args.report.now c.node.new.report)
    (sym c.in-Some.ensures.value) c.in-Some.ensures.within c.node.ensures in
    let answer = named.2.answer decided in
    answers_so c.args.domain.now c.args.router.now named.0 (g.S.Source.left c.args.input.now) (λ owed. Meets owed c.node.result (g.R.Sink.written c.args.report.now) (g.R.Sink.written c.node.new.report) (g.C.Sink.written c.args.frames.now) (g.C.Sink.written c.node.new.frames)) named.1 answer

pub returns-in-Some-clause-front : goal.returns-in-Some-clause-front
returns-in-Some-clause-front g c stopped =
    let named = named_so c.args.domain.now c.args.router.now c.in-Some.place (λ own. Drives g.S.Source g.C.Sink g.R.Sink CaptureRefused (node_means own) c.node.result c.args.input.now c.node.new.input c.args.frames.now c.node.new.frames c.args.report.now c.node.new.report)
    (sym c.in-Some.ensures.value) c.in-Some.ensures.within c.node.ensures in
    let front = named.2.front stopped in
    answers_so c.args.domain.now c.args.router.now named.0 (g.S.Source.left c.args.input.now)
    (λ owed. AppendsFront (g.R.Sink.written c.args.report.now) (g.R.Sink.written c.node.new.report) owed.report × AppendsFront (g.C.Sink.written c.args.frames.now) (g.C.Sink.written c.node.new.frames) owed.frames) named.1 front

pub returns-in-Some-clause-accepted : goal.returns-in-Some-clause-accepted
returns-in-Some-clause-accepted g c = inr (some_named c.args.domain.now _ c.in-Some.place (sym c.in-Some.ensures.value) c.in-Some.ensures.within)

pub returns-in-Some-clause-stopped : goal.returns-in-Some-clause-stopped
returns-in-Some-clause-stopped g c failed =
    let named = named_so c.args.domain.now c.args.router.now c.in-Some.place (λ own. Drives g.S.Source g.C.Sink g.R.Sink CaptureRefused (node_means own) c.node.result c.args.input.now c.node.new.input c.args.frames.now c.node.new.frames c.args.report.now c.node.new.report)
    (sym c.in-Some.ensures.value) c.in-Some.ensures.within c.node.ensures in
    let cut = named.2.stopped failed in
    let left = cut_leaves named.0 cut.0 c.node.result (g.R.Sink.written c.args.report.now) (g.R.Sink.written c.node.new.report) (g.C.Sink.written c.args.frames.now) (g.C.Sink.written c.node.new.frames) failed cut.2 in
    (named.0, named.1, (cut.0, cut.1, left.0, left.1, left.2))

pub returns-in-Some-clause-statuses : goal.returns-in-Some-clause-statuses
returns-in-Some-clause-statuses g c decided =
    let named = named_so c.args.domain.now c.args.router.now c.in-Some.place (λ own. Drives g.S.Source g.C.Sink g.R.Sink CaptureRefused (node_means own) c.node.result c.args.input.now c.node.new.input c.args.frames.now c.node.new.frames c.args.report.now c.node.new.report)
    (sym c.in-Some.ensures.value) c.in-Some.ensures.within c.node.ensures in
    three_statuses c.node.result (named.2.statuses decided)

pub returns-in-Some-clause-all : goal.returns-in-Some-clause-all
returns-in-Some-clause-all g c =
    let named = named_so c.args.domain.now c.args.router.now c.in-Some.place (λ own. Drives g.S.Source g.C.Sink g.R.Sink CaptureRefused (node_means own) c.node.result c.args.input.now c.node.new.input c.args.frames.now c.node.new.frames c.args.report.now c.node.new.report)
    (sym c.in-Some.ensures.value) c.in-Some.ensures.within c.node.ensures in
    named.2.done_whole

pub returns-in-Some-clause-read : goal.returns-in-Some-clause-read
returns-in-Some-clause-read g c =
    let named = named_so c.args.domain.now c.args.router.now c.in-Some.place (λ own. Drives g.S.Source g.C.Sink g.R.Sink CaptureRefused (node_means own) c.node.result c.args.input.now c.node.new.input c.args.frames.now c.node.new.frames c.args.report.now c.node.new.report)
    (sym c.in-Some.ensures.value) c.in-Some.ensures.within c.node.ensures in
    named.2.read

pub returns-in-Some-clause-write : goal.returns-in-Some-clause-write
returns-in-Some-clause-write g c =
    let named = named_so c.args.domain.now c.args.router.now c.in-Some.place (λ own. Drives g.S.Source g.C.Sink g.R.Sink CaptureRefused (node_means own) c.node.result c.args.input.now c.node.new.input c.args.frames.now c.node.new.frames c.args.report.now c.node.new.report)
    (sym c.in-Some.ensures.value) c.in-Some.ensures.within c.node.ensures in
    named.2.write

pub returns-in-Some-clause-input_quiet : goal.returns-in-Some-clause-input_quiet
returns-in-Some-clause-input_quiet g c =
    let named = named_so c.args.domain.now c.args.router.now c.in-Some.place (λ own. Drives g.S.Source g.C.Sink g.R.Sink CaptureRefused (node_means own) c.node.result c.args.input.now c.node.new.input c.args.frames.now c.node.new.frames c.args.report.now c.node.new.report)
    (sym c.in-Some.ensures.value) c.in-Some.ensures.within c.node.ensures in
    named.2.input_quiet

pub returns-in-Some-clause-frames_quiet : goal.returns-in-Some-clause-frames_quiet
returns-in-Some-clause-frames_quiet g c other =
    let named = named_so c.args.domain.now c.args.router.now c.in-Some.place (λ own. Drives g.S.Source g.C.Sink g.R.Sink CaptureRefused (node_means own) c.node.result c.args.input.now c.node.new.input c.args.frames.now c.node.new.frames c.args.report.now c.node.new.report)
    (sym c.in-Some.ensures.value) c.in-Some.ensures.within c.node.ensures in
    (named.2.sinks_quiet other).frames_faults

pub returns-in-Some-clause-frames_take : goal.returns-in-Some-clause-frames_take
returns-in-Some-clause-frames_take g c other =
    let named = named_so c.args.domain.now c.args.router.now c.in-Some.place (λ own. Drives g.S.Source g.C.Sink g.R.Sink CaptureRefused (node_means own) c.node.result c.args.input.now c.node.new.input c.args.frames.now c.node.new.frames c.args.report.now c.node.new.report)
    (sym c.in-Some.ensures.value) c.in-Some.ensures.within c.node.ensures in
    (named.2.sinks_quiet other).frames_zeros

pub returns-in-Some-clause-report_quiet : goal.returns-in-Some-clause-report_quiet
returns-in-Some-clause-report_quiet g c other =
    let named = named_so c.args.domain.now c.args.router.now c.in-Some.place (λ own. Drives g.S.Source g.C.Sink g.R.Sink CaptureRefused (node_means own) c.node.result c.args.input.now c.node.new.input c.args.frames.now c.node.new.frames c.args.report.now c.node.new.report)
    (sym c.in-Some.ensures.value) c.in-Some.ensures.within c.node.ensures in
    (named.2.sinks_quiet other).report_faults

pub returns-in-Some-clause-report_takes : goal.returns-in-Some-clause-report_takes
returns-in-Some-clause-report_takes g c other =
    let named = named_so c.args.domain.now c.args.router.now c.in-Some.place (λ own. Drives g.S.Source g.C.Sink g.R.Sink CaptureRefused (node_means own) c.node.result c.args.input.now c.node.new.input c.args.frames.now c.node.new.frames c.args.report.now c.node.new.report)
    (sym c.in-Some.ensures.value) c.in-Some.ensures.within c.node.ensures in
    (named.2.sinks_quiet other).report_zeros

pub returns-in-Some-clause-refused : goal.returns-in-Some-clause-refused
returns-in-Some-clause-refused g c is =
    let named = named_so c.args.domain.now c.args.router.now c.in-Some.place (λ own. Drives g.S.Source g.C.Sink g.R.Sink CaptureRefused (node_means own) c.node.result c.args.input.now c.node.new.input c.args.frames.now c.node.new.frames c.args.report.now c.node.new.report)
    (sym c.in-Some.ensures.value) c.in-Some.ensures.within c.node.ensures in
    absurd (not_refused c.node.result is (named.2.statuses (subst IsDecided (sym is) tt)))

pub returns-in-Some-clause-capture_finished : goal.returns-in-Some-clause-capture_finished
returns-in-Some-clause-capture_finished g c is =
    let named = named_so c.args.domain.now c.args.router.now c.in-Some.place (λ own. Drives g.S.Source g.C.Sink g.R.Sink CaptureRefused (node_means own) c.node.result c.args.input.now c.node.new.input c.args.frames.now c.node.new.frames c.args.report.now c.node.new.report)
    (sym c.in-Some.ensures.value) c.in-Some.ensures.within c.node.ensures in
    named.2.frames_finished (no_write c.node.result is) (no_memory c.node.result is)

pub returns-in-Some-clause-frames_finished : goal.returns-in-Some-clause-frames_finished
returns-in-Some-clause-frames_finished g c a b =
    let named = named_so c.args.domain.now c.args.router.now c.in-Some.place (λ own. Drives g.S.Source g.C.Sink g.R.Sink CaptureRefused (node_means own) c.node.result c.args.input.now c.node.new.input c.args.frames.now c.node.new.frames c.args.report.now c.node.new.report)
    (sym c.in-Some.ensures.value) c.in-Some.ensures.within c.node.ensures in
    inr (named.2.frames_finished a b)

pub returns-in-Some-clause-report_finished : goal.returns-in-Some-clause-report_finished
returns-in-Some-clause-report_finished g c =
    let named = named_so c.args.domain.now c.args.router.now c.in-Some.place (λ own. Drives g.S.Source g.C.Sink g.R.Sink CaptureRefused (node_means own) c.node.result c.args.input.now c.node.new.input c.args.frames.now c.node.new.frames c.args.report.now c.node.new.report)
    (sym c.in-Some.ensures.value) c.in-Some.ensures.within c.node.ensures in
    named.2.report_finished

pub returns-in-Some-clause-both_finished : goal.returns-in-Some-clause-both_finished
returns-in-Some-clause-both_finished g c is =
    let named = named_so c.args.domain.now c.args.router.now c.in-Some.place (λ own. Drives g.S.Source g.C.Sink g.R.Sink CaptureRefused (node_means own) c.node.result c.args.input.now c.node.new.input c.args.frames.now c.node.new.frames c.args.report.now c.node.new.report)
    (sym c.in-Some.ensures.value) c.in-Some.ensures.within c.node.ensures in
    (named.2.frames_finished (λ e. apart_write (sym is ∙ e)) (λ e. apart_memory (sym is ∙ e)), named.2.report_finished (λ e. apart_write (sym is ∙ e)) (λ e. apart_memory (sym is ∙ e)))

pub returns-in-None-clause-answer : goal.returns-in-None-clause-answer
returns-in-None-clause-answer g c decided =
    none_meets c.args.domain.now _ (g.S.Source.left c.args.input.now) (g.R.Sink.written c.args.report.now) (g.R.Sink.written c.deliver.new.report) (g.C.Sink.written c.args.frames.now) c.deliver.result
    (sym c.in-None.ensures.value) decided c.deliver.ensures.status (c.deliver.ensures.written decided)

pub returns-in-None-clause-front : goal.returns-in-None-clause-front
returns-in-None-clause-front g c stopped =
    none_front c.args.domain.now _ (g.S.Source.left c.args.input.now) (g.R.Sink.written c.args.report.now) (g.R.Sink.written c.deliver.new.report) (g.C.Sink.written c.args.frames.now)
    (sym c.in-None.ensures.value) (c.deliver.ensures.front (write_fault _ c.deliver.result tt c.deliver.ensures.status stopped))
