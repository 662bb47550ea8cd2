use Rattle.std.proofs.Common.{rules, subst, ◌∙◌, arith}
use Rattle.command_line.specs.Form as form
use Rattle.command_line.specs.Words.{router_in}
use Rattle.command_line.proofs.Forms.{form_known, router_known}
use Rattle.command_drive.specs.Outside.{Meets, AppendsFront}
use Rattle.std.specs.Prelude.{IfSome}
use Rattle.wire_base.specs.declared.conf.Level.{Level}
use Rattle.command_topo.specs.TopoText.{topo_answer, IsGathered}
use Rattle.command_topo.proofs.Steps as gathering
use Rattle.replay_run.specs.Endings.{DoneOrMemory}
use Rattle.replay_run.specs.Faults.{SourceIsQuiet, SinkIsQuiet}
use Rattle.replay_run.specs.Verdict.{query_of}
use Rattle.replay_run.proofs.Owed.{in_form, hop_is, headers_is, topo_is, topo_known, input_meets, input_front, input_done, hop_reports, grow_meets, grow_front, grow_done, usage_meets, usage_front}
use Rattle.command_node.proofs.Told.{write_fault}
use Rattle.command_headers.specs.HeadersText.{headers_answer, IsRead}
use Rattle.command_headers.proofs.Steps.{cut_leaves, read_done}
use Rattle.command_hop.specs.HopText.{hop_answer, IsAllowed}
use Rattle.command_hop.proofs.Inputs.{allowed_done}
use Rattle.replay_run.proofs.Answered.{Stopped, answers_by}
use Rattle.replay_run.proofs.Quiet.{read_not_write, read_not_memory, quiet_sink}
use Rattle.replay_run.proofs.Replays.{replay_done, in_replay}
use Rattle.replay_run.proofs.RunsDone.{run_done}
use Rattle.replay_run.proofs.Nodes.{in_node, node_run_done}
use Rattle.replay_run.specs.Kept.{IsKept}
use Rattle.replay_run.proofs.Schedules.{is_kept}
use Rattle.replay_run.proofs.Grown.{grown_from}
use Rattle.replay_run.proofs.top.run.Goals as goal

-- ---- arguments of the form Replay

pub returns-in-Replay-clause-answers : goal.returns-in-Replay-clause-answers
returns-in-Replay-clause-answers g c =
    answers_by
    (λ decided.
    in_replay c.in-Replay.kind _ _ (g.D.Source.left c.args.conf.now) (g.S.Source.left c.args.input.now) (λ owed. Meets owed c.replay.result (g.R.Sink.written c.args.report.now) (g.R.Sink.written c.replay.new.report) (g.C.Sink.written c.args.frames.now) (g.C.Sink.written c.replay.new.frames)) (form_known _ _ _ c.parse.ensures.value c.in-Replay.is)
    (c.replay.ensures.does.answer decided))
    (search rules) (search rules) (search rules) (search rules)

pub returns-in-Replay-clause-completes : goal.returns-in-Replay-clause-completes
returns-in-Replay-clause-completes g c =
    let replay_complete =
    replay_done c.in-Replay.kind (g.D.Source.left c.args.conf.now) (g.S.Source.left c.args.input.now) (g.R.Sink.written c.args.report.now) (g.R.Sink.written c.replay.new.report) (g.C.Sink.written c.args.frames.now) (g.C.Sink.written c.replay.new.frames) c.replay.result
    _ (returns-in-Replay-clause-answers g c).decided c.replay.ensures.does.answer in
    search rules

pub returns-in-Replay-clause-leaves : goal.returns-in-Replay-clause-leaves
returns-in-Replay-clause-leaves g c =
    let front = λ (stopped : Stopped c.replay.result).
    in_replay c.in-Replay.kind _ (router_in c.args.words.now) (g.D.Source.left c.args.conf.now) (g.S.Source.left c.args.input.now) (λ owed. AppendsFront (g.R.Sink.written c.args.report.now) (g.R.Sink.written c.replay.new.report) owed.report × AppendsFront (g.C.Sink.written c.args.frames.now) (g.C.Sink.written c.replay.new.frames) owed.frames) (form_known _ _ _ c.parse.ensures.value c.in-Replay.is) (c.replay.ensures.does.front stopped) in
    search rules

pub returns-in-Replay-clause-promises : goal.returns-in-Replay-clause-promises
returns-in-Replay-clause-promises g c =
    let replay_run =
    run_done g.D.Source g.S.Source g.C.Sink g.R.Sink c.in-Replay.kind c.args.conf.now c.replay.new.conf c.args.input.now c.replay.new.input c.args.frames.now c.replay.new.frames c.args.report.now c.replay.new.report
    (IsKept c.in-Replay.kind) (is_kept c.replays_keep_promises.ensures.read c.checks_keep_promises.ensures c.handshakes_keep_promises.ensures c.interfaces_follow_adjacencies.ensures c.quiet_answers_hold.ensures c.cover_answers_hold.ensures c.settle_lines_make_quiet.ensures.quiet c.settle_lines_make_quiet.ensures.idle c.settle_lines_make_checks_quiet.ensures.quiet c.settle_lines_make_checks_quiet.ensures.idle c.in-Replay.kind) c.replay.result c.replay.ensures.does.answer c.replay.ensures.leaves in
    search rules

-- ---- arguments of the form Node

pub returns-in-Node-clause-answers : goal.returns-in-Node-clause-answers
returns-in-Node-clause-answers g c =
    answers_by
    (λ decided.
    in_node _ _ _ (g.D.Source.left c.args.conf.now) (g.S.Source.left c.args.input.now) (λ owed. Meets owed c.node.result (g.R.Sink.written c.args.report.now) (g.R.Sink.written c.node.new.report) (g.C.Sink.written c.args.frames.now) (g.C.Sink.written c.node.new.frames)) (form_known _ _ _ c.parse.ensures.value c.in-Node.is)
    (c.as_bytes.ensures.value ∙ router_known _ _ _ c.parse.ensures.value c.in-Node.is) (c.node.ensures.does.answer decided))
    (search rules) (search rules) (search rules) (search rules)

pub returns-in-Node-clause-completes : goal.returns-in-Node-clause-completes
returns-in-Node-clause-completes g c =
    let node_complete =
    node_run_done _ _ (g.D.Source.left c.args.conf.now) (g.S.Source.left c.args.input.now) (g.R.Sink.written c.args.report.now) (g.R.Sink.written c.node.new.report) (g.C.Sink.written c.args.frames.now) (g.C.Sink.written c.node.new.frames) c.node.result
    _ (c.as_bytes.ensures.value ∙ router_known _ _ _ c.parse.ensures.value c.in-Node.is) (returns-in-Node-clause-answers g c).decided c.node.ensures.does.answer in
    search rules

pub returns-in-Node-clause-leaves : goal.returns-in-Node-clause-leaves
returns-in-Node-clause-leaves g c = record {
  finished = search rules;
  frames_finished = search rules;
  replay_leaves = search rules;
  node_leaves = λ is. rw (← (c.as_bytes.ensures.value ∙ router_known _ _ _ c.parse.ensures.value c.in-Node.is)) c.node.ensures.leaves;
  hop_leaves = search rules;
  headers_leaves = search rules;
  topo_leaves = search rules;
  front = λ stopped.
      in_node _ _ _ (g.D.Source.left c.args.conf.now) (g.S.Source.left c.args.input.now) (λ owed. AppendsFront (g.R.Sink.written c.args.report.now) (g.R.Sink.written c.node.new.report) owed.report × AppendsFront (g.C.Sink.written c.args.frames.now) (g.C.Sink.written c.node.new.frames) owed.frames) (form_known _ _ _ c.parse.ensures.value c.in-Node.is)
      (c.as_bytes.ensures.value ∙ router_known _ _ _ c.parse.ensures.value c.in-Node.is) (c.node.ensures.does.front stopped);
  alone = search rules;
}

-- ---- arguments of the form Hop

pub returns-in-Hop-clause-answers : goal.returns-in-Hop-clause-answers
returns-in-Hop-clause-answers g c =
    answers_by
    (λ decided.
    in_form _ form.Hop _ (g.D.Source.left c.args.conf.now) (g.S.Source.left c.args.input.now) (λ owed. Meets owed c.run_hop.result (g.R.Sink.written c.args.report.now) (g.R.Sink.written c.run_hop.new.report) (g.C.Sink.written c.args.frames.now) (g.C.Sink.written c.args.frames.now)) (form_known _ _ _ c.parse.ensures.value c.in-Hop.is)
    (input_meets form.Hop hop_answer hop_is _ (g.D.Source.left c.args.conf.now) (g.S.Source.left c.args.input.now) (g.R.Sink.written c.args.report.now) (g.R.Sink.written c.run_hop.new.report) (g.C.Sink.written c.args.frames.now) c.run_hop.result (c.run_hop.ensures.answer decided)))
    (search rules) (search rules) (search rules) (search rules)

pub returns-in-Hop-clause-completes : goal.returns-in-Hop-clause-completes
returns-in-Hop-clause-completes g c =
    let hop_complete =
    quiet_sink g.R.Sink c.args.report.now c.run_hop.new.report (g.S.Source.left c.args.input.now) _ _ _
    (input_done hop_answer IsAllowed allowed_done c.run_hop.result (g.S.Source.left c.args.input.now) (g.R.Sink.written c.args.report.now) (g.R.Sink.written c.run_hop.new.report) _ _ _ _ _ _ c.run_hop.ensures.answer c.run_hop.ensures.read c.run_hop.ensures.write) in
    search rules

pub returns-in-Hop-clause-leaves : goal.returns-in-Hop-clause-leaves
returns-in-Hop-clause-leaves g c =
    let front = λ (stopped : Stopped c.run_hop.result).
    in_form _ form.Hop (router_in c.args.words.now) (g.D.Source.left c.args.conf.now) (g.S.Source.left c.args.input.now) (λ owed. AppendsFront (g.R.Sink.written c.args.report.now) (g.R.Sink.written c.run_hop.new.report) owed.report × AppendsFront (g.C.Sink.written c.args.frames.now) (g.C.Sink.written c.args.frames.now) owed.frames) (form_known _ _ _ c.parse.ensures.value c.in-Hop.is)
    (input_front form.Hop hop_answer hop_is _ (g.D.Source.left c.args.conf.now) (g.S.Source.left c.args.input.now) (g.R.Sink.written c.args.report.now) (g.R.Sink.written c.run_hop.new.report) (g.C.Sink.written c.args.frames.now) (c.run_hop.ensures.front stopped)) in
    search rules

pub returns-in-Hop-clause-promises : goal.returns-in-Hop-clause-promises
returns-in-Hop-clause-promises g c = record {
  hop_parts = λ is decided. hop_reports (g.S.Source.left c.args.input.now) (g.R.Sink.written c.args.report.now) (g.R.Sink.written c.run_hop.new.report) c.run_hop.result (c.run_hop.ensures.answer decided);
  replay_run = search rules;
  grow_run = search rules;
}

-- ---- arguments of the form Headers

pub returns-in-Headers-clause-answers : goal.returns-in-Headers-clause-answers
returns-in-Headers-clause-answers g c =
    answers_by
    (λ decided.
    in_form _ form.Headers _ (g.D.Source.left c.args.conf.now) (g.S.Source.left c.args.input.now) (λ owed. Meets owed c.run_headers.result (g.R.Sink.written c.args.report.now) (g.R.Sink.written c.run_headers.new.report) (g.C.Sink.written c.args.frames.now) (g.C.Sink.written c.args.frames.now)) (form_known _ _ _ c.parse.ensures.value c.in-Headers.is)
    (input_meets form.Headers headers_answer headers_is _ (g.D.Source.left c.args.conf.now) (g.S.Source.left c.args.input.now) (g.R.Sink.written c.args.report.now) (g.R.Sink.written c.run_headers.new.report) (g.C.Sink.written c.args.frames.now) c.run_headers.result (c.run_headers.ensures.answer decided)))
    (search rules) (search rules) (search rules) (search rules)

pub returns-in-Headers-clause-completes : goal.returns-in-Headers-clause-completes
returns-in-Headers-clause-completes g c =
    let headers_complete =
    quiet_sink g.R.Sink c.args.report.now c.run_headers.new.report (g.S.Source.left c.args.input.now) _ _ _
    (input_done headers_answer IsRead read_done c.run_headers.result (g.S.Source.left c.args.input.now) (g.R.Sink.written c.args.report.now) (g.R.Sink.written c.run_headers.new.report) _ _ _ _ _ _ c.run_headers.ensures.answer c.run_headers.ensures.read c.run_headers.ensures.write) in
    search rules

pub returns-in-Headers-clause-leaves : goal.returns-in-Headers-clause-leaves
returns-in-Headers-clause-leaves g c = record {
  finished = search rules;
  frames_finished = search rules;
  replay_leaves = search rules;
  node_leaves = search rules;
  hop_leaves = search rules;
  headers_leaves = λ is.
      record {
        finished = λ failed. c.run_headers.ensures.finished (read_not_write c.run_headers.result failed) (read_not_memory c.run_headers.result failed);
        stopped = λ failed.
            let cut = c.run_headers.ensures.stopped failed in
            let leaves = cut_leaves cut.0 c.run_headers.result (g.R.Sink.written c.args.report.now) (g.R.Sink.written c.run_headers.new.report) failed cut.2 in
            (cut.0, cut.1, leaves.0, leaves.1);
      };
  topo_leaves = search rules;
  front = λ stopped.
      in_form _ form.Headers _ (g.D.Source.left c.args.conf.now) (g.S.Source.left c.args.input.now) (λ owed. AppendsFront (g.R.Sink.written c.args.report.now) (g.R.Sink.written c.run_headers.new.report) owed.report × AppendsFront (g.C.Sink.written c.args.frames.now) (g.C.Sink.written c.args.frames.now) owed.frames) (form_known _ _ _ c.parse.ensures.value c.in-Headers.is)
      (input_front form.Headers headers_answer headers_is _ (g.D.Source.left c.args.conf.now) (g.S.Source.left c.args.input.now) (g.R.Sink.written c.args.report.now) (g.R.Sink.written c.run_headers.new.report) (g.C.Sink.written c.args.frames.now) (c.run_headers.ensures.front stopped));
  alone = search rules;
}

-- ---- arguments of the form Grow

pub returns-in-Grow-clause-answers : goal.returns-in-Grow-clause-answers
returns-in-Grow-clause-answers g c =
    answers_by
    (λ decided.
    in_form _ (form.Grow c.in-Grow.routers) _ (g.D.Source.left c.args.conf.now) (g.S.Source.left c.args.input.now) (λ owed. Meets owed c.grow.result (g.R.Sink.written c.args.report.now) (g.R.Sink.written c.grow.new.report) (g.C.Sink.written c.args.frames.now) (g.C.Sink.written c.args.frames.now)) (form_known _ _ _ c.parse.ensures.value c.in-Grow.is)
    (grow_meets c.in-Grow.routers _ (g.D.Source.left c.args.conf.now) (g.S.Source.left c.args.input.now) (g.R.Sink.written c.args.report.now) (g.R.Sink.written c.grow.new.report) (g.C.Sink.written c.args.frames.now) c.grow.result (c.grow.ensures.answer decided).2))
    (search rules) (search rules) (search rules) (search rules)

pub returns-in-Grow-clause-completes : goal.returns-in-Grow-clause-completes
returns-in-Grow-clause-completes g c = record {
  replay_complete = search rules;
  node_complete = search rules;
  hop_complete = search rules;
  headers_complete = search rules;
  topo_complete = search rules;
  grow_complete = λ n is goes quiet.
      grow_done c.in-Grow.routers n _ c.grow.result (g.R.Sink.written c.args.report.now) (g.R.Sink.written c.grow.new.report) _ _ _ _ (form_known _ _ _ c.parse.ensures.value c.in-Grow.is) is
      (λ decided. (c.grow.ensures.answer decided).2) (λ read. let rose = c.grow.ensures.read read in absurd (omega (arith, rose))) c.grow.ensures.write goes quiet.faults quiet.zeros;
}

pub returns-in-Grow-clause-leaves : goal.returns-in-Grow-clause-leaves
returns-in-Grow-clause-leaves g c =
    let front = λ (stopped : Stopped c.grow.result).
    in_form _ (form.Grow c.in-Grow.routers) (router_in c.args.words.now) (g.D.Source.left c.args.conf.now) (g.S.Source.left c.args.input.now) (λ owed. AppendsFront (g.R.Sink.written c.args.report.now) (g.R.Sink.written c.grow.new.report) owed.report × AppendsFront (g.C.Sink.written c.args.frames.now) (g.C.Sink.written c.args.frames.now) owed.frames) (form_known _ _ _ c.parse.ensures.value c.in-Grow.is)
    (grow_front c.in-Grow.routers _ (g.D.Source.left c.args.conf.now) (g.S.Source.left c.args.input.now) (g.R.Sink.written c.args.report.now) (g.R.Sink.written c.grow.new.report) (g.C.Sink.written c.args.frames.now) (c.grow.ensures.front stopped).2) in
    search rules

pub returns-in-Grow-clause-promises : goal.returns-in-Grow-clause-promises
returns-in-Grow-clause-promises g c = record {
  hop_parts = search rules;
  replay_run = search rules;
  grow_run = λ n is. grown_from c.replays_keep_promises.ensures.made _ c.in-Grow.routers n (form_known _ _ _ c.parse.ensures.value c.in-Grow.is) (c.parse.ensures.some c.in-Grow.routers c.in-Grow.is) (c.parse.ensures.few c.in-Grow.routers c.in-Grow.is) is;
}

-- ---- arguments of the form Topo

pub returns-in-Topo-clause-answers : goal.returns-in-Topo-clause-answers
returns-in-Topo-clause-answers g c =
    let a = c.in-Topo in
    answers_by
    (λ decided.
    in_form _ (form.Topo a.level a.mt a.from) _ (g.D.Source.left c.args.conf.now) (g.S.Source.left c.args.input.now) (λ owed. Meets owed c.run_topo.result (g.R.Sink.written c.args.report.now) (g.R.Sink.written c.run_topo.new.report) (g.C.Sink.written c.args.frames.now) (g.C.Sink.written c.args.frames.now)) (form_known _ _ _ c.parse.ensures.value a.is)
    (input_meets (form.Topo a.level a.mt a.from) (topo_answer (query_of a.level a.mt a.from)) (topo_is a.level a.mt a.from) _ (g.D.Source.left c.args.conf.now) (g.S.Source.left c.args.input.now) (g.R.Sink.written c.args.report.now) (g.R.Sink.written c.run_topo.new.report) (g.C.Sink.written c.args.frames.now) c.run_topo.result (c.run_topo.ensures.answer decided)))
    (search rules) (search rules) (search rules) (search rules)

pub returns-in-Topo-clause-completes : goal.returns-in-Topo-clause-completes
returns-in-Topo-clause-completes g c = record {
  replay_complete = search rules;
  node_complete = search rules;
  hop_complete = search rules;
  headers_complete = search rules;
  topo_complete = λ level mt from is.
      let a = c.in-Topo in
      let known = topo_known _ (form_known _ _ _ c.parse.ensures.value a.is) is in
      subst (λ (of : Level). IfSome (g.S.Source.left c.args.input.now) (λ octets. IsGathered of octets → SourceIsQuiet g.S.Source c.args.input.now c.run_topo.new.input
      → SinkIsQuiet g.R.Sink c.args.report.now c.run_topo.new.report → DoneOrMemory c.run_topo.result)) known.0
      (quiet_sink g.R.Sink c.args.report.now c.run_topo.new.report (g.S.Source.left c.args.input.now) _ _ _
      (input_done (topo_answer (query_of a.level a.mt a.from)) (IsGathered a.level) (gathering.gathered_done (query_of a.level a.mt a.from)) c.run_topo.result (g.S.Source.left c.args.input.now) (g.R.Sink.written c.args.report.now) (g.R.Sink.written c.run_topo.new.report) _ _ _ _ _ _ c.run_topo.ensures.answer c.run_topo.ensures.read c.run_topo.ensures.write));
  grow_complete = search rules;
}

pub returns-in-Topo-clause-leaves : goal.returns-in-Topo-clause-leaves
returns-in-Topo-clause-leaves g c = record {
  finished = search rules;
  frames_finished = search rules;
  replay_leaves = search rules;
  node_leaves = search rules;
  hop_leaves = search rules;
  headers_leaves = search rules;
  topo_leaves = λ is.
      record {
        finished = λ failed. c.run_topo.ensures.finished (read_not_write c.run_topo.result failed) (read_not_memory c.run_topo.result failed);
        stopped = λ failed.
            let cut = c.run_topo.ensures.stopped failed in
            let a = c.in-Topo in
            let leaves = gathering.cut_leaves (query_of a.level a.mt a.from) cut.0 c.run_topo.result (g.R.Sink.written c.args.report.now) (g.R.Sink.written c.run_topo.new.report) failed cut.2 in
            (cut.0, cut.1, leaves.0, leaves.1);
      };
  front = λ stopped.
      let a = c.in-Topo in
      in_form _ (form.Topo a.level a.mt a.from) _ (g.D.Source.left c.args.conf.now) (g.S.Source.left c.args.input.now) (λ owed. AppendsFront (g.R.Sink.written c.args.report.now) (g.R.Sink.written c.run_topo.new.report) owed.report × AppendsFront (g.C.Sink.written c.args.frames.now) (g.C.Sink.written c.args.frames.now) owed.frames) (form_known _ _ _ c.parse.ensures.value a.is)
      (input_front (form.Topo a.level a.mt a.from) (topo_answer (query_of a.level a.mt a.from)) (topo_is a.level a.mt a.from) _ (g.D.Source.left c.args.conf.now) (g.S.Source.left c.args.input.now) (g.R.Sink.written c.args.report.now) (g.R.Sink.written c.run_topo.new.report) (g.C.Sink.written c.args.frames.now) (c.run_topo.ensures.front stopped));
  alone = search rules;
}

-- ---- arguments of the form Unknown

pub returns-in-Unknown-clause-answers : goal.returns-in-Unknown-clause-answers
returns-in-Unknown-clause-answers g c =
    answers_by
    (λ decided.
    in_form _ form.Unknown _ (g.D.Source.left c.args.conf.now) (g.S.Source.left c.args.input.now) (λ owed. Meets owed c.deliver.result (g.R.Sink.written c.args.report.now) (g.R.Sink.written c.deliver.new.report) (g.C.Sink.written c.args.frames.now) (g.C.Sink.written c.args.frames.now)) (form_known _ _ _ c.parse.ensures.value c.in-Unknown.is)
    (usage_meets _ (g.D.Source.left c.args.conf.now) (g.S.Source.left c.args.input.now) (g.R.Sink.written c.args.report.now) (g.R.Sink.written c.deliver.new.report) (g.C.Sink.written c.args.frames.now) c.deliver.result decided c.deliver.ensures.status (c.deliver.ensures.written decided)))
    (search rules) (search rules) (search rules) (search rules)

pub returns-in-Unknown-clause-leaves : goal.returns-in-Unknown-clause-leaves
returns-in-Unknown-clause-leaves g c =
    let front = λ (stopped : Stopped c.deliver.result).
    in_form _ form.Unknown (router_in c.args.words.now) (g.D.Source.left c.args.conf.now) (g.S.Source.left c.args.input.now) (λ owed. AppendsFront (g.R.Sink.written c.args.report.now) (g.R.Sink.written c.deliver.new.report) owed.report × AppendsFront (g.C.Sink.written c.args.frames.now) (g.C.Sink.written c.args.frames.now) owed.frames) (form_known _ _ _ c.parse.ensures.value c.in-Unknown.is)
    (usage_front _ (g.D.Source.left c.args.conf.now) (g.S.Source.left c.args.input.now) (g.R.Sink.written c.args.report.now) (g.R.Sink.written c.deliver.new.report) (g.C.Sink.written c.args.frames.now) (c.deliver.ensures.front (write_fault _ c.deliver.result tt c.deliver.ensures.status stopped))) in
    search rules
