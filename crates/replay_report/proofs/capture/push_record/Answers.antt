use Rattle.std.proofs.Common.{ℕ, List, ◌++◌, refl, sym, ap, ◌∙◌}
use Rattle.std.proofs.lemmas.Result.{on_ok_weaker}
use Rattle.replay_report.proofs.RecordLaws.{record_by}
use Rattle.replay_report.proofs.capture.push_record.Goals as goal

pub returns-clause-ok : goal.returns-clause-ok
returns-clause-ok c =
    let f = c.args.frame.now in
    on_ok_weaker c.push_frame.result
    (λ is. is
    ∙ ap (λ (l : List ℕ). c.args.out.now ++ l)
    (record_by c.args.recording c.args.routers.now c.args.line f f.from f.to c.interface_at-interface.result c.as_slice.result.now refl refl (sym c.as_slice.ensures) c.interface_at-interface.ensures))
    c.push_frame.ensures.ok
