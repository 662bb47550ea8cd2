use Rattle.std.proofs.Common.{drop, sym, ap, ◌∙◌}
use Rattle.live_stream.specs.Events.{names_of, event_at}
use Rattle.live_stream.specs.LiveRun.{happens_if}
use Rattle.live_stream.proofs.HappenLaws.{on_ok_same}
use Rattle.live_stream.proofs.node.read_event.Goals as goal

pub returns-in-Ok : goal.returns-in-Ok
returns-in-Ok c =
    on_ok_same c.do_event.result _ _ _ c.do_event.ensures
    (ap (happens_if c.args.seat.now c.args.captured.now c.args.node.now) (sym c.in-Ok.is ∙ c.in_ok-found.ensures.read ∙ ap (event_at (names_of c.args.seat.now.domain)) (c.content_of.ensures ∙ ap (drop 14) c.as_slice.ensures)))

pub returns-in-Err : goal.returns-in-Err
returns-in-Err c =
    on_ok_same c.refuse.result _ _ _ c.refuse.ensures
    (ap (happens_if c.args.seat.now c.args.captured.now c.args.node.now) (sym c.in-Err.is ∙ c.in_ok-found.ensures.read ∙ ap (event_at (names_of c.args.seat.now.domain)) (c.content_of.ensures ∙ ap (drop 14) c.as_slice.ensures)))
