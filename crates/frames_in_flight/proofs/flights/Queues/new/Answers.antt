use Rattle.std.proofs.Common.{◌∙◌, ◌++◌, ◌∷◌, [], List, sym, ap, arith}
use Rattle.frames_in_flight.specs.declared.flight.Flight.{Flight}
use Rattle.frames_in_flight.proofs.FlightLaws.{one_more_queue}
use Rattle.frames_in_flight.proofs.flights.Queues.new.Goals as goal

pub loop-end-preserved : goal.loop-end-preserved
loop-end-preserved c =
    c.in_ok-push.ensures.items ∙ ap (λ (q : List Flight). c.loop-end.queues.items ++ q ∷ []) c.new.ensures
    ∙ ap (λ (qs : List (List Flight)). qs ++ [] ∷ []) c.loop-end.invariant ∙ sym (one_more_queue c.args.ends.now c.loop-end._end-index (omega arith))
