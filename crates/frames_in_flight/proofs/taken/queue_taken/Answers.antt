use Rattle.std.proofs.Common.{◌≡◌, ◌∙◌, ℕ, List, Option, sym, ap}
use Rattle.wire_base.specs.declared.effects.Sent.{Sent}
use Rattle.wire_base.specs.model.OnFrame.{Effects}
use Rattle.domain_model.proofs.QueueLaws.{got_within}
use Rattle.frames_in_flight.specs.declared.flight.Flight.{Flight}
use Rattle.frames_in_flight.specs.Flights.{frames_at, number_of, without_frame, push_after, push_all_sent}
use Rattle.frames_in_flight.proofs.FlightLaws.{goes_after}
use Rattle.frames_in_flight.proofs.taken.queue_taken.Goals as goal

pub returns-clause-ok : goal.returns-clause-ok
returns-clause-ok c =
    let flights = c.args.flights.now in
    let confs = c.args.confs.now in
    let f = c.in-Some.flight in
    let sent : c.send_all.new.flights ≡ push_all_sent confs c.args.at (number_of f) flights c.args.effects.now.sent =
    c.in_ok-send_all.ensures.ok
    ∙ ap (λ (ss : List Sent). push_all_sent confs c.args.at c.number_of-number.result flights ss) (ap (λ (e : Effects). e.sent) c.effects.view_is)
    ∙ ap (λ (o : Option ℕ). push_all_sent confs c.args.at o flights c.args.effects.now.sent) c.number_of-number.ensures in
    c.remove.ensures
    ∙ ap (λ (x : List (List (List Flight))). without_frame x c.args.place c.args.link c.args.i) sent
    ∙ goes_after confs c.args.at (number_of f) c.args.effects.now.sent flights c.args.place c.args.link c.args.i (got_within (frames_at flights c.args.place c.args.link) c.args.i f (sym c.in-Some.ensures))
    ∙ ap (λ (o : Option Flight). push_after confs c.args.at c.args.effects.now.sent flights c.args.place c.args.link c.args.i o) c.in-Some.ensures
