use Rattle.std.proofs.Common.{◌∙◌, ◌+◌, ℕ, sym, ap, take, sum_by}
use Rattle.frames_in_flight.specs.Flights.{item_seen}
use Rattle.domain_model.specs.World.{carried}
use Rattle.frames_in_flight.proofs.QueueLaws.{summed_more}
use Rattle.frames_in_flight.proofs.flights.Queue.ids.Goals as goal

pub frames-preserved : goal.frames-preserved
frames-preserved c =
    c.in_ok-total.ensures
    ∙ ap (λ (n : ℕ). n + c.count_of.result) c.frames.invariant
    ∙ ap (λ (n : ℕ). sum_by (λ f. carried (item_seen c.args.confs.now f)) (take c.frames.i c.args.self.now) + n) c.count_of.ensures
    ∙ sym (summed_more (λ f. carried (item_seen c.args.confs.now f)) c.args.self.now c.frames.i c.at.result c.at.ensures)
