use Rattle.std.proofs.Common.{◌∙◌, ◌-◌, ℕ, ap, arith}
use Rattle.frames_in_flight.specs.Flights.{without_frame}
use Rattle.frames_in_flight.proofs.FlightLaws.{taken_back, none_put}
use Rattle.frames_in_flight.proofs.flights.Flights.pop.Goals as goal

pub returns-then-count-gt0 : goal.returns-then-count-gt0
returns-then-count-gt0 c =
    λ f before is.
    c.remove.ensures ∙ ap (λ (n : ℕ). without_frame c.args.self.now c.args.place c.args.link (n - 1)) c.len-count.ensures
    ∙ taken_back c.args.self.now before c.args.place c.args.link f is

pub returns-else-count-gt0 : goal.returns-else-count-gt0
returns-else-count-gt0 c = λ f before is. none_put c.args.self.now before c.args.place c.args.link f is (omega (arith, c.len-count.ensures))
