-- A send that changes nothing but the number of events.
use Rattle.std.specs.Prelude.{◌≡◌, ℕ, None}
use Rattle.replay_text.specs.declared.event.Event.TheVariants.{Send}
use Rattle.frames_in_flight.specs.Told.{told}
use Rattle.domain_model.specs.Faults.{rule_fault}
use Rattle.domain_model.specs.Step.{doing}
use Rattle.domain_model.specs.World.{WorldState}
use Rattle.domain_core.specs.Answers.{outcome}

-- A send from one router to another breaks no rule but that on the number of events. It leaves the world unchanged, and
-- there is nothing to report of it.
pub record IsIdleSend (w : WorldState) (a b : ℕ) : Type 0 where
  pub allowed : rule_fault w (Send a b) ≡ None
  pub world : (doing w (Send a b)).world ≡ w
  pub answer : outcome None ≡ told w.domain.routers (doing w (Send a b)).made
