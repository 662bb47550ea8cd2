-- What a step answers keeps copies on their course.
use Rattle.std.proofs.Common.{◌≡◌, ℕ, length, None, Result, Ok, Err, IfOk, OnOk, MatchResult, sym, subst}
use Rattle.wire_base.specs.model.Control.{Control}
use Rattle.replay_text.specs.declared.event.Event.{Event}
use Rattle.domain_model.specs.declared.fault.EventFault.{EventFault}
use Rattle.domain_model.specs.declared.step_out.StepOut.{StepOut}
use Rattle.domain_model.specs.Faults.{event_fault}
use Rattle.domain_model.specs.Step.{happens}
use Rattle.domain_model.specs.Truth.{IsTruthful, EventFits}
use Rattle.domain_model.specs.World.{WorldState}
use Rattle.laws_ledger.specs.Ledger.{Injection}
use Rattle.laws_course.specs.Course.{Begins, GoesOn}
use Rattle.laws_course.proofs.LawLaws.{begun, gone_on}
use Rattle.laws_course.proofs.WayLaws.{copy_sent}
use Rattle.domain_core.specs.Answers.{Refuses}
use Rattle.frames_in_flight.specs.Told.{told}
use Rattle.domain_core.specs.Course.{Enters, StaysOut, KeepsCourse}

module _ (w : WorldState) (t : IsTruthful w) (e : Event) where
  begins : EventFits (length w.domain.routers) e → event_fault w e ≡ None → (c : Control) (n k : ℕ) (i : Injection) → Enters w e c n k i → Begins w e c n k i
  begins fits ok c n k i h = record {
    truth = t;
    fits = fits;
    allowed = ok;
    enters = h.enters;
    ingress = h.ingress;
    covered = record { reachable = h.reachable; covers = h.covers };
  }

  goes : (c : Control) (n k : ℕ) → (h : StaysOut w e c n k) → GoesOn w e h.place c n k
  goes c n k h = record {
    truth = t;
    ingress = h.ingress;
    agreed = h.agreed;
    made = h.made;
    kept = h.kept;
    harmless = h.harmless;
  }

  event_course : EventFits (length w.domain.routers) e → event_fault w e ≡ None → KeepsCourse w (happens w e).world e (told w.domain.routers (happens w e).made)
  event_course fits ok = record {
    first = λ c n k i h. (begun w e c n k i (begins fits ok c n k i h)).0;
    first_drops = λ c n k i h. (begun w e c n k i (begins fits ok c n k i h)).1;
    later = λ c n k h. (gone_on w e h.place c n k (goes c n k h)).0;
    later_drops = λ c n k h. (gone_on w e h.place c n k (goes c n k h)).1;
    ways = λ a c x y k ks ttl at goes. copy_sent w t a c at x y k goes ks ttl;
  }

pub step_course : (result : Result StepOut EventFault) (w v : WorldState) → IsTruthful w → (e : Event) → EventFits (length w.domain.routers) e
    → MatchResult result (λ _. event_fault w e ≡ None) (λ f. Refuses (event_fault w e) f) → OnOk result (v ≡ (happens w e).world) → IfOk result (λ out. out ≡ told w.domain.routers (happens w e).made)
    → IfOk result (λ out. KeepsCourse w v e out)
step_course (Ok out) w v t e fits allowed next is =
    subst (λ (z : WorldState). KeepsCourse w z e out) (sym next) (subst (λ (o : StepOut). KeepsCourse w (happens w e).world e o) (sym is) (event_course w t e fits allowed))
step_course (Err f) w v t e fits refused next is = tt

-- the same of an answer that isn't made where nothing is reported
pub over_course : {X : Type 0} (says : X → StepOut) (result : Result X EventFault) (w v : WorldState) → IsTruthful w → (e : Event) → EventFits (length w.domain.routers) e
    → MatchResult result (λ _. event_fault w e ≡ None) (λ f. Refuses (event_fault w e) f) → OnOk result (v ≡ (happens w e).world) → IfOk result (λ out. says out ≡ told w.domain.routers (happens w e).made)
    → IfOk result (λ out. KeepsCourse w v e (says out))
over_course says (Ok out) w v t e fits allowed next is = step_course (Ok (says out)) w v t e fits allowed next is
over_course says (Err f) w v t e fits refused next is = tt
