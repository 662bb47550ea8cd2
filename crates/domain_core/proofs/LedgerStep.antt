-- What a step answers keeps the ledger.
use Rattle.std.proofs.Common.{◌≡◌, length, None, Result, Ok, Err, IfOk, OnOk, MatchResult, sym, subst}
use Rattle.replay_text.specs.declared.event.Event.{Event}
use Rattle.domain_model.specs.declared.fault.EventFault.{EventFault}
use Rattle.domain_model.specs.declared.step_out.StepOut.{StepOut}
use Rattle.domain_model.specs.Faults.{event_fault}
use Rattle.domain_model.specs.Step.{happens}
use Rattle.domain_model.specs.Truth.{IsTruthful, EventFits}
use Rattle.domain_model.specs.World.{WorldState}
use Rattle.laws_ledger.proofs.DeliveryLaws.{later_of, first_of_it}
use Rattle.laws_ledger.proofs.FallLaws.{event_weight, first_is, take_weight}
use Rattle.laws_ledger.proofs.LedgerLaws.{event_balances}
use Rattle.laws_ledger.proofs.TotalLaws.{event_total}
use Rattle.domain_core.specs.Answers.{Refuses}
use Rattle.frames_in_flight.specs.Told.{told}
use Rattle.domain_core.specs.Ledger.{KeepsLedger}

event_keeps : (w : WorldState) → IsTruthful w → (e : Event) → EventFits (length w.domain.routers) e → event_fault w e ≡ None → KeepsLedger w (happens w e).world e (told w.domain.routers (happens w e).made)
event_keeps w t e fits ok = record {
  balanced = λ n k. event_balances n k w e t fits ok;
  total = event_total w e t fits ok;
  first_copies = λ n i is. let k = first_of_it n i w e t is in k.copies;
  first_deliveries = λ n i is. let k = first_of_it n i w e t is in k.delivered;
  copies = λ n i made all. let k = later_of n i w e t made all in k.copies;
  deliveries = λ n i made all. let k = later_of n i w e t made all in k.delivered;
  first_weight_is = λ n i is. first_is n w t e i fits ok is;
  take_lowers = λ n h. take_weight n w t e h;
  none_raises = λ n not. event_weight n w t e not;
}

pub step_keeps : (result : Result StepOut EventFault) (w v : WorldState) → IsTruthful w → (e : Event) → EventFits (length w.domain.routers) e
    → MatchResult result (λ _. event_fault w e ≡ None) (λ f. Refuses (event_fault w e) f) → OnOk result (v ≡ (happens w e).world) → IfOk result (λ out. out ≡ told w.domain.routers (happens w e).made)
    → IfOk result (λ out. KeepsLedger w v e out)
step_keeps (Ok out) w v t e fits allowed next is =
    subst (λ (z : WorldState). KeepsLedger w z e out) (sym next) (subst (λ (o : StepOut). KeepsLedger w (happens w e).world e o) (sym is) (event_keeps w t e fits allowed))
step_keeps (Err f) w v t e fits refused next is = tt

-- the same of an answer that isn't made where nothing is reported
pub over_keeps : {X : Type 0} (says : X → StepOut) (result : Result X EventFault) (w v : WorldState) → IsTruthful w → (e : Event) → EventFits (length w.domain.routers) e
    → MatchResult result (λ _. event_fault w e ≡ None) (λ f. Refuses (event_fault w e) f) → OnOk result (v ≡ (happens w e).world) → IfOk result (λ out. says out ≡ told w.domain.routers (happens w e).made)
    → IfOk result (λ out. KeepsLedger w v e (says out))
over_keeps says (Ok out) w v t e fits allowed next is = step_keeps (Ok (says out)) w v t e fits allowed next is
over_keeps says (Err f) w v t e fits refused next is = tt
