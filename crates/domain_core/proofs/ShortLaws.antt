-- Each frame that a domain sends fits a record of a capture.
use Rattle.std.proofs.Common.{◌≡◌, ℕ, List, [], ◌∷◌, length, map, None, Result, Ok, Err, IfOk, MatchResult, sym, subst, arith}
use Rattle.std.specs.List.{AllByRecursion}
use Rattle.wire_base.specs.declared.conf.RouterConf.{RouterConf}
use Rattle.wire_base.specs.model.Configuration.{DomainConf, IsConsistent}
use Rattle.replay_text.specs.declared.event.Event.{Event}
use Rattle.domain_model.specs.declared.fault.EventFault.{EventFault}
use Rattle.domain_model.specs.declared.step_out.StepOut.{StepOut}
use Rattle.domain_core.specs.Answers.{Refuses}
use Rattle.frames_in_flight.specs.Told.{IsShortFrame, told}
use Rattle.domain_model.specs.World.{WorldState, peer_place}
use Rattle.domain_model.specs.Moves.{Sending}
use Rattle.domain_model.specs.Faults.{event_fault}
use Rattle.domain_model.specs.Step.{happens}
use Rattle.domain_model.specs.Truth.{confs_now, IsTruthful, EventFits, AreWorldDrops}
use Rattle.frames_in_flight.specs.Framed.{wire_of}
use Rattle.domain_model.proofs.CopyTruth.{IsTrueSending}
use Rattle.domain_core.proofs.FramedWorld.{of_now, frame_short}
use Rattle.domain_model.proofs.WorldTruth.{AreOf, happens_true}

-- the interfaces are those of the domain as it started, and what is sent is true of the configurations of now
wires_short : (old : DomainConf) → IsConsistent old → (confs : List RouterConf) → AreOf old confs → (injections : ℕ) (ss : List Sending) → AllByRecursion (IsTrueSending old.routers confs injections) ss → AllByRecursion IsShortFrame (map (wire_of old.routers) ss)
wires_short old start confs of injections [] all = tt
wires_short old start confs of injections (s ∷ ss) all =
    let short = frame_short old start confs of injections (peer_place old.routers s.from s.link) s.from s.link s.item all.0.item in
    (omega (arith, short), wires_short old start confs of injections ss all.1)

pub sent_short : (w : WorldState) → IsTruthful w → (e : Event) → EventFits (length w.domain.routers) e → event_fault w e ≡ None → AllByRecursion IsShortFrame (told w.domain.routers (happens w e).made).sent
sent_short w t e fits ok =
    let keeps = happens_true w e t fits ok in
    let next = (happens w e).world in
    let of : AreOf w.domain (confs_now next) = subst (λ (d : DomainConf). AreOf d (confs_now next)) keeps.domain (of_now next keeps.truth) in
    wires_short w.domain t.valid.consistent (confs_now next) of next.injections (happens w e).made.sent keeps.made.sent

-- ---- what a step answers
pub step_short : (result : Result StepOut EventFault) (w : WorldState) → IsTruthful w → (e : Event) → EventFits (length w.domain.routers) e
    → MatchResult result (λ _. event_fault w e ≡ None) (λ f. Refuses (event_fault w e) f) → IfOk result (λ out. out ≡ told w.domain.routers (happens w e).made)
    → IfOk result (λ out. AllByRecursion IsShortFrame out.sent)
step_short (Ok out) w t e fits allowed is = subst (λ (o : StepOut). AllByRecursion IsShortFrame o.sent) (sym is) (sent_short w t e fits allowed)
step_short (Err f) w t e fits refused is = tt

pub over_short : {X : Type 0} (says : X → StepOut) (result : Result X EventFault) (w : WorldState) → IsTruthful w → (e : Event) → EventFits (length w.domain.routers) e
    → MatchResult result (λ _. event_fault w e ≡ None) (λ f. Refuses (event_fault w e) f) → IfOk result (λ out. says out ≡ told w.domain.routers (happens w e).made)
    → IfOk result (λ out. AllByRecursion IsShortFrame (says out).sent)
over_short says (Ok out) w t e fits allowed is = subst (λ (o : StepOut). AllByRecursion IsShortFrame o.sent) (sym is) (sent_short w t e fits allowed)
over_short says (Err f) w t e fits refused is = tt

pub over_drops : {X : Type 0} (says : X → StepOut) (result : Result X EventFault) (w : WorldState) → IsTruthful w → (e : Event) → EventFits (length w.domain.routers) e
    → MatchResult result (λ _. event_fault w e ≡ None) (λ f. Refuses (event_fault w e) f) → IfOk result (λ out. says out ≡ told w.domain.routers (happens w e).made)
    → IfOk result (λ out. AreWorldDrops (says out).drops)
over_drops says (Ok out) w t e fits allowed is =
    let keeps = happens_true w e t fits allowed in
    subst (λ (o : StepOut). AreWorldDrops o.drops) (sym is) keeps.made.drops
over_drops says (Err f) w t e fits refused is = tt
