-- What the calls for an event do is what the event does.
use Rattle.std.proofs.Common.{◌≡◌, ◌≢◌, ℕ, ◌<◌, List, length, Option, Some, None, Result, Ok, Err, refl, sym, ap, ap₂, subst, ◌∙◌, inl, inr}
use Rattle.std.specs.Prelude.{IfOk, IfSome, OnOk, MatchResult}
use Rattle.std.proofs.lemmas.Option.{slice_get_cases}
use Rattle.wire_base.specs.declared.addresses.SystemId.{SystemId}
use Rattle.wire_base.specs.declared.bsl.Bsl.{Bsl}
use Rattle.wire_base.specs.declared.conf.End.{End}
use Rattle.wire_base.specs.declared.faults.EdgeFault.{EdgeFault}
use Rattle.wire_base.specs.declared.faults.EdgeFault.TheVariants as edge
use Rattle.wire_base.specs.model.Choice.{end_toward}
use Rattle.wire_base.specs.model.Control.{Control}
use Rattle.wire_base.specs.model.Ingress.{edge_fault, inject}
use Rattle.wire_base.specs.model.OnFrame.{Effects, Next}
use Rattle.bfr_edge.specs.Entry.{Refuses}
use Rattle.replay_text.specs.declared.event.Event.{Event}
use Rattle.replay_text.specs.declared.event.Line.{Line}
use Rattle.replay_text.specs.declared.fault.TextFault.{TextFault}
use Rattle.replay_text.specs.declared.fault.TextFault.TheVariants as text
use Rattle.replay_text.specs.declared.hand.HandLine.{HandLine}
use Rattle.replay_text.specs.Reading.{Fails, Gives}
use Rattle.isis_hello.proofs.StepLemmas.{end_there}
use Rattle.live_stream.specs.declared.fault.LiveFault.{LiveFault}
use Rattle.live_stream.specs.declared.fault.LiveFault.TheVariants as live
use Rattle.live_stream.specs.declared.greeting.Greeting.{Greeting}
use Rattle.live_stream.specs.Events.{one_event, enters, enters_unless, Happened, Entered}
use Rattle.live_stream.specs.HelloRun.{one_greeting}

-- ---- lines

-- a line that is rejected for a rule breaks that rule
breaks : {Y : Type 0} (why : TextFault) (read : Result Y TextFault) → why ≢ text.Memory → Fails why read → read ≡ Err why
breaks text.Word read known is = is
breaks text.Number read known is = is
breaks text.Name read known is = is
breaks text.Hex read known is = is
breaks text.LineLong read known is = is
breaks text.Memory read known is = absurd (known refl)

pub event_read : {E : Type 0} (line read : Result Line TextFault) (result : Result (Result Event LiveFault) E) → Gives (λ said. said) line read → IfOk result (λ found. found ≡ one_event line) → OnOk result (line ≢ Err text.Memory)
    → IfOk result (λ found. found ≡ one_event read)
event_read line read (Err e) gives is known = tt
event_read (Ok said) read (Ok found) gives is known = is ∙ ap one_event (sym gives)
event_read (Err why) read (Ok found) gives is known = is ∙ ap one_event (sym (breaks why read (λ is_memory. known (ap (λ (e : TextFault). Err e) is_memory)) gives))

pub greeting_read : {E : Type 0} (line read : Result HandLine TextFault) (result : Result (Result Greeting LiveFault) E) → Gives (λ said. said) line read → IfOk result (λ found. found ≡ one_greeting line) → OnOk result (line ≢ Err text.Memory)
    → IfOk result (λ found. found ≡ one_greeting read)
greeting_read line read (Err e) gives is known = tt
greeting_read (Ok said) read (Ok found) gives is known = is ∙ ap one_greeting (sym gives)
greeting_read (Err why) read (Ok found) gives is known = is ∙ ap one_greeting (sym (breaks why read (λ is_memory. known (ap (λ (e : TextFault). Err e) is_memory)) gives))

-- ---- interfaces

-- an interface toward a router is one of those
pub there_within : (ends : List End) (s : SystemId) (o : Option ℕ) → o ≡ end_toward ends s → IfSome o (λ link. link < length ends)
there_within ends s None is = tt
there_within ends s (Some link) is =
    let there = end_there ends s link (sym is) in
    elim (slice_get_cases ends link).1 [
      | inl some ↦ some.1
      | inr past ↦ absurd (apart (sym past.1 ∙ there.at))
    ]
  where
    apart : {e : End} → None ≡ Some e → ⊥
    apart e = cc

-- ---- injections

abbrev ok_next : Control → Effects → Result Next LiveFault
ok_next c e = Ok (record { control = c; effects = e })

module _ (c : Control) (sd : ℕ) (bsl : Bsl) (ids : List ℕ) (ttl entropy : ℕ) (payload : List ℕ) where
  refused_so : (now : Control) (why : EdgeFault) (outcome : Result Effects LiveFault) → edge_fault c.conf sd bsl ids ≡ Some why → outcome ≡ Err (live.Edge why) → now ≡ c
      → Happened outcome (enters c sd bsl ids ttl entropy payload) c now
  refused_so now why outcome refused is same =
      subst (λ (o : Result Effects LiveFault). Happened o (enters c sd bsl ids ttl entropy payload) c now) (sym is)
      (ap (λ (f : Option EdgeFault). enters_unless f c (inject c sd bsl ids ttl entropy payload)) refused, same)

  entered_by : (now : Control) (done : Result Effects EdgeFault) (outcome : Result Effects LiveFault) → IfOk done (λ e. e ≡ inject c sd bsl ids ttl entropy payload)
      → MatchResult done (λ e. edge_fault c.conf sd bsl ids ≡ None) (λ e. Refuses (edge_fault c.conf sd bsl ids) e) → Entered done outcome → now ≡ c → Happened outcome (enters c sd bsl ids ttl entropy payload) c now
  entered_by now (Ok e) outcome is none entered same =
      subst (λ (o : Result Effects LiveFault). Happened o (enters c sd bsl ids ttl entropy payload) c now) (sym entered)
      (ap (λ (f : Option EdgeFault). enters_unless f c (inject c sd bsl ids ttl entropy payload)) none
      ∙ ap₂ ok_next (sym same) (sym is))
  entered_by now (Err edge.NoEgress) outcome is refused entered same = refused_so now edge.NoEgress outcome refused entered same
  entered_by now (Err edge.IdZero) outcome is refused entered same = refused_so now edge.IdZero outcome refused entered same
  entered_by now (Err (edge.SiLarge k)) outcome is refused entered same = refused_so now (edge.SiLarge k) outcome refused entered same
  entered_by now (Err edge.NotBfr) outcome is refused entered same = refused_so now edge.NotBfr outcome refused entered same
  entered_by now (Err edge.BslUnknown) outcome is refused entered same = refused_so now edge.BslUnknown outcome refused entered same
  entered_by now (Err edge.Memory) outcome is refused entered same = absurd entered

pub entered_so : {E : Type 0} (c now : Control) (sd : ℕ) (bsl : Bsl) (ids : List ℕ) (ttl entropy : ℕ) (payload : List ℕ) (done : Result Effects EdgeFault) (result : Result (Result Effects LiveFault) E) → IfOk done (λ e. e ≡ inject c sd bsl ids ttl entropy payload)
    → MatchResult done (λ e. edge_fault c.conf sd bsl ids ≡ None) (λ e. Refuses (edge_fault c.conf sd bsl ids) e) → IfOk result (λ outcome. Entered done outcome) → now ≡ c
    → IfOk result (λ outcome. Happened outcome (enters c sd bsl ids ttl entropy payload) c now)
entered_so c now sd bsl ids ttl entropy payload done (Err e) is refused entered same = tt
entered_so c now sd bsl ids ttl entropy payload done (Ok outcome) is refused entered same = entered_by c sd bsl ids ttl entropy payload now done outcome is refused entered same

-- ---- parts of a call

-- what a part of a call gives, in other words
pub on_ok_same : {T E A : Type 0} (result : Result T E) (a b c : A) → OnOk result (a ≡ b) → b ≡ c → OnOk result (a ≡ c)
on_ok_same (Ok x) a b c is same = is ∙ same
on_ok_same (Err e) a b c is same = tt
