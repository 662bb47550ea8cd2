-- What a command did is what a run owes.
use Rattle.std.proofs.Common.{◌≡◌, ℕ, ◌<◌, List, [], Option, Some, None, refl, sym, ap, subst, ◌∙◌, arith, inl, inr}
use Rattle.std.specs.Prelude.{IfSome, ◌⊎◌, Result, Ok, Err}
use Rattle.std.specs.Io.KnownBytes.{Appends}
use Rattle.wire_base.specs.declared.status.Status.{Status}
use Rattle.wire_base.specs.declared.status.Status.TheVariants.{Done, Usage, ReadFault, WriteFault, Memory}
use Rattle.wire_base.specs.declared.conf.RouterConf.{RouterConf}
use Rattle.wire_base.specs.model.Configuration.{DomainConf}
use Rattle.domain_conf.specs.Domain.{domain_of}
use Rattle.domain_conf.specs.declared.fault.ConfFault.{ConfFault}
use Rattle.command_line.specs.declared.arguments.ScheduleKind.{ScheduleKind}
use Rattle.command_line.specs.Form.{Form, Replay, Node, Hop, Headers, Grow, Topo, Unknown}
use Rattle.wire_base.specs.declared.addresses.SystemId.{SystemId}
use Rattle.wire_base.specs.declared.conf.Level.{Level}
use Rattle.command_line.specs.Words.{usage_text}
use Rattle.command_node.specs.Routers.{router_named}
use Rattle.command_grow.specs.Grow.{grow_answer, GoesThrough, ends_by, grown_run}
use Rattle.domain_model.specs.declared.fault.EventFault.{EventFault}
use Rattle.command_hop.specs.HopText.{hop_answer, packets_of}
use Rattle.command_hop.specs.Partition.{Reports}
use Rattle.command_drive.specs.Answer.{Verdict, IsDecided}
use Rattle.replay_run.specs.Verdict.{verdict, query_of, replay_on, node_on}
use Rattle.command_topo.specs.TopoText.{topo_answer}
use Rattle.command_node.specs.Named.{reported, node_by}
use Rattle.replay_run.specs.Judged.{OnHeld}
use Rattle.command_drive.specs.Outside.{Held, Gave, Meets, AppendsFront}
use Rattle.command_hop.proofs.Packets.{all_parted}
use Rattle.command_headers.specs.HeadersText.{headers_answer}
use Rattle.command_node.proofs.Told.{nothing_more, no_front, held_some, ended_so}

-- ---- verdicts on what was held

-- a domain file that is refused has its verdict without a schedule
no_schedule : (kind : ScheduleKind) (read : Result DomainConf ConfFault) (octets : List ℕ) (Holds : Verdict → Type 0) → IfSome (replay_on kind read (Some octets)) Holds → IfSome (replay_on kind read None) Holds
no_schedule kind (Err why) octets Holds holds = holds
no_schedule kind (Ok d) octets Holds holds = tt

-- and so has one whose domain has no router of that name, without a capture
no_octets : (own : Option RouterConf) (octets : List ℕ) (Holds : Verdict → Type 0) → IfSome (node_by own (Some octets)) Holds → IfSome (node_by own None) Holds
no_octets None octets Holds holds = holds
no_octets (Some own) octets Holds holds = tt

no_capture : (read : Result DomainConf ConfFault) (router octets : List ℕ) (Holds : Verdict → Type 0) → IfSome (node_on read router (Some octets)) Holds → IfSome (node_on read router None) Holds
no_capture (Err why) router octets Holds holds = holds
no_capture (Ok d) router octets Holds holds = no_octets (router_named d router) octets Holds holds

-- the verdict on octets that the sources may have held is that on what they told
pub told : (form : Form) (router : List ℕ) (conf left : Option (List ℕ)) (Holds : Verdict → Type 0) → OnHeld form router conf left Holds → IfSome (verdict form router conf left) Holds
unfolding verdict
told (Replay kind) router None left Holds (file, octets, of_conf, of_input, holds) = tt
told (Replay kind) router (Some told_file) None Holds (file, octets, of_conf, of_input, holds) =
    subst (λ (f : List ℕ). IfSome (replay_on kind (domain_of f) None) Holds) (sym of_conf) (no_schedule kind (domain_of file) octets Holds holds)
told (Replay kind) router (Some told_file) (Some told_octets) Holds (file, octets, of_conf, of_input, holds) =
    subst (λ (f : List ℕ). IfSome (replay_on kind (domain_of f) (Some told_octets)) Holds) (sym of_conf)
    (subst (λ (o : List ℕ). IfSome (replay_on kind (domain_of file) (Some o)) Holds) (sym of_input) holds)
told Node router None left Holds (file, octets, of_conf, of_input, holds) = tt
told Node router (Some told_file) None Holds (file, octets, of_conf, of_input, holds) =
    subst (λ (f : List ℕ). IfSome (node_on (domain_of f) router None) Holds) (sym of_conf) (no_capture (domain_of file) router octets Holds holds)
told Node router (Some told_file) (Some told_octets) Holds (file, octets, of_conf, of_input, holds) =
    subst (λ (f : List ℕ). IfSome (node_on (domain_of f) router (Some told_octets)) Holds) (sym of_conf)
    (subst (λ (o : List ℕ). IfSome (node_on (domain_of file) router (Some o)) Holds) (sym of_input) holds)
told Hop router conf None Holds some = tt
told Hop router conf (Some held) Holds (file, octets, of_conf, of_input, holds) = subst (λ (o : List ℕ). Holds (reported (hop_answer o))) (sym of_input) holds
told Headers router conf None Holds some = tt
told Headers router conf (Some held) Holds (file, octets, of_conf, of_input, holds) = subst (λ (o : List ℕ). Holds (reported (headers_answer o))) (sym of_input) holds
told (Grow n) router conf left Holds (file, octets, of_conf, of_input, holds) = holds
told (Topo level mt from) router conf None Holds some = tt
told (Topo level mt from) router conf (Some held) Holds (file, octets, of_conf, of_input, holds) = subst (λ (o : List ℕ). Holds (reported (topo_answer (query_of level mt from) o))) (sym of_input) holds
told Unknown router conf left Holds (file, octets, of_conf, of_input, holds) = holds

-- of a form that is known
pub in_form : (form known : Form) (router : List ℕ) (conf left : Option (List ℕ)) (Holds : Verdict → Type 0) → form ≡ known → OnHeld known router conf left Holds → OnHeld form router conf left Holds
in_form form known router conf left Holds is holds = subst (λ (f : Form). OnHeld f router conf left Holds) (sym is) holds

-- without a count that rose there is no fault
no_fault : (result : Status) (reads reads_now writes writes_now takes takes_now : ℕ)
    → (result ≡ ReadFault → reads < reads_now) → (result ≡ WriteFault → (writes < writes_now) ⊎ (takes < takes_now))
    → reads_now ≡ reads → writes_now ≡ writes → takes_now ≡ takes → IsDecided result ⊎ (result ≡ Memory)
no_fault Memory reads reads_now writes writes_now takes takes_now read write r w t = inr refl
no_fault ReadFault reads reads_now writes writes_now takes takes_now read write r w t = absurd (omega (arith, read refl, r))
no_fault WriteFault reads reads_now writes writes_now takes takes_now read write r w t = elim (write refl) [
  | inl rose ↦ absurd (omega (arith, rose, w))
  | inr rose ↦ absurd (omega (arith, rose, t))
]
no_fault other reads reads_now writes writes_now takes takes_now read write r w t = inl tt

-- ---- commands that read an input and write a report

-- the verdict on a form is what an answer to the input reports
abbrev pub IsOnInput : Form → (List ℕ → Status × List ℕ) → Type 0
IsOnInput form answer = (router : List ℕ) (conf : Option (List ℕ)) (octets : List ℕ) → verdict form router conf (Some octets) ≡ Some (reported (answer octets))

pub hop_is : IsOnInput Hop hop_answer
unfolding verdict
hop_is router conf octets = refl

pub headers_is : IsOnInput Headers headers_answer
unfolding verdict
headers_is router conf octets = refl

pub topo_is : (level : Level) (mt : ℕ) (from : SystemId) → IsOnInput (Topo level mt from) (topo_answer (query_of level mt from))
unfolding verdict
topo_is level mt from router conf octets = refl

-- where the arguments are known by two equations
pub topo_known : {level other : Level} {mt number : ℕ} {from start : SystemId} → (form : Form) → form ≡ Topo level mt from → form ≡ Topo other number start
    → (level ≡ other) × ((mt ≡ number) × (from ≡ start))
topo_known {level} {other} {mt} {number} {from} {start} form is_one is_other = let same : Topo level mt from ≡ Topo other number start = sym is_one ∙ is_other in (cc, (cc, cc))

module _ (form : Form) (answer : List ℕ → Status × List ℕ) (is : IsOnInput form answer) (router : List ℕ) (conf left before now frames : Option (List ℕ)) where
  input_holds : (Holds : Verdict → Type 0) → ((octets : List ℕ) × Held left octets × Holds (reported (answer octets))) → OnHeld form router conf left Holds
  input_holds Holds some =
      let file = held_some conf in
      (file.0, some.0, file.1, some.1, subst (λ (v : Option Verdict). IfSome v Holds) (sym (is router (Some file.0) some.0)) some.2)

  pub input_meets : (result : Status) → ((octets : List ℕ) × Held left octets × Gave (answer octets) result before now) → OnHeld form router conf left (λ owed. Meets owed result before now frames frames)
  input_meets result gave =
      input_holds (λ owed. Meets owed result before now frames frames) (gave.0, gave.1, record { status = gave.2.status; report = gave.2.report; frames = nothing_more frames })

  pub input_front : ((octets : List ℕ) × Held left octets × AppendsFront before now (answer octets).1)
      → OnHeld form router conf left (λ owed. AppendsFront before now owed.report × AppendsFront frames frames owed.frames)
  input_front front = input_holds (λ owed. AppendsFront before now owed.report × AppendsFront frames frames owed.frames) (front.0, front.1, (front.2, no_front frames []))

-- where inputs of a kind are done to their end, such an input is
pub input_done : (answer : List ℕ → Status × List ℕ) (Asked : List ℕ → Type 0) → ((octets : List ℕ) → Asked octets → (answer octets).0 ≡ Done)
    → (result : Status) (left before now : Option (List ℕ)) (reads reads_now writes writes_now takes takes_now : ℕ)
    → (IsDecided result → (octets : List ℕ) × Held left octets × Gave (answer octets) result before now)
    → (result ≡ ReadFault → reads < reads_now) → (result ≡ WriteFault → (writes < writes_now) ⊎ (takes < takes_now))
    → IfSome left (λ octets. Asked octets → reads_now ≡ reads → writes_now ≡ writes → takes_now ≡ takes → (result ≡ Done) ⊎ (result ≡ Memory))
input_done answer Asked done result None before now reads reads_now writes writes_now takes takes_now gives read write = tt
input_done answer Asked done result (Some octets) before now reads reads_now writes writes_now takes takes_now gives read write = λ asked r w z.
    elim (no_fault result reads reads_now writes writes_now takes takes_now read write r w z) [
      | inl decided ↦
          let gave = gives decided in
          inl (gave.2.status ∙ subst (λ (o : List ℕ). (answer o).0 ≡ Done) gave.1 (done octets asked))
      | inr memory ↦ inr memory
    ]

-- ---- `hop`

reports : (octets : List ℕ) (before now : Option (List ℕ)) (result : Status) → Gave (hop_answer octets) result before now → Reports octets before now
unfolding hop_answer packets_of
reports octets before now result gave = record { lines = (_, gave.report); parted = all_parted octets }

pub hop_reports : (left before now : Option (List ℕ)) (result : Status) → ((octets : List ℕ) × Held left octets × Gave (hop_answer octets) result before now) → IfSome left (λ octets. Reports octets before now)
hop_reports None before now result gave = tt
hop_reports (Some octets) before now result gave = subst (λ (o : List ℕ). Reports o before now) (sym gave.1) (reports gave.0 before now result gave.2)

-- ---- `grow`

pub grow_holds : (n : ℕ) (router : List ℕ) (conf left : Option (List ℕ)) (Holds : Verdict → Type 0) → Holds (reported (grow_answer n)) → OnHeld (Grow n) router conf left Holds
unfolding verdict
grow_holds n router conf left Holds holds =
    let file = held_some conf in
    let octets = held_some left in
    (file.0, octets.0, file.1, octets.1, holds)

pub grow_meets : (n : ℕ) (router : List ℕ) (conf left before now frames : Option (List ℕ)) (result : Status) → Gave (grow_answer n) result before now
    → OnHeld (Grow n) router conf left (λ owed. Meets owed result before now frames frames)
grow_meets n router conf left before now frames result gave =
    grow_holds n router conf left (λ owed. Meets owed result before now frames frames) (record { status = gave.status; report = gave.report; frames = nothing_more frames })

pub grow_front : (n : ℕ) (router : List ℕ) (conf left before now frames : Option (List ℕ)) → AppendsFront before now (grow_answer n).1
    → OnHeld (Grow n) router conf left (λ owed. AppendsFront before now owed.report × AppendsFront frames frames owed.frames)
grow_front n router conf left before now frames front =
    grow_holds n router conf left (λ owed. AppendsFront before now owed.report × AppendsFront frames frames owed.frames) (front, no_front frames [])

goes_done : (n : ℕ) → GoesThrough n → (grow_answer n).0 ≡ Done
unfolding grow_answer GoesThrough
goes_done n none = ap (λ (o : Option (ℕ × EventFault)). (ends_by n (grown_run n).run o).0) none

pub grow_done : (m n : ℕ) (form : Form) (result : Status) (before now : Option (List ℕ)) (writes writes_now takes takes_now : ℕ) → form ≡ Grow m → form ≡ Grow n → (IsDecided result → Gave (grow_answer m) result before now)
    → (result ≡ ReadFault → ⊥) → (result ≡ WriteFault → (writes < writes_now) ⊎ (takes < takes_now)) → GoesThrough n → writes_now ≡ writes → takes_now ≡ takes → (result ≡ Done) ⊎ (result ≡ Memory)
grow_done m n form result before now writes writes_now takes takes_now is_m is_n answer read write goes w t =
    let same : m ≡ n = (let both : Grow m ≡ Grow n = sym is_m ∙ is_n in cc) in
    elim (no_fault result 0 0 writes writes_now takes takes_now (λ failed. absurd (read failed)) write refl w t) [
      | inl decided ↦ inl ((answer decided).status ∙ ap (λ (k : ℕ). (grow_answer k).0) same ∙ goes_done n goes)
      | inr memory ↦ inr memory
    ]

-- ---- unknown arguments

pub usage_holds : (router : List ℕ) (conf left : Option (List ℕ)) (Holds : Verdict → Type 0) → Holds (reported (Usage, usage_text)) → OnHeld Unknown router conf left Holds
unfolding verdict
usage_holds router conf left Holds holds =
    let file = held_some conf in
    let octets = held_some left in
    (file.0, octets.0, file.1, octets.1, holds)

pub usage_meets : (router : List ℕ) (conf left before now frames : Option (List ℕ)) (result : Status) → IsDecided result → (result ≡ Usage) ⊎ (result ≡ WriteFault) → Appends before now usage_text
    → OnHeld Unknown router conf left (λ owed. Meets owed result before now frames frames)
usage_meets router conf left before now frames result decided ended written =
    usage_holds router conf left (λ owed. Meets owed result before now frames frames)
    (record { status = ended_so Usage result decided ended; report = written; frames = nothing_more frames })

pub usage_front : (router : List ℕ) (conf left before now frames : Option (List ℕ)) → AppendsFront before now usage_text
    → OnHeld Unknown router conf left (λ owed. AppendsFront before now owed.report × AppendsFront frames frames owed.frames)
usage_front router conf left before now frames front =
    usage_holds router conf left (λ owed. AppendsFront before now owed.report × AppendsFront frames frames owed.frames) (front, no_front frames [])
