-- The verdict for a domain file, the name of a router and a stream.
use Rattle.std.proofs.Common.{◌≡◌, ℕ, ◌<◌, List, length, Option, Some, None, Result, Ok, Err, slice_get, refl, sym, ap, subst, ◌∙◌, arith, inl, inr}
use Rattle.std.specs.Prelude.{IfOk, IfErr, IfSome, ◌⊎◌}
use Rattle.std.specs.List.{position}
use Rattle.std.specs.Io.KnownBytes.{Appends}
use Rattle.std.proofs.lemmas.Option.{slice_get_cases}
use Rattle.wire_base.specs.declared.conf.RouterConf.{RouterConf}
use Rattle.wire_base.specs.declared.status.Status.{Status}
use Rattle.wire_base.specs.declared.status.Status.TheVariants.{ConfRefused, WriteFault}
use Rattle.wire_base.specs.model.Configuration.{DomainConf}
use Rattle.domain_conf.specs.Domain.{domain_of}
use Rattle.domain_conf.specs.declared.fault.ConfFault.{ConfFault}
use Rattle.command_drive.specs.Answer.{IsDecided}
use Rattle.command_drive.specs.Outside.{Held, Meets}
use Rattle.command_drive.specs.Reading.{Ends}
use Rattle.command_node.specs.DomainFile.{Says, HasNone, conf_refused_text}
use Rattle.command_node.specs.declared.domain_file.NoDomain.TheVariants.{Refused}
use Rattle.command_node.specs.Routers.{has_name, no_router_text}
use Rattle.command_node.proofs.Told.{nothing_more, held_some, ended_so}
use Rattle.live_stream.specs.Events.{Seat}
use Rattle.live_stream.specs.Verdict.{Means, live_verdict, verdict_in, verdict_at, verdict_of, IsAnswered, IsFound, IsUnnamed, Seats, HasNoSeat, Unseated}

-- ---- no router

-- a file that breaks a rule
broken : (file word : List ℕ) (why : ConfFault) → domain_of file ≡ Err why → HasNoSeat file word (conf_refused_text why)
unfolding live_verdict
broken file word why is means octets = ap (λ r. verdict_in means r word octets) is

pub refused_file : (left : Option (List ℕ)) (faults faults_now : ℕ) (word line : List ℕ) (ended : Status) (report report_now : Option (List ℕ)) → HasNone left faults faults_now (Refused line)
    → (ended ≡ ConfRefused) ⊎ (ended ≡ WriteFault) → (IsDecided ended → Appends report report_now line) → Unseated left word ended report report_now
refused_file left faults faults_now word line ended report report_now none how written decided =
    let found = none.1 in
    let why = found.2 in
    (found.0, found.1, (line, subst (HasNoSeat found.0 word) (sym why.2) (broken found.0 word why.0 why.1), ended_so ConfRefused ended decided how, written decided))

-- a name that no router has
unnamed : (file word : List ℕ) (d : DomainConf) → domain_of file ≡ Ok d → position (has_name word) d.routers ≡ None → HasNoSeat file word no_router_text
unfolding live_verdict
unnamed file word d is none means octets = ap (λ r. verdict_in means r word octets) is ∙ ap (λ (o : Option ℕ). verdict_at means d o octets) none

pub refused_name : {T : Type 0} (left : Option (List ℕ)) (word : List ℕ) (d : DomainConf) (result : Result T Status) (report report_now : Option (List ℕ)) → Says left d
    → IfErr result (λ ended. IsUnnamed d word ended report report_now) → IfErr result (λ ended. Unseated left word ended report report_now)
refused_name left word d (Ok x) report report_now says unnamed_so = tt
refused_name left word d (Err ended) report report_now says unnamed_so = λ decided.
    (says.0, says.1, (no_router_text, unnamed says.0 word d says.2 unnamed_so.none, ended_so ConfRefused ended decided unnamed_so.how, unnamed_so.written decided))

-- a router of that name
pub seats_so : {E : Type 0} (left : Option (List ℕ)) (word : List ℕ) (d : DomainConf) (result : Result (DomainConf × ℕ) E) → Says left d → IfOk result (λ found. IsFound d word found.0 found.1) → IfOk result (λ found. Seats left word found.0 found.1)
seats_so left word d (Err e) says found = tt
seats_so left word d (Ok x) says found = (subst (Says left) (sym found.same) says, ap (λ (e : DomainConf). position (has_name word) e.routers) found.same ∙ found.named)

pub unseated_answer : (means : Means) (conf stream : Option (List ℕ)) (word : List ℕ) (ended : Status) (report report_now frames : Option (List ℕ)) → Unseated conf word ended report report_now → IsDecided ended
    → IsAnswered means conf word stream ended report report_now frames frames
unseated_answer means conf stream word ended report report_now frames none decided =
    let found = none decided in
    let refusal = found.2 in
    let octets = held_some stream in (
      found.0,
      found.1,
      (octets.0, octets.1, subst (λ v. Meets v ended report report_now frames frames) (sym (refusal.1 means octets.0)) (record { status = refusal.2; report = refusal.3; frames = nothing_more frames })),
    )

-- ---- a router

-- the configuration at an index that is within
pub some_conf : (d : DomainConf) (place : ℕ) (P : RouterConf → Type 0) → place < length d.routers → IfSome (slice_get d.routers place) P → (r : RouterConf) × (slice_get d.routers place ≡ Some r) × P r
some_conf d place P within holds = by (slice_get d.routers place) refl holds
  where
    apart : {r : RouterConf} → None ≡ Some r → ⊥
    apart e = cc

    by : (o : Option RouterConf) → slice_get d.routers place ≡ o → IfSome o P → (r : RouterConf) × (slice_get d.routers place ≡ Some r) × P r
    by (Some r) e holds = (r, e, holds)
    by None e holds = elim (slice_get_cases d.routers place).1 [
      | inl some ↦ absurd (apart (sym e ∙ some.2))
      | inr past ↦ absurd (omega (arith, within, past.0))
    ]

seated : (means : Means) (file word octets : List ℕ) (d : DomainConf) (place : ℕ) (r : RouterConf) → domain_of file ≡ Ok d → position (has_name word) d.routers ≡ Some place → slice_get d.routers place ≡ Some r
    → means (record { domain = d; place = place }) r Ends octets ≡ live_verdict means file word octets
unfolding live_verdict
seated means file word octets d place r is named at =
    let s : Seat = record { domain = d; place = place } in
    sym (ap (λ x. verdict_in means x word octets) is ∙ ap (λ (o : Option ℕ). verdict_at means d o octets) named ∙ ap (λ (o : Option RouterConf). verdict_of means s o octets) at)

pub seated_answer : (means : Means) (conf stream : Option (List ℕ)) (word : List ℕ) (d : DomainConf) (place : ℕ) (r : RouterConf) (ended : Status) (report report_now frames frames_now : Option (List ℕ)) → Seats conf word d place → slice_get d.routers place ≡ Some r
    → (octets : List ℕ) × Held stream octets × Meets (means (record { domain = d; place = place }) r Ends octets) ended report report_now frames frames_now
    → IsAnswered means conf word stream ended report report_now frames frames_now
seated_answer means conf stream word d place r ended report report_now frames frames_now seats at answer =
    let says = seats.0 in
    (says.0, says.1, (answer.0, answer.1, subst (λ v. Meets v ended report report_now frames frames_now) (seated means says.0 word answer.0 d place r says.2 seats.1 at) answer.2))
