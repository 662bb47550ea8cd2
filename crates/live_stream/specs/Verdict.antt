-- What a run must produce for the octets of a domain file, the name of a router, and the octets of a stream.
use Rattle.std.specs.Prelude.{ℕ, ◌≡◌, ◌⊎◌, List, Option, Some, None, Result, Ok, Err, slice_get}
use Rattle.std.specs.List.{position}
use Rattle.std.specs.Io.KnownBytes.{Appends}
use Rattle.wire_base.specs.declared.conf.RouterConf.{RouterConf}
use Rattle.wire_base.specs.declared.status.Status.{Status}
use Rattle.wire_base.specs.declared.status.Status.TheVariants.{ConfRefused, WriteFault}
use Rattle.wire_base.specs.model.Configuration.{DomainConf}
use Rattle.domain_conf.specs.Domain.{domain_of}
use Rattle.domain_conf.specs.declared.fault.ConfFault.{ConfFault}
use Rattle.command_drive.specs.Answer.{Verdict, IsDecided}
use Rattle.command_drive.specs.Driving.{Meaning}
use Rattle.command_drive.specs.Outside.{Held, Meets}
use Rattle.command_drive.specs.Reading.{Ends}
use Rattle.command_node.specs.DomainFile.{Says, conf_refused_text}
use Rattle.command_node.specs.Named.{reported}
use Rattle.command_node.specs.Routers.{has_name, no_router_text}
use Rattle.live_stream.specs.Events.{Seat}

-- what a router, or its hellos, mean at a place of a domain
abbrev pub Means : Type 0
Means = Seat → RouterConf → Meaning

abbrev pub no_router : Verdict
no_router = reported (ConfRefused, no_router_text)

abbrev pub verdict_of : Means → Seat → Option RouterConf → List ℕ → Verdict
verdict_of means s None octets = no_router
verdict_of means s (Some r) octets = means s r Ends octets

abbrev pub verdict_at : Means → DomainConf → Option ℕ → List ℕ → Verdict
verdict_at means d None octets = no_router
verdict_at means d (Some place) octets = verdict_of means (record { domain = d; place = place }) (slice_get d.routers place) octets

abbrev pub verdict_in : Means → Result DomainConf ConfFault → (word octets : List ℕ) → Verdict
verdict_in means (Err why) word octets = reported (ConfRefused, conf_refused_text why)
verdict_in means (Ok d) word octets = verdict_at means d (position (has_name word) d.routers) octets

-- The status and both texts: a file that breaks a rule and a name that no router has are reported, and the stream doesn't matter.
-- Otherwise they are what the router of that name means on the stream.
unfoldable pub live_verdict : Means → (file word octets : List ℕ) → Verdict
live_verdict means file word octets = verdict_in means (domain_of file) word octets

-- ---- calls

-- A run ended so on what its sources may have held.
abbrev pub IsAnswered : Means → (conf : Option (List ℕ)) → List ℕ → (stream : Option (List ℕ)) → Status → (report report_now frames frames_now : Option (List ℕ)) → Type 0
IsAnswered means conf word stream ended report report_now frames frames_now =
    (file : List ℕ) × Held conf file × ((octets : List ℕ) × Held stream octets × Meets (live_verdict means file word octets) ended report report_now frames frames_now)

-- What a source may have held describes a domain, and the first router of it that has that name is at that index.
abbrev pub Seats : Option (List ℕ) → List ℕ → DomainConf → ℕ → Type 0
Seats left word d place = Says left d × (position (has_name word) d.routers ≡ Some place)

-- The first router of a domain that has that name is at that index.
pub record IsFound (d : DomainConf) (word : List ℕ) (e : DomainConf) (place : ℕ) : Type 0 where
  pub same : e ≡ d
  pub named : position (has_name word) d.routers ≡ Some place

-- No router of it has that name, and that was reported, if the call was decided.
pub record IsUnnamed (d : DomainConf) (word : List ℕ) (ended : Status) (report report_now : Option (List ℕ)) : Type 0 where
  pub none : position (has_name word) d.routers ≡ None
  pub how : (ended ≡ ConfRefused) ⊎ (ended ≡ WriteFault)
  pub written : IsDecided ended → Appends report report_now no_router_text

-- Whatever the stream is, that is reported for a file and a name.
abbrev pub HasNoSeat : (file word refusal : List ℕ) → Type 0
HasNoSeat file word refusal = (means : Means) (octets : List ℕ) → live_verdict means file word octets ≡ reported (ConfRefused, refusal)

-- A call found no router, and reported that, if it was decided.
abbrev pub Unseated : Option (List ℕ) → List ℕ → Status → (report report_now : Option (List ℕ)) → Type 0
Unseated left word ended report report_now =
    IsDecided ended → (file : List ℕ) × Held left file × ((refusal : List ℕ) × HasNoSeat file word refusal × (ended ≡ ConfRefused) × Appends report report_now refusal)
