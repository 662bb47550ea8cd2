-- A domain file that is read from a source.
use Rattle.std.specs.Prelude.{ℕ, ◌≡◌, ◌<◌, ◌⊎◌, List, [], ◌∷◌, Option, Ok, Err, codes}
use Rattle.std.specs.Fmt.{decimal}
use Rattle.wire_base.specs.declared.status.Status.{Status}
use Rattle.wire_base.specs.declared.status.Status.TheVariants as status
use Rattle.wire_base.specs.model.Configuration.{DomainConf}
use Rattle.domain_conf.specs.Domain.{domain_of}
use Rattle.domain_conf.specs.declared.fault.ConfFault.{ConfFault}
use Rattle.domain_conf.specs.Fault as conf
use Rattle.replay_text.specs.Report.{line_of}
use Rattle.command_node.specs.declared.domain_file.NoDomain.{NoDomain}
use Rattle.command_node.specs.declared.domain_file.NoDomain.TheVariants.{Refused, Stopped}
use Rattle.command_drive.specs.Outside.{Held}

-- `refused conf N NAME PATH`
abbrev pub conf_refused_text : ConfFault → List ℕ
conf_refused_text why = line_of (codes "refused" ∷ codes "conf" ∷ decimal (conf.number_of why) ∷ conf.name_of why ∷ conf.path_of why ∷ [])

-- What a source may have held describes that domain.
abbrev pub Says : Option (List ℕ) → DomainConf → Type 0
Says left domain = (file : List ℕ) × Held left file × (domain_of file ≡ Ok domain)

-- As a domain file, what it may have held means the same as those octets.
abbrev pub ReadsAs : Option (List ℕ) → List ℕ → Type 0
ReadsAs left octets = (file : List ℕ) × Held left file × (domain_of octets ≡ domain_of file)

-- What it may have held breaks a rule, and that is the line that reports it.
abbrev pub IsRefused : Option (List ℕ) → List ℕ → Type 0
IsRefused left line = (file : List ℕ) × Held left file × ((why : ConfFault) × (domain_of file ≡ Err why) × (line ≡ conf_refused_text why))

-- A call stopped before the end of the text, at a read error or out of memory.
abbrev pub StoppedBy : (faults faults_now : ℕ) → Status → Type 0
StoppedBy faults faults_now why = ((why ≡ status.ReadFault) × (faults < faults_now)) ⊎ ((why ≡ status.Memory) × (faults_now ≡ faults))

-- Why there is no domain, and the error count of the source then.
abbrev pub HasNone : Option (List ℕ) → (faults faults_now : ℕ) → NoDomain → Type 0
HasNone left faults faults_now (Refused line) = (faults_now ≡ faults) × IsRefused left line
HasNone left faults faults_now (Stopped why) = StoppedBy faults faults_now why
