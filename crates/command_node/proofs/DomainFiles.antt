-- Domain files and what a source gave of one.
use Rattle.std.proofs.Common.{◌≡◌, ◌≢◌, ℕ, ◌<◌, ◌≤◌, inl, inr, Ok, List, ◌∷◌, [], length, Option, Some, None, Err, refl, sym, ap, ◌∙◌, arith, length-append}
use Rattle.std.proofs.lemmas.Bool.{cases_lt, lt-ltb}
use Rattle.std.specs.Io.KnownBytes.{Consumes, IsAtEnd}
use Rattle.domain_conf.specs.Domain.{domain_of}
use Rattle.domain_conf.specs.declared.fault.ConfFault.{ConfFault}
use Rattle.domain_conf.specs.declared.fault.ConfFault.TheVariants as fault
use Rattle.wire_base.specs.model.Configuration.{DomainConf}
use Rattle.domain_conf.specs.Reading.{Fails}
use Rattle.command_node.specs.declared.domain_file.NoDomain.TheVariants.{Refused}
use Rattle.command_node.specs.DomainFile.{ReadsAs, HasNone, conf_refused_text}
use Rattle.wire_base.specs.declared.limits.TheConstants.{DOMAIN_FILE_LIMIT}

-- what is too long is refused, whatever it is
too_long : (bytes : List ℕ) → DOMAIN_FILE_LIMIT < length bytes → domain_of bytes ≡ Err (fault.Limit (45 ∷ []))
unfolding domain_of
too_long bytes long = rw (lt-ltb DOMAIN_FILE_LIMIT (length bytes) long) refl

-- so a domain is read from no more
pub short_of_domain : (bytes : List ℕ) (d : DomainConf) → domain_of bytes ≡ Ok d → length bytes ≤ DOMAIN_FILE_LIMIT
short_of_domain bytes d reads = elim (cases_lt DOMAIN_FILE_LIMIT (length bytes)) [
  | inl long ↦ absurd (apart (sym reads ∙ too_long bytes long))
  | inr short ↦ short
]
  where
    apart : {d : DomainConf} {why : ConfFault} → Ok d ≡ Err why → ⊥
    apart e = cc

-- what was read of a file that says a domain is all of it
pub read_to_end : (left : Option (List ℕ)) (text : List ℕ) (d : DomainConf) → domain_of text ≡ Ok d → (length text ≤ DOMAIN_FILE_LIMIT → IsAtEnd left) → IsAtEnd left
read_to_end left text d reads end = end (short_of_domain text d reads)

-- the line on a file that breaks a rule
pub refused_so : (left : Option (List ℕ)) (faults faults_now : ℕ) (text line : List ℕ) (why : ConfFault) → ReadsAs left text → faults_now ≡ faults → Fails why (domain_of text) → why ≢ fault.Memory → line ≡ conf_refused_text why
    → HasNone left faults faults_now (Refused line)
refused_so left faults faults_now text line why reads quiet fails known is = (quiet, (reads.0, reads.1, (why, sym reads.2 ∙ breaks why fails known, is)))
  where
    breaks : (why : ConfFault) → Fails why (domain_of text) → why ≢ fault.Memory → domain_of text ≡ Err why
    breaks fault.Toml is known = is
    breaks (fault.Field path) is known = is
    breaks (fault.Duplicate path) is known = is
    breaks (fault.Range path) is known = is
    breaks (fault.Labels path) is known = is
    breaks (fault.Reference path) is known = is
    breaks (fault.Limit path) is known = is
    breaks fault.Memory is known = absurd (known refl)

-- so the front of a file reads as the file does, where that front is too long
pub reads_as_long : (left now : Option (List ℕ)) (text : List ℕ) → Consumes left now text → DOMAIN_FILE_LIMIT < length text → ReadsAs left text
reads_as_long None now text taken long = (text, tt, refl)
reads_as_long (Some file) None text taken long = absurd taken
reads_as_long (Some file) (Some rest) text taken long =
    let longer : DOMAIN_FILE_LIMIT < length file = omega (arith, ap length taken, length-append text rest) in
    (file, refl, too_long text long ∙ sym (too_long file longer))
