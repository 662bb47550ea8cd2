-- What the calls of a domain with circuits do.
use Rattle.std.specs.Prelude.{◌≡◌, ◌≢◌, ◌++◌, Option, Some, None, Result, Ok, Err}
use Rattle.run_texts.specs.declared.texts.Texts.{Texts}
use Rattle.domain_model.specs.declared.fault.EventFault.{EventFault}
use Rattle.domain_model.specs.declared.fault.EventFault.TheVariants as faults
use Rattle.domain_handshake.specs.Handshakes.{HandState, Outcome}

-- All of it was done, or all up to an event that is not allowed: the outputs gained what it reports and records.
pub record Did (o : Outcome) (now : HandState) (why : Option EventFault) (texts texts_now : Texts) : Type 0 where
  pub report : texts_now.report ≡ texts.report ++ o.report
  pub frames : texts_now.frames ≡ texts.frames ++ o.frames
  pub refused : o.refused ≡ why
  pub next : o.next ≡ now

-- Out of memory may be returned instead of any result.
abbrev pub Does : Outcome → (now : HandState) → (texts texts_now : Texts) → Result (Unit {0}) EventFault → Type 0
Does o now texts texts_now (Ok u) = Did o now None texts texts_now
Does o now texts texts_now (Err why) = why ≢ faults.Memory → Did o now (Some why) texts texts_now
