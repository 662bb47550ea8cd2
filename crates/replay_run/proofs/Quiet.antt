-- Where no count rose, no fault is answered.
use Rattle.std.proofs.Common.{◌≡◌, ◌≢◌, sym, ◌∙◌, ℕ, List, Option, Some, None, refl, arith, inl, inr}
use Rattle.std.specs.Prelude.{◌⊎◌, IfSome}
use Rattle.wire_base.specs.declared.outside.Source as source
use Rattle.wire_base.specs.declared.outside.Sink as sink
use Rattle.wire_base.specs.declared.status.Status.{Status}
use Rattle.wire_base.specs.declared.status.Status.TheVariants.{ReadFault, WriteFault, Memory}
use Rattle.command_drive.specs.Answer.{IsDecided}
use Rattle.replay_run.specs.Faults.{SinkIsQuiet, NoneRose, CountsFaults}

module _ {D S C R : Type 0} (gd : source.Ghosts D) (gs : source.Ghosts S) (gc : sink.Ghosts C) (gr : sink.Ghosts R)
    (conf conf_now : D) (input input_now : S) (frames frames_now : C) (report report_now : R) where
  pub no_fault_of_four : (result : Status) → CountsFaults gd gs gc gr result conf conf_now input input_now frames frames_now report report_now
      → NoneRose gd gs gc gr conf conf_now input input_now frames frames_now report report_now → IsDecided result ⊎ (result ≡ Memory)
  no_fault_of_four Memory faults quiet = inr refl
  no_fault_of_four ReadFault faults quiet = elim (faults.read refl) [
    | inl rose ↦ absurd (omega (arith, rose, quiet.conf))
    | inr rose ↦ absurd (omega (arith, rose, quiet.input))
  ]
  no_fault_of_four WriteFault faults quiet = elim (faults.write refl) [
    | inl rose ↦ absurd (omega (arith, rose, quiet.frames.faults))
    | inr more ↦ elim more [
      | inl rose ↦ absurd (omega (arith, rose, quiet.frames.zeros))
      | inr last ↦ elim last [
        | inl rose ↦ absurd (omega (arith, rose, quiet.report.faults))
        | inr rose ↦ absurd (omega (arith, rose, quiet.report.zeros))
      ]
    ]
  ]
  no_fault_of_four other faults quiet = inl tt

-- the counts of a sink as one fact
pub quiet_sink : {C : Type 0} (gc : sink.Ghosts C) (old new : C) (left : Option (List ℕ)) (Asked : List ℕ → Type 0) (Reads Ends : Type 0)
    → IfSome left (λ octets. Asked octets → Reads → gc.faults new ≡ gc.faults old → gc.zeros new ≡ gc.zeros old → Ends)
    → IfSome left (λ octets. Asked octets → Reads → SinkIsQuiet gc old new → Ends)
quiet_sink gc old new None Asked Reads Ends all = tt
quiet_sink gc old new (Some octets) Asked Reads Ends all = λ asked reads quiet. all asked reads quiet.faults quiet.zeros

-- a read error is none of the others

pub read_not_write : (ended : Status) → ended ≡ ReadFault → ended ≢ WriteFault
read_not_write ended is other = apart (sym is ∙ other)
  where
    apart : ReadFault ≡ WriteFault → ⊥
    apart e = cc

pub read_not_memory : (ended : Status) → ended ≡ ReadFault → ended ≢ Memory
read_not_memory ended is other = apart (sym is ∙ other)
  where
    apart : ReadFault ≡ Memory → ⊥
    apart e = cc
