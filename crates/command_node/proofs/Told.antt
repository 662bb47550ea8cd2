-- What was written and read, of objects that tell it and of those that don't.
use Rattle.std.proofs.Common.{◌≡◌, ℕ, List, [], Option, Some, None, refl, sym, subst, ◌∙◌, append-nil, inl, inr}
use Rattle.std.specs.Prelude.{◌⊎◌}
use Rattle.std.specs.Io.KnownBytes.{Appends}
use Rattle.wire_base.specs.declared.status.Status.{Status}
use Rattle.wire_base.specs.declared.status.Status.TheVariants.{WriteFault, Memory}
use Rattle.command_drive.specs.Answer.{IsDecided}
use Rattle.command_drive.specs.Outside.{Held, AppendsFront}

pub nothing_more : (known : Option (List ℕ)) → Appends known known []
nothing_more None = tt
nothing_more (Some xs) = sym (append-nil xs)

-- nothing is the front of each text
pub no_front : (known : Option (List ℕ)) (text : List ℕ) → AppendsFront known known text
no_front known text = (0, nothing_more known)

-- a source may have held something
pub held_some : (left : Option (List ℕ)) → (octets : List ℕ) × Held left octets
held_some None = ([], tt)
held_some (Some octets) = (octets, refl)

-- of a call that ends so or with a write fault
pub ended_so : (wanted s : Status) → IsDecided s → (s ≡ wanted) ⊎ (s ≡ WriteFault) → s ≡ wanted
ended_so wanted s decided (inl e) = e
ended_so wanted s decided (inr e) = absurd (subst IsDecided e decided)

-- and a call that takes no memory stops at a fault of its sink alone
pub write_fault : (wanted s : Status) → IsDecided wanted → (s ≡ wanted) ⊎ (s ≡ WriteFault) → (s ≡ WriteFault) ⊎ (s ≡ Memory) → s ≡ WriteFault
write_fault wanted s decided (inr e) stopped = e
write_fault wanted s decided (inl e) (inl failed) = failed
write_fault wanted s decided (inl e) (inr memory) = absurd (subst IsDecided (sym e ∙ memory) decided)
