use Rattle.std.proofs.Common.{List, ℕ, ap₂}
use Rattle.pcapng_frames.specs.declared.interface.Interface.{Interface}
use Rattle.pcapng_frames.specs.declared.reader.Step.TheVariants as steps
use Rattle.pcapng_frames.proofs.AgainLaws.{capture_read}
use Rattle.pcapng_frames.proofs.ReadLaws.{any_pieces}
use Rattle.pcapng_frames.proofs.reader.NgReader.new.Goals as goal

pub returns-clause-pieces : goal.returns-clause-pieces
returns-clause-pieces c =
    any_pieces _ (ap₂ (λ (i : List Interface) (l : List ℕ). record { step = steps.Opening; interfaces = i; before = record { sec = 0; usec = 0 }; octets = l }) c.new.ensures.items c.new-2.ensures.items)

pub returns-clause-written : goal.returns-clause-written
returns-clause-written c = capture_read
