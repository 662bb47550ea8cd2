-- A reader between records to the next item.
use Rattle.std.proofs.Common.{◌≡◌, ℕ, List, [], ◌++◌, Option, Some, None, refl, sym, ap, ◌∙◌, append_assoc}
use Rattle.std.specs.Io.KnownBytes.{Consumes, IsAtEnd}
use Rattle.std.proofs.KnownBytes.{Consumes-nil, Consumes-trans}
use Rattle.command_drive.specs.Reading.{End, Reads, Left}

-- What was read so far, and that what the reader gives of it and more is what it now gives of more.
pub record Seeks {T : Type 0} (left left_now : Option (List ℕ)) (reads now : End → List ℕ → Reads T) : Type 0 where
  pub octets : List ℕ
  pub consumed : Consumes left left_now octets
  pub is : (end : End) (more : List ℕ) → reads end (octets ++ more) ≡ now end more

pub seeks_first : {T : Type 0} (left : Option (List ℕ)) (reads : End → List ℕ → Reads T) → Seeks left left reads reads
seeks_first left reads = record { octets = []; consumed = Consumes-nil left; is = λ end more. refl }

-- nothing was read
pub seeks_as : {T : Type 0} (left left_now : Option (List ℕ)) (reads now next : End → List ℕ → Reads T) → Seeks left left_now reads now → ((end : End) (more : List ℕ) → now end more ≡ next end more) → Seeks left left_now reads next
seeks_as left left_now reads now next seeks same = record { octets = seeks.octets; consumed = seeks.consumed; is = λ end more. seeks.is end more ∙ same end more }

-- a further chunk was read
pub seeks_on : {T : Type 0} (left mid left_now : Option (List ℕ)) (reads now next : End → List ℕ → Reads T) (octets : List ℕ) → Seeks left mid reads now → Consumes mid left_now octets → ((end : End) (more : List ℕ) → now end (octets ++ more) ≡ next end more) → Seeks left left_now reads next
seeks_on left mid left_now reads now next octets seeks consumed same =
    record {
      octets = seeks.octets ++ octets;
      consumed = Consumes-trans left mid left_now seeks.octets octets seeks.consumed consumed;
      is = λ end more. ap (reads end) (append_assoc seeks.octets octets more) ∙ seeks.is end (octets ++ more) ∙ same end more;
    }

pub nothing_left : (left : Option (List ℕ)) (more : List ℕ) → IsAtEnd left → Left left more → more ≡ []
nothing_left None more at_end left = left
nothing_left (Some rest) more at_end left = sym left ∙ at_end
