-- The items of an input, and what follows the last one.
use Rattle.std.specs.Prelude.{ℕ, ◌≡◌, Bool, true, false, List, [], ◌∷◌, ◌++◌, Option, Some, None}
use Rattle.std.specs.Io.KnownBytes.{Consumes, IsAtEnd}
use Rattle.command_drive.specs.declared.items.Close.{Close}
use Rattle.command_drive.specs.declared.items.Close.TheVariants as close
use Rattle.command_drive.specs.declared.items.Found.{Found}
use Rattle.command_drive.specs.declared.items.Found.TheVariants as found

-- how a source ends
pub data End : Type 0 where
  Ends : End
  Fails : End

-- what follows the last item: how the input closes, or a failed source
pub data Behind : Type 0 where
  Closed : Close → Behind
  Cut : Behind

pub record Reads (T : Type 0) : Type 0 where
  pub items : List T
  pub behind : Behind

abbrev pub first : {T : Type 0} → T → Reads T → Reads T
first item rest = record { items = item ∷ rest.items; behind = rest.behind }

-- that is what a source has left, if the source specifies it; otherwise it is empty
abbrev pub Left : Option (List ℕ) → List ℕ → Type 0
Left None more = more ≡ []
Left (Some left) more = left ≡ more

-- an input whose items are all processed has nothing left
abbrev pub IsWhole : Close → Option (List ℕ) → Type 0
IsWhole close.Ended left = IsAtEnd left
IsWhole close.TooLong left = Unit {0}
IsWhole (close.Broken n) left = Unit {0}

-- what a reader found, in the octets that it read
abbrev pub Finds : {T : Type 0} → Found → (old new : End → List ℕ → Reads T) → T → (left left_now : Option (List ℕ)) → Type 0
Finds found.Item old new item left left_now =
    (octets : List ℕ) × Consumes left left_now octets × ((end : End) (more : List ℕ) → old end (octets ++ more) ≡ first item (new end more))
Finds found.Last old new item left left_now =
    (octets : List ℕ) × Consumes left left_now octets × ((more : List ℕ) → Left left_now more → old Ends (octets ++ more) ≡ record { items = item ∷ []; behind = Closed close.Ended }) × IsAtEnd left_now
Finds (found.Closed how) old new item left left_now =
    (octets : List ℕ) × Consumes left left_now octets × ((more : List ℕ) → Left left_now more → old Ends (octets ++ more) ≡ record { items = []; behind = Closed how }) × IsWhole how left_now
Finds found.Waits old new item left left_now =
    (octets : List ℕ) × Consumes left left_now octets × ((end : End) (more : List ℕ) → old end (octets ++ more) ≡ new end more)
Finds found.Failed old new item left left_now =
    (octets : List ℕ) × Consumes left left_now octets × (old Fails octets ≡ record { items = []; behind = Cut })

-- there may be more to find, or it is the last item
abbrev pub GoesOn : Found → Type 0
GoesOn found.Item = Unit {0}
GoesOn found.Last = Unit {0}
GoesOn found.Waits = Unit {0}
GoesOn (found.Closed how) = ⊥
GoesOn found.Failed = ⊥

-- whether it waits for more of the input, if it continues
abbrev pub IsWaiting : Found → Bool → Type 0
IsWaiting found.Item waits = waits ≡ false
IsWaiting found.Last waits = waits ≡ false
IsWaiting found.Waits waits = waits ≡ true
IsWaiting (found.Closed how) waits = Unit {0}
IsWaiting found.Failed waits = Unit {0}
