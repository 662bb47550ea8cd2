-- In how many lines of a packet an id is.
use Rattle.std.specs.Prelude.{ℕ, ◌+◌, ◌≡◌, List, [], ◌∷◌, ◌++◌, All, Option, if◌then◌else◌}
use Rattle.std.specs.List.{flat_map}
use Rattle.std.specs.Io.KnownBytes.{Appends}
use Rattle.wire_base.specs.model.BitSet.{has_member}
use Rattle.command_hop.specs.Forward.{Outcome, Local, Copy, Dropped}
use Rattle.command_hop.specs.HopText.{Packet, outcomes_of, packets_of, packet_text}

abbrev pub ids_in : Outcome → List ℕ
ids_in (Local id) = id ∷ []
ids_in (Copy name ids) = ids
ids_in (Dropped ids) = ids

abbrev pub times_in : ℕ → List Outcome → ℕ
times_in id [] = 0
times_in id (outcome ∷ more) = (if has_member id (ids_in outcome) then 1 else 0) + times_in id more

-- Each id of a packet is in exactly one of its lines, and no other id is in any.
abbrev pub IsParted : Packet → Type 0
IsParted packet = (id : ℕ) → times_in id (outcomes_of packet) ≡ (if has_member id packet.ids then 1 else 0)

-- The report gained the lines of the input's packets, in order, and one more line; and `IsParted` is true of each
-- packet.
pub record Reports (input : List ℕ) (before now : Option (List ℕ)) : Type 0 where
  pub lines : (ending : List ℕ) × Appends before now (flat_map packet_text (packets_of input) ++ ending)
  pub parted : All IsParted (packets_of input)
