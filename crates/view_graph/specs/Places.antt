-- Definitions for the code about claims.
use Rattle.std.specs.Prelude.{◌≡◌, ℕ, suc, Bool, List, [], ◌∷◌, ◌++◌, ◌==◌, ◌&&◌, nat_lt, if◌then◌else◌}
use Rattle.std.specs.List.{flat_map, list_any}
use Rattle.std.specs.Ordering.{is_lt}
use Rattle.wire_base.specs.declared.addresses.SystemId.{SystemId}
use Rattle.wire_base.specs.declared.entry.Entry.{Entry}
use Rattle.wire_base.specs.declared.view.ViewSub.{ViewSub}
use Rattle.wire_base.specs.model.Control.{system_order}
use Rattle.wire_base.specs.model.Tlv.{Tlv}
use Rattle.wire_base.specs.model.View.{Claim, is_overload_flag, links_in, subs_in}

-- how many claims precede the first whose system is above this one
abbrev pub place_before : SystemId → List Claim → ℕ
place_before s [] = 0
place_before s (c ∷ cs) = if is_lt (system_order s c.system) then 0 else suc (place_before s cs)

-- whether one of them is in that sub-domain
abbrev pub has_sd : ℕ → List ViewSub → Bool
has_sd sd subs = list_any (λ s. s.sd == sd) subs

-- a claim while all those TLVs are being added to it and the rest is left
pub record IsAdding (rest all : List Tlv) (before now : Claim) : Type 0 where
  pub system : now.system ≡ before.system
  pub overload : now.overload ≡ before.overload
  pub links : now.links ++ flat_map links_in rest ≡ before.links ++ flat_map links_in all
  pub subs : now.subs ++ flat_map subs_in rest ≡ before.subs ++ flat_map subs_in all

-- a live entry, not of a pseudonode
abbrev pub is_live_part : Entry → Bool
is_live_part e = (e.id.pseudonode == 0) && nat_lt 0 e.life

-- the first entry, where there is one, is of that system
abbrev pub Begins : SystemId → List Entry → Type 0
Begins s [] = Unit {0}
Begins s (e ∷ es) = e.id.system ≡ s

-- an empty claim of the system of a fragment 0
abbrev pub bare_claim : Entry → Claim
bare_claim e = record { system = e.id.system; overload = is_overload_flag e.flags; links = []; subs = [] }
