-- Lists of masks, of which either one octet or all is stored.
use Rattle.std.specs.Prelude.{◌≡◌, ◌-◌, ℕ, Bool, true, false, List, vec_len, vec_capacity}
use Rattle.wire_base.specs.declared.addresses.LspId.{LspId}
use Rattle.isis_flood.specs.declared.mask_list.MaskList.{MaskList}
use Rattle.isis_flood.specs.declared.mask_list.MaskList.TheVariants.{Octets, Words}
use Rattle.isis_flood.specs.Masks.{AreEven}

abbrev pub masks_in : MaskList → List ℕ
masks_in (Octets list) = list.items
masks_in (Words list) = list.items

-- for how many more masks memory is allocated
abbrev pub room_in : MaskList → ℕ
room_in (Octets list) = vec_capacity list - vec_len list
room_in (Words list) = vec_capacity list - vec_len list

-- whether one octet of each mask is stored
abbrev pub is_narrow : MaskList → Bool
is_narrow (Octets list) = true
is_narrow (Words list) = false

-- three lists have one length, and both mask lists store as much of each mask
pub record AreColumns (ids : List LspId) (srm ssn : MaskList) : Type 0 where
  pub even : AreEven ids (masks_in srm) (masks_in ssn)
  pub alike : is_narrow ssn ≡ is_narrow srm
