-- A domain with nothing left to flood (ISO/IEC 10589, 7.3.15 and 7.3.17).
use Rattle.std.specs.Prelude.{◌≡◌, ℕ, false, slice_get, slice_index_or, Some}
use Rattle.std.specs.List.{AllByRecursion}
use Rattle.wire_base.specs.declared.addresses.LspId.{LspId}
use Rattle.wire_base.specs.model.Control.{Control, srm, ssn}
use Rattle.wire_base.specs.model.Item.{Item, ControlItem, PacketItem}
use Rattle.domain_model.specs.World.{WorldState, frames_between, link_between}

-- a copy of a packet, and no PDU
abbrev pub IsPacket : Item → Type 0
IsPacket (ControlItem p) = ⊥
IsPacket (PacketItem x) = Unit {0}

-- Toward no neighbor a router has an LSP to send, to acknowledge or to request, or a CSNP that is due; and no PDU is in flight.
pub record IsIdle (w : WorldState) : Type 0 where
  pub srm_off : (a b link : ℕ) (c : Control) (id : LspId) → slice_get w.routers a ≡ Some c → link_between w.domain.routers a b ≡ Some link → srm c.flood id link ≡ false
  pub ssn_off : (a b link : ℕ) (c : Control) (id : LspId) → slice_get w.routers a ≡ Some c → link_between w.domain.routers a b ≡ Some link → ssn c.flood id link ≡ false
  pub due_off : (a b link : ℕ) (c : Control) → slice_get w.routers a ≡ Some c → link_between w.domain.routers a b ≡ Some link → slice_index_or c.flood.due link false ≡ false
  pub no_pdus : (a b : ℕ) → AllByRecursion IsPacket (frames_between w a b)
