-- The models of this crate's types that borrow octets.
use Rattle.std.specs.Prelude.{◌≡◌, ℕ, List, Option, Some, None, Result, Ok, Err}
use Rattle.wire_base.specs.declared.faults.TlvFault.{TlvFault}
use Rattle.wire_base.specs.model.Tlv.{tlv_at}
use Rattle.wire_base.specs.model.Tlv.{Tlv as Item}
use Rattle.wire_base.specs.model.Tlv.{Reach as ReachItem}
use Rattle.wire_base.specs.model.Tlv.{Prefix as PrefixItem}
use Rattle.isis_tlv.specs.declared.reaches.Reach.{Reach}
use Rattle.isis_tlv.specs.declared.prefixes.PrefixEntry.{PrefixEntry}
use Rattle.isis_tlv.specs.declared.walk.Tlv.{Tlv}

abbrev pub item : Tlv → Item
item t = record { code = t.code; value = t.value.now }

abbrev pub reach_of : Reach → ReachItem
reach_of r = record { neighbour = r.neighbour; pseudonode = r.pseudonode; metric = r.metric; subs = r.subs.now }

-- the length is the low six bits of the control octet
abbrev pub prefix_of : PrefixEntry → PrefixItem
prefix_of p = record { metric = p.metric; control = p.control; octets = p.octets; subs = p.subs.now }

-- a step of an iterator from old to new
abbrev pub Walks : List ℕ → Result (Option Tlv) TlvFault → List ℕ → Type 0
Walks old (Ok (Some t)) new = tlv_at old ≡ Ok (Some (item t, new))
Walks old (Ok None) new = (tlv_at old ≡ Ok None) × (new ≡ old)
Walks old (Err e) new = (tlv_at old ≡ Err e) × (new ≡ old)
