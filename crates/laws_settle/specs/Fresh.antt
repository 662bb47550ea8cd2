-- What gentle events preserve in a domain that began at its first world, and a domain at rest (ISO/IEC 10589, 7.3.15 to 7.3.17).
--
-- A journal gives for an LSP ID and a sequence number the LSP that its router originated under that number.
use Rattle.std.specs.Prelude.{◌≡◌, ℕ, ◌+◌, ◌<◌, ◌≤◌, true, false, List, slice_get, Some}
use Rattle.std.specs.List.{AllByRecursion}
use Rattle.wire_base.specs.declared.addresses.LspId.{LspId}
use Rattle.wire_base.specs.declared.entry.Entry.{Entry}
use Rattle.wire_base.specs.declared.triple.Summary.{Summary}
use Rattle.wire_base.specs.model.Control.{Control, entry_in, fragment_0, own_entry_in, seq_of, srm}
use Rattle.wire_base.specs.model.Item.{Item, ControlItem, PacketItem}
use Rattle.wire_base.specs.model.Pdu.{Head, Pdu, LspPdu, CsnpPdu, PsnpPdu, HelloPdu, OtherPdu}
use Rattle.wire_base.specs.model.Tlv.{rows_of}
use Rattle.domain_model.specs.Faults.{is_up_toward}
use Rattle.domain_model.specs.Truth.{head_of}
use Rattle.domain_model.specs.World.{WorldState, is_up, peer_place, queue_at}
use Rattle.laws_quiet.specs.Quiet.{lsdb_at}

-- the sequence number that an LSDB has of an LSP; 0 if it has none
abbrev pub number_in : List Entry → LspId → ℕ
number_in entries id = seq_of (entry_in entries id)

-- the same for the LSDB of a router
abbrev pub number_at : WorldState → ℕ → LspId → ℕ
number_at w a id = number_in (lsdb_at w a) id

-- ---- the journal

-- Unless its sequence number is 0, it is live, and as it was originated, except for its Remaining Lifetime.
pub record IsOfJournal (journal : LspId → ℕ → Entry) (h : Head) (tlvs : List ℕ) : Type 0 where
  pub live : 0 < h.seq → 0 < h.life
  pub sum : 0 < h.seq → h.sum ≡ (journal h.id h.seq).sum
  pub flags : 0 < h.seq → h.flags ≡ (journal h.id h.seq).flags
  pub content : 0 < h.seq → tlvs ≡ (journal h.id h.seq).content

-- the same of a summary
pub record IsRowOfJournal (journal : LspId → ℕ → Entry) (s : Summary) : Type 0 where
  pub live : 0 < s.seq → 0 < s.life
  pub sum : 0 < s.seq → s.sum ≡ (journal s.id s.seq).sum

abbrev pub IsPduOfJournal : (LspId → ℕ → Entry) → Pdu → Type 0
IsPduOfJournal journal (LspPdu h tlvs) = IsOfJournal journal h tlvs
IsPduOfJournal journal (CsnpPdu source start last tlvs) = AllByRecursion (IsRowOfJournal journal) (rows_of tlvs)
IsPduOfJournal journal (PsnpPdu source tlvs) = AllByRecursion (IsRowOfJournal journal) (rows_of tlvs)
IsPduOfJournal journal HelloPdu = Unit {0}
IsPduOfJournal journal (OtherPdu number) = Unit {0}

abbrev pub IsItemOfJournal : (LspId → ℕ → Entry) → Item → Type 0
IsItemOfJournal journal (ControlItem p) = IsPduOfJournal journal p
IsItemOfJournal journal (PacketItem x) = Unit {0}

abbrev pub AreOfJournal : (LspId → ℕ → Entry) → List Entry → Type 0
AreOfJournal journal entries = AllByRecursion (λ e. IsOfJournal journal (head_of e) e.content) entries

-- all LSDBs and all that is in flight are of the journal
pub record IsJournal (w : WorldState) (journal : LspId → ℕ → Entry) : Type 0 where
  pub entries : AllByRecursion (λ c. AreOfJournal journal c.entries) w.routers
  pub items : (a link : ℕ) → AllByRecursion (IsItemOfJournal journal) (queue_at w.flights a link)

-- ---- own LSPs

-- A router has its own LSP, with a sequence number that no router exceeds, and of which there are enough for the events that a
-- domain allows.
pub record IsOwnNewest (w : WorldState) (c : Control) : Type 0 where
  pub unspent : c.spent ≡ false
  pub entry : Entry
  pub own : own_entry_in c ≡ Some entry
  pub some : 0 < entry.seq
  pub few : entry.seq ≤ w.events + 1
  pub newest : (a : ℕ) → number_at w a (fragment_0 c.conf.system) ≤ entry.seq

abbrev pub AreOwnNewest : WorldState → Type 0
AreOwnNewest w = AllByRecursion (IsOwnNewest w) w.routers

-- ---- what is in flight is not ahead of its sender

-- each sequence number in the PDU is at most the one given for the LSP ID
abbrev pub IsWithin : (LspId → ℕ) → Pdu → Type 0
IsWithin most (LspPdu h tlvs) = h.seq ≤ most h.id
IsWithin most (CsnpPdu source start last tlvs) = AllByRecursion (λ s. s.seq ≤ most s.id) (rows_of tlvs)
IsWithin most (PsnpPdu source tlvs) = AllByRecursion (λ s. s.seq ≤ most s.id) (rows_of tlvs)
IsWithin most HelloPdu = Unit {0}
IsWithin most (OtherPdu number) = Unit {0}

abbrev pub IsItemWithin : (LspId → ℕ) → Item → Type 0
IsItemWithin most (ControlItem p) = IsWithin most p
IsItemWithin most (PacketItem x) = Unit {0}

-- no PDU in flight has a sequence number above the one that its sender has of that LSP
abbrev pub IsNotAhead : WorldState → Type 0
IsNotAhead w = (a link : ℕ) → AllByRecursion (IsItemWithin (number_at w a)) (queue_at w.flights a link)

-- ---- what a router has and its neighbor lacks is to be sent

-- an LSP has SRM on an interface that is up if its sequence number is above a given one
abbrev pub Owes : Control → LspId → ℕ → ℕ → Type 0
Owes c id link least = is_up c link ≡ true → least < number_in c.entries id → srm c.flood id link ≡ true

-- each router sends what the router at the far end has with a lower sequence number, or lacks
abbrev pub IsOwed : WorldState → Type 0
IsOwed w = (a link : ℕ) (c : Control) (id : LspId) → slice_get w.routers a ≡ Some c → Owes c id link (number_at w (peer_place w.domain.routers a link) id)

-- ---- all

pub record IsFresh (w : WorldState) : Type 0 where
  pub journal : LspId → ℕ → Entry
  pub journaled : IsJournal w journal
  pub own : AreOwnNewest w
  pub behind : IsNotAhead w
  pub owed : IsOwed w

-- ---- at rest

-- the two interfaces of each link are both up or both down
abbrev pub HasWholeLinks : WorldState → Type 0
HasWholeLinks w = (a b : ℕ) → is_up_toward w a b ≡ is_up_toward w b a

-- no router has an LSP to send on an interface that is up
abbrev pub HasNoneToSend : WorldState → Type 0
HasNoneToSend w = (a link : ℕ) (c : Control) (id : LspId) → slice_get w.routers a ≡ Some c → is_up c link ≡ true → srm c.flood id link ≡ false
