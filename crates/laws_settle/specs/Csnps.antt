-- A router that receives all CSNPs that another sends when CSNPs are due, and is then left with nothing to send or to request on
-- that interface (ISO/IEC 10589, 7.3.15.2 and 7.3.17).
use Rattle.std.specs.Prelude.{◌≡◌, ℕ, ◌<◌, ◌^◌, true, false, List, [], ◌∷◌, fold, length, replicate, slice_get, slice_index_or, Some}
use Rattle.std.specs.List.{AllByRecursion}
use Rattle.lsp_store.specs.Keys.{IsOctets}
use Rattle.wire_base.specs.declared.addresses.LspId.{LspId}
use Rattle.wire_base.specs.declared.entry.Entry.{Entry}
use Rattle.wire_base.specs.model.Control.{Control, Flood, entry_in, srm, ssn}
use Rattle.wire_base.specs.model.Flooding.{due_csnps, on_pdu}
use Rattle.wire_base.specs.model.Pdu.{Pdu}
use Rattle.laws_router.specs.State.{IsRouter, is_up}
use Rattle.replay_text.specs.declared.event.Event.{Event}
use Rattle.replay_text.specs.declared.event.Event.TheVariants.{Send, Take}
use Rattle.domain_model.specs.Run.{world_after}
use Rattle.domain_model.specs.Truth.{IsTruthful}
use Rattle.domain_model.specs.World.{WorldState, link_between, queue_at}
use Rattle.laws_ledger.specs.Runs.{AreAllowed}
use Rattle.laws_quiet.specs.Quiet.{lsdb_at}

-- a router after PDUs that it receives on one of its interfaces, in order
abbrev pub after_pdus : Control → ℕ → List Pdu → Control
after_pdus c link pdus = fold (λ d p. (on_pdu d link p).control) c pdus

-- nothing is dropped, as would be an LSP entry for which the LSDB has no room
abbrev pub NoneDropped : Control → ℕ → List Pdu → Type 0
NoneDropped c link [] = Unit {0}
NoneDropped c link (p ∷ ps) = ((on_pdu c link p).drops ≡ []) × NoneDropped (on_pdu c link p).control link ps

-- no LSP has SRM or SSN on an interface
pub record IsIdleOn (f : Flood) (link : ℕ) : Type 0 where
  pub srm : (id : LspId) → srm f id link ≡ false
  pub ssn : (id : LspId) → ssn f id link ≡ false

-- The fields of an entry fit those of an LSP; a live one has a sequence number and a checksum other than 0
-- (ISO/IEC 10589, 7.3.11 and 9.8).
pub record IsSoundEntry (e : Entry) : Type 0 where
  pub id : IsOctets e.id
  pub life : e.life < 256 ^ 2
  pub seq : e.seq < 256 ^ 4
  pub sum : e.sum < 256 ^ 2
  pub some_seq : 0 < e.life → 0 < e.seq
  pub some_sum : 0 < e.life → 0 < e.sum

-- two entries with the same flags and the same content
pub record SaySame (x y : Entry) : Type 0 where
  pub flags : x.flags ≡ y.flags
  pub content : x.content ≡ y.content

-- in two LSDBs live entries of the same LSP ID, sequence number and checksum say the same
abbrev pub AreToldBySums : List Entry → List Entry → Type 0
AreToldBySums xs ys = (id : LspId) (x y : Entry) → entry_in xs id ≡ Some x → entry_in ys id ≡ Some y → 0 < x.life → 0 < y.life → x.seq ≡ y.seq → x.sum ≡ y.sum → SaySame x y

-- The router b receives, on an interface that is up, all CSNPs that the router a sends when CSNPs are due, and no other PDU among
-- them. It finds room for each LSP that they list, and no LSP has SRM or SSN on the interface afterwards.
pub record IsAnswered (a b : Control) (link : ℕ) (after : Control) : Type 0 where
  pub sender : IsRouter a
  pub receiver : IsRouter b
  pub up : is_up b link ≡ true
  pub sent : AllByRecursion IsSoundEntry a.entries
  pub room : NoneDropped b link (due_csnps a true)
  pub is : after ≡ after_pdus b link (due_csnps a true)
  pub stored : AllByRecursion IsSoundEntry after.entries
  pub idle : IsIdleOn after.flood link
  pub told : AreToldBySums a.entries after.entries

-- ---- in a domain

-- Events of an exchange: the router c, at index a, sends what is due toward the router at index b, and that receives the CSNPs,
-- which are the first of it, behind what was in flight there before.
abbrev pub exchange : WorldState → (a b : ℕ) → Control → ℕ → List Event
exchange w a b c link = Send a b ∷ replicate (length (due_csnps c true)) (Take a b (length (queue_at w.flights a link)))

-- The world v is what these events lead to. The receiver's interface is up, and no LSP has SRM or SSN on it afterwards.
pub record IsExchange (w : WorldState) (a b : ℕ) (c d : Control) (link back : ℕ) (v : WorldState) : Type 0 where
  pub truth : IsTruthful w
  pub sender : slice_get w.routers a ≡ Some c
  pub receiver : slice_get w.routers b ≡ Some d
  pub joined : link_between w.domain.routers a b ≡ Some link
  pub met : link_between w.domain.routers b a ≡ Some back
  pub due : slice_index_or c.flood.due link false ≡ true
  pub up : is_up d back ≡ true
  pub allowed : AreAllowed w (exchange w a b c link)
  pub is : v ≡ world_after w (exchange w a b c link)
  pub idle : (e : Control) → slice_get v.routers b ≡ Some e → IsIdleOn e.flood back
  pub told : AreToldBySums (lsdb_at v a) (lsdb_at v b)
