-- What a router sends, delivers and drops on octets, and the same in terms of items: each item is sent on its interface
-- as a frame, and is parsed from that frame again (RFC 8279, 6; RFC 8296, 2 and 3; RFC 2784, 2; ISO/IEC 10589, 8.4).
--
-- What the octets do not contain is passed separately: the injection that they belong to, if they carry packets, and
-- the BFR-ids of the packet that was received.
use Rattle.std.specs.Prelude.{◌≡◌, ℕ, ◌<◌, List, [], length, map, slice_get, Option, Some, None, option_map, unwrap_or}
use Rattle.std.specs.List.{AllByRecursion}
use Rattle.wire_base.specs.declared.conf.End.{End}
use Rattle.wire_base.specs.declared.conf.Level.{Level}
use Rattle.wire_base.specs.declared.conf.RouterConf.{RouterConf}
use Rattle.wire_base.specs.declared.effects.Sent.{Sent}
use Rattle.wire_base.specs.declared.effects.Got.{Got}
use Rattle.wire_base.specs.model.Control.{Control}
use Rattle.wire_base.specs.model.Flooding.{Reply}
use Rattle.wire_base.specs.model.Item.{Item, DataItem, frame_of}
use Rattle.wire_base.specs.model.OnFrame.{Positions, Drop, Effects}
use Rattle.wire_base.specs.model.Place.{id_at}
use Rattle.frame_list.specs.Spans.{Noted, noted_as}
use Rattle.domain_model.specs.declared.lines.GotLine.{GotLine}
use Rattle.domain_model.specs.declared.lines.DropLine.{DropLine}
use Rattle.domain_model.specs.World.{peer_place}
use Rattle.domain_model.specs.Moves.{Sending, Made, over_end, listed, replied, packet_taken}
use Rattle.frames_in_flight.specs.declared.flight.Note.{Note}
use Rattle.domain_model.specs.declared.step_out.WireFrame.{WireFrame}
use Rattle.frames_in_flight.specs.Read.{item_in}

-- ---- frames

abbrev pub frame_on : Level → Option End → Item → List ℕ
frame_on level None x = []
frame_on level (Some e) x = frame_of level e x

abbrev pub frame_from : Option RouterConf → ℕ → Item → List ℕ
frame_from None link x = []
frame_from (Some r) link x = frame_on r.level (slice_get r.ends link) x

-- the frame of an item on an interface of the router at an index; no octets if there is no such interface
abbrev pub frame_over : List RouterConf → ℕ → ℕ → Item → List ℕ
frame_over confs a link x = frame_from (slice_get confs a) link x

-- what the router sends
abbrev pub sent_of : List RouterConf → Sending → Sent
sent_of confs s = record { link = s.link; octets = frame_over confs s.from s.link s.item }

-- and what is reported of it
abbrev pub wire_of : List RouterConf → Sending → WireFrame
wire_of confs s = record { from = s.from; to = s.to; octets = frame_over confs s.from s.link s.item }

-- a frame that the router at index a sends, as it is reported
abbrev pub wire_from : List RouterConf → ℕ → Sent → WireFrame
wire_from confs a s = record { from = a; to = peer_place confs a s.link; octets = s.octets }

-- the same frame, with that router as its note instead of its link
abbrev pub peer_noted : List RouterConf → ℕ → Noted ℕ → Noted ℕ
peer_noted confs a f = noted_as (peer_place confs a f.note) f

-- ---- items of frames

-- what is noted of a frame that the router at index a sends on an interface for that injection; nothing for a PDU
abbrev pub note_over : List RouterConf → ℕ → Option ℕ → ℕ → Option Note
note_over confs a number link = option_map (λ n. record { number = n; to = peer_place confs a link }) number

-- the item of such a frame; `os` are the routers by their places, and `confs` the same as they are configured when a
-- packet is parsed
abbrev pub item_sent : List RouterConf → List RouterConf → ℕ → Option ℕ → Sent → Item
item_sent os confs a number s = item_in confs (note_over os a number s.link) s.octets

-- what is sent, with its frames' items parsed in that way
abbrev pub sending_of : List RouterConf → List RouterConf → ℕ → Option ℕ → Sent → Sending
sending_of os confs a number s = over_end os a s.link (item_sent os confs a number s)

-- ---- what is delivered and dropped

-- what carries no packet is never delivered
abbrev pub got_line : ℕ → Option ℕ → Got → GotLine
got_line a number g = record { router = a; injection = unwrap_or number 0; id = g.id; payload = g.payload }

-- the BFR-ids of bit positions; of a packet that is dropped as a whole they are those that it arrived with
abbrev pub ids_dropped : List ℕ → Option Positions → List ℕ
ids_dropped ids None = listed ids
ids_dropped ids (Some s) = listed (map (id_at s.triple) s.positions)

abbrev pub drop_line : ℕ → Option ℕ → List ℕ → Drop → DropLine
drop_line a number ids d = record { router = a; injection = number; cause = d.cause; ids = ids_dropped ids d.set }

-- ---- both

abbrev pub ends_of : Option RouterConf → List End
ends_of None = []
ends_of (Some r) = r.ends

-- A frame that the router at index a sends on one of its interfaces is the frame of the item that is parsed from it.
pub record IsItemFrame (os confs : List RouterConf) (a : ℕ) (number : Option ℕ) (s : Sent) : Type 0 where
  pub within : s.link < length (ends_of (slice_get os a))
  pub is : s.octets ≡ frame_over os a s.link (item_sent os confs a number s)

-- What the router at index a did on octets, for that injection or for none and with those BFR-ids, is the same as what
-- it does on items, which are parsed from its frames.
pub record IsFramed (os confs : List RouterConf) (a : ℕ) (number : Option ℕ) (ids : List ℕ) (e : Effects) (m : Made) : Type 0 where
  pub frames : AllByRecursion (IsItemFrame os confs a number) e.sent
  pub sent : m.sent ≡ map (sending_of os confs a number) e.sent
  pub wires : map (wire_of os) m.sent ≡ map (wire_from os a) e.sent
  pub got : m.got ≡ map (got_line a number) e.got
  pub drops : m.drops ≡ map (drop_line a number ids) e.drops

-- What flooding replies to octets, or sends: the router's next state, and PDUs on one interface.
pub record IsFlooded (os confs : List RouterConf) (a link : ℕ) (c : Control) (r : Reply) (next : Control) (e : Effects) : Type 0 where
  pub control : next ≡ r.control
  pub framed : IsFramed os confs a None [] e (replied os a link r)

-- A router receives the octets of a copy of a packet: its state is unchanged, and it forwards the copy, or sends it on
-- in its tunnel.
pub record IsHopped (os confs : List RouterConf) (a : ℕ) (c : Control) (x : DataItem) (next : Control) (e : Effects) : Type 0 where
  pub control : next ≡ c
  pub framed : IsFramed os confs a (Some x.number) x.ids e (packet_taken os a c x x.outer)
