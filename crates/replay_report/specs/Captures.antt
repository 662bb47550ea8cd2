-- The capture of a run: its front, and a record for each frame that a router sent, in order.
use Rattle.std.specs.Prelude.{ℕ, ◌+◌, List, [], ◌++◌, ◌<◌, flat_map, length, sum_by, take, unwrap_or}
use Rattle.std.specs.List.{AllByRecursion}
use Rattle.wire_base.specs.declared.conf.RouterConf.{RouterConf}
use Rattle.wire_base.specs.model.Capture.{written_header, written_record}
use Rattle.pcapng_frames.specs.Written.{written_head, written_packet}
use Rattle.domain_model.specs.declared.step_out.WireFrame.{WireFrame}
use Rattle.domain_model.specs.Moves.{Sending}
use Rattle.domain_model.specs.World.{link_between}
use Rattle.frames_in_flight.specs.Framed.{frame_over}
use Rattle.replay_report.specs.declared.recording.Recording.{Recording}
use Rattle.replay_report.specs.declared.recording.Recording.TheVariants.{Discarded, Pcap, Pcapng}

-- how many interfaces the routers before that one have
abbrev pub interfaces_before : List RouterConf → ℕ → ℕ
interfaces_before routers place = sum_by (λ (r : RouterConf). length r.ends) (take place routers)

-- The number of a router's interface toward another in a capture: interfaces are numbered from 0, by router and
-- interface in the order of the domain.
abbrev pub interface_toward : List RouterConf → (from to : ℕ) → ℕ
interface_toward routers from to = interfaces_before routers from + unwrap_or (link_between routers from to) 0

-- The timestamp of a frame's record, in seconds, is the line number of its event, with no microseconds.
unfoldable pub frame_record : Recording → (interface line : ℕ) → List ℕ → List ℕ
frame_record Discarded interface line octets = []
frame_record Pcap interface line octets = written_record line 0 octets
frame_record Pcapng interface line octets = written_packet interface line 0 octets

-- the record of a frame that is reported
abbrev pub wire_record : Recording → List RouterConf → ℕ → WireFrame → List ℕ
wire_record recording routers line f = frame_record recording (interface_toward routers f.from f.to) line f.octets

-- the records of frames that are reported
abbrev pub wire_records : Recording → List RouterConf → ℕ → List WireFrame → List ℕ
wire_records recording routers line frames = flat_map (wire_record recording routers line) frames

-- the record of an item that a router sent, with its line
abbrev pub sending_record : Recording → List RouterConf → ℕ × Sending → List ℕ
sending_record recording routers sent =
    frame_record recording (interface_toward routers sent.1.from sent.1.to) sent.0 (frame_over routers sent.1.from sent.1.link sent.1.item)

-- the front of a capture: its header, in the pcapng format with an interface for each of the domain
unfoldable pub capture_front : Recording → List RouterConf → List ℕ
capture_front Discarded routers = []
capture_front Pcap routers = written_header
capture_front Pcapng routers = written_head (interfaces_before routers (length routers))

-- a capture of what was sent
abbrev pub capture_of : Recording → List RouterConf → List (ℕ × Sending) → List ℕ
capture_of recording routers sent = capture_front recording routers ++ flat_map (sending_record recording routers) sent

-- each frame fits a record
abbrev pub AreShort : List WireFrame → Type 0
AreShort frames = AllByRecursion (λ (f : WireFrame). length f.octets < 65536) frames
