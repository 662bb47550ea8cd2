-- One router on the records of a capture: what it sends, with times, and what is reported of it.
use Rattle.std.specs.Prelude.{ℕ, zero, suc, ◌+◌, ◌≡◌, ◌%◌, ◌==◌, ◌&&◌, nat_le, nat_lt, ◌≤◌, ◌-◌, max, Bool, true, false, List, [], ◌∷◌, ◌++◌, length, map, take, drop, Option, Some, None, option_map, codes, if◌then◌else◌}
use Rattle.std.specs.List.{fold, flat_map, range_with_len}
use Rattle.std.specs.Str.{bytes_eq}
use Rattle.std.specs.Fmt.{decimal}
use Rattle.wire_base.specs.declared.conf.End.{End}
use Rattle.wire_base.specs.declared.conf.RouterConf.{RouterConf}
use Rattle.wire_base.specs.declared.effects.Sent.{Sent}
use Rattle.wire_base.specs.declared.effects.Got.{Got}
use Rattle.wire_base.specs.declared.limits.TheConstants.{CAPTURE_LIMIT, MOST_FRAME}
use Rattle.wire_base.specs.declared.status.Status.{Status}
use Rattle.wire_base.specs.declared.status.Status.TheVariants.{Done, ReadFault}
use Rattle.wire_base.specs.model.Capture.{written_header, written_record}
use Rattle.wire_base.specs.model.Control.{Control}
use Rattle.wire_base.specs.model.Flooding.{first_control, tick, send}
use Rattle.wire_base.specs.model.OnFrame.{Effects, Drop, Positions, Next, on_frame, framed}
use Rattle.wire_base.specs.model.Place.{id_at}
use Rattle.pcapng_frames.specs.declared.packet.NgRecord.{NgRecord}
use Rattle.replay_text.specs.Ids.{ids_text}
use Rattle.replay_text.specs.Payload.{payload_text}
use Rattle.domain_model.specs.Moves.{listed}
use Rattle.laws_router.specs.State.{is_up}
use Rattle.command_drive.specs.Answer.{Verdict}
use Rattle.command_drive.specs.Captured.{refused_record, refused_by, too_long}
use Rattle.command_drive.specs.CaptureReading.{any_unread, any_fed, any_drained, any_fault, any_end, HasRecords}
use Rattle.command_drive.specs.Captures.{within_limit, is_within}
use Rattle.command_drive.specs.declared.capture_reader.CaptureReader.{CaptureReader}
use Rattle.command_drive.specs.declared.capture_reader.RecordFault.{RecordFault}
use Rattle.replay_text.specs.Report.{line_of, cause_text}
use Rattle.command_node.specs.declared.node_command.tally.Tally.{Tally}

-- ---- the state of a node

-- A node: the control state of its router; the second of its clock, once a record has set it; how many seconds have
-- passed; its counts; and its capture and its report so far.
pub record Node : Type 0 where
  pub control : Control
  pub clock : Option ℕ
  pub ticks : ℕ
  pub tally : Tally
  pub frames : List ℕ
  pub report : List ℕ

abbrev pub no_tally : Tally
no_tally = record { records = 0; used = 0; passed = 0; got = 0; dropped = 0; sent = 0 }

-- a router that has just started, before the first record
abbrev pub first_node : RouterConf → Node
first_node r = record { control = first_control r; clock = None; ticks = 0; tally = no_tally; frames = written_header; report = [] }

-- ---- frames that are sent

unfoldable pub frame_record : (sec usec : ℕ) → Sent → List ℕ
frame_record sec usec s = written_record sec usec s.octets

-- the records of frames that are sent at a given time
abbrev pub frames_text : (sec usec : ℕ) → List Sent → List ℕ
frames_text sec usec sent = flat_map (frame_record sec usec) sent

unfoldable pub goes_out : (sec usec : ℕ) → List Sent → Node → Node
goes_out sec usec sent n = record n { frames = n.frames ++ frames_text sec usec sent; tally = record n.tally { sent = n.tally.sent + length sent } }

-- ---- seconds

-- what is due on a link is sent at the start of a second
abbrev pub next_sent : ℕ → Node → Next → Node
next_sent sec n next = goes_out sec 0 next.effects.sent (record n { control = next.control })

unfoldable pub sends_on : ℕ → Node → ℕ → Node
sends_on sec n link = if is_up n.control link then next_sent sec n (framed link (send n.control link)) else n

-- on each link that is up, in order
unfoldable pub sends_all : ℕ → Node → Node
sends_all sec n = fold (sends_on sec) n (range_with_len 0 (length n.control.conf.ends))

-- after every fifth second the router sends
abbrev pub every_fifth : ℕ → Node → Node
every_fifth sec n = if n.ticks % 5 == 0 then sends_all sec n else n

-- one second passes, and the clock is set to it
unfoldable pub second_passes : ℕ → Node → Node
second_passes sec n = every_fifth sec (record n { control = (tick n.control).control; clock = Some sec; ticks = n.ticks + 1 })

-- that many seconds pass after that one
unfoldable pub seconds_pass : (count sec : ℕ) → Node → Node
seconds_pass zero sec n = n
seconds_pass (suc count) sec n = seconds_pass count (sec + 1) (second_passes (sec + 1) n)

-- ---- the clock

-- The first record sets the clock. A later one advances it, one second after the other; a timestamp that goes back does
-- not change it.
abbrev pub moved_from : Option ℕ → ℕ → Node → Node
moved_from None sec n = record n { clock = Some sec }
moved_from (Some clock) sec n = seconds_pass (sec - clock) clock n

abbrev pub moved_to : ℕ → Node → Node
moved_to sec n = moved_from n.clock sec n

-- at most 65,535 seconds pass between two records
abbrev pub most_gap : ℕ
most_gap = 65535

-- ---- a record

-- the interface whose peer has that Ethernet address
abbrev pub link_from : List End → List ℕ → Option ℕ
link_from [] mac = None
link_from (e ∷ es) mac = if bytes_eq e.peer_mac.0 mac then Some 0 else option_map (λ link. 1 + link) (link_from es mac)

-- an Ethernet frame that was captured whole, with both addresses, and is not too long for the router
abbrev pub may_be_given : NgRecord → Bool
may_be_given read = read.ethernet && (read.cap.whole && (nat_le 12 (length read.cap.octets) && nat_le (length read.cap.octets) MOST_FRAME))

-- the link that a record arrived on; none if it is ignored
abbrev pub link_of : RouterConf → NgRecord → Option ℕ
link_of r read = if may_be_given read then link_from r.ends (take 6 (drop 6 read.cap.octets)) else None

-- ---- what is reported of a record

-- `RECORD got SD ID BFIR PAYLOAD`
abbrev pub got_text : ℕ → Got → List ℕ
got_text number g =
    line_of (decimal number ∷ codes "got" ∷ decimal g.sd ∷ decimal g.id ∷ decimal g.bfir ∷ payload_text g.payload ∷ [])

-- the BFR-ids of bit positions that were dropped
abbrev pub dropped_ids : Option Positions → List ℕ
dropped_ids None = []
dropped_ids (Some set) = listed (map (id_at set.triple) set.positions)

-- `RECORD drop CAUSE IDS`
abbrev pub drop_text : ℕ → Drop → List ℕ
drop_text number d = line_of (decimal number ∷ codes "drop" ∷ cause_text d.cause ∷ ids_text (dropped_ids d.set) ∷ [])

-- the deliveries of a record, and then its drops
abbrev pub effects_text : ℕ → Effects → List ℕ
effects_text number e = flat_map (got_text number) e.got ++ flat_map (drop_text number) e.drops

-- ---- the processing of a record

abbrev pub counts_record : Node → Node
counts_record n = record n { tally = record n.tally { records = n.tally.records + 1 } }

abbrev pub passes : Node → Node
passes n = record n { tally = record n.tally { passed = n.tally.passed + 1 } }

-- what the router did with a frame is reported: what it sent has the record's time
abbrev pub tells : NgRecord → Effects → Node → Node
tells read e n =
    goes_out read.cap.sec read.cap.usec e.sent
    (record n {
      tally = record n.tally { used = n.tally.used + 1; got = n.tally.got + length e.got; dropped = n.tally.dropped + length e.drops };
      report = n.report ++ effects_text n.tally.records e;
    })

-- frames that the router ignores are counted as those that it does not receive
abbrev pub taken_so : NgRecord → Node → Next → Node
taken_so read n next = if next.effects.passed then passes (record n { control = next.control }) else tells read next.effects (record n { control = next.control })

abbrev pub given_on : NgRecord → Node → Option ℕ → Node
given_on read n None = passes n
given_on read n (Some link) = taken_so read n (on_frame n.control link read.cap.octets)

abbrev pub given_to : NgRecord → Node → Node
given_to read n = given_on read n (link_of n.control.conf read)

-- A record is counted, the clock advances to its second, and then the router receives its frame.
unfoldable pub record_done : Node → NgRecord → Node
record_done n read = given_to read (moved_to read.cap.sec (counts_record n))

-- ---- all records

-- How far records were processed: the state of the node, and the two seconds of a gap that is too long, if there is
-- one.
pub record Reached : Type 0 where
  pub node : Node
  pub gap : Option (ℕ × ℕ)

abbrev pub gap_at : Option ℕ → ℕ → Option (ℕ × ℕ)
gap_at None sec = None
gap_at (Some clock) sec = if nat_lt (clock + most_gap) sec then Some (clock, sec) else None

abbrev pub and_further : Node → Option (ℕ × ℕ) → Reached → Reached
and_further n None rest = rest
and_further n (Some gap) rest = record { node = n; gap = Some gap }

unfoldable pub records_reach : Node → List NgRecord → Reached
records_reach n [] = record { node = n; gap = None }
records_reach n (read ∷ more) = and_further n (gap_at n.clock read.cap.sec) (records_reach (record_done n read) more)

-- ---- the end

-- `done records R used U passed P got G dropped D sent S`
abbrev pub node_done : Tally → Status × List ℕ
node_done t = (
  Done,
  line_of (codes "done" ∷ codes "records" ∷ decimal t.records ∷ codes "used" ∷ decimal t.used ∷ codes "passed" ∷ decimal t.passed
      ∷ codes "got" ∷ decimal t.got ∷ codes "dropped" ∷ decimal t.dropped ∷ codes "sent" ∷ decimal t.sent ∷ []),
)

-- `refused record R 7 Gap CLOCK SECOND`, after n records
abbrev pub gap_refused : ℕ → ℕ × ℕ → Status × List ℕ
gap_refused n gap = refused_record (n + 1) (decimal 7 ∷ codes "Gap" ∷ decimal gap.0 ∷ decimal gap.1 ∷ [])

abbrev pub node_at_end : Tally → Option RecordFault → Status × List ℕ
node_at_end t None = node_done t
node_at_end t (Some fault) = refused_by t.records fault

-- How a report ends if no gap was too long, by the fault that was met and the one at the end of the octets: a fault that was
-- met takes precedence over the limit.
abbrev pub node_end : Bool → Tally → (met ended : Option RecordFault) → Status × List ℕ
node_end short t (Some fault) ended = refused_by t.records fault
node_end true t None ended = node_at_end t ended
node_end false t None ended = too_long t.records

abbrev pub ending : Bool → CaptureReader → Tally → Option (ℕ × ℕ) → Status × List ℕ
ending short reader t (Some gap) = gap_refused t.records gap
ending short reader t None = node_end short t (any_fault reader) (any_end reader)

-- the texts of a node with the end of the report
abbrev pub node_ends : Node → Status × List ℕ → Verdict
node_ends n end = record { status = end.0; report = n.report ++ end.1; frames = n.frames }

abbrev pub verdict_on : Bool → CaptureReader → Reached → Verdict
verdict_on short reader reached = node_ends reached.node (ending short reader reached.node.tally reached.gap)

abbrev pub node_answer_of : Bool → RouterConf → List NgRecord × CaptureReader → Verdict
node_answer_of short r read = verdict_on short read.1 (records_reach (first_node r) read.0)

-- The status and both texts of a capture, at the router with that configuration. A capture has at most 268,435,456
-- octets; of a longer one the records are read that are complete within them.
unfoldable pub node_answer : RouterConf → List ℕ → Verdict
node_answer r capture = node_answer_of (is_within capture) r (any_drained (any_fed any_unread (within_limit capture)))

-- how far the records were processed that are complete in octets after which the source failed
abbrev pub node_reached : RouterConf → List ℕ → Reached
node_reached r octets = records_reach (first_node r) (any_drained (any_fed any_unread octets)).0

-- and their texts, without a last line
unfoldable pub node_cut : RouterConf → List ℕ → Verdict
node_cut r octets = node_ends (node_reached r octets).node (ReadFault, [])

-- ---- captures that are processed to their end

-- from one record to the next the clock does not advance by more than 65,535 seconds
abbrev pub later : Option ℕ → ℕ → ℕ
later None sec = sec
later (Some clock) sec = max clock sec

abbrev pub HasNoGap : Option ℕ → List NgRecord → Type 0
HasNoGap clock [] = Unit {0}
HasNoGap clock (read ∷ more) = (gap_at clock read.cap.sec ≡ None) × HasNoGap (Some (later clock read.cap.sec)) more

-- octets that are a capture within the size limit, without a gap that is too long
pub record IsReplayable (input : List ℕ) : Type 0 where
  pub short : length input ≤ CAPTURE_LIMIT
  pub records : List NgRecord
  pub capture : HasRecords input records
  pub steady : HasNoGap None records
