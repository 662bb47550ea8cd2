-- One router on a live stream: a fold over its records, frames and events.
--
-- The state is that of a node without a clock: seconds pass by events alone.
use Rattle.std.specs.Prelude.{ℕ, false, List, [], ◌∷◌, ◌++◌, drop, None, Result, Ok, Err, codes, if◌then◌else◌}
use Rattle.std.specs.List.{fold}
use Rattle.std.specs.Fmt.{decimal}
use Rattle.wire_base.specs.declared.conf.RouterConf.{RouterConf}
use Rattle.wire_base.specs.declared.limits.TheConstants.{CAPTURE_LIMIT}
use Rattle.wire_base.specs.model.OnFrame.{Next}
use Rattle.pcapng_frames.specs.declared.packet.NgRecord.{NgRecord}
use Rattle.replay_text.specs.declared.event.Event.{Event}
use Rattle.replay_text.specs.Report.{line_of}
use Rattle.command_drive.specs.Answer.{Verdict}
use Rattle.command_drive.specs.CaptureReading.{any_unread}
use Rattle.command_drive.specs.Driving.{Meaning}
use Rattle.command_drive.specs.Reading.{Behind}
use Rattle.command_drive.specs.Records.{records_read}
use Rattle.command_node.specs.NodeRun.{Node, first_node, counts_record, passes, tells, given_to, node_ends}
use Rattle.command_node.specs.Owed.{end_by}
use Rattle.live_stream.specs.declared.fault.LiveFault.{LiveFault}
use Rattle.live_stream.specs.Events.{Seat, names_of, is_event, event_at, event_next}
use Rattle.live_stream.specs.Faults.{subject_of, number_of, name_of}

-- ---- a record

-- `RECORD refused SUBJECT RULE NAME`
abbrev pub refused_text : ℕ → LiveFault → List ℕ
refused_text number why = line_of (decimal number ∷ codes "refused" ∷ subject_of why ∷ decimal (number_of why) ∷ name_of why ∷ [])

-- An event that is not done changes nothing, and is reported with the reason.
abbrev pub refuses : Node → LiveFault → Node
refuses n why = passes (record n { report = n.report ++ refused_text n.tally.records why })

-- One that is done is reported like a frame.
abbrev pub tried : NgRecord → Node → Result Next LiveFault → Node
tried read n (Ok next) = tells read next.effects (record n { control = next.control })
tried read n (Err why) = refuses n why

abbrev pub happens : Seat → NgRecord → Node → Event → Node
happens s read n e = tried read n (event_next s n.control e)

abbrev pub happens_if : Seat → NgRecord → Node → Result Event LiveFault → Node
happens_if s read n (Ok e) = happens s read n e
happens_if s read n (Err why) = refuses n why

abbrev pub evented : Seat → NgRecord → Node → Node
evented s read n = happens_if s read n (event_at (names_of s.domain) (drop 14 read.cap.octets))

-- an event happens; any other frame is received, on the link whose peer it came from
abbrev pub streamed : Seat → NgRecord → Node → Node
streamed s read n = if is_event read then evented s read n else given_to read n

-- A record is counted, and then done.
unfoldable pub live_done : Seat → Node → NgRecord → Node
live_done s n read = streamed s read (counts_record n)

-- ---- the stream

unfoldable pub live_reach : Seat → Node → List NgRecord → Node
live_reach s n reads = fold (live_done s) n reads

-- the texts of a node, with the end of the report
abbrev pub live_ends : Behind → Node → Verdict
live_ends how n = node_ends n (end_by how n.tally None)

-- The status and both texts on the octets of a stream after which its source ends, or fails: those of the records that are
-- complete in them, done one after the other at a router that has just started. A stream has at most 268,435,456 octets.
unfoldable pub live_means : Seat → RouterConf → Meaning
live_means s r end octets = let given = records_read any_unread CAPTURE_LIMIT false end octets in live_ends given.behind (live_reach s (first_node r) given.items)
