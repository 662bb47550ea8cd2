-- What remains to be produced at a node for a capture from some record on.
use Rattle.std.specs.Prelude.{ℕ, ◌≡◌, List, [], ◌++◌, Option, Some, None, refl}
use Rattle.wire_base.specs.declared.conf.RouterConf.{RouterConf}
use Rattle.wire_base.specs.declared.status.Status.{Status}
use Rattle.wire_base.specs.declared.status.Status.TheVariants.{ReadFault}
use Rattle.pcapng_frames.specs.declared.packet.NgRecord.{NgRecord}
use Rattle.command_drive.specs.Answer.{Verdict}
use Rattle.command_drive.specs.Captured.{refused_by, too_long}
use Rattle.command_drive.specs.CaptureReading.{any_unread, any_fed, any_drained, any_fault}
use Rattle.command_drive.specs.declared.capture_reader.RecordFault.{RecordFault}
use Rattle.command_drive.specs.Doing.{nothing_more}
use Rattle.command_drive.specs.Driving.{Meaning}
use Rattle.command_drive.specs.Reading.{Ends, Fails, Behind, Closed, Cut}
use Rattle.command_drive.specs.declared.items.Close.TheVariants as close
use Rattle.command_node.specs.declared.node_command.tally.Tally.{Tally}
use Rattle.command_node.specs.NodeRun.{Node, first_node, Reached, records_reach, gap_refused, node_done, node_ends, node_answer, node_reached}

-- a node that starts as one of a domain
pub record StartsAs (conf : Option RouterConf) (now : Node) : Type 0 where
  pub at : conf ≡ Some now.control.conf
  pub fresh : now ≡ first_node now.control.conf

-- what a node would be with those prefixes before both texts
abbrev pub past : (frames report : List ℕ) → Node → Node
past frames report n = record n { frames = frames ++ n.frames; report = report ++ n.report }

-- and without texts, as its state is between records
abbrev pub bare : Node → Node
bare n = record n { frames = []; report = [] }

-- ---- from some record on

-- how the report ends, at a gap that is too long or after the last record
abbrev pub end_by : Behind → Tally → Option (ℕ × ℕ) → Status × List ℕ
end_by how t (Some gap) = gap_refused t.records gap
end_by (Closed close.Ended) t None = node_done t
end_by (Closed close.TooLong) t None = too_long t.records
end_by (Closed (close.Broken why)) t None = refused_by t.records why
end_by Cut t None = (ReadFault, [])

abbrev pub verdict_by : Behind → Reached → Verdict
verdict_by how reached = node_ends reached.node (end_by how reached.node.tally reached.gap)

abbrev pub owed : Node → List NgRecord → Behind → Verdict
owed n given how = verdict_by how (records_reach (bare n) given)

-- nothing after a read error
pub nothing_cut : (n : Node) → owed n [] Cut ≡ nothing_more
unfolding records_reach
nothing_cut n = refl

-- ---- on all octets of a capture, and on those after which a read failed

-- A gap that is too long, or a fault of the capture, ends the report all the same.
abbrev pub cut_end : Option RecordFault → Tally → Option (ℕ × ℕ) → Status × List ℕ
cut_end fault t (Some gap) = gap_refused t.records gap
cut_end None t None = (ReadFault, [])
cut_end (Some why) t None = refused_by t.records why

abbrev pub node_means : RouterConf → Meaning
node_means r Ends octets = node_answer r octets
node_means r Fails octets = node_ends (node_reached r octets).node (cut_end (any_fault (any_drained (any_fed any_unread octets)).1) (node_reached r octets).node.tally (node_reached r octets).gap)
