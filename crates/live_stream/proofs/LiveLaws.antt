-- What a live router does: what was written before its texts stays before them, and a record is one more.
use Rattle.std.proofs.Common.{◌≡◌, ℕ, ◌+◌, Bool, true, false, if◌then◌else◌, List, [], ◌∷◌, ◌++◌, drop, Option, Some, None, Result, Ok, Err, refl, ap, ◌∙◌, append_assoc}
use Rattle.pcapng_frames.specs.declared.packet.NgRecord.{NgRecord}
use Rattle.wire_base.specs.model.OnFrame.{Effects, Next, on_frame}
use Rattle.replay_text.specs.declared.event.Event.{Event}
use Rattle.command_node.specs.NodeRun.{Node, goes_out, counts_record, passes, tells, given_on, given_to, link_of}
use Rattle.command_node.specs.Owed.{past}
use Rattle.command_node.proofs.NodeLaws.{given_past, tells_past}
use Rattle.live_stream.specs.declared.fault.LiveFault.{LiveFault}
use Rattle.live_stream.specs.Events.{Seat, names_of, is_event, event_at, event_next}
use Rattle.live_stream.specs.LiveRun.{refused_text, refuses, tried, happens_if, evented, streamed, live_done, live_reach}

-- ---- what was written before

module _ (frames report : List ℕ) where
  refuses_past : (n : Node) (why : LiveFault) → refuses (past frames report n) why ≡ past frames report (refuses n why)
  refuses_past n why = ap (λ (l : List ℕ). passes (record n { frames = frames ++ n.frames; report = l })) (append_assoc report n.report (refused_text n.tally.records why))

  tried_past : (read : NgRecord) (n : Node) (next : Result Next LiveFault) → tried read (past frames report n) next ≡ past frames report (tried read n next)
  tried_past read n (Ok next) = tells_past frames report read next.effects (record n { control = next.control })
  tried_past read n (Err why) = refuses_past n why

  happens_if_past : (s : Seat) (read : NgRecord) (n : Node) (found : Result Event LiveFault) → happens_if s read (past frames report n) found ≡ past frames report (happens_if s read n found)
  happens_if_past s read n (Ok e) = tried_past read n (event_next s n.control e)
  happens_if_past s read n (Err why) = refuses_past n why

  streamed_past : (s : Seat) (read : NgRecord) (n : Node) → streamed s read (past frames report n) ≡ past frames report (streamed s read n)
  streamed_past s read n = by (is_event read)
    where
      by : (b : Bool) → (if b then evented s read (past frames report n) else given_to read (past frames report n)) ≡ past frames report (if b then evented s read n else given_to read n)
      by true = happens_if_past s read n (event_at (names_of s.domain) (drop 14 read.cap.octets))
      by false = given_past frames report read n (link_of n.control.conf read)

  pub record_past : (s : Seat) (n : Node) (read : NgRecord) → live_done s (past frames report n) read ≡ past frames report (live_done s n read)
  unfolding live_done
  record_past s n read = streamed_past s read (counts_record n)

  pub records_past : (s : Seat) (n : Node) (reads : List NgRecord) → live_reach s (past frames report n) reads ≡ past frames report (live_reach s n reads)
  unfolding live_reach
  records_past s n [] = refl
  records_past s n (read ∷ more) = ap (λ (m : Node). live_reach s m more) (record_past s n read) ∙ records_past s (live_done s n read) more

-- one record, and then the others
pub reach_one : (s : Seat) (n : Node) (read : NgRecord) (more : List NgRecord) → live_reach s n (read ∷ more) ≡ live_reach s (live_done s n read) more
unfolding live_reach
reach_one s n read more = refl

-- ---- a record is one more

told_counts : (read : NgRecord) (e : Effects) (n : Node) → (tells read e n).tally.records ≡ n.tally.records
unfolding goes_out
told_counts read e n = refl

tried_counts : (read : NgRecord) (n : Node) (next : Result Next LiveFault) → (tried read n next).tally.records ≡ n.tally.records
tried_counts read n (Ok next) = told_counts read next.effects (record n { control = next.control })
tried_counts read n (Err why) = refl

happens_if_counts : (s : Seat) (read : NgRecord) (n : Node) (found : Result Event LiveFault) → (happens_if s read n found).tally.records ≡ n.tally.records
happens_if_counts s read n (Ok e) = tried_counts read n (event_next s n.control e)
happens_if_counts s read n (Err why) = refl

given_counts : (read : NgRecord) (n : Node) (link : Option ℕ) → (given_on read n link).tally.records ≡ n.tally.records
given_counts read n None = refl
given_counts read n (Some link) = by (on_frame n.control link read.cap.octets) (on_frame n.control link read.cap.octets).effects.passed
  where
    by : (next : Next) (b : Bool) → (if b then passes (record n { control = next.control }) else tells read next.effects (record n { control = next.control })).tally.records ≡ n.tally.records
    by next true = refl
    by next false = told_counts read next.effects (record n { control = next.control })

pub done_counts : (s : Seat) (n : Node) (read : NgRecord) → (live_done s n read).tally.records ≡ n.tally.records + 1
unfolding live_done
done_counts s n read = by (is_event read)
  where
    by : (b : Bool) → (if b then evented s read (counts_record n) else given_to read (counts_record n)).tally.records ≡ n.tally.records + 1
    by true = happens_if_counts s read (counts_record n) (event_at (names_of s.domain) (drop 14 read.cap.octets))
    by false = given_counts read (counts_record n) (link_of n.control.conf read)
