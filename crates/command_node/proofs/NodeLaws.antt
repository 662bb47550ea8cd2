-- What a node does: what was written before its texts stays before them, a record is one more, and the clock is the record's.
use Rattle.std.proofs.Common.{◌≡◌, ℕ, zero, suc, ◌+◌, ◌-◌, ◌%◌, ◌==◌, max, Bool, true, false, if◌then◌else◌, List, [], ◌∷◌, ◌++◌, length, Option, Some, None, refl, sym, ap, subst, ◌∙◌, append_assoc, arith}
use Rattle.std.specs.List.{fold, range_with_len}
use Rattle.wire_base.specs.declared.effects.Sent.{Sent}
use Rattle.pcapng_frames.specs.declared.packet.NgRecord.{NgRecord}
use Rattle.wire_base.specs.model.Flooding.{tick, send}
use Rattle.wire_base.specs.model.OnFrame.{Effects, Next, on_frame, framed}
use Rattle.laws_router.specs.State.{is_up}
use Rattle.command_node.specs.NodeRun.{Node, frames_text, goes_out, next_sent, sends_on, sends_all, every_fifth, second_passes, seconds_pass, moved_from, moved_to, effects_text, counts_record, passes, tells, taken_so, given_on, given_to, link_of, record_done, Reached, gap_at, and_further, records_reach, later, HasNoGap}
use Rattle.command_node.specs.Owed.{past}

-- ---- what was written before

module _ (frames report : List ℕ) where
  goes_out_past : (sec usec : ℕ) (sent : List Sent) (n : Node) → goes_out sec usec sent (past frames report n) ≡ past frames report (goes_out sec usec sent n)
  unfolding goes_out
  goes_out_past sec usec sent n =
      ap (λ (l : List ℕ). record n { frames = l; report = report ++ n.report; tally = record n.tally { sent = n.tally.sent + length sent } }) (append_assoc frames n.frames (frames_text sec usec sent))

  sends_on_past : (sec : ℕ) (n : Node) (link : ℕ) → sends_on sec (past frames report n) link ≡ past frames report (sends_on sec n link)
  unfolding sends_on
  sends_on_past sec n link = by (framed link (send n.control link)) (is_up n.control link)
    where
      by : (next : Next) (b : Bool) → (if b then next_sent sec (past frames report n) next else past frames report n) ≡ past frames report (if b then next_sent sec n next else n)
      by next true = goes_out_past sec 0 next.effects.sent (record n { control = next.control })
      by next false = refl

  links_past : (sec : ℕ) (links : List ℕ) (n : Node) → fold (sends_on sec) (past frames report n) links ≡ past frames report (fold (sends_on sec) n links)
  links_past sec [] n = refl
  links_past sec (link ∷ links) n = ap (λ (m : Node). fold (sends_on sec) m links) (sends_on_past sec n link) ∙ links_past sec links (sends_on sec n link)

  sends_all_past : (sec : ℕ) (n : Node) → sends_all sec (past frames report n) ≡ past frames report (sends_all sec n)
  unfolding sends_all
  sends_all_past sec n = links_past sec (range_with_len 0 (length n.control.conf.ends)) n

  every_fifth_past : (sec : ℕ) (n : Node) → every_fifth sec (past frames report n) ≡ past frames report (every_fifth sec n)
  every_fifth_past sec n = by (n.ticks % 5 == 0)
    where
      by : (b : Bool) → (if b then sends_all sec (past frames report n) else past frames report n) ≡ past frames report (if b then sends_all sec n else n)
      by true = sends_all_past sec n
      by false = refl

  second_past : (sec : ℕ) (n : Node) → second_passes sec (past frames report n) ≡ past frames report (second_passes sec n)
  unfolding second_passes
  second_past sec n = every_fifth_past sec (record n { control = (tick n.control).control; clock = Some sec; ticks = n.ticks + 1 })

  seconds_past : (count sec : ℕ) (n : Node) → seconds_pass count sec (past frames report n) ≡ past frames report (seconds_pass count sec n)
  unfolding seconds_pass
  seconds_past zero sec n = refl
  seconds_past (suc count) sec n = ap (λ (m : Node). seconds_pass count (sec + 1) m) (second_past (sec + 1) n) ∙ seconds_past count (sec + 1) (second_passes (sec + 1) n)

  moved_past : (clock : Option ℕ) (sec : ℕ) (n : Node) → moved_from clock sec (past frames report n) ≡ past frames report (moved_from clock sec n)
  moved_past None sec n = refl
  moved_past (Some clock) sec n = seconds_past (sec - clock) clock n

  pub tells_past : (read : NgRecord) (e : Effects) (n : Node) → tells read e (past frames report n) ≡ past frames report (tells read e n)
  tells_past read e n =
      ap (λ (l : List ℕ). goes_out read.cap.sec read.cap.usec e.sent (record n {
        tally = record n.tally { used = n.tally.used + 1; got = n.tally.got + length e.got; dropped = n.tally.dropped + length e.drops };
        frames = frames ++ n.frames;
        report = l;
      })) (append_assoc report n.report (effects_text n.tally.records e))
      ∙ goes_out_past read.cap.sec read.cap.usec e.sent (record n {
        tally = record n.tally { used = n.tally.used + 1; got = n.tally.got + length e.got; dropped = n.tally.dropped + length e.drops };
        report = n.report ++ effects_text n.tally.records e;
      })

  taken_past : (read : NgRecord) (n : Node) (next : Next) → taken_so read (past frames report n) next ≡ past frames report (taken_so read n next)
  taken_past read n next = by next.effects.passed
    where
      by : (b : Bool) → (if b then passes (record (past frames report n) { control = next.control }) else tells read next.effects (record (past frames report n) { control = next.control }))
          ≡ past frames report (if b then passes (record n { control = next.control }) else tells read next.effects (record n { control = next.control }))
      by true = refl
      by false = tells_past read next.effects (record n { control = next.control })

  pub given_past : (read : NgRecord) (n : Node) (link : Option ℕ) → given_on read (past frames report n) link ≡ past frames report (given_on read n link)
  given_past read n None = refl
  given_past read n (Some link) = taken_past read n (on_frame n.control link read.cap.octets)

  pub record_past : (n : Node) (read : NgRecord) → record_done (past frames report n) read ≡ past frames report (record_done n read)
  unfolding record_done
  record_past n read =
      let moved : Node = moved_to read.cap.sec (counts_record n) in
      ap (given_to read) (moved_past n.clock read.cap.sec (counts_record n)) ∙ given_past read moved (link_of moved.control.conf read)

  abbrev pub reached_past : Reached → Reached
  reached_past r = record { node = past frames report r.node; gap = r.gap }

  pub records_past : (n : Node) (records : List NgRecord) → records_reach (past frames report n) records ≡ reached_past (records_reach n records)
  unfolding records_reach
  records_past n [] = refl
  records_past n (read ∷ more) =
      by (gap_at n.clock read.cap.sec) (ap (λ (m : Node). records_reach m more) (record_past n read) ∙ records_past (record_done n read) more)
    where
      by : (gap : Option (ℕ × ℕ)) → records_reach (record_done (past frames report n) read) more ≡ reached_past (records_reach (record_done n read) more)
          → and_further (past frames report n) gap (records_reach (record_done (past frames report n) read) more) ≡ reached_past (and_further n gap (records_reach (record_done n read) more))
      by None rest = rest
      by (Some gap) rest = refl

-- ---- records after records

-- one record more
pub reach_one : (n : Node) (read : NgRecord) (more : List NgRecord) → gap_at n.clock read.cap.sec ≡ None → records_reach n (read ∷ more) ≡ records_reach (record_done n read) more
unfolding records_reach
reach_one n read more none = ap (λ (gap : Option (ℕ × ℕ)). and_further n gap (records_reach (record_done n read) more)) none

-- or none, at a gap that is too long
pub reach_gap : (n : Node) (read : NgRecord) (more : List NgRecord) (gap : ℕ × ℕ) → gap_at n.clock read.cap.sec ≡ Some gap → records_reach n (read ∷ more) ≡ record { node = n; gap = Some gap }
unfolding records_reach
reach_gap n read more gap is = ap (λ (g : Option (ℕ × ℕ)). and_further n g (records_reach (record_done n read) more)) is

-- ---- what stays, and the clock

-- the number of records and the clock stay
record Stays (before now : Node) : Type 0 where
  pub records : now.tally.records ≡ before.tally.records
  pub clock : now.clock ≡ before.clock

stays_still : (n : Node) → Stays n n
stays_still n = record { records = refl; clock = refl }

goes_out_stays : (sec usec : ℕ) (sent : List Sent) (n : Node) → Stays n (goes_out sec usec sent n)
unfolding goes_out
goes_out_stays sec usec sent n = record { records = refl; clock = refl }

sends_on_stays : (sec : ℕ) (n : Node) (link : ℕ) → Stays n (sends_on sec n link)
unfolding sends_on
sends_on_stays sec n link = by (framed link (send n.control link)) (is_up n.control link)
  where
    by : (next : Next) (b : Bool) → Stays n (if b then next_sent sec n next else n)
    by next true =
        let out = goes_out_stays sec 0 next.effects.sent (record n { control = next.control }) in
        record { records = out.records; clock = out.clock }
    by next false = stays_still n

links_stay : (sec : ℕ) (links : List ℕ) (n : Node) → Stays n (fold (sends_on sec) n links)
links_stay sec [] n = stays_still n
links_stay sec (link ∷ links) n =
    let first = sends_on_stays sec n link in
    let rest = links_stay sec links (sends_on sec n link) in
    record { records = rest.records ∙ first.records; clock = rest.clock ∙ first.clock }

sends_all_stays : (sec : ℕ) (n : Node) → Stays n (sends_all sec n)
unfolding sends_all
sends_all_stays sec n = links_stay sec (range_with_len 0 (length n.control.conf.ends)) n

every_fifth_stays : (sec : ℕ) (n : Node) → Stays n (every_fifth sec n)
every_fifth_stays sec n = by (n.ticks % 5 == 0)
  where
    by : (b : Bool) → Stays n (if b then sends_all sec n else n)
    by true = sends_all_stays sec n
    by false = stays_still n

second_stays : (sec : ℕ) (n : Node) → ((second_passes sec n).tally.records ≡ n.tally.records) × ((second_passes sec n).clock ≡ Some sec)
unfolding second_passes
second_stays sec n =
    let stays = every_fifth_stays sec (record n { control = (tick n.control).control; clock = Some sec; ticks = n.ticks + 1 }) in
    (stays.records, stays.clock)

seconds_stay : (count sec : ℕ) (n : Node) → n.clock ≡ Some sec → ((seconds_pass count sec n).tally.records ≡ n.tally.records) × ((seconds_pass count sec n).clock ≡ Some (sec + count))
unfolding seconds_pass
seconds_stay zero sec n is = let m : sec ≡ sec + 0 = omega arith in (refl, is ∙ ap (λ (k : ℕ). Some k) m)
seconds_stay (suc count) sec n is =
    let one = second_stays (sec + 1) n in
    let rest = seconds_stay count (sec + 1) (second_passes (sec + 1) n) one.1 in
    let m : sec + 1 + count ≡ sec + suc count = omega arith in
    (rest.0 ∙ one.0, rest.1 ∙ ap (λ (k : ℕ). Some k) m)

moved_stays : (clock : Option ℕ) (sec : ℕ) (n : Node) → n.clock ≡ clock → ((moved_from clock sec n).tally.records ≡ n.tally.records) × ((moved_from clock sec n).clock ≡ Some (later clock sec))
moved_stays None sec n is = (refl, refl)
moved_stays (Some clock) sec n is =
    let passed = seconds_stay (sec - clock) clock n is in
    let m : clock + (sec - clock) ≡ max clock sec = omega arith in
    (passed.0, passed.1 ∙ ap (λ (k : ℕ). Some k) m)

told_stays : (read : NgRecord) (e : Effects) (n : Node) → Stays n (tells read e n)
told_stays read e n =
    let out = goes_out_stays read.cap.sec read.cap.usec e.sent (record n {
      tally = record n.tally { used = n.tally.used + 1; got = n.tally.got + length e.got; dropped = n.tally.dropped + length e.drops };
      report = n.report ++ effects_text n.tally.records e;
    }) in
    record { records = out.records; clock = out.clock }

given_stays : (read : NgRecord) (n : Node) (link : Option ℕ) → Stays n (given_on read n link)
given_stays read n None = record { records = refl; clock = refl }
given_stays read n (Some link) = by (on_frame n.control link read.cap.octets) (on_frame n.control link read.cap.octets).effects.passed
  where
    by : (next : Next) (b : Bool) → Stays n (if b then passes (record n { control = next.control }) else tells read next.effects (record n { control = next.control }))
    by next true = record { records = refl; clock = refl }
    by next false =
        let told = told_stays read next.effects (record n { control = next.control }) in
        record { records = told.records; clock = told.clock }

-- a record is one more, and its second is that of the clock, unless the clock is later
pub record_counts : (n : Node) (read : NgRecord) → ((record_done n read).tally.records ≡ n.tally.records + 1) × ((record_done n read).clock ≡ Some (later n.clock read.cap.sec))
unfolding record_done
record_counts n read =
    let moved : Node = moved_to read.cap.sec (counts_record n) in
    let first = moved_stays n.clock read.cap.sec (counts_record n) refl in
    let rest = given_stays read moved (link_of moved.control.conf read) in
    (rest.records ∙ first.0, rest.clock ∙ first.1)

-- records without a gap that is too long are all done
pub all_done : (n : Node) (records : List NgRecord) → HasNoGap n.clock records → (records_reach n records).gap ≡ None
unfolding records_reach
all_done n [] steady = refl
all_done n (read ∷ more) steady =
    ap (λ (gap : Option (ℕ × ℕ)). (and_further n gap (records_reach (record_done n read) more)).gap) steady.0
    ∙ all_done (record_done n read) more (subst (λ (clock : Option ℕ). HasNoGap clock more) (sym (record_counts n read).1) steady.1)
