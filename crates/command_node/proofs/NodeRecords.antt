-- A node on the records of a capture.
use Rattle.std.proofs.Common.{◌≡◌, ℕ, Bool, true, false, not, List, [], ◌∷◌, ◌++◌, Option, Some, None, Result, Ok, Err, refl, sym, ap, ap₂, subst, ◌∙◌, append_assoc, append-nil}
use Rattle.std.specs.Prelude.{IfOk, IfSome}
use Rattle.wire_base.specs.declared.conf.RouterConf.{RouterConf}
use Rattle.wire_base.specs.declared.limits.TheConstants.{CAPTURE_LIMIT}
use Rattle.wire_base.specs.declared.status.Status.{Status}
use Rattle.wire_base.specs.declared.status.Status.TheVariants.{ReadFault, CaptureRefused}
use Rattle.wire_base.specs.model.Flooding.{first_control, started}
use Rattle.pcapng_frames.specs.declared.packet.NgRecord.{NgRecord}
use Rattle.run_texts.specs.declared.texts.Texts.{Texts}
use Rattle.command_drive.specs.Answer.{Verdict, behind}
use Rattle.command_drive.specs.CaptureReading.{any_unread, any_fed, any_drained, any_fault, any_end}
use Rattle.command_drive.specs.Captures.{within_limit, is_within, IsOpen}
use Rattle.command_drive.specs.declared.capture_reader.CaptureReader.{CaptureReader}
use Rattle.command_drive.specs.declared.capture_reader.RecordFault.{RecordFault}
use Rattle.command_drive.specs.Doing.{Told, Concludes, told}
use Rattle.command_drive.specs.Driving.{meaning}
use Rattle.command_drive.specs.Outside.{Meets}
use Rattle.command_drive.specs.Reading.{End, Ends, Fails, Behind, Closed, Cut, Reads}
use Rattle.command_drive.specs.Records.{close_by, behind_open, behind_records, records_read}
use Rattle.command_drive.specs.declared.items.Close.TheVariants as close
use Rattle.command_drive.proofs.CaptureLaws.{open_at, open_kept, capture_is, front_is}
use Rattle.command_node.specs.declared.node_command.tally.Tally.{Tally}
use Rattle.command_node.specs.NodeRun.{Node, first_node, record_done, gap_at, Reached, records_reach, gap_refused, node_at_end, node_end, ending, node_ends, node_answer, node_reached, node_cut}
use Rattle.command_node.specs.Owed.{StartsAs, past, bare, end_by, verdict_by, owed, cut_end, node_means}
use Rattle.command_node.proofs.NodeLaws.{record_past, reached_past, records_past, reach_one, reach_gap}

-- ---- texts before those of a node

verdict_past : (frames report : List ℕ) (how : Behind) (reached : Reached) → verdict_by how (reached_past frames report reached) ≡ told report frames (verdict_by how reached)
verdict_past frames report how reached =
    let end = end_by how reached.node.tally reached.gap in
    ap (λ (l : List ℕ). record { status = end.0; report = l; frames = frames ++ reached.node.frames }) (append_assoc report reached.node.report end.1)

-- a node is one without texts behind its texts
pub of_bare : (n : Node) → n ≡ past n.frames n.report (bare n)
of_bare n = ap₂ (λ (f r : List ℕ). record n { frames = f; report = r }) (sym (append-nil n.frames)) (sym (append-nil n.report))

owes_past : (n : Node) (records : List NgRecord) (how : Behind) → verdict_by how (records_reach n records) ≡ told n.report n.frames (verdict_by how (records_reach (bare n) records))
owes_past n records how =
    ap (λ (m : Node). verdict_by how (records_reach m records)) (of_bare n) ∙ ap (verdict_by how) (records_past n.frames n.report (bare n) records)
    ∙ verdict_past n.frames n.report how (records_reach (bare n) records)

-- ---- record by record

-- a record was done, by a node that was lent both texts
pub told_record : (n now : Node) (read : NgRecord) (texts texts_now : Texts) → gap_at n.clock read.cap.sec ≡ None
    → (done : Node) → done ≡ record_done (record n { frames = texts.frames; report = texts.report }) read → texts_now.frames ≡ done.frames → texts_now.report ≡ done.report → bare now ≡ bare done
    → Told {T = NgRecord} (λ more how. owed n (read ∷ more) how) (owed now) texts texts_now
told_record n now read texts texts_now none done done_is frames report rest =
    record {
      report = one.report;
      frames = one.frames;
      report_is = report ∙ ap (λ (m : Node). m.report) so;
      frames_is = frames ∙ ap (λ (m : Node). m.frames) so;
      owed = λ more how.
          ap (verdict_by how) (reach_one (bare n) read more none) ∙ owes_past one more how
          ∙ ap (λ (m : Node). told one.report one.frames (verdict_by how (records_reach m more))) (sym (ap bare so) ∙ sym rest);
    }
  where
    one : Node
    one = record_done (bare n) read

    lent : record n { frames = texts.frames; report = texts.report } ≡ past texts.frames texts.report (bare n)
    lent = of_bare (record n { frames = texts.frames; report = texts.report })

    so : done ≡ past texts.frames texts.report one
    so = done_is ∙ ap (λ (m : Node). record_done m read) lent ∙ record_past texts.frames texts.report (bare n) read

-- a record made a gap that is too long
pub ends_gap : (n : Node) (read : NgRecord) (gap : ℕ × ℕ) (more : List NgRecord) (how : Behind) (texts texts_now : Texts) → gap_at n.clock read.cap.sec ≡ Some gap
    → texts_now.report ≡ texts.report ++ (gap_refused n.tally.records gap).1 → texts_now.frames ≡ texts.frames → Concludes CaptureRefused (owed n (read ∷ more) how) texts texts_now
ends_gap n read gap more how texts texts_now is report frames =
    let answer : owed n (read ∷ more) how ≡ record { status = CaptureRefused; report = (gap_refused n.tally.records gap).1; frames = [] } =
    ap (verdict_by how) (reach_gap (bare n) read more gap is) in
    record {
      status = sym (ap (λ (v : Verdict). v.status) answer);
      report = report ∙ ap (λ (v : Verdict). texts.report ++ v.report) (sym answer);
      frames = frames ∙ sym (append-nil texts.frames) ∙ ap (λ (v : Verdict). texts.frames ++ v.frames) (sym answer);
    }

-- the records end
pub concludes_ok : {E : Type 0} (result : Result Status E) (n : Node) (how closed : Behind) (texts texts_now : Texts) → closed ≡ how → IfOk result (λ ended. ◌≡◌ {A = Status × List ℕ} (ended, texts_now.report) (behind texts.report (end_by how n.tally None)))
    → texts_now.frames ≡ texts.frames → IfOk result (λ ended. Concludes ended (owed n [] closed) texts texts_now)
unfolding records_reach
concludes_ok (Err e) n how closed texts texts_now at is frames = tt
concludes_ok (Ok ended) n how closed texts texts_now at is frames =
    subst (λ (b : Behind). Concludes ended (owed n [] b) texts texts_now) (sym at)
    (record { status = ap (λ (a : Status × List ℕ). a.0) is; report = ap (λ (a : Status × List ℕ). a.1) is; frames = frames ∙ sym (append-nil texts.frames) })

-- ---- a whole capture

ends_as : (short : Bool) (t : Tally) (gap : Option (ℕ × ℕ)) (left : CaptureReader) → end_by (behind_records (any_fault left) (behind_open (not short) Ends left)) t gap ≡ ending short left t gap
ends_as short t (Some gap) left = refl
ends_as short t None left = by short (any_fault left)
  where
    at : (o : Option RecordFault) → end_by (Closed (close_by o)) t None ≡ node_at_end t o
    at None = refl
    at (Some why) = refl

    by : (short : Bool) (fault : Option RecordFault) → end_by (behind_records fault (behind_open (not short) Ends left)) t None ≡ node_end short t fault (any_end left)
    by true None = at (any_end left)
    by false None = refl
    by true (Some why) = refl
    by false (Some why) = refl

pub whole_capture : (r : RouterConf) (octets : List ℕ)
    → verdict_by (records_read any_unread CAPTURE_LIMIT false Ends octets).behind (records_reach (first_node r) (records_read any_unread CAPTURE_LIMIT false Ends octets).items) ≡ node_means r Ends octets
unfolding node_answer
whole_capture r octets =
    let read = any_drained (any_fed any_unread (within_limit octets)) in
    let short = is_within octets in
    let reached = records_reach (first_node r) read.0 in
    ap (λ (x : Reads NgRecord). verdict_by x.behind (records_reach (first_node r) x.items)) (capture_is Ends octets)
    ∙ ap (node_ends reached.node) (ends_as short reached.node.tally reached.gap read.1)

-- ---- behind a read error

-- only behind whole records, without a gap that is too long
read_cut : (how : Behind) (t : Tally) (gap : Option (ℕ × ℕ)) → (end_by how t gap).0 ≡ ReadFault → (how ≡ Cut) × (gap ≡ None)
read_cut Cut t None is = (refl, refl)
read_cut Cut t (Some gap) is = absurd cc
read_cut (Closed close.Ended) t None is = absurd cc
read_cut (Closed close.TooLong) t None is = absurd cc
read_cut (Closed (close.Broken why)) t None is = absurd cc
read_cut (Closed how) t (Some gap) is = absurd cc

cut_as : (fault : Option RecordFault) (t : Tally) (gap : Option (ℕ × ℕ)) → fault ≡ None → end_by Cut t gap ≡ cut_end fault t gap
cut_as fault t (Some gap) none = refl
cut_as None t None none = refl
cut_as (Some why) t None none = absurd cc

pub front_capture : (r : RouterConf) (octets : List ℕ)
    → (verdict_by (records_read any_unread CAPTURE_LIMIT false Fails octets).behind (records_reach (first_node r) (records_read any_unread CAPTURE_LIMIT false Fails octets).items)).status ≡ ReadFault
    → verdict_by (records_read any_unread CAPTURE_LIMIT false Fails octets).behind (records_reach (first_node r) (records_read any_unread CAPTURE_LIMIT false Fails octets).items) ≡ node_means r Fails octets
front_capture r octets failed =
    let given = records_read any_unread CAPTURE_LIMIT false Fails octets in
    let before = records_reach (first_node r) given.items in
    let front = front_is octets (read_cut given.behind before.node.tally before.gap failed).0 in
    let read = any_drained (any_fed any_unread octets) in
    let reached = node_reached r octets in
    ap (λ (x : Reads NgRecord). verdict_by x.behind (records_reach (first_node r) x.items)) front.1
    ∙ ap (node_ends reached.node) (cut_as (any_fault read.1) reached.node.tally reached.gap (open_kept octets front.0))

-- What a run leaves that a read error ended: no fault of the capture and no gap that is too long, and both texts of its records.
pub cut_leaves : (r : RouterConf) (octets : List ℕ) (ended : Status) (report report_now frames frames_now : Option (List ℕ)) → ended ≡ ReadFault → Meets (node_means r Fails octets) ended report report_now frames frames_now
    → IsOpen octets × ((node_reached r octets).gap ≡ None) × Meets (node_cut r octets) ended report report_now frames frames_now
unfolding node_cut
cut_leaves r octets ended report report_now frames frames_now is meets =
    let read = any_drained (any_fed any_unread octets) in
    let reached = node_reached r octets in
    let cut = by (any_fault read.1) reached.node.tally reached.gap (sym meets.status ∙ is) in (
      open_at octets cut.0,
      cut.1,
      subst (λ (end : Status × List ℕ). Meets (node_ends reached.node end) ended report report_now frames frames_now) cut.2 meets,
    )
  where
    by : (fault : Option RecordFault) (t : Tally) (gap : Option (ℕ × ℕ)) → (cut_end fault t gap).0 ≡ ReadFault → (fault ≡ None) × (gap ≡ None) × (cut_end fault t gap ≡ (ReadFault, []))
    by fault t (Some gap) failed = absurd cc
    by None t None failed = (refl, refl, refl)
    by (Some why) t None failed = absurd cc

-- ---- a router that has just started

-- its capture begins with a header, which it has given away
first_owes : (r : RouterConf) (node : Node) (texts : Texts) → node ≡ record (first_node r) { frames = []; report = [] } → texts.frames ≡ (first_node r).frames → texts.report ≡ [] → (given : Reads NgRecord)
    → told texts.report texts.frames (owed node given.items given.behind) ≡ verdict_by given.behind (records_reach (first_node r) given.items)
first_owes r node texts is frames report given =
    ap₂ (λ (f t : List ℕ). told t f (owed node given.items given.behind)) frames report
    ∙ ap (λ (n : Node). told [] (first_node r).frames (owed n given.items given.behind)) is
    ∙ sym (owes_past (first_node r) given.items given.behind)

-- what its run means
pub means_so : (r : RouterConf) (node node_now : Node) (texts_now texts : Texts) (reads : End → List ℕ → Reads NgRecord) → ((end : End) (octets : List ℕ) → reads end octets ≡ records_read any_unread CAPTURE_LIMIT false end octets) → node ≡ first_node r
    → node_now ≡ record node { frames = texts.frames; report = texts.report } → texts_now.frames ≡ node.frames → texts_now.report ≡ node.report → texts.frames ≡ [] → texts.report ≡ []
    → ((octets : List ℕ) → meaning reads (owed node_now) texts_now Ends octets ≡ node_means r Ends octets)
    × ((octets : List ℕ) → (meaning reads (owed node_now) texts_now Fails octets).status ≡ ReadFault → meaning reads (owed node_now) texts_now Fails octets ≡ node_means r Fails octets)
means_so r node node_now texts_now texts reads fresh first traded frames report no_frames no_report = (
  λ octets. from_first Ends octets ∙ whole_capture r octets,
  λ octets failed. from_first Fails octets ∙ front_capture r octets (sym (ap (λ (v : Verdict). v.status) (from_first Fails octets)) ∙ failed),
)
  where
    so : node_now ≡ record (first_node r) { frames = []; report = [] }
    so = traded ∙ ap₂ (λ (f t : List ℕ). record node { frames = f; report = t }) no_frames no_report ∙ ap bare first

    from_first : (end : End) (octets : List ℕ)
        → meaning reads (owed node_now) texts_now end octets ≡ verdict_by (records_read any_unread CAPTURE_LIMIT false end octets).behind (records_reach (first_node r) (records_read any_unread CAPTURE_LIMIT false end octets).items)
    from_first end octets =
        ap (λ (x : Reads NgRecord). told texts_now.report texts_now.frames (owed node_now x.items x.behind)) (fresh end octets)
        ∙ first_owes r node_now texts_now so (frames ∙ ap (λ (n : Node). n.frames) first) (report ∙ ap (λ (n : Node). n.report) first) (records_read any_unread CAPTURE_LIMIT false end octets)

pub any_conf : (o : Option RouterConf) (P : RouterConf → Type 0) → ((conf : RouterConf) → P conf) → IfSome o P
any_conf None P holds = tt
any_conf (Some conf) P holds = holds conf

pub starts_as : (o : Option RouterConf) (conf : RouterConf) (P : RouterConf → Type 0) → o ≡ Some conf → P conf → IfSome o P
starts_as o conf P is holds = subst (λ (x : Option RouterConf). IfSome x P) (sym is) holds

pub first_conf : (r : RouterConf) → (first_node r).control.conf ≡ r
unfolding first_control started
first_conf r = refl

pub starts_so : {E : Type 0} (conf : Option RouterConf) (r : RouterConf) (result : Result Node E) → conf ≡ Some r → IfOk result (λ node. node ≡ first_node r) → IfOk result (λ node. StartsAs conf node)
starts_so conf r (Err e) at fresh = tt
starts_so conf r (Ok node) at fresh =
    let same : node.control.conf ≡ r = ap (λ (n : Node). n.control.conf) fresh ∙ first_conf r in
    record { at = at ∙ ap Some (sym same); fresh = fresh ∙ ap first_node (sym same) }
