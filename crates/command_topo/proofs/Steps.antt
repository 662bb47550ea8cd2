-- A capture, record by record.
use Rattle.std.proofs.Common.{◌≡◌, ℕ, ◌+◌, Bool, false, not, List, [], ◌∷◌, length, take, Option, Some, None, Result, Ok, Err, refl, sym, ap, ap₂, subst, ◌∙◌, append-nil}
use Rattle.std.proofs.lemmas.Bool.{le-leb}
use Rattle.std.proofs.lemmas.List.{take_all}
use Rattle.std.specs.Prelude.{IfOk}
use Rattle.std.specs.Io.KnownBytes.{Appends}
use Rattle.wire_base.specs.declared.limits.TheConstants.{CAPTURE_LIMIT}
use Rattle.wire_base.specs.declared.entry.Entry.{Entry}
use Rattle.wire_base.specs.declared.status.Status.{Status}
use Rattle.wire_base.specs.declared.status.Status.TheVariants.{Done, ReadFault}
use Rattle.pcapng_frames.specs.declared.packet.NgRecord.{NgRecord}
use Rattle.run_texts.specs.declared.texts.Texts.{Texts}
use Rattle.command_drive.specs.Answer.{behind}
use Rattle.command_drive.specs.CaptureReading.{any_unread, any_fed, any_drained, any_fault, any_end}
use Rattle.command_drive.specs.Captures.{within_limit, IsOpen}
use Rattle.command_drive.specs.declared.capture_reader.CaptureReader.{CaptureReader}
use Rattle.command_drive.specs.declared.capture_reader.RecordFault.{RecordFault}
use Rattle.command_drive.specs.Doing.{Told, Concludes}
use Rattle.command_drive.specs.Outside.{Gave}
use Rattle.command_drive.specs.Reading.{Ends, Fails, Behind, Closed, Cut, Reads}
use Rattle.command_drive.specs.Records.{close_by, behind_open, behind_records, records_read}
use Rattle.command_drive.specs.Reporting.{alone}
use Rattle.command_drive.specs.declared.items.Close.{Close}
use Rattle.command_drive.specs.declared.items.Close.TheVariants as close
use Rattle.command_drive.proofs.CaptureLaws.{open_at, open_kept, is_closed, capture_is, front_is, records_are, ended_well}
use Rattle.command_topo.specs.declared.query.Query.{Query}
use Rattle.command_topo.specs.Frames.{after_record}
use Rattle.command_topo.specs.TopoText.{HasRoom, IsGathered, RoomAfter, end_by, full_at, if_room, report_from, report_of, topo_answer, topo_cut}
use Rattle.command_topo.specs.Owed.{owed}

-- ---- a record

-- a record whose LSP has room, or that has none
pub told_record : (q : Query) (n n_now : ℕ) (entries now : List Entry) (given : NgRecord) (texts : Texts) → n_now ≡ n + 1 → after_record q.level entries given ≡ Some now
    → Told {T = NgRecord} (λ more how. owed q n entries (given ∷ more) how) (owed q n_now now) texts texts
unfolding report_from
told_record q n n_now entries now given texts n_is after =
    record {
      report = [];
      frames = [];
      report_is = sym (append-nil texts.report);
      frames_is = sym (append-nil texts.frames);
      owed = λ more how.
          ap (λ (o : Option (List Entry)). alone (if_room n o (λ es. report_from q (n + 1) es more how))) after
          ∙ ap (λ (m : ℕ). alone (report_from q m now more how)) (sym n_is);
    }

-- a report that ends with that
concludes_by : (given : Status × List ℕ) (ended : Status) (texts texts_now : Texts) → ◌≡◌ {A = Status × List ℕ} (ended, texts_now.report) (behind texts.report given) → texts_now.frames ≡ texts.frames → Concludes ended (alone given) texts texts_now
concludes_by given ended texts texts_now is frames =
    record {
      status = ap (λ (a : Status × List ℕ). a.0) is;
      report = ap (λ (a : Status × List ℕ). a.1) is;
      frames = frames ∙ sym (append-nil texts.frames);
    }

-- a record whose LSP has no room
pub concludes_full : (q : Query) (n : ℕ) (entries : List Entry) (given : NgRecord) (more : List NgRecord) (how : Behind) (ended : Status) (texts texts_now : Texts) → after_record q.level entries given ≡ None
    → ◌≡◌ {A = Status × List ℕ} (ended, texts_now.report) (behind texts.report (full_at n)) → texts_now.frames ≡ texts.frames → Concludes ended (owed q n entries (given ∷ more) how) texts texts_now
unfolding report_from
concludes_full q n entries given more how ended texts texts_now after is frames =
    let same : owed q n entries (given ∷ more) how ≡ alone (full_at n) = ap (λ (o : Option (List Entry)). alone (if_room n o (λ es. report_from q (n + 1) es more how))) after in
    subst (λ v. Concludes ended v texts texts_now) (sym same) (concludes_by (full_at n) ended texts texts_now is frames)

-- ---- the end

pub concludes_ok : {E : Type 0} (result : Result Status E) (q : Query) (n : ℕ) (entries : List Entry) (how closed : Behind) (texts texts_now : Texts) → closed ≡ how → IfOk result (λ ended. ◌≡◌ {A = Status × List ℕ} (ended, texts_now.report) (behind texts.report (end_by q n entries how))) → texts_now.frames ≡ texts.frames
    → IfOk result (λ ended. Concludes ended (owed q n entries [] closed) texts texts_now)
unfolding report_from
concludes_ok (Ok ended) q n entries how closed texts texts_now at is frames =
    subst (λ (b : Behind). Concludes ended (alone (end_by q n entries b)) texts texts_now) (sym at) (concludes_by (end_by q n entries how) ended texts texts_now is frames)
concludes_ok (Err e) q n entries how closed texts texts_now at is frames = tt

-- ---- a whole capture

pub means_whole : (q : Query) (octets : List ℕ) → owed q 0 [] (records_read any_unread CAPTURE_LIMIT false Ends octets).items (records_read any_unread CAPTURE_LIMIT false Ends octets).behind ≡ alone (topo_answer q octets)
unfolding topo_answer
means_whole q octets =
    ap (λ (r : Reads NgRecord). owed q 0 [] r.items r.behind) (capture_is Ends octets)

-- ---- after a read error

closed_cut : (q : Query) (n : ℕ) (entries : List Entry) (how : Behind) → (end_by q n entries how).0 ≡ ReadFault → how ≡ Cut
closed_cut q n entries Cut is = refl
closed_cut q n entries (Closed close.Ended) is = absurd cc
closed_cut q n entries (Closed close.TooLong) is = absurd cc
closed_cut q n entries (Closed (close.Broken why)) is = absurd cc

-- a run that ends by a read error had room for all
read_cut : (q : Query) (n : ℕ) (entries : List Entry) (records : List NgRecord) (how : Behind) → (report_from q n entries records how).0 ≡ ReadFault → how ≡ Cut
unfolding report_from
read_cut q n entries [] how is = closed_cut q n entries how is
read_cut q n entries (read ∷ more) how is = by (after_record q.level entries read) (λ now. read_cut q (n + 1) now more how) is
  where
    by : (o : Option (List Entry)) → ((now : List Entry) → (report_from q (n + 1) now more how).0 ≡ ReadFault → how ≡ Cut) → (if_room n o (λ es. report_from q (n + 1) es more how)).0 ≡ ReadFault → how ≡ Cut
    by None rest is = absurd cc
    by (Some now) rest is = rest now is

pub means_front : (q : Query) (octets : List ℕ) → (owed q 0 [] (records_read any_unread CAPTURE_LIMIT false Fails octets).items (records_read any_unread CAPTURE_LIMIT false Fails octets).behind).status ≡ ReadFault
    → owed q 0 [] (records_read any_unread CAPTURE_LIMIT false Fails octets).items (records_read any_unread CAPTURE_LIMIT false Fails octets).behind ≡ alone (topo_cut q octets)
unfolding topo_cut
means_front q octets failed =
    let given = records_read any_unread CAPTURE_LIMIT false Fails octets in
    let front = front_is octets (read_cut q 0 [] given.items given.behind failed) in
    let read = any_drained (any_fed any_unread octets) in
    ap (λ (r : Reads NgRecord). owed q 0 [] r.items r.behind) front.1
    ∙ ap (λ (f : Option RecordFault). alone (report_of q (behind_records f Cut) read.0)) (sym (open_kept octets front.0))

-- where a run ends by a read error, nothing was reported
nothing_said : (q : Query) (n : ℕ) (entries : List Entry) (records : List NgRecord) (how : Behind) → (report_from q n entries records how).0 ≡ ReadFault → (report_from q n entries records how).1 ≡ []
unfolding report_from
nothing_said q n entries [] how is = by how is
  where
    by : (how : Behind) → (end_by q n entries how).0 ≡ ReadFault → (end_by q n entries how).1 ≡ []
    by Cut is = refl
    by (Closed close.Ended) is = absurd cc
    by (Closed close.TooLong) is = absurd cc
    by (Closed (close.Broken why)) is = absurd cc
nothing_said q n entries (read ∷ more) how is = by (after_record q.level entries read) (λ now. nothing_said q (n + 1) now more how) is
  where
    by : (o : Option (List Entry)) → ((now : List Entry) → (report_from q (n + 1) now more how).0 ≡ ReadFault → (report_from q (n + 1) now more how).1 ≡ []) → (if_room n o (λ es. report_from q (n + 1) es more how)).0 ≡ ReadFault
        → (if_room n o (λ es. report_from q (n + 1) es more how)).1 ≡ []
    by None rest is = absurd cc
    by (Some now) rest is = rest now is

-- What a read error leaves has no fault of the capture, and nothing is reported.
pub cut_leaves : (q : Query) (octets : List ℕ) (ended : Status) (before now : Option (List ℕ)) → ended ≡ ReadFault → Gave (topo_cut q octets) ended before now → IsOpen octets × Appends before now []
unfolding topo_cut
cut_leaves q octets ended before now is gave =
    let read = any_drained (any_fed any_unread octets) in
    let how = behind_records (any_fault read.1) Cut in
    let failed : (topo_cut q octets).0 ≡ ReadFault = sym gave.status ∙ is in
    (open_at octets (is_closed (any_fault read.1) Cut (read_cut q 0 [] read.0 how failed)), subst (Appends before now) (nothing_said q 0 [] read.0 how failed) gave.report)

-- ---- captures that are processed to their end

done_from : (q : Query) (n : ℕ) (entries : List Entry) (records : List NgRecord) → HasRoom q.level entries records → (report_from q n entries records (Closed close.Ended)).0 ≡ Done
unfolding report_from
done_from q n entries [] room = refl
done_from q n entries (read ∷ more) room = by (after_record q.level entries read) (λ now. done_from q (n + 1) now more) room
  where
    by : (o : Option (List Entry)) → ((now : List Entry) → HasRoom q.level now more → (report_from q (n + 1) now more (Closed close.Ended)).0 ≡ Done) → RoomAfter o (λ now. HasRoom q.level now more)
        → (if_room n o (λ es. report_from q (n + 1) es more (Closed close.Ended))).0 ≡ Done
    by None rest room = absurd room
    by (Some now) rest room = rest now room

ended : (left : CaptureReader) → any_end left ≡ None → behind_records (any_fault left) (behind_open false Ends left) ≡ Closed close.Ended
ended left none = by (any_fault left) (ended_well left none)
  where
    closed : (o : Option RecordFault) → o ≡ None → close_by o ≡ close.Ended
    closed None is = refl
    closed (Some why) is = absurd cc

    by : (f : Option RecordFault) → f ≡ None → behind_records f (Closed (close_by (any_end left))) ≡ Closed close.Ended
    by None is = ap (λ (c : Close). Closed c) (closed (any_end left) none)
    by (Some why) is = absurd cc

pub gathered_done : (q : Query) (input : List ℕ) → IsGathered q.level input → (topo_answer q input).0 ≡ Done
unfolding topo_answer within_limit
gathered_done q input is =
    let all : take CAPTURE_LIMIT input ≡ input = take_all CAPTURE_LIMIT input is.short in
    let read = any_drained (any_fed any_unread input) in
    let again = records_are input is.records is.capture in
    let records : read.0 ≡ is.records = ap (λ (c : List NgRecord × Option RecordFault). c.0) again in
    let end : any_end read.1 ≡ None = ap (λ (c : List NgRecord × Option RecordFault). c.1) again in
    ap₂ (λ (b : Bool) (l : List ℕ). (report_of q (behind_records (any_fault (any_drained (any_fed any_unread l)).1) (behind_open (not b) Ends (any_drained (any_fed any_unread l)).1)) (any_drained (any_fed any_unread l)).0).0) (le-leb (length input) CAPTURE_LIMIT is.short) all
    ∙ ap₂ (λ (b : Behind) (l : List NgRecord). (report_of q b l).0) (ended read.1 end) records
    ∙ done_from q 0 [] is.records is.room
