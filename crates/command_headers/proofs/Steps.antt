-- A capture, record by record.
use Rattle.std.proofs.Common.{◌≡◌, ℕ, ◌+◌, Bool, true, false, not, List, [], ◌∷◌, ◌++◌, length, take, Option, Some, None, Result, Ok, Err, refl, sym, ap, ap₂, subst, ◌∙◌, append_assoc, append-nil, arith}
use Rattle.std.proofs.lemmas.Bool.{le-leb}
use Rattle.std.proofs.lemmas.List.{take_all}
use Rattle.std.specs.Prelude.{IfOk}
use Rattle.std.specs.Io.KnownBytes.{Appends}
use Rattle.wire_base.specs.declared.limits.TheConstants.{CAPTURE_LIMIT}
use Rattle.wire_base.specs.declared.status.Status.{Status}
use Rattle.wire_base.specs.declared.status.Status.TheVariants.{Done, ReadFault}
use Rattle.pcapng_frames.specs.declared.packet.NgRecord.{NgRecord}
use Rattle.run_texts.specs.declared.texts.Texts.{Texts}
use Rattle.command_drive.specs.Answer.{behind}
use Rattle.command_drive.specs.CaptureReading.{any_unread, any_fed, any_drained, any_fault, any_end}
use Rattle.command_drive.specs.Captures.{within_limit, is_within, IsOpen}
use Rattle.command_drive.specs.declared.capture_reader.CaptureReader.{CaptureReader}
use Rattle.command_drive.specs.declared.capture_reader.RecordFault.{RecordFault}
use Rattle.command_drive.specs.Doing.{Told, Concludes}
use Rattle.command_drive.specs.Outside.{Gave}
use Rattle.command_drive.specs.Reading.{Ends, Fails, Behind, Closed, Cut, Reads}
use Rattle.command_drive.specs.Records.{close_by, behind_open, behind_records, records_read}
use Rattle.command_drive.specs.Reporting.{alone}
use Rattle.command_drive.specs.declared.items.Close.TheVariants as close
use Rattle.command_drive.proofs.CaptureLaws.{open_at, open_kept, capture_is, front_is, records_are, ended_well}
use Rattle.command_headers.specs.Sight.{sight_text, sight_count}
use Rattle.command_headers.specs.HeadersText.{sight_in, record_lines, header_count, at_end, headers_end, report_of, headers_answer, headers_cut, cut_end, lines_of, IsRead}
use Rattle.command_headers.specs.Owed.{end_by, answer_on, owed}

-- ---- record by record

one_more : (n headers : ℕ) (read : NgRecord) (more : List NgRecord) (how : Behind)
    → answer_on n headers (read ∷ more) how ≡ behind (sight_text (n + 1) (sight_in read)) (answer_on (n + 1) (headers + sight_count (sight_in read)) more how)
unfolding record_lines header_count
one_more n headers read more how =
    let text = sight_text (n + 1) (sight_in read) in
    let rest = record_lines (n + 1) more in
    let records : n + length (read ∷ more) ≡ n + 1 + length more = omega arith in
    let counted : headers + (sight_count (sight_in read) + header_count more) ≡ headers + sight_count (sight_in read) + header_count more = omega arith in
    ap₂ (λ (a b : ℕ). behind (text ++ rest) (end_by how a b)) records counted
    ∙ ap (λ (l : List ℕ). ((end_by how (n + 1 + length more) (headers + sight_count (sight_in read) + header_count more)).0, l))
    (append_assoc text rest (end_by how (n + 1 + length more) (headers + sight_count (sight_in read) + header_count more)).1)

-- a record was reported
pub told_record : (n n_now headers headers_now : ℕ) (given : NgRecord) (texts texts_now : Texts) → n_now ≡ n + 1 → headers_now ≡ headers + sight_count (sight_in given)
    → texts_now.report ≡ texts.report ++ sight_text (n + 1) (sight_in given) → texts_now.frames ≡ texts.frames → Told {T = NgRecord} (λ more how. owed n headers (given ∷ more) how) (owed n_now headers_now) texts texts_now
told_record n n_now headers headers_now given texts texts_now n_is headers_is report frames =
    record {
      report = sight_text (n + 1) (sight_in given);
      frames = [];
      report_is = report;
      frames_is = frames ∙ sym (append-nil texts.frames);
      owed = λ more how.
          ap alone (one_more n headers given more how)
          ∙ ap₂ (λ (a b : ℕ). alone (behind (sight_text (n + 1) (sight_in given)) (answer_on a b more how))) (sym n_is) (sym headers_is);
    }

-- the records end
pub concludes : (n headers : ℕ) (how : Behind) (ended : Status) (texts texts_now : Texts) → ◌≡◌ {A = Status × List ℕ} (ended, texts_now.report) (behind texts.report (end_by how n headers)) → texts_now.frames ≡ texts.frames
    → Concludes ended (owed n headers [] how) texts texts_now
unfolding record_lines header_count
concludes n headers how ended texts texts_now is frames =
    let records : n + 0 ≡ n = omega arith in
    let counted : headers + 0 ≡ headers = omega arith in
    let same : end_by how (n + 0) (headers + 0) ≡ end_by how n headers = ap₂ (end_by how) records counted in
    record {
      status = ap (λ (a : Status × List ℕ). a.0) is ∙ sym (ap (λ (a : Status × List ℕ). a.0) same);
      report = ap (λ (a : Status × List ℕ). a.1) is ∙ ap (λ (a : Status × List ℕ). texts.report ++ a.1) (sym same);
      frames = frames ∙ sym (append-nil texts.frames);
    }

pub concludes_ok : {E : Type 0} (result : Result Status E) (n headers : ℕ) (how closed : Behind) (texts texts_now : Texts) → closed ≡ how → IfOk result (λ ended. ◌≡◌ {A = Status × List ℕ} (ended, texts_now.report) (behind texts.report (end_by how n headers))) → texts_now.frames ≡ texts.frames
    → IfOk result (λ ended. Concludes ended (owed n headers [] closed) texts texts_now)
concludes_ok (Ok ended) n headers how closed texts texts_now at is frames = subst (λ (b : Behind). Concludes ended (owed n headers [] b) texts texts_now) (sym at) (concludes n headers how ended texts texts_now is frames)
concludes_ok (Err e) n headers how closed texts texts_now at is frames = tt

-- ---- a whole capture

ends_as : (short : Bool) (n headers : ℕ) (left : CaptureReader) → end_by (behind_records (any_fault left) (behind_open (not short) Ends left)) n headers ≡ headers_end short n headers (any_fault left) (any_end left)
ends_as short n headers left = by short (any_fault left)
  where
    at : (o : Option RecordFault) → end_by (Closed (close_by o)) n headers ≡ at_end n headers o
    at None = refl
    at (Some why) = refl

    by : (short : Bool) (fault : Option RecordFault) → end_by (behind_records fault (behind_open (not short) Ends left)) n headers ≡ headers_end short n headers fault (any_end left)
    by true None = at (any_end left)
    by false None = refl
    by true (Some why) = refl
    by false (Some why) = refl

from_first : (records : List NgRecord) (how : Behind) → answer_on 0 0 records how ≡ behind (record_lines 0 records) (end_by how (length records) (header_count records))
from_first records how =
    let all : 0 + length records ≡ length records = omega arith in
    let counted : 0 + header_count records ≡ header_count records = omega arith in
    ap₂ (λ (a b : ℕ). behind (record_lines 0 records) (end_by how a b)) all counted

pub means_whole : (octets : List ℕ) → owed 0 0 (records_read any_unread CAPTURE_LIMIT false Ends octets).items (records_read any_unread CAPTURE_LIMIT false Ends octets).behind ≡ alone (headers_answer octets)
unfolding headers_answer
means_whole octets =
    let read = any_drained (any_fed any_unread (within_limit octets)) in
    let short = is_within octets in
    ap (λ (r : Reads NgRecord). owed 0 0 r.items r.behind) (capture_is Ends octets)
    ∙ ap alone (from_first read.0 (behind_records (any_fault read.1) (behind_open (not short) Ends read.1)))
    ∙ ap (λ (a : Status × List ℕ). alone (behind (record_lines 0 read.0) a)) (ends_as short (length read.0) (header_count read.0) read.1)

-- ---- behind a read error

read_cut : (how : Behind) (n headers : ℕ) → (end_by how n headers).0 ≡ ReadFault → how ≡ Cut
read_cut Cut n headers is = refl
read_cut (Closed close.Ended) n headers is = absurd cc
read_cut (Closed close.TooLong) n headers is = absurd cc
read_cut (Closed (close.Broken why)) n headers is = absurd cc

pub means_front : (octets : List ℕ) → (owed 0 0 (records_read any_unread CAPTURE_LIMIT false Fails octets).items (records_read any_unread CAPTURE_LIMIT false Fails octets).behind).status ≡ ReadFault
    → owed 0 0 (records_read any_unread CAPTURE_LIMIT false Fails octets).items (records_read any_unread CAPTURE_LIMIT false Fails octets).behind ≡ alone (headers_cut octets)
unfolding headers_cut
means_front octets failed =
    let given = records_read any_unread CAPTURE_LIMIT false Fails octets in
    let cut = read_cut given.behind (0 + length given.items) (0 + header_count given.items) failed in
    let front = front_is octets cut in
    let read = any_drained (any_fed any_unread octets) in
    ap (λ (r : Reads NgRecord). owed 0 0 r.items r.behind) front.1
    ∙ ap (λ (f : Option RecordFault). alone (behind (record_lines 0 read.0) (cut_end (length read.0) f))) (sym (open_kept octets front.0))

cut_open : (n : ℕ) (fault : Option RecordFault) → (cut_end n fault).0 ≡ ReadFault → fault ≡ None
cut_open n None failed = refl
cut_open n (Some why) failed = absurd cc

-- What a read error leaves has no fault of the capture, and the report has its records' lines.
pub cut_leaves : (octets : List ℕ) (ended : Status) (before now : Option (List ℕ)) → ended ≡ ReadFault → Gave (headers_cut octets) ended before now → IsOpen octets × Appends before now (lines_of octets)
unfolding headers_cut
cut_leaves octets ended before now is gave =
    let read = any_drained (any_fed any_unread octets) in
    let kept = cut_open (length read.0) (any_fault read.1) (sym gave.status ∙ is) in
    let text : (headers_cut octets).1 ≡ lines_of octets = ap (λ (f : Option RecordFault). lines_of octets ++ (cut_end (length read.0) f).1) kept ∙ append-nil (lines_of octets) in
    (open_at octets kept, subst (Appends before now) text gave.report)

-- ---- captures that are done to their end

ends_done : (n headers : ℕ) (met ended : Option RecordFault) → met ≡ None → ended ≡ None → (headers_end true n headers met ended).0 ≡ Done
ends_done n headers None None met-is ended-is = refl
ends_done n headers (Some why) ended met-is ended-is = absurd cc
ends_done n headers None (Some why) met-is ended-is = absurd cc

pub read_done : (input : List ℕ) → IsRead input → (headers_answer input).0 ≡ Done
unfolding headers_answer within_limit
read_done input is =
    let all : take CAPTURE_LIMIT input ≡ input = take_all CAPTURE_LIMIT input is.short in
    let done = any_drained (any_fed any_unread input) in
    let end : any_end done.1 ≡ None = ap (λ (c : List NgRecord × Option RecordFault). c.1) (records_are input is.records is.capture) in
    ap₂ (λ (b : Bool) (l : List ℕ). (report_of b (any_drained (any_fed any_unread l))).0) (le-leb (length input) CAPTURE_LIMIT is.short) all
    ∙ ends_done (length done.0) (header_count done.0) (any_fault done.1) (any_end done.1) (ended_well done.1 end) end
