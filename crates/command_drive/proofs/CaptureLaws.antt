-- What a reader that has read nothing gives of a capture.
use Rattle.std.proofs.Common.{◌≡◌, ℕ, zero, suc, ◌<◌, ◌≤◌, arith, Bool, true, false, not, List, [], ◌∷◌, length, take, map, Option, Some, None, Result, Ok, Err, refl, sym, ap, ap₂, ◌∙◌, inl, inr}
use Rattle.std.specs.Prelude.{nat_lt, nat_le, option_map}
use Rattle.std.proofs.lemmas.Bool.{cases_lt, cases_Bool, eqb-true, lt-ltb, le-ltb, le-leb, lt-leb}
use Rattle.std.proofs.lemmas.List.{take_all}
use Rattle.wire_base.specs.declared.limits.TheConstants.{CAPTURE_LIMIT}
use Rattle.byteorder.specs.Endian.{big_number}
use Rattle.wire_base.specs.declared.faults.CaptureFault.{CaptureFault}
use Rattle.wire_base.specs.declared.faults.CaptureFault.TheVariants as captures
use Rattle.wire_base.specs.model.Capture as capture
use Rattle.wire_base.specs.model.Capture.{CaptureForm, CaptureRecord, Stage, HeaderToCome, HeaderRead, Refused, Reading, IsCapture, unread, fed, next_of, header_at, formed_at, form_of, by_header, end_of, end_in, capture_at}
use Rattle.pcap_frames.proofs.Drained as pcap
use Rattle.pcap_frames.proofs.Drained.{next_shorter}
use Rattle.pcap_frames.proofs.Spelled.{capture_again}
use Rattle.pcapng_frames.specs.declared.faults.NgFault.{NgFault}
use Rattle.pcapng_frames.specs.declared.packet.NgRecord.{NgRecord}
use Rattle.pcapng_frames.specs.declared.reader.Step.{Step}
use Rattle.pcapng_frames.specs.declared.reader.Step.TheVariants as steps
use Rattle.pcapng_frames.specs.Draining.{drain_on, more_after}
use Rattle.pcapng_frames.specs.Reading.{NgReading, ng_unread, ng_fed, ng_next, ng_size, ng_drained, ng_end_in, ng_records}
use Rattle.pcapng_frames.proofs.DrainLaws.{Shrinks, drained_next, drained_twice, drained_still}
use Rattle.pcapng_frames.proofs.ReadLaws.{ng_laws}
use Rattle.command_drive.specs.declared.capture_reader.CaptureReader.{CaptureReader}
use Rattle.command_drive.specs.declared.capture_reader.CaptureReader.TheVariants as readers
use Rattle.command_drive.specs.declared.capture_reader.RecordFault.{RecordFault}
use Rattle.command_drive.specs.declared.capture_reader.RecordFault.TheVariants as record_faults
use Rattle.command_drive.specs.declared.items.Close.TheVariants as close
use Rattle.command_drive.specs.CaptureReading.{HasRecords, OfPcap, OfPcapng, pcap_given, is_pcapng, any_unread, any_fed, any_size, by_pcap, by_pcapng, any_next, any_drained, stage_fault, step_fault, any_fault, any_end, any_records}
use Rattle.command_drive.specs.Reading.{End, Fails, Behind, Closed, Cut, Reads}
use Rattle.command_drive.specs.Records.{behind_records, capture_read, records_read}
use Rattle.command_drive.specs.Captures.{within_limit, is_within, IsOpen}
use Rattle.command_drive.proofs.AnyLaws.{any_laws, fault_met, no_fault}

pub capture_is : (end : End) (octets : List ℕ) → records_read any_unread CAPTURE_LIMIT false end octets ≡ capture_read (not (is_within octets)) end (any_drained (any_fed any_unread (within_limit octets)))
unfolding within_limit
capture_is end octets = ap (λ (b : Bool). capture_read b end (any_drained (any_fed any_unread (take CAPTURE_LIMIT octets)))) (passes (length octets))
  where
    passes : (n : ℕ) → nat_lt CAPTURE_LIMIT n ≡ not (nat_le n CAPTURE_LIMIT)
    passes n = elim (cases_lt CAPTURE_LIMIT n) [
      | inl over ↦ lt-ltb CAPTURE_LIMIT n over ∙ ap not (sym (lt-leb n CAPTURE_LIMIT over))
      | inr fits ↦ le-ltb CAPTURE_LIMIT n fits ∙ ap not (sym (le-leb n CAPTURE_LIMIT fits))
    ]

-- ---- behind a read error

-- a reader at the end of its records that stands at no fault has none to return
pub open_by : (left : CaptureReader) → any_drained left ≡ ([], left) → (any_next left).1 ≡ left → any_fault left ≡ None → (any_next left).0 ≡ Ok None
open_by left none still kept = by (any_next left).0 refl
  where
    apart : (read : NgRecord) (more : List NgRecord) → read ∷ more ≡ [] → ⊥
    apart read more e = cc

    at_none : (why : RecordFault) → ◌≡◌ {A = Option RecordFault} None (Some why) → ⊥
    at_none why e = cc

    by : (answer : Result (Option NgRecord) RecordFault) → (any_next left).0 ≡ answer → (any_next left).0 ≡ Ok None
    by (Ok None) is = is
    by (Ok (Some read)) is =
        absurd (apart read (any_drained (any_next left).1).0
        (sym (ap (λ (d : List NgRecord × CaptureReader). d.0) (drained_next any_next any_size any_fed any_laws left ∙ ap (λ (a : Result (Option NgRecord) RecordFault). drain_on any_drained (a, (any_next left).1)) is))
        ∙ ap (λ (d : List NgRecord × CaptureReader). d.0) none))
    by (Err why) is = absurd (at_none why (sym kept ∙ sym (ap any_fault still) ∙ fault_met left why is))

-- the reader at the end of the records of octets
pub open_at : (octets : List ℕ) → any_fault (any_drained (any_fed any_unread octets)).1 ≡ None → IsOpen octets
open_at octets kept =
    let left = any_fed any_unread octets in
    open_by (any_drained left).1 (drained_twice any_next any_size any_fed any_laws left) (drained_still any_next any_size any_fed any_laws left) kept

pub is_closed : (fault : Option RecordFault) (behind : Behind) → behind_records fault behind ≡ Cut → fault ≡ None
is_closed None behind is = refl
is_closed (Some why) behind is = absurd cc

-- no record follows, and there is no fault, where a read error ends the run
pub front_is : (octets : List ℕ) → (records_read any_unread CAPTURE_LIMIT false Fails octets).behind ≡ Cut
    → IsOpen octets × (records_read any_unread CAPTURE_LIMIT false Fails octets ≡ record { items = (any_drained (any_fed any_unread octets)).0; behind = Cut })
front_is octets cut = elim (cases_lt CAPTURE_LIMIT (length octets)) [
  | inl over ↦
      absurd (closed (any_fault (any_drained (any_fed any_unread (take CAPTURE_LIMIT octets))).1)
      (sym (ap (λ (b : Bool). (capture_read b Fails (any_drained (any_fed any_unread (take CAPTURE_LIMIT octets)))).behind) (lt-ltb CAPTURE_LIMIT (length octets) over)) ∙ cut))
  | inr fits ↦
      let is : records_read any_unread CAPTURE_LIMIT false Fails octets ≡ capture_read false Fails (any_drained (any_fed any_unread octets)) =
      ap₂ (λ (b : Bool) (l : List ℕ). capture_read b Fails (any_drained (any_fed any_unread l))) (le-ltb CAPTURE_LIMIT (length octets) fits) (take_all CAPTURE_LIMIT octets fits) in
      let behind_is : behind_records (any_fault (any_drained (any_fed any_unread octets)).1) Cut ≡ Cut = sym (ap (λ (r : Reads NgRecord). r.behind) is) ∙ cut in (
        open_at octets (is_closed (any_fault (any_drained (any_fed any_unread octets)).1) Cut behind_is),
        is ∙ ap (λ (b : Behind). record { items = (any_drained (any_fed any_unread octets)).0; behind = b }) behind_is,
      )
]
  where
    closed : (fault : Option RecordFault) → behind_records fault (Closed close.TooLong) ≡ Cut → ⊥
    closed None e = cc
    closed (Some why) e = cc

-- octets that are open hold no fault
pub open_kept : (octets : List ℕ) → IsOpen octets → any_fault (any_drained (any_fed any_unread octets)).1 ≡ None
open_kept octets is =
    let left = (any_drained (any_fed any_unread octets)).1 in
    no_fault left (ap₂ (λ (a : Result (Option NgRecord) RecordFault) (r : CaptureReader). (a, r)) is (drained_still any_next any_size any_fed any_laws (any_fed any_unread octets)))

-- a capture that ends well has met no fault
pub ended_well : (reader : CaptureReader) → any_end reader ≡ None → any_fault reader ≡ None
ended_well (readers.Unknown octets) is = refl
ended_well (readers.Pcap reading) is = by reading.stage is
  where
    by : (stage : Stage) → option_map record_faults.Pcap (end_in stage reading.octets) ≡ None → stage_fault stage ≡ None
    by HeaderToCome e = refl
    by (HeaderRead form) e = refl
    by (Refused why) e = absurd cc
ended_well (readers.Pcapng reading) is = by reading.step is
  where
    by : (step : Step) → option_map record_faults.Pcapng (ng_end_in step reading.octets) ≡ None → step_fault step ≡ None
    by steps.Opening e = refl
    by (steps.Section order) e = refl
    by (steps.Refused why) e = absurd cc

-- ---- the records of each format

pcap_on : (n : ℕ) (answer : Result (Option CaptureRecord) CaptureFault × Reading) → ((read : CaptureRecord) → answer.0 ≡ Ok (Some read) → length answer.1.octets < n)
    → ((r : Reading) → length r.octets < n → any_drained (readers.Pcap r) ≡ (map pcap_given (capture.drained r).0, readers.Pcap (capture.drained r).1))
    → drain_on any_drained (by_pcap answer) ≡ (map pcap_given (capture.drain_on capture.drained answer).0, readers.Pcap (capture.drain_on capture.drained answer).1)
pcap_on n (Ok None, after) less goes = refl
pcap_on n (Ok (Some read), after) less goes = ap (more_after (pcap_given read)) (goes after (less read refl))
pcap_on n (Err fault, after) less goes = refl

pcap_goes : (n : ℕ) (r : Reading) → length r.octets < n → any_drained (readers.Pcap r) ≡ (map pcap_given (capture.drained r).0, readers.Pcap (capture.drained r).1)
unfolding any_next
pcap_goes zero r enough = absurd (omega (arith, enough))
pcap_goes (suc n) r enough =
    drained_next any_next any_size any_fed any_laws (readers.Pcap r)
    ∙ pcap_on (length r.octets) (next_of r) (λ read is. next_shorter r (next_of r).1 read is refl) (λ s less. pcap_goes n s (omega (arith, less, enough)))
    ∙ ap (λ (d : List CaptureRecord × Reading). (map pcap_given d.0, readers.Pcap d.1)) (sym (pcap.drained_next r))

pcapng_on : (n : ℕ) (answer : Result (Option NgRecord) NgFault × NgReading) → Shrinks ng_size n answer
    → ((r : NgReading) → length r.octets < n → any_drained (readers.Pcapng r) ≡ ((ng_drained r).0, readers.Pcapng (ng_drained r).1))
    → drain_on any_drained (by_pcapng answer) ≡ ((drain_on ng_drained answer).0, readers.Pcapng (drain_on ng_drained answer).1)
pcapng_on n (Ok None, after) less goes = refl
pcapng_on n (Ok (Some read), after) less goes = ap (more_after read) (goes after less)
pcapng_on n (Err fault, after) less goes = refl

pcapng_goes : (n : ℕ) (r : NgReading) → length r.octets < n → any_drained (readers.Pcapng r) ≡ ((ng_drained r).0, readers.Pcapng (ng_drained r).1)
unfolding any_next
pcapng_goes zero r enough = absurd (omega (arith, enough))
pcapng_goes (suc n) r enough =
    drained_next any_next any_size any_fed any_laws (readers.Pcapng r)
    ∙ pcapng_on (length r.octets) (ng_next r) (ng_laws.shrinks r) (λ s less. pcapng_goes n s (omega (arith, less, enough)))
    ∙ ap (λ (d : List NgRecord × NgReading). (d.0, readers.Pcapng d.1)) (sym (drained_next ng_next ng_size ng_fed ng_laws r))

-- readers with the same next record have the same records
same_records : (one other : CaptureReader) → any_next one ≡ any_next other → any_drained one ≡ any_drained other
same_records one other same = drained_next any_next any_size any_fed any_laws one ∙ ap (drain_on any_drained) same ∙ sym (drained_next any_next any_size any_fed any_laws other)

pcapng_first : (octets : List ℕ) → 4 ≤ length octets → is_pcapng octets ≡ true → any_next (any_fed any_unread octets) ≡ any_next (readers.Pcapng (ng_fed ng_unread octets))
unfolding any_next
pcapng_first octets there is = rw (le-ltb (length octets) 4 there, is) refl

pcap_first : (octets : List ℕ) → 4 ≤ length octets → is_pcapng octets ≡ false → any_next (any_fed any_unread octets) ≡ any_next (readers.Pcap (fed unread octets))
unfolding any_next
pcap_first octets there not_so = rw (le-ltb (length octets) 4 there, not_so) refl

pcapng_records : (octets : List ℕ) (records : List NgRecord) → 4 ≤ length octets → is_pcapng octets ≡ true → ng_records octets ≡ (records, None) → any_records octets ≡ (records, None)
pcapng_records octets records there is read =
    ap (λ (d : List NgRecord × CaptureReader). (d.0, any_end d.1)) (same_records (any_fed any_unread octets) (readers.Pcapng (ng_fed ng_unread octets)) (pcapng_first octets there is) ∙ pcapng_goes (suc (length octets)) (ng_fed ng_unread octets) (omega arith))
    ∙ ap (λ (c : List NgRecord × Option NgFault). (c.0, option_map record_faults.Pcapng c.1)) read

-- a pcap capture begins with another magic number
short_cut : (octets : List ℕ) → length octets < 4 → (capture_at octets).1 ≡ Some captures.CutHeader
unfolding next_of header_at
short_cut octets lt =
    let met : header_at octets ≡ Ok None = rw (lt-ltb (length octets) 4 lt) refl in
    ap (λ (d : List CaptureRecord × Reading). end_of d.1) (pcap.drained_next (fed unread octets) ∙ ap (λ (a : Result (Option (CaptureForm × List ℕ)) CaptureFault). capture.drain_on capture.drained (by_header octets a)) met)

other_magic : (octets : List ℕ) → 4 ≤ length octets → is_pcapng octets ≡ true → (capture_at octets).1 ≡ Some captures.Magic
unfolding next_of header_at
other_magic octets le is =
    let magic : big_number 4 octets ≡ 168627466 = eqb-true (big_number 4 octets) 168627466 is in
    let met : header_at octets ≡ Err captures.Magic = rw (le-ltb (length octets) 4 le) (ap (λ (n : ℕ). formed_at (form_of n) octets) magic) in
    ap (λ (d : List CaptureRecord × Reading). end_of d.1) (pcap.drained_next (fed unread octets) ∙ ap (λ (a : Result (Option (CaptureForm × List ℕ)) CaptureFault). capture.drain_on capture.drained (by_header octets a)) met)

none_some : (fault : CaptureFault) (end : Option CaptureFault) → end ≡ None → end ≡ Some fault → ⊥
none_some fault end none some = cc

pcap_records : (octets : List ℕ) (records : List CaptureRecord) → IsCapture octets records → any_records octets ≡ (map pcap_given records, None)
pcap_records octets records is =
    let again = capture_again octets records is in
    let none : (capture_at octets).1 ≡ None = ap (λ (c : List CaptureRecord × Option CaptureFault). c.1) again in
    elim (cases_lt (length octets) 4) [
      | inl lt ↦ absurd (none_some captures.CutHeader (capture_at octets).1 none (short_cut octets lt))
      | inr there ↦ elim (cases_Bool (is_pcapng octets)) [
        | inl other ↦ absurd (none_some captures.Magic (capture_at octets).1 none (other_magic octets there other))
        | inr not_so ↦
            ap (λ (d : List NgRecord × CaptureReader). (d.0, any_end d.1)) (same_records (any_fed any_unread octets) (readers.Pcap (fed unread octets)) (pcap_first octets there not_so) ∙ pcap_goes (suc (length octets)) (fed unread octets) (omega arith))
            ∙ ap (λ (c : List CaptureRecord × Option CaptureFault). (map pcap_given c.0, option_map record_faults.Pcap c.1)) again
      ]
    ]

-- The records of a capture are read, in either format.
pub records_are : (octets : List ℕ) (records : List NgRecord) → HasRecords octets records → any_records octets ≡ (records, None)
records_are _ _ (OfPcap octets records is) = pcap_records octets records is
records_are _ _ (OfPcapng octets records there is read) = pcapng_records octets records there is read
