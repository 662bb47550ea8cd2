-- The records of a capture of either format don't depend on how its octets come, and a fault is permanent.
use Rattle.std.proofs.Common.{◌≡◌, ℕ, ◌<◌, ◌≤◌, false, ltb, List, [], ◌++◌, length, Result, Ok, Err, Option, Some, None, refl, sym, ap, ◌∙◌, subst, append_assoc, append-nil, arith, inl, inr}
use Rattle.std.proofs.lemmas.Bool.{cases_lt, cases_Bool, lt-ltb, le-ltb}
use Rattle.std.proofs.lemmas.List.{length-append}
use Rattle.byteorder.specs.Numbers.{big_from-append}
use Rattle.wire_base.specs.declared.faults.CaptureFault.{CaptureFault}
use Rattle.wire_base.specs.model.Capture.{CaptureRecord, Stage, HeaderToCome, HeaderRead, Refused, Reading, unread, fed, next_of, next_in}
use Rattle.pcap_frames.proofs.Drained.{next_shorter, next_lowers, next_refuses, fed_nothing, fed_twice}
use Rattle.pcap_frames.proofs.Grows.{NextGrows, next_grows}
use Rattle.pcapng_frames.specs.declared.faults.NgFault.{NgFault}
use Rattle.pcapng_frames.specs.declared.packet.NgRecord.{NgRecord}
use Rattle.pcapng_frames.specs.declared.reader.Step.{Step}
use Rattle.pcapng_frames.specs.declared.reader.Step.TheVariants as steps
use Rattle.pcapng_frames.specs.Draining.{drain_on}
use Rattle.pcapng_frames.specs.Reading.{NgReading, ng_unread, ng_fed, ng_next, ng_size}
use Rattle.pcapng_frames.proofs.DrainLaws.{Shrinks, Grows, IsReader, IsSpent, drained_next, spent}
use Rattle.pcapng_frames.proofs.ReadLaws.{NoMore, ng_laws, refused_still, ng_refuses, ng_no_more}
use Rattle.command_drive.specs.declared.capture_reader.CaptureReader.{CaptureReader}
use Rattle.command_drive.specs.declared.capture_reader.CaptureReader.TheVariants as readers
use Rattle.command_drive.specs.declared.capture_reader.RecordFault.{RecordFault}
use Rattle.command_drive.specs.declared.capture_reader.RecordFault.TheVariants as record_faults
use Rattle.command_drive.specs.CaptureReading.{pcap_given, is_pcapng, chosen_of, or_unknown, chosen, any_fed, any_size, by_pcap, by_pcapng, answer_of, any_next, any_drained, stage_fault, step_fault, any_fault}

-- ---- a record makes a reader smaller

pcap_shrinks : (n : ℕ) (answer : Result (Option CaptureRecord) CaptureFault × Reading) → ((read : CaptureRecord) → answer.0 ≡ Ok (Some read) → length answer.1.octets < n) → Shrinks any_size n (by_pcap answer)
pcap_shrinks n (Ok None, after) less = tt
pcap_shrinks n (Ok (Some read), after) less = less read refl
pcap_shrinks n (Err fault, after) less = tt

pcap_less : (reading : Reading) → Shrinks any_size (length reading.octets) (by_pcap (next_of reading))
pcap_less reading = pcap_shrinks (length reading.octets) (next_of reading) (λ read is. next_shorter reading (next_of reading).1 read is refl)

pcapng_shrinks : (n : ℕ) (answer : Result (Option NgRecord) NgFault × NgReading) → Shrinks ng_size n answer → Shrinks any_size n (by_pcapng answer)
pcapng_shrinks n (Ok None, after) less = tt
pcapng_shrinks n (Ok (Some read), after) less = less
pcapng_shrinks n (Err fault, after) less = tt

pcapng_less : (reading : NgReading) → Shrinks any_size (length reading.octets) (by_pcapng (ng_next reading))
pcapng_less reading = pcapng_shrinks (length reading.octets) (ng_next reading) (ng_laws.shrinks reading)

unknown_less : (octets : List ℕ) → Shrinks any_size (length octets) (answer_of (or_unknown octets (chosen_of octets)))
unknown_less octets = elim (cases_lt (length octets) 4) [
  | inl lt ↦ rw (lt-ltb (length octets) 4 lt) tt
  | inr le ↦ elim (cases_Bool (is_pcapng octets)) [
    | inl is ↦ rw (le-ltb (length octets) 4 le, is) (pcapng_less (ng_fed ng_unread octets))
    | inr not_so ↦ rw (le-ltb (length octets) 4 le, not_so) (pcap_less (fed unread octets))
  ]
]

next_less : (reader : CaptureReader) → Shrinks any_size (any_size reader) (any_next reader)
unfolding any_next
next_less (readers.Unknown octets) = unknown_less octets
next_less (readers.Pcap reading) = pcap_less reading
next_less (readers.Pcapng reading) = pcapng_less reading

-- ---- what is answered stays when more octets come

pcap_grows : (more : List ℕ) (answer later : Result (Option CaptureRecord) CaptureFault × Reading) → NextGrows more answer later → Grows any_next any_fed more (by_pcap answer) (by_pcap later)
unfolding any_next
pcap_grows more (Ok None, after) later grows = ap by_pcap grows
pcap_grows more (Ok (Some read), after) later grows = ap by_pcap grows
pcap_grows more (Err fault, after) later grows = ap by_pcap grows

pcapng_grows : (more : List ℕ) (answer later : Result (Option NgRecord) NgFault × NgReading) → Grows ng_next ng_fed more answer later → Grows any_next any_fed more (by_pcapng answer) (by_pcapng later)
unfolding any_next
pcapng_grows more (Ok None, after) later grows = ap by_pcapng grows
pcapng_grows more (Ok (Some read), after) later grows = ap by_pcapng grows
pcapng_grows more (Err fault, after) later grows = ap by_pcapng grows

unknown_grows : (octets more : List ℕ) → Grows any_next any_fed more (answer_of (or_unknown octets (chosen_of octets))) (answer_of (or_unknown (octets ++ more) (chosen_of (octets ++ more))))
unfolding any_next
unknown_grows octets more = elim (cases_lt (length octets) 4) [
  | inl lt ↦ rw (lt-ltb (length octets) 4 lt) refl
  | inr le ↦
      let later : ltb (length (octets ++ more)) 4 ≡ false = le-ltb (length (octets ++ more)) 4 (omega (arith, length-append octets more)) in
      let same : is_pcapng (octets ++ more) ≡ is_pcapng octets = rw (big_from-append 4 octets more le) refl in
      elim (cases_Bool (is_pcapng octets)) [
        | inl is ↦ rw (le-ltb (length octets) 4 le, later, same, is) (pcapng_grows more (ng_next (ng_fed ng_unread octets)) (ng_next (ng_fed ng_unread (octets ++ more))) (ng_laws.grows (ng_fed ng_unread octets) more))
        | inr not_so ↦ rw (le-ltb (length octets) 4 le, later, same, not_so) (pcap_grows more (next_of (fed unread octets)) (next_of (fed unread (octets ++ more))) (next_grows (fed unread octets) more))
      ]
]

any_grows : (reader : CaptureReader) (more : List ℕ) → Grows any_next any_fed more (any_next reader) (any_next (any_fed reader more))
unfolding any_next
any_grows (readers.Unknown octets) more = unknown_grows octets more
any_grows (readers.Pcap reading) more = pcap_grows more (next_of reading) (next_of (fed reading more)) (next_grows reading more)
any_grows (readers.Pcapng reading) more = pcapng_grows more (ng_next reading) (ng_next (ng_fed reading more)) (ng_laws.grows reading more)

fed_none : (reader : CaptureReader) → any_fed reader [] ≡ reader
fed_none (readers.Unknown octets) = ap readers.Unknown (append-nil octets)
fed_none (readers.Pcap reading) = ap readers.Pcap (fed_nothing reading)
fed_none (readers.Pcapng reading) = ap readers.Pcapng (ng_laws.nothing reading)

fed_both : (reader : CaptureReader) (piece more : List ℕ) → any_fed (any_fed reader piece) more ≡ any_fed reader (piece ++ more)
fed_both (readers.Unknown octets) piece more = ap readers.Unknown (append_assoc octets piece more)
fed_both (readers.Pcap reading) piece more = ap readers.Pcap (fed_twice reading piece more)
fed_both (readers.Pcapng reading) piece more = ap readers.Pcapng (ng_laws.twice reading piece more)

pub any_laws : IsReader any_next any_size any_fed
any_laws = record { shrinks = next_less; grows = any_grows; nothing = fed_none; twice = fed_both }

-- ---- faults

pcap_refused : (reading : Reading) (fault : CaptureFault) → reading.stage ≡ Refused fault → next_of reading ≡ (Err fault, reading)
unfolding next_of
pcap_refused reading fault is =
    ap (λ (s : Stage). next_in s reading.octets) is ∙ ap (λ (s : Stage). (Err fault, record { stage = s; octets = reading.octets })) (sym is)

stage_is : (stage : Stage) (why : RecordFault) → stage_fault stage ≡ Some why → (fault : CaptureFault) × (stage ≡ Refused fault) × (record_faults.Pcap fault ≡ why)
stage_is HeaderToCome why is = absurd cc
stage_is (HeaderRead form) why is = absurd cc
stage_is (Refused fault) why is = (fault, refl, cc)

step_is : (step : Step) (why : RecordFault) → step_fault step ≡ Some why → (fault : NgFault) × (step ≡ steps.Refused fault) × (record_faults.Pcapng fault ≡ why)
step_is steps.Opening why is = absurd cc
step_is (steps.Section order) why is = absurd cc
step_is (steps.Refused fault) why is = (fault, refl, cc)

-- a reader that met a fault returns it again
pub fault_again : (reader : CaptureReader) (why : RecordFault) → any_fault reader ≡ Some why → any_next reader ≡ (Err why, reader)
unfolding any_next
fault_again (readers.Unknown octets) why is = absurd cc
fault_again (readers.Pcap reading) why is =
    let met = stage_is reading.stage why is in
    ap by_pcap (pcap_refused reading met.0 met.1) ∙ ap (λ (f : RecordFault). (Err f, readers.Pcap reading)) met.2
fault_again (readers.Pcapng reading) why is =
    let met = step_is reading.step why is in
    ap by_pcapng (refused_still reading met.0 met.1) ∙ ap (λ (f : RecordFault). (Err f, readers.Pcapng reading)) met.2

pub fault_stays : (reader : CaptureReader) (more : List ℕ) → any_fault (any_fed reader more) ≡ any_fault reader
fault_stays (readers.Unknown octets) more = refl
fault_stays (readers.Pcap reading) more = refl
fault_stays (readers.Pcapng reading) more = refl

pcap_met : (why : RecordFault) (answer : Result (Option CaptureRecord) CaptureFault × Reading) → ((fault : CaptureFault) → answer.0 ≡ Err fault → answer.1.stage ≡ Refused fault) → (by_pcap answer).0 ≡ Err why → any_fault (by_pcap answer).1 ≡ Some why
pcap_met why (Ok None, after) kept is = absurd cc
pcap_met why (Ok (Some read), after) kept is = absurd cc
pcap_met why (Err fault, after) kept is = ap stage_fault (kept fault refl) ∙ cc

pcapng_met : (why : RecordFault) (answer : Result (Option NgRecord) NgFault × NgReading) → ((fault : NgFault) → answer.0 ≡ Err fault → answer.1.step ≡ steps.Refused fault) → (by_pcapng answer).0 ≡ Err why → any_fault (by_pcapng answer).1 ≡ Some why
pcapng_met why (Ok read, after) kept is = absurd cc
pcapng_met why (Err fault, after) kept is = ap step_fault (kept fault refl) ∙ cc

answer_met : (reader : CaptureReader) (why : RecordFault) → (answer_of reader).0 ≡ Err why → any_fault (answer_of reader).1 ≡ Some why
answer_met (readers.Unknown octets) why is = absurd cc
answer_met (readers.Pcap reading) why is = pcap_met why (next_of reading) (λ fault e. next_refuses reading (next_of reading).1 fault e refl) is
answer_met (readers.Pcapng reading) why is = pcapng_met why (ng_next reading) (λ fault e. ng_refuses reading fault e) is

pub fault_met : (reader : CaptureReader) (why : RecordFault) → (any_next reader).0 ≡ Err why → any_fault (any_next reader).1 ≡ Some why
unfolding any_next
fault_met reader why is = answer_met (chosen reader) why is

-- a reader that met a fault returns nothing more
pub nothing_more : (reader : CaptureReader) (why : RecordFault) → any_fault reader ≡ Some why → any_drained reader ≡ ([], reader)
nothing_more reader why is = drained_next any_next any_size any_fed any_laws reader ∙ ap (drain_on any_drained) (fault_again reader why is)

differ : (why : RecordFault) → ◌≡◌ {A = Result (Option NgRecord) RecordFault} (Ok None) (Err why) → ⊥
differ why e = cc

-- a reader that returns none stands at no fault
pub no_fault : (reader : CaptureReader) → any_next reader ≡ (Ok None, reader) → any_fault reader ≡ None
no_fault reader none = by (any_fault reader) refl
  where
    by : (fault : Option RecordFault) → any_fault reader ≡ fault → any_fault reader ≡ None
    by None is = is
    by (Some why) is = absurd (differ why (ap (λ (a : Result (Option NgRecord) RecordFault × CaptureReader). a.0) (sym none ∙ fault_again reader why is)))

-- and returns none again
pub none_after : (reader after : CaptureReader) → any_next reader ≡ (Ok None, after) → any_next after ≡ (Ok None, after)
none_after reader after is = subst (IsSpent any_next) is (spent any_next any_size any_fed any_laws reader)

-- it holds no more octets than before
abbrev HoldsNoMore : ℕ → Result (Option NgRecord) RecordFault × CaptureReader → Type 0
HoldsNoMore n (Ok None, after) = any_size after ≤ n
HoldsNoMore n (Ok (Some read), after) = Unit {0}
HoldsNoMore n (Err fault, after) = Unit {0}

pcap_holds : (n : ℕ) (answer : Result (Option CaptureRecord) CaptureFault × Reading) → length answer.1.octets ≤ n → HoldsNoMore n (by_pcap answer)
pcap_holds n (Ok None, after) le = le
pcap_holds n (Ok (Some read), after) le = tt
pcap_holds n (Err fault, after) le = tt

pcapng_holds : (n : ℕ) (answer : Result (Option NgRecord) NgFault × NgReading) → NoMore n answer → HoldsNoMore n (by_pcapng answer)
pcapng_holds n (Ok None, after) le = le
pcapng_holds n (Ok (Some read), after) le = tt
pcapng_holds n (Err fault, after) le = tt

unknown_holds : (octets : List ℕ) → HoldsNoMore (length octets) (answer_of (or_unknown octets (chosen_of octets)))
unknown_holds octets = elim (cases_lt (length octets) 4) [
  | inl lt ↦ rw (lt-ltb (length octets) 4 lt) (omega arith)
  | inr le ↦ elim (cases_Bool (is_pcapng octets)) [
    | inl is ↦ rw (le-ltb (length octets) 4 le, is) (pcapng_holds (length octets) (ng_next (ng_fed ng_unread octets)) (ng_no_more (ng_fed ng_unread octets)))
    | inr not_so ↦ rw (le-ltb (length octets) 4 le, not_so) (pcap_holds (length octets) (next_of (fed unread octets)) (next_lowers (fed unread octets) (next_of (fed unread octets)).1 refl))
  ]
]

next_holds : (reader : CaptureReader) → HoldsNoMore (any_size reader) (any_next reader)
unfolding any_next
next_holds (readers.Unknown octets) = unknown_holds octets
next_holds (readers.Pcap reading) = pcap_holds (length reading.octets) (next_of reading) (next_lowers reading (next_of reading).1 refl)
next_holds (readers.Pcapng reading) = pcapng_holds (length reading.octets) (ng_next reading) (ng_no_more reading)

pub none_holds : (reader after : CaptureReader) → any_next reader ≡ (Ok None, after) → any_size after ≤ any_size reader
none_holds reader after is = subst (HoldsNoMore (any_size reader)) is (next_holds reader)

record_less_on : (n : ℕ) (answer : Result (Option NgRecord) RecordFault × CaptureReader) (read : NgRecord) → answer.0 ≡ Ok (Some read) → Shrinks any_size n answer → any_size answer.1 < n
record_less_on n (Ok None, after) read is less = absurd cc
record_less_on n (Ok (Some found), after) read is less = less
record_less_on n (Err fault, after) read is less = absurd cc

-- a record leaves fewer
pub record_less : (reader : CaptureReader) (read : NgRecord) → (any_next reader).0 ≡ Ok (Some read) → any_size (any_next reader).1 < any_size reader
record_less reader read is = record_less_on (any_size reader) (any_next reader) read is (next_less reader)

-- ---- at the end

not_record : (read : NgRecord) → ◌≡◌ {A = Result (Option NgRecord) RecordFault} (Ok (Some read)) (Ok None) → ⊥
not_record read is = cc

not_fault : (why : RecordFault) → ◌≡◌ {A = Result (Option NgRecord) RecordFault} (Err why) (Ok None) → ⊥
not_fault why is = cc

same_pcap : (one other : Reading) → readers.Pcap one ≡ readers.Pcap other → one ≡ other
same_pcap one other is = cc

same_pcapng : (one other : NgReading) → readers.Pcapng one ≡ readers.Pcapng other → one ≡ other
same_pcapng one other is = cc

pcap_open_by : (reading : Reading) (answer : Result (Option CaptureRecord) CaptureFault × Reading) → ◌≡◌ {A = Result (Option NgRecord) RecordFault × CaptureReader} (by_pcap answer) (Ok None, readers.Pcap reading) → answer ≡ (Ok None, reading)
pcap_open_by reading (Ok None, after) is = ap (λ (r : Reading). (Ok None, r)) (same_pcap after reading (ap (λ (a : Result (Option NgRecord) RecordFault × CaptureReader). a.1) is))
pcap_open_by reading (Ok (Some read), after) is = absurd (not_record (pcap_given read) (ap (λ (a : Result (Option NgRecord) RecordFault × CaptureReader). a.0) is))
pcap_open_by reading (Err fault, after) is = absurd (not_fault (record_faults.Pcap fault) (ap (λ (a : Result (Option NgRecord) RecordFault × CaptureReader). a.0) is))

pub pcap_open : (reading : Reading) → any_next (readers.Pcap reading) ≡ (Ok None, readers.Pcap reading) → next_of reading ≡ (Ok None, reading)
unfolding any_next
pcap_open reading is = pcap_open_by reading (next_of reading) is

pcapng_open_by : (reading : NgReading) (answer : Result (Option NgRecord) NgFault × NgReading) → ◌≡◌ {A = Result (Option NgRecord) RecordFault × CaptureReader} (by_pcapng answer) (Ok None, readers.Pcapng reading) → answer ≡ (Ok None, reading)
pcapng_open_by reading (Ok None, after) is = ap (λ (r : NgReading). (Ok None, r)) (same_pcapng after reading (ap (λ (a : Result (Option NgRecord) RecordFault × CaptureReader). a.1) is))
pcapng_open_by reading (Ok (Some read), after) is = absurd (not_record read (ap (λ (a : Result (Option NgRecord) RecordFault × CaptureReader). a.0) is))
pcapng_open_by reading (Err fault, after) is = absurd (not_fault (record_faults.Pcapng fault) (ap (λ (a : Result (Option NgRecord) RecordFault × CaptureReader). a.0) is))

pub pcapng_open : (reading : NgReading) → any_next (readers.Pcapng reading) ≡ (Ok None, readers.Pcapng reading) → ng_next reading ≡ (Ok None, reading)
unfolding any_next
pcapng_open reading is = pcapng_open_by reading (ng_next reading) is
