-- A capture that is read chunk by chunk is given record by record as it stands.
use Rattle.std.proofs.Common.{◌≡◌, ℕ, ◌+◌, ◌-◌, ◌≤◌, Bool, true, false, List, [], ◌++◌, length, take, Option, Some, None, Result, Ok, Err, sym, ap, ap₂, ◌∙◌, arith, inl, inr}
use Rattle.std.specs.Prelude.{nat_lt}
use Rattle.std.specs.Io.KnownBytes.{IsAtEnd}
use Rattle.std.proofs.lemmas.Bool.{cases_lt, lt-ltb, le-ltb}
use Rattle.std.proofs.lemmas.List.{length-append, take_all, take-append-le}
use Rattle.pcapng_frames.specs.declared.packet.NgRecord.{NgRecord}
use Rattle.pcapng_frames.specs.Draining.{drain_on, more_after}
use Rattle.pcapng_frames.proofs.DrainLaws.{drained_next, drained_fed}
use Rattle.command_drive.specs.declared.capture_reader.CaptureReader.{CaptureReader}
use Rattle.command_drive.specs.declared.capture_reader.CaptureReader.TheVariants as readers
use Rattle.command_drive.specs.declared.capture_reader.RecordFault.{RecordFault}
use Rattle.command_drive.specs.declared.items.Close.{Close}
use Rattle.command_drive.specs.declared.items.Close.TheVariants as close
use Rattle.command_drive.specs.CaptureReading.{any_fed, any_size, any_next, any_drained, any_fault}
use Rattle.command_drive.specs.Reading.{End, Behind, Closed, first, IsWhole}
use Rattle.command_drive.specs.Records.{behind_open, behind_records, capture_read, records_read}
use Rattle.command_drive.proofs.AnyLaws.{any_laws, fault_met, fault_stays, nothing_more, no_fault, none_after}
use Rattle.command_drive.proofs.LineSteps.{take_past}

-- ---- what comes of an answer

answer_is : (left after : CaptureReader) (answer : Result (Option NgRecord) RecordFault) → (any_next left).0 ≡ answer → after ≡ (any_next left).1 → any_drained left ≡ drain_on any_drained (answer, after)
answer_is left after answer is after-is =
    drained_next any_next any_size any_fed any_laws left ∙ ap₂ (λ (g : Result (Option NgRecord) RecordFault) (r : CaptureReader). drain_on any_drained (g, r)) is (sym after-is)

-- the same records are given of two readings, whatever follows
AreAlike : CaptureReader → CaptureReader → Type 0
AreAlike one other = (more : List ℕ) → any_drained (any_fed one more) ≡ any_drained (any_fed other more)

-- a record, and then those of the other
Follows : CaptureReader → NgRecord → CaptureReader → Type 0
Follows whole read rest = (more : List ℕ) → any_drained (any_fed whole more) ≡ more_after read (any_drained (any_fed rest more))

at_once : (one other : CaptureReader) (f : List NgRecord × CaptureReader → List NgRecord × CaptureReader) → any_drained (any_fed one []) ≡ f (any_drained (any_fed other [])) → any_drained one ≡ f (any_drained other)
at_once one other f same = ap any_drained (sym (any_laws.nothing one)) ∙ same ∙ ap (λ (r : CaptureReader). f (any_drained r)) (any_laws.nothing other)

reads_alike : (one other : CaptureReader) → AreAlike one other → (room : ℕ) (over : Bool) (end : End) (octets : List ℕ) → records_read one room over end octets ≡ records_read other room over end octets
unfolding AreAlike
reads_alike one other alike room true end octets = ap (capture_read true end) (at_once one other (λ d. d) (alike []))
reads_alike one other alike room false end octets = ap (capture_read (nat_lt room (length octets)) end) (alike (take room octets))

reads_follow : (whole : CaptureReader) (read : NgRecord) (rest : CaptureReader) → Follows whole read rest → (room : ℕ) (over : Bool) (end : End) (octets : List ℕ)
    → records_read whole room over end octets ≡ first read (records_read rest room over end octets)
unfolding Follows
reads_follow whole read rest follows room true end octets = ap (capture_read true end) (at_once whole rest (more_after read) (follows []))
reads_follow whole read rest follows room false end octets = ap (capture_read (nat_lt room (length octets)) end) (follows (take room octets))

-- a record was given
pub record_first : (left after : CaptureReader) (read : NgRecord) → after ≡ (any_next left).1 → (any_next left).0 ≡ Ok (Some read) → (room : ℕ) (over : Bool) (end : End) (octets : List ℕ)
    → records_read left room over end octets ≡ first read (records_read after room over end octets)
unfolding Follows
record_first left after read after-is is =
    let next : any_drained left ≡ more_after read (any_drained after) = answer_is left after (Ok (Some read)) is after-is in
    reads_follow left read after (λ more.
    drained_fed any_next any_size any_fed any_laws left more ∙ ap (λ (d : List NgRecord × CaptureReader). (d.0 ++ (any_drained (any_fed d.1 more)).0, (any_drained (any_fed d.1 more)).1)) next ∙ ap (more_after read) (sym (drained_fed any_next any_size any_fed any_laws after more)))

pub both_are : (left after : CaptureReader) (answer : Result (Option NgRecord) RecordFault) → after ≡ (any_next left).1 → (any_next left).0 ≡ answer → any_next left ≡ (answer, after)
both_are left after answer after-is is = ap₂ (λ (a : Result (Option NgRecord) RecordFault) (r : CaptureReader). (a, r)) is (sym after-is)

-- there was none
pub none_still : (left after : CaptureReader) → after ≡ (any_next left).1 → (any_next left).0 ≡ Ok None → any_next after ≡ (Ok None, after)
none_still left after after-is is = none_after left after (both_are left after (Ok None) after-is is)

none_again : (left : CaptureReader) → any_next left ≡ (Ok None, left) → any_drained left ≡ ([], left)
none_again left still = drained_next any_next any_size any_fed any_laws left ∙ ap (drain_on any_drained) still

pub record_none : (left after : CaptureReader) → after ≡ (any_next left).1 → (any_next left).0 ≡ Ok None → (room : ℕ) (over : Bool) (end : End) (octets : List ℕ) → records_read left room over end octets ≡ records_read after room over end octets
unfolding AreAlike
record_none left after after-is is =
    let none : any_drained left ≡ ([], after) = answer_is left after (Ok None) is after-is in
    reads_alike left after (λ more.
    drained_fed any_next any_size any_fed any_laws left more ∙ ap (λ (d : List NgRecord × CaptureReader). (d.0 ++ (any_drained (any_fed d.1 more)).0, (any_drained (any_fed d.1 more)).1)) (none ∙ sym (none_again after (none_still left after after-is is)))
    ∙ sym (drained_fed any_next any_size any_fed any_laws after more))

-- a fault was met, and whatever follows
pub record_refused : (left after : CaptureReader) (why : RecordFault) → after ≡ (any_next left).1 → (any_next left).0 ≡ Err why → (room : ℕ) (over : Bool) (end : End) (octets : List ℕ)
    → records_read left room over end octets ≡ record { items = []; behind = Closed (close.Broken why) }
record_refused left after why after-is is = by
  where
    none : any_drained left ≡ ([], after)
    none = answer_is left after (Err why) is after-is

    stays : any_fault after ≡ Some why
    stays = ap any_fault after-is ∙ fault_met left why is

    still : (more : List ℕ) → any_drained (any_fed left more) ≡ ([], any_fed after more)
    still more =
        drained_fed any_next any_size any_fed any_laws left more ∙ ap (λ (d : List NgRecord × CaptureReader). (d.0 ++ (any_drained (any_fed d.1 more)).0, (any_drained (any_fed d.1 more)).1)) none
        ∙ nothing_more (any_fed after more) why (fault_stays after more ∙ stays)

    by : (room : ℕ) (over : Bool) (end : End) (octets : List ℕ) → records_read left room over end octets ≡ record { items = []; behind = Closed (close.Broken why) }
    by room true end octets = ap (capture_read true end) none ∙ ap (λ (f : Option RecordFault). record { items = []; behind = behind_records f (behind_open true end after) }) stays
    by room false end octets =
        ap (capture_read (nat_lt room (length octets)) end) (still (take room octets))
        ∙ ap (λ (f : Option RecordFault). record { items = []; behind = behind_records f (behind_open (nat_lt room (length octets)) end (any_fed after (take room octets))) }) (fault_stays after (take room octets) ∙ stays)

-- it holds what it is fed
pub any_fed_length : (reader : CaptureReader) (more : List ℕ) → any_size (any_fed reader more) ≡ any_size reader + length more
any_fed_length (readers.Unknown octets) more = length-append octets more
any_fed_length (readers.Pcap reading) more = length-append reading.octets more
any_fed_length (readers.Pcapng reading) more = length-append reading.octets more

-- it doesn't matter where a chunk ends
pub record_chunk : (left : CaptureReader) (octets : List ℕ) (room : ℕ) (end : End) (more : List ℕ)
    → records_read left room false end (octets ++ more) ≡ records_read (any_fed left (take room octets)) (room - length octets) (nat_lt room (length octets)) end more
record_chunk left octets room end more = elim (cases_lt room (length octets)) [
  | inl over ↦
      ap₂ (λ (b : Bool) (l : List ℕ). capture_read b end (any_drained (any_fed left l))) (lt-ltb room (length (octets ++ more)) (omega (arith, over, length-append octets more))) (take-append-le room octets more (omega (arith, over)))
      ∙ sym (ap (λ (b : Bool). records_read (any_fed left (take room octets)) (room - length octets) b end more) (lt-ltb room (length octets) over))
  | inr fits ↦
      ap₂ (λ (b : Bool) (l : List ℕ). capture_read b end (any_drained (any_fed left l))) (rest fits) (take_past room octets more fits ∙ ap (λ (l : List ℕ). l ++ take (room - length octets) more) (sym (take_all room octets fits)))
      ∙ ap (λ (r : CaptureReader). capture_read (nat_lt (room - length octets) (length more)) end (any_drained r)) (sym (any_laws.twice left (take room octets) (take (room - length octets) more)))
      ∙ sym (ap (λ (b : Bool). records_read (any_fed left (take room octets)) (room - length octets) b end more) (le-ltb room (length octets) fits))
]
  where
    rest : length octets ≤ room → nat_lt room (length (octets ++ more)) ≡ nat_lt (room - length octets) (length more)
    rest fits = elim (cases_lt (room - length octets) (length more)) [
      | inl over ↦ lt-ltb room (length (octets ++ more)) (omega (arith, over, length-append octets more)) ∙ sym (lt-ltb (room - length octets) (length more) over)
      | inr short ↦ le-ltb room (length (octets ++ more)) (omega (arith, short, fits, length-append octets more)) ∙ sym (le-ltb (room - length octets) (length more) short)
    ]

-- ---- where there is no further record

module _ (left : CaptureReader) (still : any_next left ≡ (Ok None, left)) where
  is_open : (open_end : Behind) → behind_records (any_fault left) open_end ≡ open_end
  is_open open_end = ap (λ (f : Option RecordFault). behind_records f open_end) (no_fault left still)

  pub over_end : (room : ℕ) (over : Bool) (end : End) (octets : List ℕ) → over ≡ true → records_read left room over end octets ≡ record { items = []; behind = Closed close.TooLong }
  over_end room over end octets past =
      ap (λ (b : Bool). records_read left room b end octets) past ∙ ap (capture_read true end) (none_again left still) ∙ ap (λ (b : Behind). record { items = []; behind = b }) (is_open (Closed close.TooLong))

  pub open_end : (room : ℕ) (over : Bool) (end : End) → over ≡ false → records_read left room over end [] ≡ record { items = []; behind = behind_open false end left }
  open_end room over end under =
      ap (λ (b : Bool). records_read left room b end []) under
      ∙ ap₂ (λ (b : Bool) (r : CaptureReader). capture_read b end (any_drained r)) (le-ltb room 0 (omega arith)) (ap (any_fed left) (take_all room [] (omega arith)) ∙ any_laws.nothing left)
      ∙ ap (capture_read false end) (none_again left still) ∙ ap (λ (b : Behind). record { items = []; behind = b }) (is_open (behind_open false end left))

pub whole_by : (how : Close) (left : Option (List ℕ)) → IsAtEnd left → IsWhole how left
whole_by close.Ended left at_end = at_end
whole_by close.TooLong left at_end = tt
whole_by (close.Broken why) left at_end = tt
