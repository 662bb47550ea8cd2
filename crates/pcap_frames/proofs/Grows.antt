-- What is read of octets stays so when more come.
use Rattle.std.proofs.Common.{◌≡◌, ℕ, ◌-◌, ◌+◌, ◌≤◌, false, ltb, List, ◌++◌, length, take, drop, Result, Ok, Err, Option, Some, None, refl, sym, ap, ◌∙◌, subst, arith, inl, inr}
use Rattle.std.proofs.lemmas.Bool.{cases_lt, cases_Bool, lt-ltb, le-ltb}
use Rattle.std.proofs.lemmas.List.{length-drop, length-append, take-append-le, drop-append-le}
use Rattle.byteorder.specs.Endian.{big_number, little_number}
use Rattle.byteorder.specs.Numbers.{big_from-append, little_from-append}
use Rattle.wire_base.specs.declared.faults.CaptureFault.{CaptureFault}
use Rattle.wire_base.specs.model.Capture.{CaptureForm, CaptureRecord, Stage, Reading, HeaderToCome, HeaderRead, Refused, fed, next_of, next_in, by_header, by_record, header_at, formed_at, form_of, is_version, is_ethernet, record_at, frame_at, record_of, number_in, most_captured}

-- what was read stays, and the octets that came stand after it
abbrev pub Grows : {X : Type 0} → List ℕ → Result (Option (X × List ℕ)) CaptureFault → Result (Option (X × List ℕ)) CaptureFault → Type 0
Grows more (Ok None) later = Unit {0}
Grows more (Ok (Some read)) later = later ≡ Ok (Some (read.0, read.1 ++ more))
Grows more (Err fault) later = later ≡ Err fault

-- a number whose octets are there
number_same : (form : CaptureForm) (n at : ℕ) (octets more : List ℕ) → at + n ≤ length octets → number_in form n (drop at (octets ++ more)) ≡ number_in form n (drop at octets)
number_same form n at octets more there = elim (cases_Bool form.low_first) [
  | inl low ↦ rw low (ap (little_number n) (drop-append-le at octets more (omega arith)) ∙ little_from-append n (drop at octets) more (omega (arith, length-drop at octets)))
  | inr high ↦ rw high (ap (big_number n) (drop-append-le at octets more (omega arith)) ∙ big_from-append n (drop at octets) more (omega (arith, length-drop at octets)))
]

formed_grows : (form : Option CaptureForm) (octets more : List ℕ) → Grows more (formed_at form octets) (formed_at form (octets ++ more))
formed_grows None octets more = refl
formed_grows (Some form) octets more = elim (cases_lt (length octets) 24) [
  | inl lt ↦ rw (lt-ltb (length octets) 24 lt) tt
  | inr le ↦
      let later : ltb (length (octets ++ more)) 24 ≡ false = le-ltb (length (octets ++ more)) 24 (omega (arith, length-append octets more)) in
      let version : is_version form (octets ++ more) ≡ is_version form octets = rw (number_same form 2 4 octets more (omega arith), number_same form 2 6 octets more (omega arith)) refl in
      let link : is_ethernet form (octets ++ more) ≡ is_ethernet form octets = rw (number_same form 4 20 octets more (omega arith)) refl in
      elim (cases_Bool (is_version form octets)) [
        | inr not_so ↦ rw (le-ltb (length octets) 24 le, later, version, not_so) refl
        | inl is ↦ elim (cases_Bool (is_ethernet form octets)) [
          | inr not_so ↦ rw (le-ltb (length octets) 24 le, later, version, is, link, not_so) refl
          | inl is_link ↦ rw (le-ltb (length octets) 24 le, later, version, is, link, is_link, drop-append-le 24 octets more le) refl
        ]
      ]
]

pub header_grows : (octets more : List ℕ) → Grows more (header_at octets) (header_at (octets ++ more))
unfolding header_at
header_grows octets more = elim (cases_lt (length octets) 4) [
  | inl lt ↦ rw (lt-ltb (length octets) 4 lt) tt
  | inr le ↦
      let later : ltb (length (octets ++ more)) 4 ≡ false = le-ltb (length (octets ++ more)) 4 (omega (arith, length-append octets more)) in
      rw (le-ltb (length octets) 4 le, later, big_from-append 4 octets more le) (formed_grows (form_of (big_number 4 octets)) octets more)
]

record_same : (form : CaptureForm) (captured : ℕ) (octets more : List ℕ) → 16 ≤ length octets → captured ≤ length octets - 16
    → record_of form (number_in form 4 (octets ++ more)) (number_in form 4 (drop 4 (octets ++ more))) (number_in form 4 (drop 12 (octets ++ more))) (take captured (drop 16 (octets ++ more)))
    ≡ record_of form (number_in form 4 octets) (number_in form 4 (drop 4 octets)) (number_in form 4 (drop 12 octets)) (take captured (drop 16 octets))
record_same form captured octets more head within =
    let frame : take captured (drop 16 (octets ++ more)) ≡ take captured (drop 16 octets) = ap (λ (l : List ℕ). take captured l) (drop-append-le 16 octets more head) ∙ take-append-le captured (drop 16 octets) more (omega (arith, length-drop 16 octets)) in
    rw (number_same form 4 0 octets more (omega arith), number_same form 4 4 octets more (omega arith), number_same form 4 12 octets more (omega arith), frame) refl

frame_grows : (form : CaptureForm) (captured : ℕ) (octets more : List ℕ) → 16 ≤ length octets → Grows more (Ok (frame_at form captured octets)) (Ok (frame_at form captured (octets ++ more)))
frame_grows form captured octets more head = elim (cases_lt (length octets - 16) captured) [
  | inl lt ↦ rw (lt-ltb (length octets - 16) captured lt) tt
  | inr le ↦
      let later : ltb (length (octets ++ more) - 16) captured ≡ false = le-ltb (length (octets ++ more) - 16) captured (omega (arith, length-append octets more)) in
      rw (le-ltb (length octets - 16) captured le, later, record_same form captured octets more head le, drop-append-le (16 + captured) octets more (omega arith)) refl
]

pub record_grows : (form : CaptureForm) (octets more : List ℕ) → Grows more (record_at form octets) (record_at form (octets ++ more))
unfolding record_at
record_grows form octets more = elim (cases_lt (length octets) 16) [
  | inl lt ↦ rw (lt-ltb (length octets) 16 lt) tt
  | inr le ↦
      let later : ltb (length (octets ++ more)) 16 ≡ false = le-ltb (length (octets ++ more)) 16 (omega (arith, length-append octets more)) in
      let captured = number_in form 4 (drop 8 octets) in
      let same : number_in form 4 (drop 8 (octets ++ more)) ≡ captured = number_same form 4 8 octets more (omega arith) in
      elim (cases_lt most_captured captured) [
        | inl long ↦ rw (le-ltb (length octets) 16 le, later, same, lt-ltb most_captured captured long) refl
        | inr short ↦ rw (le-ltb (length octets) 16 le, later, same, le-ltb most_captured captured short) (frame_grows form captured octets more le)
      ]
]

-- What a reader answers stays when it is fed more first; where it had no record, it goes on from where it stands.
abbrev pub NextGrows : List ℕ → Result (Option CaptureRecord) CaptureFault × Reading → Result (Option CaptureRecord) CaptureFault × Reading → Type 0
NextGrows more (Ok None, after) later = later ≡ next_of (fed after more)
NextGrows more (Ok (Some read), after) later = later ≡ (Ok (Some read), fed after more)
NextGrows more (Err fault, after) later = later ≡ next_of (fed after more)

by_record_grows : (form : CaptureForm) (octets more : List ℕ) (read later : Result (Option (CaptureRecord × List ℕ)) CaptureFault) → later ≡ record_at form (octets ++ more) → Grows more read later
    → NextGrows more (by_record form octets read) (by_record form (octets ++ more) later)
unfolding next_of
by_record_grows form octets more (Ok None) later is grows = ap (by_record form (octets ++ more)) is
by_record_grows form octets more (Ok (Some read)) later is grows = ap (by_record form (octets ++ more)) grows
by_record_grows form octets more (Err fault) later is grows = ap (by_record form (octets ++ more)) grows

by_header_grows : (octets more : List ℕ) (read later : Result (Option (CaptureForm × List ℕ)) CaptureFault) → later ≡ header_at (octets ++ more) → Grows more read later
    → NextGrows more (by_header octets read) (by_header (octets ++ more) later)
unfolding next_of
by_header_grows octets more (Ok None) later is grows = ap (by_header (octets ++ more)) is
by_header_grows octets more (Ok (Some read)) later is grows =
    subst (NextGrows more (by_record read.0 read.1 (record_at read.0 read.1))) (sym (ap (by_header (octets ++ more)) grows))
    (by_record_grows read.0 read.1 more (record_at read.0 read.1) (record_at read.0 (read.1 ++ more)) refl (record_grows read.0 read.1 more))
by_header_grows octets more (Err fault) later is grows = ap (by_header (octets ++ more)) grows

next_in_grows : (stage : Stage) (octets more : List ℕ) → NextGrows more (next_in stage octets) (next_in stage (octets ++ more))
unfolding next_of
next_in_grows HeaderToCome octets more = by_header_grows octets more (header_at octets) (header_at (octets ++ more)) refl (header_grows octets more)
next_in_grows (HeaderRead form) octets more = by_record_grows form octets more (record_at form octets) (record_at form (octets ++ more)) refl (record_grows form octets more)
next_in_grows (Refused fault) octets more = refl

pub next_grows : (reading : Reading) (more : List ℕ) → NextGrows more (next_of reading) (next_of (fed reading more))
unfolding next_of
next_grows reading more = next_in_grows reading.stage reading.octets more
