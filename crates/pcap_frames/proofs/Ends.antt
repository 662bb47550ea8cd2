-- What the end of the octets makes of a reader that has no further record.
use Rattle.std.proofs.Common.{◌≡◌, ℕ, ◌<◌, ◌≤◌, Bool, true, false, List, [], ◌∷◌, length, drop, Result, Ok, Err, Option, Some, None, refl, sym, ap, ◌∙◌, subst, arith, inl, inr}
use Rattle.std.proofs.lemmas.Bool.{cases_lt, cases_Bool, lt-ltb, le-ltb, true≢false}
use Rattle.std.proofs.lemmas.List.{length-drop}
use Rattle.byteorder.specs.Endian.{big_number}
use Rattle.wire_base.specs.declared.faults.CaptureFault.{CaptureFault}
use Rattle.wire_base.specs.model.Capture.{CaptureForm, CaptureRecord, Stage, Reading, HeaderToCome, HeaderRead, Refused, next_of, by_header, by_record, header_at, formed_at, form_of, is_version, is_ethernet, record_at, end_of, end_in}
use Rattle.pcap_frames.specs.Seen.{cut_end, opened_end}

-- an answer that has a record, or a fault, is none
some_given : {A E : Type 0} → Result (Option A) E → Bool
some_given (Ok None) = false
some_given (Ok (Some x)) = true
some_given (Err e) = true

not_none : {A E : Type 0} → (read : Result (Option A) E) → some_given read ≡ true → read ≡ Ok None → ⊥
unfolding some_given
not_none read given is = true≢false (sym given ∙ ap some_given is)

cut_is : (form : CaptureForm) (octets : List ℕ) → end_in (HeaderRead form) octets ≡ cut_end (length octets)
cut_is form [] = refl
cut_is form (x ∷ xs) = rw (lt-ltb 0 (length (x ∷ xs)) (omega arith)) refl

by_record_end : (form : CaptureForm) (octets : List ℕ) (read : Result (Option (CaptureRecord × List ℕ)) CaptureFault) → (by_record form octets read).0 ≡ Ok None → end_of (by_record form octets read).1 ≡ cut_end (length octets)
unfolding some_given
by_record_end form octets (Ok None) is = cut_is form octets
by_record_end form octets (Ok (Some read)) is = absurd (not_none (Ok (Some read.0)) refl is)
by_record_end form octets (Err fault) is = absurd (not_none (Err fault) refl is)

pub records_end : (form : CaptureForm) (octets : List ℕ) (reading : Reading) → reading ≡ record { stage = HeaderRead form; octets = octets } → (next_of reading).0 ≡ Ok None → end_of (next_of reading).1 ≡ cut_end (length octets)
unfolding next_of
records_end form octets reading is none =
    subst (λ (r : Reading). (next_of r).0 ≡ Ok None → end_of (next_of r).1 ≡ cut_end (length octets)) (sym is) (by_record_end form octets (record_at form octets)) none

pub refused_end : (fault : CaptureFault) (octets : List ℕ) (reading : Reading) → reading ≡ record { stage = Refused fault; octets = octets } → end_of (next_of reading).1 ≡ Some fault
unfolding next_of
refused_end fault octets reading is = subst (λ (r : Reading). end_of (next_of r).1 ≡ Some fault) (sym is) refl

-- what a header's reading says of the octets
abbrev pub HeaderShape : List ℕ → Result (Option (CaptureForm × List ℕ)) CaptureFault → Type 0
HeaderShape octets (Ok None) = length octets < 24
HeaderShape octets (Ok (Some read)) = (24 ≤ length octets) × (read.1 ≡ drop 24 octets)
HeaderShape octets (Err fault) = Unit {0}

formed_shape : (form : Option CaptureForm) (octets : List ℕ) → HeaderShape octets (formed_at form octets)
formed_shape None octets = tt
formed_shape (Some form) octets = elim (cases_lt (length octets) 24) [
  | inl lt ↦ rw (lt-ltb (length octets) 24 lt) lt
  | inr le ↦ elim (cases_Bool (is_version form octets)) [
    | inr not_so ↦ rw (le-ltb (length octets) 24 le, not_so) tt
    | inl version ↦ elim (cases_Bool (is_ethernet form octets)) [
      | inr not_so ↦ rw (le-ltb (length octets) 24 le, version, not_so) tt
      | inl link ↦ rw (le-ltb (length octets) 24 le, version, link) (le, refl)
    ]
  ]
]

pub header_shape : (octets : List ℕ) → HeaderShape octets (header_at octets)
unfolding header_at
header_shape octets = elim (cases_lt (length octets) 4) [
  | inl lt ↦ rw (lt-ltb (length octets) 4 lt) (omega arith)
  | inr le ↦ rw (le-ltb (length octets) 4 le) (formed_shape (form_of (big_number 4 octets)) octets)
]

by_header_end : (octets : List ℕ) (read : Result (Option (CaptureForm × List ℕ)) CaptureFault) → HeaderShape octets read → (by_header octets read).0 ≡ Ok None → end_of (by_header octets read).1 ≡ opened_end (length octets)
unfolding some_given
by_header_end octets (Ok None) short none = rw (lt-ltb (length octets) 24 short) refl
by_header_end octets (Ok (Some read)) shape none =
    by_record_end read.0 read.1 (record_at read.0 read.1) none
    ∙ ap cut_end (ap length shape.1 ∙ length-drop 24 octets)
    ∙ sym (rw (le-ltb (length octets) 24 shape.0) refl)
by_header_end octets (Err fault) shape none = absurd (not_none (Err fault) refl none)

pub header_end : (octets : List ℕ) (reading : Reading) → reading ≡ record { stage = HeaderToCome; octets = octets } → (next_of reading).0 ≡ Ok None → end_of (next_of reading).1 ≡ opened_end (length octets)
unfolding next_of
header_end octets reading is none =
    subst (λ (r : Reading). (next_of r).0 ≡ Ok None → end_of (next_of r).1 ≡ opened_end (length octets)) (sym is) (by_header_end octets (header_at octets) (header_shape octets)) none

-- a reader whose stage is known
pub same_reading : (reading : Reading) (stage known : Stage) (octets : List ℕ) → reading ≡ record { stage = stage; octets = octets } → stage ≡ known → reading ≡ record { stage = known; octets = octets }
same_reading reading stage known octets is known-is = is ∙ ap (λ (s : Stage). record { stage = s; octets = octets }) known-is
