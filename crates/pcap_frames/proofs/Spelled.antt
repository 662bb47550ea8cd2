-- Captures as they are spelled: what is read is spelled so, and what is spelled so is read again.
use Rattle.std.proofs.Common.{◌≡◌, ℕ, zero, suc, ◌-◌, ◌+◌, ◌*◌, ◌/◌, ◌%◌, ◌^◌, ◌<◌, ◌≤◌, ◌↔◌, Bool, true, false, ◌==◌, List, [], ◌∷◌, ◌++◌, length, take, drop, Result, Ok, Err, Option, Some, None, is_some, OnOk, refl, sym, ap, ap₂, ◌∙◌, subst, append_assoc, take-append-drop, arith, inl, inr}
use Rattle.std.proofs.lemmas.Bool.{cases_lt, cases_Bool, cases_eq, ne_eqb, lt-ltb, le-ltb, eq-eqb, eqb-true, and_parts, false≢true, true≢false}
use Rattle.std.proofs.lemmas.List.{length-drop, length-take, length-append, take_at, drop_at, drop-drop, get_or-drop}
use Rattle.byteorder.specs.Endian.{big_number, little_number, big_bytes, little_bytes}
use Rattle.byteorder.specs.Numbers.{big_number-reads_back, little_number-reads_back, length-bytes_high_first, length-bytes_low_first, big_from-lt, little_from-lt}
use Rattle.wire_base.specs.declared.faults.CaptureFault.{CaptureFault}
use Rattle.wire_base.specs.model.Fields.{AreOctets}
use Rattle.wire_base.specs.model.Capture.{CaptureForm, CaptureRecord, Reading, HeaderToCome, HeaderRead, IsHeader, IsRecord, AreRecords, NoRecord, OneMore, IsCapture, header_octets, record_octets, octets_in, number_in, magic, record_of, most_captured, form_of, is_version, is_ethernet, header_at, formed_at, record_at, frame_at, next_of, by_header, by_record, drained, drain_on, more_after, end_of, end_in, capture_at, written_form, written_header, written_record}
use Rattle.pcap_frames.proofs.Drained.{drained_next}

-- numbers

length_in : (form : CaptureForm) (n x : ℕ) → length (octets_in form n x) ≡ n
length_in form n x = elim (cases_Bool form.low_first) [
  | inl low ↦ rw low (length-bytes_low_first 0 n x)
  | inr high ↦ rw high (length-bytes_high_first n x)
]

number_again : (form : CaptureForm) (n x : ℕ) (rest : List ℕ) → x < 256 ^ n → number_in form n (octets_in form n x ++ rest) ≡ x
number_again form n x rest small = elim (cases_Bool form.low_first) [
  | inl low ↦ rw low (little_number-reads_back n x rest small)
  | inr high ↦ rw high (big_number-reads_back n x rest small)
]

number_small : (form : CaptureForm) (n : ℕ) (xs : List ℕ) → AreOctets xs → number_in form n xs < 256 ^ n
number_small form n xs small = elim (cases_Bool form.low_first) [
  | inl low ↦ rw low (little_from-lt 0 n xs small)
  | inr high ↦ rw high (big_from-lt 0 n xs small)
]

big_four : (xs : List ℕ) → AreOctets xs → 4 ≤ length xs → big_bytes 4 (big_number 4 xs) ≡ take 4 xs
big_four [] small long = absurd (omega arith)
big_four (a ∷ []) small long = absurd (omega arith)
big_four (a ∷ b ∷ []) small long = absurd (omega arith)
big_four (a ∷ b ∷ d ∷ []) small long = absurd (omega arith)
big_four (a ∷ b ∷ d ∷ e ∷ rest) small long =
    let a-small : a < 256 = small 0 in
    let b-small : b < 256 = small 1 in
    let d-small : d < 256 = small 2 in
    let e-small : e < 256 = small 3 in
    let x = a * 16777216 + b * 65536 + d * 256 + e in
    let n : big_number 4 (a ∷ b ∷ d ∷ e ∷ rest) ≡ x = omega arith in
    let p : x / 16777216 % 256 ≡ a = omega arith in
    let q : x / 65536 % 256 ≡ b = omega arith in
    let r : x / 256 % 256 ≡ d = omega arith in
    let t : x % 256 ≡ e = omega arith in
    ap (big_bytes 4) n ∙ rw (p, q, r, t) refl

little_four : (xs : List ℕ) → AreOctets xs → 4 ≤ length xs → little_bytes 4 (little_number 4 xs) ≡ take 4 xs
little_four [] small long = absurd (omega arith)
little_four (a ∷ []) small long = absurd (omega arith)
little_four (a ∷ b ∷ []) small long = absurd (omega arith)
little_four (a ∷ b ∷ d ∷ []) small long = absurd (omega arith)
little_four (a ∷ b ∷ d ∷ e ∷ rest) small long =
    let a-small : a < 256 = small 0 in
    let b-small : b < 256 = small 1 in
    let d-small : d < 256 = small 2 in
    let e-small : e < 256 = small 3 in
    let x = e * 16777216 + d * 65536 + b * 256 + a in
    let n : little_number 4 (a ∷ b ∷ d ∷ e ∷ rest) ≡ x = omega arith in
    let p : x / 16777216 % 256 ≡ e = omega arith in
    let q : x / 65536 % 256 ≡ d = omega arith in
    let r : x / 256 % 256 ≡ b = omega arith in
    let t : x % 256 ≡ a = omega arith in
    ap (little_bytes 4) n ∙ rw (p, q, r, t) refl

big_two : (xs : List ℕ) → AreOctets xs → 2 ≤ length xs → big_bytes 2 (big_number 2 xs) ≡ take 2 xs
big_two [] small long = absurd (omega arith)
big_two (a ∷ []) small long = absurd (omega arith)
big_two (a ∷ b ∷ rest) small long =
    let a-small : a < 256 = small 0 in
    let b-small : b < 256 = small 1 in
    let x = a * 256 + b in
    let n : big_number 2 (a ∷ b ∷ rest) ≡ x = omega arith in
    let p : x / 256 % 256 ≡ a = omega arith in
    let q : x % 256 ≡ b = omega arith in
    ap (big_bytes 2) n ∙ rw (p, q) refl

little_two : (xs : List ℕ) → AreOctets xs → 2 ≤ length xs → little_bytes 2 (little_number 2 xs) ≡ take 2 xs
little_two [] small long = absurd (omega arith)
little_two (a ∷ []) small long = absurd (omega arith)
little_two (a ∷ b ∷ rest) small long =
    let a-small : a < 256 = small 0 in
    let b-small : b < 256 = small 1 in
    let x = b * 256 + a in
    let n : little_number 2 (a ∷ b ∷ rest) ≡ x = omega arith in
    let p : x / 256 % 256 ≡ b = omega arith in
    let q : x % 256 ≡ a = omega arith in
    ap (little_bytes 2) n ∙ rw (p, q) refl

octets_drop : (n : ℕ) (xs : List ℕ) → AreOctets xs → AreOctets (drop n xs)
octets_drop n xs small i = omega (arith, get_or-drop n xs i 0, small (n + i))

-- the octets of a number, before those after it
four_front : (form : CaptureForm) (at : ℕ) (xs : List ℕ) → AreOctets xs → at + 4 ≤ length xs → octets_in form 4 (number_in form 4 (drop at xs)) ++ drop (at + 4) xs ≡ drop at xs
four_front form at xs small long =
    let there : 4 ≤ length (drop at xs) = omega (arith, length-drop at xs) in
    let front : octets_in form 4 (number_in form 4 (drop at xs)) ≡ take 4 (drop at xs) = elim (cases_Bool form.low_first) [
      | inl low ↦ rw low (little_four (drop at xs) (octets_drop at xs small) there)
      | inr high ↦ rw high (big_four (drop at xs) (octets_drop at xs small) there)
    ] in
    ap₂ (λ (k l : List ℕ). k ++ l) front (sym (drop-drop 4 at xs)) ∙ take-append-drop 4 (drop at xs)

two_front : (form : CaptureForm) (at : ℕ) (xs : List ℕ) → AreOctets xs → at + 2 ≤ length xs → octets_in form 2 (number_in form 2 (drop at xs)) ++ drop (at + 2) xs ≡ drop at xs
two_front form at xs small long =
    let there : 2 ≤ length (drop at xs) = omega (arith, length-drop at xs) in
    let front : octets_in form 2 (number_in form 2 (drop at xs)) ≡ take 2 (drop at xs) = elim (cases_Bool form.low_first) [
      | inl low ↦ rw low (little_two (drop at xs) (octets_drop at xs small) there)
      | inr high ↦ rw high (big_two (drop at xs) (octets_drop at xs small) there)
    ] in
    ap₂ (λ (k l : List ℕ). k ++ l) front (sym (drop-drop 2 at xs)) ∙ take-append-drop 2 (drop at xs)

-- records

append5 : (a b d e f rest : List ℕ) → (a ++ (b ++ (d ++ (e ++ f)))) ++ rest ≡ a ++ (b ++ (d ++ (e ++ (f ++ rest))))
append5 a b d e f rest = simp append_assoc

record_front : (form : CaptureForm) (xs : List ℕ) (captured : ℕ) → AreOctets xs → 16 ≤ length xs → captured ≡ number_in form 4 (drop 8 xs) → captured ≤ length xs - 16
    → record_octets form (number_in form 4 xs) (number_in form 4 (drop 4 xs)) (number_in form 4 (drop 12 xs)) (take captured (drop 16 xs)) ++ drop (16 + captured) xs ≡ xs
record_front form xs captured small head is within =
    let frame = take captured (drop 16 xs) in
    let n : length frame ≡ number_in form 4 (drop 8 xs) = omega (arith, length-take captured (drop 16 xs), length-drop 16 xs, is) in
    let e : frame ++ drop (16 + captured) xs ≡ drop 16 xs = ap (λ (l : List ℕ). frame ++ l) (sym (drop-drop captured 16 xs)) ∙ take-append-drop captured (drop 16 xs) in
    let d : octets_in form 4 (number_in form 4 (drop 12 xs)) ++ (frame ++ drop (16 + captured) xs) ≡ drop 12 xs = ap (λ (l : List ℕ). octets_in form 4 (number_in form 4 (drop 12 xs)) ++ l) e ∙ four_front form 12 xs small (omega arith) in
    let b : octets_in form 4 (length frame) ++ (octets_in form 4 (number_in form 4 (drop 12 xs)) ++ (frame ++ drop (16 + captured) xs)) ≡ drop 8 xs
    = ap₂ (λ (k : ℕ) (l : List ℕ). octets_in form 4 k ++ l) n d ∙ four_front form 8 xs small (omega arith) in
    let a : octets_in form 4 (number_in form 4 (drop 4 xs)) ++ (octets_in form 4 (length frame) ++ (octets_in form 4 (number_in form 4 (drop 12 xs)) ++ (frame ++ drop (16 + captured) xs))) ≡ drop 4 xs
    = ap (λ (l : List ℕ). octets_in form 4 (number_in form 4 (drop 4 xs)) ++ l) b ∙ four_front form 4 xs small (omega arith) in
    let first : octets_in form 4 (number_in form 4 xs) ++ (octets_in form 4 (number_in form 4 (drop 4 xs)) ++ (octets_in form 4 (length frame) ++ (octets_in form 4 (number_in form 4 (drop 12 xs)) ++ (frame ++ drop (16 + captured) xs)))) ≡ xs
    = ap (λ (l : List ℕ). octets_in form 4 (number_in form 4 xs) ++ l) a ∙ four_front form 0 xs small (omega arith) in
    append5 (octets_in form 4 (number_in form 4 xs)) (octets_in form 4 (number_in form 4 (drop 4 xs))) (octets_in form 4 (length frame)) (octets_in form 4 (number_in form 4 (drop 12 xs))) frame (drop (16 + captured) xs) ∙ first

-- what the fields of a record's header say
record_by : (form : CaptureForm) (xs : List ℕ) (sec fraction captured original : ℕ) → 16 ≤ length xs → number_in form 4 xs ≡ sec → number_in form 4 (drop 4 xs) ≡ fraction
    → number_in form 4 (drop 8 xs) ≡ captured → number_in form 4 (drop 12 xs) ≡ original → captured ≤ most_captured → captured ≤ length xs - 16
    → record_at form xs ≡ Ok (Some (record_of form sec fraction original (take captured (drop 16 xs)), drop (16 + captured) xs))
unfolding record_at
record_by form xs sec fraction captured original head a b d e short within =
    rw (le-ltb (length xs) 16 head, d, le-ltb most_captured captured short, le-ltb (length xs - 16) captured within, a, b, e) refl

pub record_again : (form : CaptureForm) (sec fraction original : ℕ) (frame rest : List ℕ) → sec < 4294967296 → fraction < 4294967296 → original < 4294967296 → length frame ≤ most_captured
    → record_at form (record_octets form sec fraction original frame ++ rest) ≡ Ok (Some (record_of form sec fraction original frame, rest))
record_again form sec fraction original frame rest sec-small fraction-small original-small short =
    let xs = record_octets form sec fraction original frame ++ rest in
    let a = octets_in form 4 sec in
    let b = octets_in form 4 fraction in
    let d = octets_in form 4 (length frame) in
    let e = octets_in form 4 original in
    let shape : xs ≡ a ++ (b ++ (d ++ (e ++ (frame ++ rest)))) = append5 a b d e frame rest in
    let at4 : drop 4 xs ≡ b ++ (d ++ (e ++ (frame ++ rest))) = ap (λ (l : List ℕ). drop 4 l) shape ∙ drop_at a (b ++ (d ++ (e ++ (frame ++ rest)))) 4 (length_in form 4 sec) in
    let at8 : drop 8 xs ≡ d ++ (e ++ (frame ++ rest)) = sym (drop-drop 4 4 xs) ∙ ap (λ (l : List ℕ). drop 4 l) at4 ∙ drop_at b (d ++ (e ++ (frame ++ rest))) 4 (length_in form 4 fraction) in
    let at12 : drop 12 xs ≡ e ++ (frame ++ rest) = sym (drop-drop 4 8 xs) ∙ ap (λ (l : List ℕ). drop 4 l) at8 ∙ drop_at d (e ++ (frame ++ rest)) 4 (length_in form 4 (length frame)) in
    let at16 : drop 16 xs ≡ frame ++ rest = sym (drop-drop 4 12 xs) ∙ ap (λ (l : List ℕ). drop 4 l) at12 ∙ drop_at e (frame ++ rest) 4 (length_in form 4 original) in
    let n : length xs - 16 ≡ length (frame ++ rest) = sym (length-drop 16 xs) ∙ ap length at16 in
    let at_least : 16 ≤ length xs = omega (arith, ap length shape, length-append a (b ++ (d ++ (e ++ (frame ++ rest)))), length-append b (d ++ (e ++ (frame ++ rest))), length-append d (e ++ (frame ++ rest)), length-append e (frame ++ rest), length_in form 4 sec, length_in form 4 fraction, length_in form 4 (length frame), length_in form 4 original) in
    let cut : take (length frame) (drop 16 xs) ≡ frame = ap (λ (l : List ℕ). take (length frame) l) at16 ∙ take_at frame rest (length frame) refl in
    let after : drop (16 + length frame) xs ≡ rest = sym (drop-drop (length frame) 16 xs) ∙ ap (λ (l : List ℕ). drop (length frame) l) at16 ∙ drop_at frame rest (length frame) refl in
    record_by form xs sec fraction (length frame) original at_least
    (ap (number_in form 4) shape ∙ number_again form 4 sec _ (omega arith))
    (ap (number_in form 4) at4 ∙ number_again form 4 fraction _ (omega arith))
    (ap (number_in form 4) at8 ∙ number_again form 4 (length frame) _ (omega arith))
    (ap (number_in form 4) at12 ∙ number_again form 4 original _ (omega arith))
    short (omega (arith, n, length-append frame rest))
    ∙ ap₂ (λ (f r : List ℕ). Ok (Some (record_of form sec fraction original f, r))) cut after

abbrev pub RecordFound : CaptureForm → List ℕ → Result (Option (CaptureRecord × List ℕ)) CaptureFault → Type 0
RecordFound form xs (Ok None) = Unit {0}
RecordFound form xs (Ok (Some read)) = (front : List ℕ) × (front ++ read.1 ≡ xs) × IsRecord form front read.0
RecordFound form xs (Err fault) = Unit {0}

frame_found : (form : CaptureForm) (xs : List ℕ) (captured : ℕ) → AreOctets xs → 16 ≤ length xs → captured ≡ number_in form 4 (drop 8 xs) → captured ≤ most_captured → RecordFound form xs (Ok (frame_at form captured xs))
frame_found form xs captured small head is short = elim (cases_lt (length xs - 16) captured) [
  | inl lt ↦ rw (lt-ltb (length xs - 16) captured lt) tt
  | inr within ↦
      let frame = take captured (drop 16 xs) in
      rw (le-ltb (length xs - 16) captured within) (
        record_octets form (number_in form 4 xs) (number_in form 4 (drop 4 xs)) (number_in form 4 (drop 12 xs)) frame,
        record_front form xs captured small head is within,
        record {
          sec = number_in form 4 xs;
          fraction = number_in form 4 (drop 4 xs);
          original = number_in form 4 (drop 12 xs);
          frame = frame;
          sec_small = number_small form 4 xs small;
          fraction_small = number_small form 4 (drop 4 xs) (octets_drop 4 xs small);
          original_small = number_small form 4 (drop 12 xs) (octets_drop 12 xs small);
          short = omega (arith, length-take captured (drop 16 xs));
          spelled = refl;
          means = refl;
        },
      )
]

pub record_found : (form : CaptureForm) (xs : List ℕ) → AreOctets xs → RecordFound form xs (record_at form xs)
unfolding record_at
record_found form xs small = elim (cases_lt (length xs) 16) [
  | inl lt ↦ rw (lt-ltb (length xs) 16 lt) tt
  | inr head ↦ elim (cases_lt most_captured (number_in form 4 (drop 8 xs))) [
    | inl long ↦ rw (le-ltb (length xs) 16 head, lt-ltb most_captured (number_in form 4 (drop 8 xs)) long) tt
    | inr short ↦ rw (le-ltb (length xs) 16 head, le-ltb most_captured (number_in form 4 (drop 8 xs)) short) (frame_found form xs (number_in form 4 (drop 8 xs)) small head refl short)
  ]
]

-- headers

magic_again : (low nano : Bool) (rest : List ℕ) → form_of (big_number 4 (octets_in (record { low_first = low; nanoseconds = nano }) 4 (magic (record { low_first = low; nanoseconds = nano })) ++ rest)) ≡ Some (record { low_first = low; nanoseconds = nano })
magic_again false false rest = refl
magic_again false true rest = refl
magic_again true false rest = refl
magic_again true true rest = refl

header_by : (form : CaptureForm) (xs : List ℕ) → 24 ≤ length xs → form_of (big_number 4 xs) ≡ Some form → number_in form 2 (drop 4 xs) ≡ 2 → number_in form 2 (drop 6 xs) ≡ 4 → number_in form 4 (drop 20 xs) % 65536 ≡ 1
    → header_at xs ≡ Ok (Some (form, drop 24 xs))
unfolding header_at
header_by form xs head is major minor link =
    let version : is_version form xs ≡ true = rw (major, minor) refl in
    rw (le-ltb (length xs) 4 (omega arith), is, le-ltb (length xs) 24 head, version, eq-eqb (number_in form 4 (drop 20 xs) % 65536) 1 link) refl

pub header_again : (form : CaptureForm) (unread : List ℕ) (link : ℕ) (rest : List ℕ) → length unread ≡ 12 → link < 4294967296 → link % 65536 ≡ 1
    → header_at (header_octets form unread link ++ rest) ≡ Ok (Some (form, rest))
header_again form unread link rest twelve small ethernet =
    let xs = header_octets form unread link ++ rest in
    let a = octets_in form 4 (magic form) in
    let b = octets_in form 2 2 in
    let d = octets_in form 2 4 in
    let f = octets_in form 4 link in
    let shape : xs ≡ a ++ (b ++ (d ++ (unread ++ (f ++ rest)))) = append5 a b d unread f rest in
    let at4 : drop 4 xs ≡ b ++ (d ++ (unread ++ (f ++ rest))) = ap (λ (l : List ℕ). drop 4 l) shape ∙ drop_at a (b ++ (d ++ (unread ++ (f ++ rest)))) 4 (length_in form 4 (magic form)) in
    let at6 : drop 6 xs ≡ d ++ (unread ++ (f ++ rest)) = sym (drop-drop 2 4 xs) ∙ ap (λ (l : List ℕ). drop 2 l) at4 ∙ drop_at b (d ++ (unread ++ (f ++ rest))) 2 (length_in form 2 2) in
    let at8 : drop 8 xs ≡ unread ++ (f ++ rest) = sym (drop-drop 2 6 xs) ∙ ap (λ (l : List ℕ). drop 2 l) at6 ∙ drop_at d (unread ++ (f ++ rest)) 2 (length_in form 2 4) in
    let at20 : drop 20 xs ≡ f ++ rest = sym (drop-drop 12 8 xs) ∙ ap (λ (l : List ℕ). drop 12 l) at8 ∙ drop_at unread (f ++ rest) 12 twelve in
    let at24 : drop 24 xs ≡ rest = sym (drop-drop 4 20 xs) ∙ ap (λ (l : List ℕ). drop 4 l) at20 ∙ drop_at f rest 4 (length_in form 4 link) in
    let head : 24 ≤ length xs = omega (arith, ap length shape, length-append a (b ++ (d ++ (unread ++ (f ++ rest)))), length-append b (d ++ (unread ++ (f ++ rest))), length-append d (unread ++ (f ++ rest)), length-append unread (f ++ rest), length-append f rest, length_in form 4 (magic form), length_in form 2 2, length_in form 2 4, length_in form 4 link, twelve) in
    header_by form xs head
    (ap (λ (l : List ℕ). form_of (big_number 4 l)) shape ∙ magic_again form.low_first form.nanoseconds _)
    (ap (number_in form 2) at4 ∙ number_again form 2 2 _ (omega arith))
    (ap (number_in form 2) at6 ∙ number_again form 2 4 _ (omega arith))
    (ap (λ (l : List ℕ). number_in form 4 l % 65536) at20 ∙ ap (λ (k : ℕ). k % 65536) (number_again form 4 link _ (omega arith)) ∙ ethernet)
    ∙ ap (λ (l : List ℕ). Ok (Some (form, l))) at24

form_or : CaptureForm → Option CaptureForm → CaptureForm
form_or form (Some found) = found
form_or form None = form

form_case : (m n : ℕ) (f form : CaptureForm) → form_of m ≡ Some f → form_of n ≡ Some form → n ≡ m → big_bytes 4 m ≡ octets_in f 4 (magic f) → big_bytes 4 n ≡ octets_in form 4 (magic form)
unfolding form_or
form_case m n f form known is same spelled =
    ap (big_bytes 4) same ∙ spelled ∙ ap (λ (g : CaptureForm). octets_in g 4 (magic g)) (ap (form_or f) (sym (ap form_of same ∙ known) ∙ is))

magic_found : (n : ℕ) (form : CaptureForm) → form_of n ≡ Some form → big_bytes 4 n ≡ octets_in form 4 (magic form)
magic_found n form is = elim (cases_eq n 2712847316) [
  | inl same ↦ form_case 2712847316 n (record { low_first = false; nanoseconds = false }) form refl is same refl
  | inr not_first ↦ elim (cases_eq n 2712812621) [
    | inl same ↦ form_case 2712812621 n (record { low_first = false; nanoseconds = true }) form refl is same refl
    | inr not_second ↦ elim (cases_eq n 3569595041) [
      | inl same ↦ form_case 3569595041 n (record { low_first = true; nanoseconds = false }) form refl is same refl
      | inr not_third ↦ elim (cases_eq n 1295823521) [
        | inl same ↦ form_case 1295823521 n (record { low_first = true; nanoseconds = true }) form refl is same refl
        | inr not_fourth ↦
            let none : form_of n ≡ None = rw (ne_eqb n 2712847316 not_first, ne_eqb n 2712812621 not_second, ne_eqb n 3569595041 not_third, ne_eqb n 1295823521 not_fourth) refl in
            absurd (false≢true (ap is_some (sym none ∙ is)))
      ]
    ]
  ]
]

header_front : (form : CaptureForm) (xs : List ℕ) → AreOctets xs → 24 ≤ length xs → form_of (big_number 4 xs) ≡ Some form → number_in form 2 (drop 4 xs) ≡ 2 → number_in form 2 (drop 6 xs) ≡ 4
    → header_octets form (take 12 (drop 8 xs)) (number_in form 4 (drop 20 xs)) ++ drop 24 xs ≡ xs
header_front form xs small head is major minor =
    let link = number_in form 4 (drop 20 xs) in
    let f : octets_in form 4 link ++ drop 24 xs ≡ drop 20 xs = four_front form 20 xs small (omega arith) in
    let e : take 12 (drop 8 xs) ++ (octets_in form 4 link ++ drop 24 xs) ≡ drop 8 xs = ap (λ (l : List ℕ). take 12 (drop 8 xs) ++ l) (f ∙ sym (drop-drop 12 8 xs)) ∙ take-append-drop 12 (drop 8 xs) in
    let d : octets_in form 2 4 ++ (take 12 (drop 8 xs) ++ (octets_in form 4 link ++ drop 24 xs)) ≡ drop 6 xs = ap₂ (λ (k : ℕ) (l : List ℕ). octets_in form 2 k ++ l) (sym minor) e ∙ two_front form 6 xs small (omega arith) in
    let b : octets_in form 2 2 ++ (octets_in form 2 4 ++ (take 12 (drop 8 xs) ++ (octets_in form 4 link ++ drop 24 xs))) ≡ drop 4 xs = ap₂ (λ (k : ℕ) (l : List ℕ). octets_in form 2 k ++ l) (sym major) d ∙ two_front form 4 xs small (omega arith) in
    let a : octets_in form 4 (magic form) ++ (octets_in form 2 2 ++ (octets_in form 2 4 ++ (take 12 (drop 8 xs) ++ (octets_in form 4 link ++ drop 24 xs)))) ≡ xs
    = ap₂ (λ (k l : List ℕ). k ++ l) (sym (magic_found (big_number 4 xs) form is) ∙ big_four xs small (omega arith)) b ∙ take-append-drop 4 xs in
    append5 (octets_in form 4 (magic form)) (octets_in form 2 2) (octets_in form 2 4) (take 12 (drop 8 xs)) (octets_in form 4 link) (drop 24 xs) ∙ a

abbrev pub HeaderFound : List ℕ → Result (Option (CaptureForm × List ℕ)) CaptureFault → Type 0
HeaderFound xs (Ok None) = Unit {0}
HeaderFound xs (Ok (Some read)) = (front : List ℕ) × (front ++ read.1 ≡ xs) × IsHeader read.0 front
HeaderFound xs (Err fault) = Unit {0}

formed_found : (form : Option CaptureForm) (xs : List ℕ) → AreOctets xs → form_of (big_number 4 xs) ≡ form → HeaderFound xs (formed_at form xs)
formed_found None xs small is = tt
formed_found (Some form) xs small is = elim (cases_lt (length xs) 24) [
  | inl lt ↦ rw (lt-ltb (length xs) 24 lt) tt
  | inr head ↦ elim (cases_Bool (is_version form xs)) [
    | inr not_so ↦ rw (le-ltb (length xs) 24 head, not_so) tt
    | inl version ↦ elim (cases_Bool (is_ethernet form xs)) [
      | inr not_so ↦ rw (le-ltb (length xs) 24 head, version, not_so) tt
      | inl link ↦
          let both = and_parts (number_in form 2 (drop 4 xs) == 2) (number_in form 2 (drop 6 xs) == 4) version in
          rw (le-ltb (length xs) 24 head, version, link) (
            header_octets form (take 12 (drop 8 xs)) (number_in form 4 (drop 20 xs)),
            header_front form xs small head is (eqb-true (number_in form 2 (drop 4 xs)) 2 both.0) (eqb-true (number_in form 2 (drop 6 xs)) 4 both.1),
            record {
              unread = take 12 (drop 8 xs);
              link = number_in form 4 (drop 20 xs);
              twelve = omega (arith, length-take 12 (drop 8 xs), length-drop 8 xs);
              small = number_small form 4 (drop 20 xs) (octets_drop 20 xs small);
              ethernet = eqb-true (number_in form 4 (drop 20 xs) % 65536) 1 link;
              spelled = refl;
            },
          )
    ]
  ]
]

pub header_found : (xs : List ℕ) → AreOctets xs → HeaderFound xs (header_at xs)
unfolding header_at
header_found xs small = elim (cases_lt (length xs) 4) [
  | inl lt ↦ rw (lt-ltb (length xs) 4 lt) tt
  | inr le ↦ rw (le-ltb (length xs) 4 le) (formed_found (form_of (big_number 4 xs)) xs small refl)
]

-- what was written is read again

pub header_written : {E : Type 0} (result : Result (Unit {0}) E) (old new : List ℕ) → OnOk result (new ≡ old ++ written_header) → OnOk result ((rest : List ℕ) → header_at (drop (length old) new ++ rest) ≡ Ok (Some (written_form, rest)))
header_written (Ok u) old new is = λ rest.
    ap (λ (l : List ℕ). header_at (l ++ rest)) (ap (λ (l : List ℕ). drop (length old) l) is ∙ drop_at old written_header (length old) refl)
    ∙ header_again written_form (0 ∷ 0 ∷ 0 ∷ 0 ∷ 0 ∷ 0 ∷ 0 ∷ 0 ∷ 255 ∷ 255 ∷ 0 ∷ 0 ∷ []) 1 rest refl (omega arith) refl
header_written (Err e) old new is = tt

whole_record : (sec usec : ℕ) (frame : List ℕ) → record_of written_form sec usec (length frame) frame ≡ record { sec = sec; usec = usec; whole = true; octets = frame }
whole_record sec usec frame = rw (eq-eqb (length frame) (length frame) refl) refl

pub record_written : {E : Type 0} (result : Result (Unit {0}) E) (old new : List ℕ) (sec usec : ℕ) (frame : List ℕ) → sec < 4294967296 → usec < 4294967296 → length frame ≤ 65535 → OnOk result (new ≡ old ++ written_record sec usec frame)
    → OnOk result ((rest : List ℕ) → record_at written_form (drop (length old) new ++ rest) ≡ Ok (Some (record { sec = sec; usec = usec; whole = true; octets = frame }, rest)))
record_written (Ok u) old new sec usec frame sec-small usec-small short is = λ rest.
    ap (λ (l : List ℕ). record_at written_form (l ++ rest)) (ap (λ (l : List ℕ). drop (length old) l) is ∙ drop_at old (written_record sec usec frame) (length old) refl)
    ∙ record_again written_form sec usec (length frame) frame rest sec-small usec-small (omega arith) (omega arith)
    ∙ ap (λ (r : CaptureRecord). Ok (Some (r, rest))) (whole_record sec usec frame)
record_written (Err e) old new sec usec frame sec-small usec-small short is = tt

-- whole captures

records_by : (form : CaptureForm) (xs : List ℕ) (read : Result (Option (CaptureRecord × List ℕ)) CaptureFault) → record_at form xs ≡ read → drained (record { stage = HeaderRead form; octets = xs }) ≡ drain_on drained (by_record form xs read)
unfolding next_of
records_by form xs read is = drained_next (record { stage = HeaderRead form; octets = xs }) ∙ ap (λ (r : Result (Option (CaptureRecord × List ℕ)) CaptureFault). drain_on drained (by_record form xs r)) is

nothing_left : (form : CaptureForm) → record_at form [] ≡ Ok None
unfolding record_at
nothing_left form = refl

-- records that are spelled are read
records_again : (form : CaptureForm) (xs : List ℕ) (records : List CaptureRecord) → AreRecords form xs records → drained (record { stage = HeaderRead form; octets = xs }) ≡ (records, record { stage = HeaderRead form; octets = [] })
records_again form _ _ NoRecord = records_by form [] (Ok None) (nothing_left form)
records_again form _ _ (OneMore front rest read more is are) =
    let one : record_at form (front ++ rest) ≡ Ok (Some (read, rest)) =
    ap (λ (l : List ℕ). record_at form (l ++ rest)) is.spelled
    ∙ record_again form is.sec is.fraction is.original is.frame rest is.sec_small is.fraction_small is.original_small is.short
    ∙ ap (λ (r : CaptureRecord). Ok (Some (r, rest))) (sym is.means) in
    records_by form (front ++ rest) (Ok (Some (read, rest))) one ∙ ap (more_after read) (records_again form rest more are)

end_left : (form : CaptureForm) (xs : List ℕ) → end_in (HeaderRead form) xs ≡ None → xs ≡ []
end_left form [] none = refl
end_left form (x ∷ xs) none = absurd (true≢false (ap is_some none))

octets_after : (front rest xs : List ℕ) → front ++ rest ≡ xs → AreOctets xs → AreOctets rest
octets_after front rest xs is small = subst AreOctets (ap (λ (l : List ℕ). drop (length front) l) (sym is) ∙ drop_at front rest (length front) refl) (octets_drop (length front) xs small)

shorter : (form : CaptureForm) (front rest xs : List ℕ) (read : CaptureRecord) → front ++ rest ≡ xs → IsRecord form front read → length rest < length xs
shorter form front rest xs read is record_is =
    let n : length front + length rest ≡ length xs = sym (length-append front rest) ∙ ap length is in
    omega (arith, n, ap length record_is.spelled, length-append (octets_in form 4 record_is.sec) (octets_in form 4 record_is.fraction ++ (octets_in form 4 (length record_is.frame) ++ (octets_in form 4 record_is.original ++ record_is.frame))), length_in form 4 record_is.sec)

found_on : (n : ℕ) (form : CaptureForm) (xs : List ℕ) (read : Result (Option (CaptureRecord × List ℕ)) CaptureFault) → AreOctets xs → length xs ≤ n → RecordFound form xs read
    → ((ys : List ℕ) → length ys < n → AreOctets ys → end_of (drained (record { stage = HeaderRead form; octets = ys })).1 ≡ None → AreRecords form ys (drained (record { stage = HeaderRead form; octets = ys })).0)
    → end_of (drain_on drained (by_record form xs read)).1 ≡ None → AreRecords form xs (drain_on drained (by_record form xs read)).0
found_on n form xs (Ok None) small enough found more none = subst (λ (l : List ℕ). AreRecords form l []) (sym (end_left form xs none)) NoRecord
found_on n form xs (Ok (Some read)) small enough found more none =
    let front = found.0 in
    let less = shorter form front read.1 xs read.0 found.1 found.2 in
    subst (λ (l : List ℕ). AreRecords form l (read.0 ∷ (drained (record { stage = HeaderRead form; octets = read.1 })).0)) found.1
    (OneMore front read.1 read.0 (drained (record { stage = HeaderRead form; octets = read.1 })).0 found.2
    (more read.1 (omega (arith, less)) (octets_after front read.1 xs found.1 small) none))
found_on n form xs (Err fault) small enough found more none = absurd (true≢false (ap is_some none))

records_found : (n : ℕ) (form : CaptureForm) (xs : List ℕ) → length xs < n → AreOctets xs → end_of (drained (record { stage = HeaderRead form; octets = xs })).1 ≡ None → AreRecords form xs (drained (record { stage = HeaderRead form; octets = xs })).0
records_found zero form xs enough small none = absurd (omega (arith, enough))
records_found (suc n) form xs enough small none =
    let same = records_by form xs (record_at form xs) refl in
    subst (λ (d : List CaptureRecord × Reading). AreRecords form xs d.0) (sym same)
    (found_on n form xs (record_at form xs) small (omega (arith, enough)) (record_found form xs small) (λ ys. records_found n form ys) (sym (ap (λ (d : List CaptureRecord × Reading). end_of d.1) same) ∙ none))

header_next : (xs : List ℕ) (read : Result (Option (CaptureForm × List ℕ)) CaptureFault) → header_at xs ≡ read → drained (record { stage = HeaderToCome; octets = xs }) ≡ drain_on drained (by_header xs read)
unfolding next_of
header_next xs read is = drained_next (record { stage = HeaderToCome; octets = xs }) ∙ ap (λ (r : Result (Option (CaptureForm × List ℕ)) CaptureFault). drain_on drained (by_header xs r)) is

-- a capture that is spelled is read
pub capture_again : (xs : List ℕ) (records : List CaptureRecord) → IsCapture xs records → capture_at xs ≡ (records, None)
capture_again xs records is =
    let head = is.is_header in
    let one : header_at xs ≡ Ok (Some (is.form, is.rest)) =
    ap header_at (is.whole ∙ ap (λ (l : List ℕ). l ++ is.rest) head.spelled) ∙ header_again is.form head.unread head.link is.rest head.twelve head.small head.ethernet in
    let all : drained (record { stage = HeaderToCome; octets = xs }) ≡ (records, record { stage = HeaderRead is.form; octets = [] }) =
    header_next xs (Ok (Some (is.form, is.rest))) one ∙ sym (records_by is.form is.rest (record_at is.form is.rest) refl) ∙ records_again is.form is.rest records is.are_records in
    ap (λ (d : List CaptureRecord × Reading). (d.0, end_of d.1)) all

capture_on : (xs : List ℕ) (read : Result (Option (CaptureForm × List ℕ)) CaptureFault) → AreOctets xs → HeaderFound xs read → end_of (drain_on drained (by_header xs read)).1 ≡ None → IsCapture xs (drain_on drained (by_header xs read)).0
capture_on xs (Ok None) small found none = absurd (true≢false (ap is_some none))
capture_on xs (Ok (Some read)) small found none =
    let same = records_by read.0 read.1 (record_at read.0 read.1) refl in
    let rest_small = octets_after found.0 read.1 xs found.1 small in
    let are = records_found (suc (length read.1)) read.0 read.1 (omega arith) rest_small (ap (λ (d : List CaptureRecord × Reading). end_of d.1) same ∙ none) in
    record { form = read.0; header = found.0; rest = read.1; whole = sym found.1; is_header = found.2; are_records = subst (λ (d : List CaptureRecord × Reading). AreRecords read.0 read.1 d.0) same are }
capture_on xs (Err fault) small found none = absurd (true≢false (ap is_some none))

-- what is read without a fault is a capture
capture_found : (xs : List ℕ) → AreOctets xs → (capture_at xs).1 ≡ None → IsCapture xs (capture_at xs).0
capture_found xs small none =
    let same = header_next xs (header_at xs) refl in
    subst (λ (d : List CaptureRecord × Reading). IsCapture xs d.0) (sym same)
    (capture_on xs (header_at xs) small (header_found xs small) (sym (ap (λ (d : List CaptureRecord × Reading). end_of d.1) same) ∙ none))

pub captures_are_read : (xs : List ℕ) (records : List CaptureRecord) → AreOctets xs → (capture_at xs ≡ (records, None)) ↔ IsCapture xs records
captures_are_read xs records small = (
  λ read. subst (IsCapture xs) (ap (λ (d : List CaptureRecord × Option CaptureFault). d.0) read) (capture_found xs small (ap (λ (d : List CaptureRecord × Option CaptureFault). d.1) read)),
  capture_again xs records,
)
