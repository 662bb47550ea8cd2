-- The records that a reader gives until it has none: however its octets come.
use Rattle.std.proofs.Common.{◌≡◌, ℕ, zero, suc, ◌-◌, ◌+◌, ◌<◌, ◌≤◌, Bool, true, false, List, [], ◌∷◌, ◌++◌, length, drop, Result, Ok, Err, Option, Some, None, refl, sym, ap, ◌∙◌, subst, append_assoc, append-nil, arith, inl, inr}
use Rattle.std.specs.List.{concat}
use Rattle.std.proofs.lemmas.Bool.{cases_lt, lt-ltb, le-ltb, false≢true}
use Rattle.std.proofs.lemmas.List.{length-drop}
use Rattle.wire_base.specs.declared.faults.CaptureFault.{CaptureFault}
use Rattle.wire_base.specs.model.Capture.{CaptureForm, CaptureRecord, Stage, Reading, HeaderToCome, HeaderRead, Refused, fed, unread, next_of, next_in, by_header, by_record, header_at, record_at, frame_at, number_in, most_captured, drain, drain_on, drained, more_after, read_pieces}
use Rattle.pcap_frames.proofs.Ends.{HeaderShape, header_shape}
use Rattle.pcap_frames.proofs.Grows.{NextGrows, next_grows}

-- whether an answer has a record
given : Result (Option CaptureRecord) CaptureFault → Bool
given (Ok (Some read)) = true
given (Ok None) = false
given (Err fault) = false

-- a record takes octets from the front
abbrev Shrinks : ℕ → Result (Option CaptureRecord) CaptureFault × Reading → Type 0
Shrinks n (Ok None, after) = Unit {0}
Shrinks n (Ok (Some read), after) = length after.octets < n
Shrinks n (Err fault, after) = Unit {0}

abbrev RecordShape : List ℕ → Result (Option (CaptureRecord × List ℕ)) CaptureFault → Type 0
RecordShape octets (Ok None) = Unit {0}
RecordShape octets (Ok (Some read)) = length read.1 < length octets
RecordShape octets (Err fault) = Unit {0}

frame_shape : (form : CaptureForm) (captured : ℕ) (octets : List ℕ) → 16 ≤ length octets → RecordShape octets (Ok (frame_at form captured octets))
frame_shape form captured octets head = elim (cases_lt (length octets - 16) captured) [
  | inl lt ↦ rw (lt-ltb (length octets - 16) captured lt) tt
  | inr le ↦ rw (le-ltb (length octets - 16) captured le) (omega (arith, length-drop (16 + captured) octets))
]

record_shape : (form : CaptureForm) (octets : List ℕ) → RecordShape octets (record_at form octets)
unfolding record_at
record_shape form octets = elim (cases_lt (length octets) 16) [
  | inl lt ↦ rw (lt-ltb (length octets) 16 lt) tt
  | inr le ↦ elim (cases_lt most_captured (number_in form 4 (drop 8 octets))) [
    | inl long ↦ rw (le-ltb (length octets) 16 le, lt-ltb most_captured (number_in form 4 (drop 8 octets)) long) tt
    | inr short ↦ rw (le-ltb (length octets) 16 le, le-ltb most_captured (number_in form 4 (drop 8 octets)) short) (frame_shape form (number_in form 4 (drop 8 octets)) octets le)
  ]
]

by_record_shrinks : (form : CaptureForm) (n : ℕ) (octets : List ℕ) (read : Result (Option (CaptureRecord × List ℕ)) CaptureFault) → length octets ≤ n → RecordShape octets read → Shrinks n (by_record form octets read)
by_record_shrinks form n octets (Ok None) le shape = tt
by_record_shrinks form n octets (Ok (Some read)) le shape = omega (arith, shape)
by_record_shrinks form n octets (Err fault) le shape = tt

by_header_shrinks : (n : ℕ) (octets : List ℕ) (read : Result (Option (CaptureForm × List ℕ)) CaptureFault) → length octets ≤ n → HeaderShape octets read → Shrinks n (by_header octets read)
by_header_shrinks n octets (Ok None) le shape = tt
by_header_shrinks n octets (Ok (Some read)) le shape = by_record_shrinks read.0 n read.1 (record_at read.0 read.1) (omega (arith, ap length shape.1, length-drop 24 octets)) (record_shape read.0 read.1)
by_header_shrinks n octets (Err fault) le shape = tt

next_in_shrinks : (stage : Stage) (octets : List ℕ) → Shrinks (length octets) (next_in stage octets)
next_in_shrinks HeaderToCome octets = by_header_shrinks (length octets) octets (header_at octets) (omega arith) (header_shape octets)
next_in_shrinks (HeaderRead form) octets = by_record_shrinks form (length octets) octets (record_at form octets) (omega arith) (record_shape form octets)
next_in_shrinks (Refused fault) octets = tt

next_shrinks : (reading : Reading) → Shrinks (length reading.octets) (next_of reading)
unfolding next_of
next_shrinks reading = next_in_shrinks reading.stage reading.octets

on_steps : (n m k : ℕ) (answer : Result (Option CaptureRecord) CaptureFault × Reading) → k ≤ n → k ≤ m → Shrinks k answer
    → ((r : Reading) → length r.octets < n → length r.octets < m → drain n r ≡ drain m r) → drain_on (drain n) answer ≡ drain_on (drain m) answer
on_steps n m k (Ok None, after) n-enough m-enough shrinks same = refl
on_steps n m k (Ok (Some read), after) n-enough m-enough shrinks same = ap (more_after read) (same after (omega (arith, shrinks)) (omega (arith, shrinks)))
on_steps n m k (Err fault, after) n-enough m-enough shrinks same = refl

-- enough steps are enough
drain_steps : (n m : ℕ) (reading : Reading) → length reading.octets < n → length reading.octets < m → drain n reading ≡ drain m reading
unfolding drain
drain_steps zero m reading n-enough m-enough = absurd (omega (arith, n-enough))
drain_steps (suc n) zero reading n-enough m-enough = absurd (omega (arith, m-enough))
drain_steps (suc n) (suc m) reading n-enough m-enough = on_steps n m (length reading.octets) (next_of reading) (omega (arith, n-enough)) (omega (arith, m-enough)) (next_shrinks reading) (λ r. drain_steps n m r)

drained_on : (n : ℕ) (answer : Result (Option CaptureRecord) CaptureFault × Reading) → Shrinks n answer → drain_on (drain n) answer ≡ drain_on drained answer
unfolding drained
drained_on n (Ok None, after) shrinks = refl
drained_on n (Ok (Some read), after) shrinks = ap (more_after read) (drain_steps n (suc (length after.octets)) after shrinks (omega arith))
drained_on n (Err fault, after) shrinks = refl

-- the first record, and those after it
pub drained_next : (reading : Reading) → drained reading ≡ drain_on drained (next_of reading)
unfolding drained drain
drained_next reading = drained_on (length reading.octets) (next_of reading) (next_shrinks reading)

-- more octets, once all records were given
abbrev pub joined : List CaptureRecord × Reading → List ℕ → List CaptureRecord × Reading
joined done more = (done.0 ++ (drained (fed done.1 more)).0, (drained (fed done.1 more)).1)

fed_on : (n k : ℕ) (more : List ℕ) (answer later : Result (Option CaptureRecord) CaptureFault × Reading) → k ≤ n → Shrinks k answer → NextGrows more answer later
    → ((r : Reading) → length r.octets < n → drained (fed r more) ≡ joined (drained r) more) → drain_on drained later ≡ joined (drain_on drained answer) more
fed_on n k more (Ok None, after) later enough shrinks grows goes = ap (drain_on drained) grows ∙ sym (drained_next (fed after more))
fed_on n k more (Ok (Some read), after) later enough shrinks grows goes = ap (drain_on drained) grows ∙ ap (more_after read) (goes after (omega (arith, shrinks)))
fed_on n k more (Err fault, after) later enough shrinks grows goes = ap (drain_on drained) grows ∙ sym (drained_next (fed after more))

fed_goes : (n : ℕ) (reading : Reading) (more : List ℕ) → length reading.octets < n → drained (fed reading more) ≡ joined (drained reading) more
fed_goes zero reading more enough = absurd (omega (arith, enough))
fed_goes (suc n) reading more enough =
    drained_next (fed reading more)
    ∙ fed_on n (length reading.octets) more (next_of reading) (next_of (fed reading more)) (omega (arith, enough)) (next_shrinks reading) (next_grows reading more) (λ r. fed_goes n r more)
    ∙ ap (λ (done : List CaptureRecord × Reading). joined done more) (sym (drained_next reading))

-- The records of octets and more octets are those of the octets, and then those of what is left with more.
pub drained_fed : (reading : Reading) (more : List ℕ) → drained (fed reading more) ≡ joined (drained reading) more
drained_fed reading more = fed_goes (suc (length reading.octets)) reading more (omega arith)

pub fed_nothing : (reading : Reading) → fed reading [] ≡ reading
fed_nothing reading = ap (λ (l : List ℕ). record { stage = reading.stage; octets = l }) (append-nil reading.octets)

pub fed_twice : (reading : Reading) (piece more : List ℕ) → fed (fed reading piece) more ≡ fed reading (piece ++ more)
fed_twice reading piece more = ap (λ (l : List ℕ). record { stage = reading.stage; octets = l }) (append_assoc reading.octets piece more)

-- a reader with no further record has none again
abbrev pub IsSpent : Result (Option CaptureRecord) CaptureFault × Reading → Type 0
IsSpent (Ok None, after) = next_of after ≡ (Ok None, after)
IsSpent (Ok (Some read), after) = Unit {0}
IsSpent (Err fault, after) = next_of after ≡ (Err fault, after)

spent_on : (reading : Reading) (answer : Result (Option CaptureRecord) CaptureFault × Reading) → next_of reading ≡ answer → NextGrows [] answer (next_of (fed reading [])) → IsSpent answer
spent_on reading (Ok None, after) is grows = sym (ap next_of (fed_nothing after)) ∙ sym grows ∙ ap next_of (fed_nothing reading) ∙ is
spent_on reading (Ok (Some read), after) is grows = tt
spent_on reading (Err fault, after) is grows = sym (ap next_of (fed_nothing after)) ∙ sym grows ∙ ap next_of (fed_nothing reading) ∙ is

pub spent : (reading : Reading) → IsSpent (next_of reading)
spent reading = spent_on reading (next_of reading) refl (next_grows reading [])

twice_on : (n k : ℕ) (answer : Result (Option CaptureRecord) CaptureFault × Reading) → k ≤ n → Shrinks k answer → IsSpent answer
    → ((r : Reading) → length r.octets < n → drained (drained r).1 ≡ ([], (drained r).1)) → drained (drain_on drained answer).1 ≡ ([], (drain_on drained answer).1)
twice_on n k (Ok None, after) enough shrinks is twice = drained_next after ∙ ap (drain_on drained) is
twice_on n k (Ok (Some read), after) enough shrinks is twice = twice after (omega (arith, shrinks))
twice_on n k (Err fault, after) enough shrinks is twice = drained_next after ∙ ap (drain_on drained) is

twice_goes : (n : ℕ) (reading : Reading) → length reading.octets < n → drained (drained reading).1 ≡ ([], (drained reading).1)
twice_goes zero reading enough = absurd (omega (arith, enough))
twice_goes (suc n) reading enough =
    subst (λ (done : List CaptureRecord × Reading). drained done.1 ≡ ([], done.1)) (sym (drained_next reading))
    (twice_on n (length reading.octets) (next_of reading) (omega (arith, enough)) (next_shrinks reading) (spent reading) (λ r. twice_goes n r))

-- after all records there is none
pub drained_twice : (reading : Reading) → drained (drained reading).1 ≡ ([], (drained reading).1)
drained_twice reading = twice_goes (suc (length reading.octets)) reading (omega arith)

pub pieces_joined : (reading : Reading) (pieces : List (List ℕ)) → drained reading ≡ ([], reading) → read_pieces reading pieces ≡ drained (fed reading (concat pieces))
unfolding read_pieces
pieces_joined reading [] none = sym (ap drained (fed_nothing reading) ∙ none)
pieces_joined reading (piece ∷ pieces) none =
    let done = drained (fed reading piece) in
    ap (λ (rest : List CaptureRecord × Reading). (done.0 ++ rest.0, rest.1)) (pieces_joined done.1 pieces (drained_twice (fed reading piece)))
    ∙ sym (ap drained (sym (fed_twice reading piece (concat pieces))) ∙ drained_fed (fed reading piece) (concat pieces))

pub nothing_next : next_of unread ≡ (Ok None, unread)
unfolding next_of header_at
nothing_next = refl

pub unread_none : drained unread ≡ ([], unread)
unread_none = drained_next unread ∙ ap (drain_on drained) nothing_next

-- The records don't depend on how the octets come.
pub any_pieces : (reading : Reading) → reading ≡ unread → (pieces : List (List ℕ)) → read_pieces reading pieces ≡ drained (fed reading (concat pieces))
any_pieces reading is pieces = pieces_joined reading pieces (subst (λ (r : Reading). drained r ≡ ([], r)) (sym is) unread_none)

-- what is left after a record is shorter
shorter_at : (n : ℕ) (answer : Result (Option CaptureRecord) CaptureFault × Reading) (read : CaptureRecord) → answer.0 ≡ Ok (Some read) → Shrinks n answer → length answer.1.octets < n
unfolding given
shorter_at n (Ok (Some found), after) read is shrinks = shrinks
shorter_at n (Ok None, after) read is shrinks = absurd (false≢true (ap given is))
shorter_at n (Err fault, after) read is shrinks = absurd (false≢true (ap given is))

pub next_shorter : (reading after : Reading) (read : CaptureRecord) → (next_of reading).0 ≡ Ok (Some read) → after ≡ (next_of reading).1 → length after.octets < length reading.octets
next_shorter reading after read is after-is =
    subst (λ (r : Reading). length r.octets < length reading.octets) (sym after-is) (shorter_at (length reading.octets) (next_of reading) read is (next_shrinks reading))

-- and no answer leaves more
record_lowers : (form : CaptureForm) (n : ℕ) (octets : List ℕ) (read : Result (Option (CaptureRecord × List ℕ)) CaptureFault) → length octets ≤ n → RecordShape octets read → length (by_record form octets read).1.octets ≤ n
record_lowers form n octets (Ok None) le shape = le
record_lowers form n octets (Ok (Some read)) le shape = omega (arith, shape)
record_lowers form n octets (Err fault) le shape = le

header_lowers : (n : ℕ) (octets : List ℕ) (read : Result (Option (CaptureForm × List ℕ)) CaptureFault) → length octets ≤ n → HeaderShape octets read → length (by_header octets read).1.octets ≤ n
header_lowers n octets (Ok None) le shape = le
header_lowers n octets (Ok (Some read)) le shape = record_lowers read.0 n read.1 (record_at read.0 read.1) (omega (arith, ap length shape.1, length-drop 24 octets)) (record_shape read.0 read.1)
header_lowers n octets (Err fault) le shape = le

next_in_lowers : (stage : Stage) (octets : List ℕ) → length (next_in stage octets).1.octets ≤ length octets
next_in_lowers HeaderToCome octets = header_lowers (length octets) octets (header_at octets) (omega arith) (header_shape octets)
next_in_lowers (HeaderRead form) octets = record_lowers form (length octets) octets (record_at form octets) (omega arith) (record_shape form octets)
next_in_lowers (Refused fault) octets = omega arith

pub next_lowers : (reading after : Reading) → after ≡ (next_of reading).1 → length after.octets ≤ length reading.octets
unfolding next_of
next_lowers reading after is = subst (λ (r : Reading). length r.octets ≤ length reading.octets) (sym is) (next_in_lowers reading.stage reading.octets)

-- a reader that met a fault gives nothing more
pub refused_still : (reading : Reading) (fault : CaptureFault) → reading.stage ≡ Refused fault → drained reading ≡ ([], reading)
unfolding next_of
refused_still reading fault is =
    let same : next_of reading ≡ (Err fault, reading) = ap (λ (s : Stage). next_in s reading.octets) is ∙ ap (λ (s : Stage). (Err fault, record { stage = s; octets = reading.octets })) (sym is) in
    drained_next reading ∙ ap (drain_on drained) same

-- a fault that was answered stays
fault_or : CaptureFault → Result (Option CaptureRecord) CaptureFault → CaptureFault
fault_or other (Ok read) = other
fault_or other (Err fault) = fault

refuses : Result (Option CaptureRecord) CaptureFault → Bool
refuses (Ok read) = false
refuses (Err fault) = true

record_refuses : (form : CaptureForm) (octets : List ℕ) (read : Result (Option (CaptureRecord × List ℕ)) CaptureFault) (fault : CaptureFault) → (by_record form octets read).0 ≡ Err fault → (by_record form octets read).1.stage ≡ Refused fault
unfolding fault_or refuses
record_refuses form octets (Ok None) fault is = absurd (false≢true (ap refuses is))
record_refuses form octets (Ok (Some read)) fault is = absurd (false≢true (ap refuses is))
record_refuses form octets (Err met) fault is = ap Refused (ap (fault_or met) is)

header_refuses : (octets : List ℕ) (read : Result (Option (CaptureForm × List ℕ)) CaptureFault) (fault : CaptureFault) → (by_header octets read).0 ≡ Err fault → (by_header octets read).1.stage ≡ Refused fault
unfolding fault_or refuses
header_refuses octets (Ok None) fault is = absurd (false≢true (ap refuses is))
header_refuses octets (Ok (Some read)) fault is = record_refuses read.0 read.1 (record_at read.0 read.1) fault is
header_refuses octets (Err met) fault is = ap Refused (ap (fault_or met) is)

next_in_refuses : (stage : Stage) (octets : List ℕ) (fault : CaptureFault) → (next_in stage octets).0 ≡ Err fault → (next_in stage octets).1.stage ≡ Refused fault
unfolding fault_or
next_in_refuses HeaderToCome octets fault is = header_refuses octets (header_at octets) fault is
next_in_refuses (HeaderRead form) octets fault is = record_refuses form octets (record_at form octets) fault is
next_in_refuses (Refused met) octets fault is = ap Refused (ap (fault_or met) is)

pub next_refuses : (reading after : Reading) (fault : CaptureFault) → (next_of reading).0 ≡ Err fault → after ≡ (next_of reading).1 → after.stage ≡ Refused fault
unfolding next_of
next_refuses reading after fault is after-is = subst (λ (r : Reading). r.stage ≡ Refused fault) (sym after-is) (next_in_refuses reading.stage reading.octets fault is)
