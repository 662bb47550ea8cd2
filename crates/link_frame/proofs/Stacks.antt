-- A stack read entry by entry.
use Rattle.std.proofs.Common.{◌≡◌, ℕ, zero, suc, ◌+◌, ◌*◌, ◌/◌, ◌%◌, ◌-◌, ◌<◌, ◌≤◌, List, [], ◌∷◌, ◌++◌, length, take, drop, Result, Ok, Err, is_ok, inl, inr, refl, sym, ap, ap₂, IfOk, ◌∙◌, subst, append_assoc, take-append-drop, arith}
use Rattle.std.proofs.lemmas.Bool.{cases_lt, cases_eq, lt-ltb, le-ltb, eq-eqb, ne_eqb, false≢true}
use Rattle.std.proofs.lemmas.List.{drop-drop, length-append, length-map, map-append, get_or-drop}
use Rattle.arrayvec.specs.declared.array_vec.ArrayVec.{ArrayVec}
use Rattle.byteorder.specs.Endian.{big_number, big_bytes}
use Rattle.byteorder.specs.Numbers.{big_number-reads_back, big_from-lt}
use Rattle.wire_base.specs.declared.faults.StackFault.{StackFault}
use Rattle.wire_base.specs.declared.faults.StackFault.TheVariants as faults
use Rattle.wire_base.specs.model.Fields.{Gives, number_at, AreOctets}
use Rattle.wire_base.specs.model.Labels.{LabelEntry, stack_at, below, entry_of, entry_word, EntryFits, StackFits, IsStack, stack, is_bottom}
use Rattle.link_frame.specs.declared.labels.Label.{Label}
use Rattle.link_frame.specs.Stacks.{entry, entries, read_entries}

after_or : List ℕ → Result (ℕ × List ℕ) StackFault → List ℕ
after_or octets (Ok read) = read.1
after_or octets (Err fault) = octets

below_below : (made more : List LabelEntry) (read : Result (List LabelEntry × List ℕ) StackFault) → below made (below more read) ≡ below (made ++ more) read
below_below made more (Ok read) = ap (λ (l : List LabelEntry). Ok (l, read.1)) (sym (append_assoc made more read.0))
below_below made more (Err fault) = refl

none_at : (octets : List ℕ) → stack_at zero octets ≡ Err faults.Deep
unfolding stack_at
none_at octets = refl

at_end : (most : ℕ) (octets : List ℕ) (fault : StackFault) → number_at faults.NoBottom 4 octets ≡ Err fault → stack_at (suc most) octets ≡ Err fault
unfolding stack_at
at_end most octets fault read = rw read refl

at_bottom : (most word : ℕ) (octets after : List ℕ) → number_at faults.NoBottom 4 octets ≡ Ok (word, after) → is_bottom word ≡ 1 → stack_at (suc most) octets ≡ Ok (entry_of word ∷ [], after)
unfolding stack_at
at_bottom most word octets after read bottom = rw (read, eq-eqb (is_bottom word) 1 bottom) refl

at_more : (most word : ℕ) (octets after : List ℕ) → number_at faults.NoBottom 4 octets ≡ Ok (word, after) → (is_bottom word ≡ 1 → ⊥) → stack_at (suc most) octets ≡ below (entry_of word ∷ []) (stack_at most after)
unfolding stack_at
at_more most word octets after read more = rw (read, ne_eqb (is_bottom word) 1 more) refl

pub ends : (made : List Label) (rest octets : List ℕ) (fault : StackFault) → length made < 8 → below (entries made) (stack_at (8 - length made) rest) ≡ stack_at 8 octets
    → number_at faults.NoBottom 4 rest ≡ Err fault → stack_at 8 octets ≡ Err fault
ends made rest octets fault room so_far read =
    let n : 8 - length made ≡ suc (7 - length made) = omega arith in
    sym so_far ∙ ap (λ (k : ℕ). below (entries made) (stack_at k rest)) n ∙ ap (below (entries made)) (at_end (7 - length made) rest fault read)

one_more : (made new : List Label) (label : Label) (word : ℕ) → entry label ≡ entry_of word → new ≡ made ++ label ∷ [] → entries new ≡ entries made ++ entry_of word ∷ []
one_more made new label word is new-is = ap entries new-is ∙ map-append entry made (label ∷ []) ∙ ap (λ (e : LabelEntry). entries made ++ e ∷ []) is

pub bottom : (made new : List Label) (label : Label) (word : ℕ) (rest after octets : List ℕ) → length made < 8 → below (entries made) (stack_at (8 - length made) rest) ≡ stack_at 8 octets
    → number_at faults.NoBottom 4 rest ≡ Ok (word, after) → entry label ≡ entry_of word → new ≡ made ++ label ∷ [] → is_bottom word ≡ 1 → stack_at 8 octets ≡ Ok (entries new, after)
bottom made new label word rest after octets room so_far read is new-is last =
    let n : 8 - length made ≡ suc (7 - length made) = omega arith in
    sym so_far ∙ ap (λ (k : ℕ). below (entries made) (stack_at k rest)) n ∙ ap (below (entries made)) (at_bottom (7 - length made) word rest after read last)
    ∙ ap (λ (l : List LabelEntry). Ok (l, after)) (sym (one_more made new label word is new-is))

pub more : (made new : List Label) (label : Label) (word : ℕ) (rest after octets : List ℕ) → length made < 8 → below (entries made) (stack_at (8 - length made) rest) ≡ stack_at 8 octets
    → number_at faults.NoBottom 4 rest ≡ Ok (word, after) → entry label ≡ entry_of word → new ≡ made ++ label ∷ [] → (is_bottom word ≡ 1 → ⊥) → below (entries new) (stack_at (8 - length new) after) ≡ stack_at 8 octets
more made new label word rest after octets room so_far read is new-is not_last =
    let n : 8 - length made ≡ suc (7 - length made) = omega arith in
    let m : 8 - length new ≡ 7 - length made = omega (arith, ap length new-is, length-append made (label ∷ [])) in
    let read_all = sym so_far ∙ ap (λ (k : ℕ). below (entries made) (stack_at k rest)) n ∙ ap (below (entries made)) (at_more (7 - length made) word rest after read not_last)
    ∙ below_below (entries made) (entry_of word ∷ []) (stack_at (7 - length made) after) in
    ap (λ (k : ℕ). below (entries new) (stack_at k after)) m ∙ ap (λ (l : List LabelEntry). below l (stack_at (7 - length made) after)) (one_more made new label word is new-is) ∙ sym read_all

pub full : (made : List Label) (rest octets : List ℕ) → 8 ≤ length made → below (entries made) (stack_at (8 - length made) rest) ≡ stack_at 8 octets → stack_at 8 octets ≡ Err faults.Deep
unfolding stack_at
full made rest octets all so_far =
    let n : 8 - length made ≡ 0 = omega arith in
    sym so_far ∙ ap (λ (k : ℕ). below (entries made) (stack_at k rest)) n

short_of : (octets : List ℕ) → length octets < 4 → number_at faults.NoBottom 4 octets ≡ Err faults.NoBottom
short_of octets lt = rw (lt-ltb (length octets) 4 lt) refl

word_of : (octets : List ℕ) → 4 ≤ length octets → number_at faults.NoBottom 4 octets ≡ Ok (big_number 4 octets, drop 4 octets)
word_of octets le = rw (le-ltb (length octets) 4 le) refl

not_read : {A E : Type 0} → (e : E) (a : A) → Err e ≡ Ok a → ⊥
not_read e a is = false≢true (ap is_ok is)

pub rest_is : (octets after : List ℕ) (word : ℕ) → number_at faults.NoBottom 4 octets ≡ Ok (word, after) → after ≡ drop 4 octets
unfolding after_or
rest_is octets after word read = elim (cases_lt (length octets) 4) [
  | inl lt ↦ absurd (not_read faults.NoBottom (word, after) (sym (short_of octets lt) ∙ read))
  | inr le ↦ ap (after_or octets) (sym read ∙ word_of octets le)
]

pub rest_after : (bytes octets after : List ℕ) (made new : List Label) (label : Label) (word : ℕ) → octets ≡ drop (4 * length made) bytes → number_at faults.NoBottom 4 octets ≡ Ok (word, after)
    → new ≡ made ++ label ∷ [] → after ≡ drop (4 * length new) bytes
rest_after bytes octets after made new label word is read new-is =
    let n : 4 * length made + 4 ≡ 4 * length new = omega (arith, ap length new-is, length-append made (label ∷ [])) in
    rest_is octets after word read ∙ ap (λ (l : List ℕ). drop 4 l) is ∙ drop-drop 4 (4 * length made) bytes ∙ ap (λ (k : ℕ). drop k bytes) n

-- the number of four octets spells them
four_again : (xs : List ℕ) → AreOctets xs → 4 ≤ length xs → big_bytes 4 (big_number 4 xs) ≡ take 4 xs
four_again [] small long = absurd (omega arith)
four_again (a ∷ []) small long = absurd (omega arith)
four_again (a ∷ b ∷ []) small long = absurd (omega arith)
four_again (a ∷ b ∷ d ∷ []) small long = absurd (omega arith)
four_again (a ∷ b ∷ d ∷ e ∷ rest) small long =
    let a-small : a < 256 = small 0 in
    let b-small : b < 256 = small 1 in
    let d-small : d < 256 = small 2 in
    let e-small : e < 256 = small 3 in
    let x = a * 16777216 + b * 65536 + d * 256 + e in
    let n : big_number 4 (a ∷ b ∷ d ∷ e ∷ rest) ≡ x = omega arith in
    let p : x / 16777216 % 256 ≡ a = omega arith in
    let q : x / 65536 % 256 ≡ b = omega arith in
    let r : x / 256 % 256 ≡ d = omega arith in
    let t : x % 256 ≡ e = omega arith in
    ap (big_bytes 4) n ∙ rw (p, q, r, t) refl

-- a word is that of its entry
word_back : (word s : ℕ) → is_bottom word ≡ s → entry_word (entry_of word) s ≡ word
word_back word s is = omega (arith, is)

entry_fits : (word : ℕ) → word < 4294967296 → EntryFits (entry_of word)
entry_fits word small = (omega arith, omega arith, omega arith)

bottom_back : (e : LabelEntry) (s : ℕ) → EntryFits e → s < 2 → is_bottom (entry_word e s) ≡ s
bottom_back e s fits bit = omega (arith, fits.0, fits.1, fits.2)

value_back : (e : LabelEntry) (s : ℕ) → EntryFits e → s < 2 → entry_word e s / 4096 ≡ e.value
value_back e s fits bit = omega (arith, fits.0, fits.1, fits.2)

tc_back : (e : LabelEntry) (s : ℕ) → EntryFits e → s < 2 → entry_word e s / 512 % 8 ≡ e.tc
tc_back e s fits bit = omega (arith, fits.0, fits.1, fits.2)

ttl_back : (e : LabelEntry) (s : ℕ) → EntryFits e → s < 2 → entry_word e s % 256 ≡ e.ttl
ttl_back e s fits bit = omega (arith, fits.0, fits.1, fits.2)

entry_back : (e : LabelEntry) (s : ℕ) → EntryFits e → s < 2 → entry_of (entry_word e s) ≡ e
entry_back e s fits bit = rw (value_back e s fits bit, tc_back e s fits bit, ttl_back e s fits bit) refl

word_again : (e : LabelEntry) (s : ℕ) (rest : List ℕ) → EntryFits e → s < 2 → number_at faults.NoBottom 4 (big_bytes 4 (entry_word e s) ++ rest) ≡ Ok (entry_word e s, rest)
word_again e s rest fits bit =
    let w = entry_word e s in
    let small : w < 4294967296 = omega (arith, fits.0, fits.1, fits.2) in
    let octets = big_bytes 4 w ++ rest in
    word_of octets (omega arith)
    ∙ ap (λ (n : ℕ). Ok (n, drop 4 octets)) (big_number-reads_back 4 w rest (omega arith))

-- a stack that is spelled is read, whatever follows it
pub stack_again : (most : ℕ) (entries : List LabelEntry) (rest : List ℕ) → StackFits most entries → stack_at most (stack entries ++ rest) ≡ Ok (entries, rest)
stack_again most [] rest fits = absurd fits
stack_again zero (e ∷ []) rest fits = absurd (omega (arith, fits.0))
stack_again (suc most) (e ∷ []) rest fits =
    at_bottom most (entry_word e 1) (stack (e ∷ []) ++ rest) rest (word_again e 1 rest fits.1 (omega arith)) (bottom_back e 1 fits.1 (omega arith))
    ∙ ap (λ (x : LabelEntry). Ok (x ∷ [], rest)) (entry_back e 1 fits.1 (omega arith))
stack_again zero (e ∷ f ∷ es) rest fits = absurd fits
stack_again (suc most) (e ∷ f ∷ es) rest fits =
    let after = stack (f ∷ es) ++ rest in
    let word : number_at faults.NoBottom 4 (stack (e ∷ f ∷ es) ++ rest) ≡ Ok (entry_word e 0, after) = word_again e 0 after fits.0 (omega arith) in
    let not_last : is_bottom (entry_word e 0) ≡ 1 → ⊥ = λ is. omega (arith, is, bottom_back e 0 fits.0 (omega arith)) in
    at_more most (entry_word e 0) (stack (e ∷ f ∷ es) ++ rest) after word not_last
    ∙ ap (below (entry_of (entry_word e 0) ∷ [])) (stack_again most (f ∷ es) rest fits.1)
    ∙ ap (λ (x : LabelEntry). Ok (x ∷ f ∷ es, rest)) (entry_back e 0 fits.0 (omega arith))

-- what was read is spelled so
abbrev Spelled : ℕ → List ℕ → Result (List LabelEntry × List ℕ) StackFault → Type 0
Spelled most octets (Ok read) = StackFits most read.0 × (octets ≡ stack read.0 ++ read.1)
Spelled most octets (Err fault) = Unit {0}

below_spells : (most word : ℕ) (octets after rest : List ℕ) (entries : List LabelEntry) → word < 4294967296 → is_bottom word ≡ 0 → octets ≡ big_bytes 4 word ++ after
    → StackFits most entries → after ≡ stack entries ++ rest → Spelled (suc most) octets (Ok (entry_of word ∷ entries, rest))
below_spells most word octets after rest [] small zero_bit is fits more = absurd fits
below_spells most word octets after rest (e ∷ es) small zero_bit is fits more =
    let bytes : big_bytes 4 word ≡ big_bytes 4 (entry_word (entry_of word) 0) = ap (big_bytes 4) (sym (word_back word 0 zero_bit)) in
    ((entry_fits word small, fits), is ∙ ap₂ (λ (k l : List ℕ). k ++ l) bytes more ∙ sym (append_assoc (big_bytes 4 (entry_word (entry_of word) 0)) (stack (e ∷ es)) rest))

below_read : (most word : ℕ) (octets after : List ℕ) (read : Result (List LabelEntry × List ℕ) StackFault) → word < 4294967296 → is_bottom word ≡ 0 → octets ≡ big_bytes 4 word ++ after
    → Spelled most after read → Spelled (suc most) octets (below (entry_of word ∷ []) read)
below_read most word octets after (Ok read) small zero_bit is spelled = below_spells most word octets after read.1 read.0 small zero_bit is spelled.0 spelled.1
below_read most word octets after (Err fault) small zero_bit is spelled = tt

pub stack_spells : (most : ℕ) (octets : List ℕ) → AreOctets octets → Spelled most octets (stack_at most octets)
stack_spells zero octets small = subst (Spelled zero octets) (sym (none_at octets)) tt
stack_spells (suc most) octets small = elim (cases_lt (length octets) 4) [
  | inl lt ↦ subst (Spelled (suc most) octets) (sym (at_end most octets faults.NoBottom (short_of octets lt))) tt
  | inr le ↦
      let word = big_number 4 octets in
      let after = drop 4 octets in
      let low : word < 4294967296 = big_from-lt 0 4 octets small in
      let is : octets ≡ big_bytes 4 word ++ after = sym (ap (λ (l : List ℕ). l ++ after) (four_again octets small le) ∙ take-append-drop 4 octets) in
      elim (cases_eq (is_bottom word) 1) [
        | inl last ↦ subst (Spelled (suc most) octets) (sym (at_bottom most word octets after (word_of octets le) last))
            ((omega arith, entry_fits word low), is ∙ ap (λ (l : List ℕ). l ++ after) (ap (big_bytes 4) (sym (word_back word 1 last))))
        | inr not_last ↦ subst (Spelled (suc most) octets) (sym (at_more most word octets after (word_of octets le) not_last))
            (below_read most word octets after (stack_at most after) low (omega (arith, not_last)) is (stack_spells most after (λ i. omega (arith, get_or-drop 4 octets i 0, small (4 + i)))))
      ]
]

pub found_from : (bytes : List ℕ) (result : Result (ArrayVec Label 8 (Unit {0})) StackFault) → AreOctets bytes → Gives (read_entries bytes) result (stack_at 8 bytes)
    → IfOk result (λ labels. IsStack 8 (entries labels.items) bytes)
found_from bytes (Ok labels) small gives =
    let n : 4 * length labels.items ≡ 4 * length (entries labels.items) = omega (arith, length-map labels.items entry) in
    subst (λ (k : ℕ). StackFits 8 (entries labels.items) × (bytes ≡ stack (entries labels.items) ++ drop k bytes)) n (subst (Spelled 8 bytes) gives (stack_spells 8 bytes small))
found_from bytes (Err fault) small gives = tt

pub only_from : (bytes : List ℕ) (result : Result (ArrayVec Label 8 (Unit {0})) StackFault) → Gives (read_entries bytes) result (stack_at 8 bytes)
    → (es : List LabelEntry) (rest : List ℕ) → StackFits 8 es → bytes ≡ stack es ++ rest → Gives (read_entries bytes) result (Ok (es, rest))
only_from bytes (Ok labels) gives es rest fits is = sym (ap (stack_at 8) is ∙ stack_again 8 es rest fits) ∙ gives
only_from bytes (Err fault) gives es rest fits is = sym (ap (stack_at 8) is ∙ stack_again 8 es rest fits) ∙ gives

length_stack : (most : ℕ) (entries : List LabelEntry) → StackFits most entries → (1 ≤ length entries) × (4 * length entries ≤ length (stack entries))
length_stack most [] fits = absurd fits
length_stack most (e ∷ []) fits = (omega arith, omega arith)
length_stack zero (e ∷ f ∷ es) fits = absurd fits
length_stack (suc most) (e ∷ f ∷ es) fits = (omega arith, omega (arith, (length_stack most (f ∷ es) fits.1).1))

pub whole_from : (bytes : List ℕ) (result : Result (ArrayVec Label 8 (Unit {0})) StackFault) → AreOctets bytes → Gives (read_entries bytes) result (stack_at 8 bytes)
    → IfOk result (λ labels. (1 ≤ length labels.items) × (4 * length labels.items ≤ length bytes))
whole_from bytes (Ok labels) small gives =
    let n : length (entries labels.items) ≡ length labels.items = length-map labels.items entry in
    let spelled : Spelled 8 bytes (Ok (read_entries bytes labels)) = subst (Spelled 8 bytes) gives (stack_spells 8 bytes small) in
    let sizes = length_stack 8 (entries labels.items) spelled.0 in
    (omega (arith, n, sizes.0), omega (arith, n, sizes.1, ap length spelled.1, length-append (stack (entries labels.items)) (drop (4 * length labels.items) bytes)))
whole_from bytes (Err fault) small gives = tt
