-- A text that is read chunk by chunk is given line by line as it stands.
use Rattle.std.proofs.Common.{◌≡◌, ◌≢◌, ℕ, zero, suc, ◌+◌, ◌-◌, ◌*◌, ◌<◌, ◌≤◌, min, Bool, true, false, eqb, List, [], ◌∷◌, ◌++◌, length, take, map, slice_index, Option, refl, sym, ap, ap₂, ◌∙◌, arith, inl, inr, append-nil, append_assoc}
use Rattle.std.specs.Prelude.{nat_lt, ◌⊎◌, if◌then◌else◌}
use Rattle.std.proofs.lemmas.Bool.{cases_Bool, cases_lt, lt-ltb, le-ltb, eqb-true}
use Rattle.std.proofs.lemmas.List.{take_all, take-take, take-append-le, length-append, length-take}
use Rattle.std.proofs.lemmas.List.Elements.{All-append, All-nil, All-cons, All-take}
use Rattle.std.proofs.KnownBytes.{Consumes-trans, Consumes-kept}
use Rattle.std.specs.Io.KnownBytes.{Consumes, Keeps, IsAtEnd}
use Rattle.std.proofs.lemmas.List.Splits.{slice_split_at, slice_split_none}
use Rattle.std.specs.Str.Lines.{strip_carriage_return}
use Rattle.replay_text.specs.Pieces.{pieces, lines_in}
use Rattle.replay_text.proofs.Cutting.{line_first, line_last, line_none, line_open}
use Rattle.command_drive.specs.declared.items.Close.TheVariants as close
use Rattle.command_drive.specs.Reading.{End, Ends, Fails, Closed, Cut, Reads, first, Left}
use Rattle.command_drive.proofs.Seeking.{Seeks, nothing_left}
use Rattle.command_drive.specs.Lines.{shown, lines_shown, cut_read, whole_read, lines_read, HasNoEnd, kept, TakesPart}

-- ---- what is kept of a line

-- a front that goes past the first of two lists
pub take_past : (n : ℕ) (xs ys : List ℕ) → length xs ≤ n → take n (xs ++ ys) ≡ xs ++ take (n - length xs) ys
take_past n [] ys fits =
    let same : n - 0 ≡ n = omega arith in
    ap (λ (m : ℕ). take m ys) (sym same)
take_past (suc n) (x ∷ xs) ys fits =
    let same : suc n - length (x ∷ xs) ≡ n - length xs = omega arith in
    ap (λ (l : List ℕ). x ∷ l) (take_past n xs ys (omega arith) ∙ ap (λ (m : ℕ). xs ++ take m ys) (sym same))
take_past zero (x ∷ xs) ys fits = absurd (omega arith)

pub kept_whole : (line part new : List ℕ) (room : ℕ) → length line + room ≡ 16386 → length part ≤ room → new ≡ line ++ part → new ≡ kept (line ++ part)
unfolding kept
kept_whole line part new room is fits grown = grown ∙ sym (take_all 16386 (line ++ part) (omega (arith, length-append line part)))

pub kept_front : (line part new : List ℕ) (room : ℕ) → length line + room ≡ 16386 → new ≡ line ++ take room part → new ≡ kept (line ++ part)
unfolding kept
kept_front line part new room is grown =
    let rest : 16386 - length line ≡ room = omega arith in
    grown ∙ ap (λ (m : ℕ). line ++ take m part) (sym rest) ∙ sym (take_past 16386 line part (omega arith))

-- what is kept of what was kept and more
kept_more : (line part : List ℕ) → kept (kept line ++ part) ≡ kept (line ++ part)
unfolding kept
kept_more line part = go 16386 line
  where
    go : (n : ℕ) (xs : List ℕ) → take n (take n xs ++ part) ≡ take n (xs ++ part)
    go zero [] = refl
    go (suc n) [] = refl
    go (suc n) (x ∷ xs) = ap (λ (l : List ℕ). x ∷ l) (go n xs)
    go zero (x ∷ xs) = refl

pub length-kept : (line : List ℕ) → (length (kept line) ≤ 16386) × (length (kept line) ≤ length line)
unfolding kept
length-kept line = (omega (arith, length-take 16386 line), omega (arith, length-take 16386 line))

-- ---- what is shown of it

-- of a long line the CR at its end doesn't count
shown_long : (line : List ℕ) → 16386 ≤ length line → shown (strip_carriage_return line) ≡ shown line
unfolding shown
shown_long line long = elim (cases_Bool (eqb (slice_index line (length line - 1)) 13)) [
  | inl ends ↦ rw ends (take-take 16385 (length line - 1) line (omega (arith, long)))
  | inr other ↦ rw other refl
]

shown_kept : (line : List ℕ) → shown (kept line) ≡ shown line
unfolding shown kept
shown_kept line = take-take 16385 16386 line (omega arith)

-- what was kept of a line shows it
pub shown_line : (line : List ℕ) → shown (strip_carriage_return (kept line)) ≡ shown (strip_carriage_return line)
unfolding kept
shown_line line = elim (cases_lt (length line) 16386) [
  | inl short ↦ ap (λ (l : List ℕ). shown (strip_carriage_return l)) (take_all 16386 line (omega (arith, short)))
  | inr long ↦ shown_long (kept line) (omega (arith, long, length-take 16386 line)) ∙ shown_kept line ∙ sym (shown_long line long)
]

-- ---- lines

no_end : (line : List ℕ) → HasNoEnd line → pieces 10 line ≡ line ∷ []
no_end line plain = slice_split_none (λ b. eqb b 10) line plain

-- a line that ends with LF comes first
first_line : (ended : Bool) (line rest : List ℕ) → HasNoEnd line → lines_in ended (line ++ 10 ∷ rest) ≡ strip_carriage_return line ∷ lines_in ended rest
first_line ended line rest plain = line_first ended (line ++ 10 ∷ rest) line rest (slice_split_at (λ b. eqb b 10) line 10 rest plain refl)

none_open : (line : List ℕ) → HasNoEnd line → lines_in false line ≡ []
none_open line plain = line_open false line line (no_end line plain) refl

none_whole : lines_in true [] ≡ []
none_whole = line_none true [] [] refl refl

one_whole : (line : List ℕ) → HasNoEnd line → length line ≢ 0 → lines_in true line ≡ line ∷ []
one_whole line plain some = line_last true line line (no_end line plain) refl some ∙ ap (λ (ls : List (List ℕ)). line ∷ ls) none_whole

-- the octets before the first LF and those behind it, where there is one
IsSplit : List ℕ → Type 0
IsSplit octets = ((part : List ℕ) × (rest : List ℕ) × HasNoEnd part × (octets ≡ part ++ 10 ∷ rest)) ⊎ HasNoEnd octets

end_in : (octets : List ℕ) → IsSplit octets
unfolding IsSplit
end_in [] = inr (All-nil (λ (octet : ℕ). eqb octet 10 ≡ false))
end_in (octet ∷ octets) = elim (cases_Bool (eqb octet 10)) [
  | inl is ↦ inl ([], octets, All-nil (λ (octet : ℕ). eqb octet 10 ≡ false), ap (λ (x : ℕ). x ∷ octets) (eqb-true octet 10 is))
  | inr other ↦ later other (end_in octets)
]
  where
    later : eqb octet 10 ≡ false → IsSplit octets → IsSplit (octet ∷ octets)
    later other (inl f) = inl (octet ∷ f.0, f.1, All-cons (λ (x : ℕ). eqb x 10 ≡ false) octet f.0 other f.2, ap (λ (l : List ℕ). octet ∷ l) f.3)
    later other (inr none) = inr (All-cons (λ (x : ℕ). eqb x 10 ≡ false) octet octets other none)

-- ---- the lines of a text of whose first line the front is held

pub AreAlike : List ℕ → List ℕ → Type 0
AreAlike one other = (ended : Bool) (more : List ℕ) → lines_shown ended (one ++ more) ≡ lines_shown ended (other ++ more)

-- a text whose first line is another's and that goes on as it
pub Follows : List ℕ → List ℕ → List ℕ → Type 0
Follows whole line rest = (ended : Bool) (more : List ℕ) → lines_shown ended (whole ++ more) ≡ line ∷ lines_shown ended (rest ++ more)

plain_append : (one other : List ℕ) → HasNoEnd one → HasNoEnd other → HasNoEnd (one ++ other)
plain_append one other first second = All-append (λ (octet : ℕ). eqb octet 10 ≡ false) one other first second

plain_kept : (line : List ℕ) → HasNoEnd line → HasNoEnd (kept line)
unfolding kept
plain_kept line plain = All-take (λ (octet : ℕ). eqb octet 10 ≡ false) 16386 line plain

-- what is kept of a line gives the same lines
alike_kept : (line : List ℕ) → HasNoEnd line → AreAlike (kept line) line
unfolding AreAlike IsSplit kept
alike_kept line plain ended more = elim (end_in more) [
  | inl f ↦ by_end ended f.0 f.1 f.2 f.3
  | inr none ↦ by_none ended none
]
  where
    by_end : (ended : Bool) (part rest : List ℕ) → HasNoEnd part → more ≡ part ++ 10 ∷ rest → lines_shown ended (kept line ++ more) ≡ lines_shown ended (line ++ more)
    by_end ended part rest clean is =
        let one : lines_shown ended (kept line ++ more) ≡ shown (strip_carriage_return (kept line ++ part)) ∷ lines_shown ended rest =
        ap (λ (l : List ℕ). lines_shown ended (kept line ++ l)) is ∙ ap (lines_shown ended) (sym (append_assoc (kept line) part (10 ∷ rest)))
        ∙ ap (map shown) (first_line ended (kept line ++ part) rest (plain_append (kept line) part (plain_kept line plain) clean)) in
        let other : lines_shown ended (line ++ more) ≡ shown (strip_carriage_return (line ++ part)) ∷ lines_shown ended rest =
        ap (λ (l : List ℕ). lines_shown ended (line ++ l)) is ∙ ap (lines_shown ended) (sym (append_assoc line part (10 ∷ rest)))
        ∙ ap (map shown) (first_line ended (line ++ part) rest (plain_append line part plain clean)) in
        let same : shown (strip_carriage_return (kept line ++ part)) ≡ shown (strip_carriage_return (line ++ part)) =
        sym (shown_line (kept line ++ part)) ∙ ap (λ (l : List ℕ). shown (strip_carriage_return l)) (kept_more line part) ∙ shown_line (line ++ part) in
        one ∙ ap (λ (l : List ℕ). l ∷ lines_shown ended rest) same ∙ sym other

    kept_some : 0 < length (line ++ more) → length (kept line ++ more) ≢ 0
    kept_some some = λ e. omega (arith, e, some, length-append line more, length-append (kept line) more, length-take 16386 line)

    kept_none : length line ≡ 0 → kept line ≡ line
    kept_none none = take_all 16386 line (omega (arith, none))

    by_none : (ended : Bool) → HasNoEnd more → lines_shown ended (kept line ++ more) ≡ lines_shown ended (line ++ more)
    by_none false none = ap (map shown) (none_open (kept line ++ more) (plain_append (kept line) more (plain_kept line plain) none) ∙ sym (none_open (line ++ more) (plain_append line more plain none)))
    by_none true none = elim (cases_lt 0 (length (line ++ more))) [
      | inl some ↦
          let same : shown (kept line ++ more) ≡ shown (line ++ more) = sym (shown_kept (kept line ++ more)) ∙ ap shown (kept_more line more) ∙ shown_kept (line ++ more) in
          ap (map shown) (one_whole (kept line ++ more) (plain_append (kept line) more (plain_kept line plain) none) (kept_some some))
          ∙ ap (λ (l : List ℕ). l ∷ []) same ∙ sym (ap (map shown) (one_whole (line ++ more) (plain_append line more plain none) (λ e. omega (arith, e, some))))
      | inr none_left ↦ ap (λ (l : List ℕ). lines_shown true (l ++ more)) (kept_none (omega (arith, none_left, length-append line more)))
    ]

-- an LF ends the line
follows_line : (line part rest : List ℕ) → HasNoEnd line → HasNoEnd part → Follows (line ++ (part ++ 10 ∷ rest)) (shown (strip_carriage_return (kept (line ++ part)))) rest
unfolding Follows
follows_line line part rest plain clean ended more =
    let text : (line ++ (part ++ 10 ∷ rest)) ++ more ≡ (line ++ part) ++ 10 ∷ (rest ++ more) =
    ap (λ (l : List ℕ). l ++ more) (sym (append_assoc line part (10 ∷ rest))) ∙ append_assoc (line ++ part) (10 ∷ rest) more in
    ap (lines_shown ended) text ∙ ap (map shown) (first_line ended (line ++ part) (rest ++ more) (plain_append line part plain clean))
    ∙ ap (λ (l : List ℕ). l ∷ lines_shown ended (rest ++ more)) (sym (shown_line (line ++ part)))

-- ---- what a reader gives

cut_is : List (List ℕ) → Reads (List ℕ)
cut_is lines = record { items = lines; behind = Closed close.TooLong }

ended_is : End → List (List ℕ) → Reads (List ℕ)
ended_is Ends lines = record { items = lines; behind = Closed close.Ended }
ended_is Fails lines = record { items = lines; behind = Cut }

goes_no_further : End → Bool
goes_no_further Ends = true
goes_no_further Fails = false

whole_is : (end : End) (text : List ℕ) → whole_read end text ≡ ended_is end (lines_shown (goes_no_further end) text)
unfolding ended_is goes_no_further
whole_is Ends text = refl
whole_is Fails text = refl

ended_first : (end : End) (item : List ℕ) (lines : List (List ℕ)) → ended_is end (item ∷ lines) ≡ first item (ended_is end lines)
unfolding ended_is
ended_first Ends item lines = refl
ended_first Fails item lines = refl

pub over_is : (held octets : List ℕ) (room : ℕ) (end : End) → room < length octets → lines_read held room false end octets ≡ cut_read (held ++ take room octets)
over_is held octets room end more = rw (lt-ltb room (length octets) more) refl

pub under_is : (held octets : List ℕ) (room : ℕ) (end : End) → length octets ≤ room → lines_read held room false end octets ≡ whole_read end (held ++ octets)
under_is held octets room end fits = rw (le-ltb room (length octets) fits) refl

-- the same lines are given of what gives the same lines
pub reads_alike : (one other : List ℕ) → AreAlike one other → (room : ℕ) (over : Bool) (end : End) (octets : List ℕ) → lines_read one room over end octets ≡ lines_read other room over end octets
unfolding AreAlike cut_is
reads_alike one other alike room true end octets = ap (λ (l : List ℕ). cut_read l) (sym (append-nil one)) ∙ ap cut_is (alike false []) ∙ ap (λ (l : List ℕ). cut_read l) (append-nil other)
reads_alike one other alike room false end octets = elim (cases_lt room (length octets)) [
  | inl over ↦ over_is one octets room end over ∙ ap cut_is (alike false (take room octets)) ∙ sym (over_is other octets room end over)
  | inr fits ↦
      under_is one octets room end fits ∙ whole_is end (one ++ octets) ∙ ap (ended_is end) (alike (goes_no_further end) octets) ∙ sym (whole_is end (other ++ octets)) ∙ sym (under_is other octets room end fits)
]

-- and a line first of what has it first
pub reads_follow : (whole line rest : List ℕ) → Follows whole line rest → (room : ℕ) (over : Bool) (end : End) (octets : List ℕ) → lines_read whole room over end octets ≡ first line (lines_read rest room over end octets)
unfolding Follows cut_is
reads_follow whole line rest follows room true end octets =
    ap (λ (l : List ℕ). cut_read l) (sym (append-nil whole)) ∙ ap cut_is (follows false []) ∙ ap (λ (l : List ℕ). first line (cut_read l)) (append-nil rest)
reads_follow whole line rest follows room false end octets = elim (cases_lt room (length octets)) [
  | inl over ↦ over_is whole octets room end over ∙ ap cut_is (follows false (take room octets)) ∙ sym (ap (first line) (over_is rest octets room end over))
  | inr fits ↦
      under_is whole octets room end fits ∙ whole_is end (whole ++ octets) ∙ ap (ended_is end) (follows (goes_no_further end) octets)
      ∙ ended_first end line (lines_shown (goes_no_further end) (rest ++ octets)) ∙ ap (first line) (sym (whole_is end (rest ++ octets)) ∙ sym (under_is rest octets room end fits))
]

-- it doesn't matter where a chunk ends
reads_chunk : (held octets : List ℕ) (room : ℕ) (end : End) (more : List ℕ)
    → lines_read held room false end (octets ++ more) ≡ lines_read (held ++ take room octets) (room - length octets) (nat_lt room (length octets)) end more
reads_chunk held octets room end more = elim (cases_lt room (length octets)) [
  | inl over ↦
      over_is held (octets ++ more) room end (omega (arith, over, length-append octets more))
      ∙ ap (λ (l : List ℕ). cut_read (held ++ l)) (take-append-le room octets more (omega (arith, over)))
      ∙ sym (ap (λ (b : Bool). lines_read (held ++ take room octets) (room - length octets) b end more) (lt-ltb room (length octets) over))
  | inr fits ↦ within fits ∙ sym (ap (λ (b : Bool). lines_read (held ++ take room octets) (room - length octets) b end more) (le-ltb room (length octets) fits))
]
  where
    within : length octets ≤ room → lines_read held room false end (octets ++ more) ≡ lines_read (held ++ take room octets) (room - length octets) false end more
    within fits =
        let all : take room octets ≡ octets = take_all room octets fits in
        elim (cases_lt (room - length octets) (length more)) [
          | inl over ↦
              over_is held (octets ++ more) room end (omega (arith, over, length-append octets more))
              ∙ ap (λ (l : List ℕ). cut_read (held ++ l)) (take_past room octets more fits)
              ∙ ap cut_read (sym (append_assoc held octets (take (room - length octets) more)))
              ∙ ap (λ (l : List ℕ). cut_read ((held ++ l) ++ take (room - length octets) more)) (sym all)
              ∙ sym (over_is (held ++ take room octets) more (room - length octets) end over)
          | inr short ↦
              under_is held (octets ++ more) room end (omega (arith, short, fits, length-append octets more))
              ∙ ap (whole_read end) (sym (append_assoc held octets more))
              ∙ ap (λ (l : List ℕ). whole_read end ((held ++ l) ++ more)) (sym all)
              ∙ sym (under_is (held ++ take room octets) more (room - length octets) end short)
        ]

-- ---- how many lines may still be

pub part_less : (unread line unread_now line_now : List ℕ) → TakesPart false unread line unread_now line_now → length (line_now ++ unread_now) ≤ length (line ++ unread)
unfolding kept
part_less unread line unread_now line_now takes = omega (arith, length-append line_now unread_now, length-append line unread, ap length takes.1, ap length takes.2, length-take 16386 (line ++ unread))

-- a chunk was read
pub chunk_less : (room count held held_now room_now : ℕ) (short : Bool) → count ≢ 0 → room_now ≡ room - count → held_now ≤ held + min count room → (short ≡ true → count < room)
    → 3 * room_now + (2 * held_now + (if short then 1 else 0)) ≤ 3 * room + (2 * held + 0)
chunk_less room count held held_now room_now true some room_is held_is less = omega (arith, some, room_is, held_is, less refl)
chunk_less room count held held_now room_now false some room_is held_is less = omega (arith, some, room_is, held_is)

-- ---- a reader between records to the next line

module _ (left left_now : Option (List ℕ)) (reads : End → List ℕ → Reads (List ℕ)) (line unread unread_now line_now : List ℕ) (room : ℕ) (over : Bool) (seeks : Seeks left left_now reads (lines_read (line ++ unread) room over)) (plain : HasNoEnd line) where
  -- the line was found
  pub seeks_line : (item front rest : List ℕ) (room_now : ℕ) (over_now : Bool) → TakesPart true unread line unread_now line_now → item ≡ shown (strip_carriage_return line_now) → front ≡ [] → rest ≡ unread_now → room_now ≡ room → over_now ≡ over
      → (octets : List ℕ) × Consumes left left_now octets × ((end : End) (more : List ℕ) → reads end (octets ++ more) ≡ first item (lines_read (front ++ rest) room_now over_now end more))
  seeks_line item front rest room_now over_now takes item_is front_is rest_is room_is over_now_is = (
    seeks.octets,
    seeks.consumed,
    λ end more.
        let shows : shown (strip_carriage_return (kept (line ++ takes.0))) ≡ item = ap (λ (l : List ℕ). shown (strip_carriage_return l)) (sym takes.3) ∙ sym item_is in
        let held : unread_now ≡ front ++ rest = sym rest_is ∙ ap (λ (l : List ℕ). l ++ rest) (sym front_is) in
        seeks.is end more ∙ ap (λ (l : List ℕ). lines_read (line ++ l) room over end more) takes.2
        ∙ reads_follow (line ++ (takes.0 ++ 10 ∷ unread_now)) (shown (strip_carriage_return (kept (line ++ takes.0)))) unread_now (follows_line line takes.0 unread_now plain takes.1) room over end more
        ∙ ap₂ (λ (a b : List ℕ). first a (lines_read b room over end more)) shows held
        ∙ ap₂ (λ (n : ℕ) (b : Bool). first item (lines_read (front ++ rest) n b end more)) (sym room_is) (sym over_now_is),
  )

  -- all that was left is of the line
  pub seeks_on : TakesPart false unread line unread_now line_now → Seeks left left_now reads (lines_read (line_now ++ unread_now) room over)
  seeks_on takes =
      record {
        octets = seeks.octets;
        consumed = seeks.consumed;
        is = λ end more.
            let held : kept (line ++ unread) ≡ line_now ++ unread_now = sym takes.2 ∙ sym (append-nil line_now) ∙ ap (λ (l : List ℕ). line_now ++ l) (sym takes.1) in
            seeks.is end more ∙ sym (reads_alike (kept (line ++ unread)) (line ++ unread) (alike_kept (line ++ unread) (plain_append line unread plain takes.0)) room over end more)
            ∙ ap (λ (l : List ℕ). lines_read l room over end more) held;
      }

module _ (left mid left_now : Option (List ℕ)) (reads : End → List ℕ → Reads (List ℕ)) (line unread : List ℕ) (room : ℕ) (over : Bool) (seeks : Seeks left mid reads (lines_read (line ++ unread) room over)) (none : unread ≡ []) where
  held_is : line ++ unread ≡ line
  held_is = ap (λ (l : List ℕ). line ++ l) none ∙ append-nil line

  -- a further chunk was read
  pub seeks_more : (octets line_now unread_now : List ℕ) (room_now : ℕ) (over_now : Bool) → Consumes mid left_now octets → over ≡ false → line_now ≡ line → unread_now ≡ take room octets → room_now ≡ room - length octets → over_now ≡ nat_lt room (length octets)
      → Seeks left left_now reads (lines_read (line_now ++ unread_now) room_now over_now)
  seeks_more octets line_now unread_now room_now over_now consumed under line_is unread_is room_is over_is =
      record {
        octets = seeks.octets ++ octets;
        consumed = Consumes-trans left mid left_now seeks.octets octets seeks.consumed consumed;
        is = λ end more.
            ap (reads end) (append_assoc seeks.octets octets more) ∙ seeks.is end (octets ++ more)
            ∙ ap₂ (λ (l : List ℕ) (b : Bool). lines_read l room b end (octets ++ more)) held_is under
            ∙ reads_chunk line octets room end more
            ∙ ap₂ (λ (a b : List ℕ). lines_read (a ++ b) (room - length octets) (nat_lt room (length octets)) end more) (sym line_is) (sym unread_is)
            ∙ ap₂ (λ (n : ℕ) (b : Bool). lines_read (line_now ++ unread_now) n b end more) (sym room_is) (sym over_is);
      }

  -- there is more than may be read
  pub seeks_too_long : HasNoEnd line → over ≡ true
      → (octets : List ℕ) × Consumes left mid octets × ((more : List ℕ) → Left mid more → reads Ends (octets ++ more) ≡ record { items = []; behind = Closed close.TooLong }) × Unit {0}
  unfolding cut_is
  seeks_too_long plain past = (
    seeks.octets,
    seeks.consumed,
    λ more left. seeks.is Ends more ∙ ap₂ (λ (l : List ℕ) (b : Bool). lines_read l room b Ends more) held_is past ∙ ap (λ (ls : List (List ℕ)). cut_is (map shown ls)) (none_open line plain),
    tt,
  )

  -- a read failed
  pub seeks_failed : HasNoEnd line → over ≡ false → Keeps mid left_now → (octets : List ℕ) × Consumes left left_now octets × (reads Fails octets ≡ record { items = []; behind = Cut })
  seeks_failed plain under same = (
    seeks.octets,
    Consumes-kept left mid left_now seeks.octets seeks.consumed same,
    ap (reads Fails) (sym (append-nil seeks.octets)) ∙ seeks.is Fails [] ∙ ap₂ (λ (l : List ℕ) (b : Bool). lines_read l room b Fails []) held_is under
        ∙ under_is line [] room Fails (omega arith) ∙ ap (whole_read Fails) (append-nil line) ∙ ap (λ (ls : List (List ℕ)). record { items = map shown ls; behind = Cut }) (none_open line plain),
  )

-- ---- at the end of the source

pub none_long : (octets : List ℕ) → length octets ≡ 0 → octets ≡ []
none_long [] is = refl
none_long (octet ∷ octets) is = absurd (omega arith)

module _ (left left_now : Option (List ℕ)) (reads : End → List ℕ → Reads (List ℕ)) (line unread : List ℕ) (room : ℕ) (over : Bool) (seeks : Seeks left left_now reads (lines_read (line ++ unread) room over)) (none : unread ≡ []) (under : over ≡ false) (at_end : IsAtEnd left_now) where
  whole_line : (more : List ℕ) → Left left_now more → reads Ends (seeks.octets ++ more) ≡ record { items = lines_shown true line; behind = Closed close.Ended }
  whole_line more left_more =
      ap (λ (l : List ℕ). reads Ends (seeks.octets ++ l)) (nothing_left left_now more at_end left_more) ∙ seeks.is Ends []
      ∙ ap₂ (λ (l : List ℕ) (b : Bool). lines_read l room b Ends []) (ap (λ (l : List ℕ). line ++ l) none ∙ append-nil line) under
      ∙ under_is line [] room Ends (omega arith) ∙ ap (whole_read Ends) (append-nil line)

  pub seeks_end : length line ≡ 0
      → (octets : List ℕ) × Consumes left left_now octets × ((more : List ℕ) → Left left_now more → reads Ends (octets ++ more) ≡ record { items = []; behind = Closed close.Ended }) × IsAtEnd left_now
  unfolding ended_is
  seeks_end empty = (
    seeks.octets,
    seeks.consumed,
    λ more left_more. whole_line more left_more ∙ ap (λ (l : List ℕ). ended_is Ends (lines_shown true l)) (none_long line empty) ∙ ap (λ (ls : List (List ℕ)). ended_is Ends (map shown ls)) none_whole,
    at_end,
  )

  pub seeks_last : (item : List ℕ) → HasNoEnd line → length line ≢ 0 → item ≡ shown line
      → (octets : List ℕ) × Consumes left left_now octets × ((more : List ℕ) → Left left_now more → reads Ends (octets ++ more) ≡ record { items = item ∷ []; behind = Closed close.Ended }) × IsAtEnd left_now
  seeks_last item plain some is = (
    seeks.octets,
    seeks.consumed,
    λ more left_more.
        whole_line more left_more ∙ ap (λ (ls : List (List ℕ)). record { items = map shown ls; behind = Closed close.Ended }) (one_whole line plain some)
        ∙ ap (λ (l : List ℕ). record { items = l ∷ []; behind = Closed close.Ended }) (sym is),
    at_end,
  )
