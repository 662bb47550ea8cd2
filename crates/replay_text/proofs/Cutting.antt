-- Texts cut at an octet, and words.
use Rattle.std.proofs.Common.{◌≡◌, ◌≢◌, ℕ, ◌+◌, ◌<◌, ◌≤◌, Bool, true, false, eqb, List, [], ◌∷◌, ◌++◌, length, get_or, take, drop, All, refl, sym, ap, ◌∙◌, arith}
use Rattle.std.proofs.lemmas.Bool.{eq-eqb, ne_eqb, true≢false, false_from_ne_true}
use Rattle.std.proofs.lemmas.List.{take-append-drop, drop_more, get_or-take, length-take}
use Rattle.std.proofs.lemmas.List.Elements.{All-from_get_or}
use Rattle.std.proofs.lemmas.List.Splits.{slice_split_at, slice_split_none, length-slice_split}
use Rattle.std.specs.Str.Lines.{lines_of_parts, strip_carriage_return}
use Rattle.replay_text.specs.Pieces.{pieces, words_of, filled, lines_of, ended_lines, before_ends, lines_in}

pub cut_at : (stop i : ℕ) (text : List ℕ) → i < length text → All (λ x. eqb x stop ≡ false) (take i text) → get_or text i 0 ≡ stop → pieces stop text ≡ take i text ∷ pieces stop (drop (i + 1) text)
cut_at stop i text lt none is =
    let whole : text ≡ take i text ++ get_or text i 0 ∷ drop (i + 1) text = sym (take-append-drop i text) ∙ ap (λ (l : List ℕ). take i text ++ l) (drop_more text i 0 lt) in
    ap (pieces stop) whole ∙ slice_split_at (λ b. eqb b stop) (take i text) (get_or text i 0) (drop (i + 1) text) none (eq-eqb _ _ is)

-- no octet before an index is the one that is looked for
pub none_before : (stop i : ℕ) (text : List ℕ) → i ≤ length text → ((k : ℕ) → 0 ≤ k → k < i → (eqb (get_or text k 0) stop ≡ true → ⊥)) → All (λ x. eqb x stop ≡ false) (take i text)
none_before stop i text le none = All-from_get_or (λ x. eqb x stop ≡ false) (take i text) 0 (λ k lt.
    let below : k < i = omega (arith, lt, length-take i text) in
    false_from_ne_true (eqb (get_or (take i text) k 0) stop) (λ is. none k (omega arith) below (sym (ap (λ (x : ℕ). eqb x stop) (get_or-take i text k 0 below)) ∙ is)))

pub cut_none : (stop : ℕ) (text : List ℕ) → All (λ x. eqb x stop ≡ false) text → pieces stop text ≡ text ∷ []
cut_none stop text none = slice_split_none (λ b. eqb b stop) text none

filled_some : (word : List ℕ) (more : List (List ℕ)) → length word ≢ 0 → filled (word ∷ more) ≡ word ∷ filled more
filled_some word more some = rw (ne_eqb (length word) 0 some) refl

filled_empty : (word : List ℕ) (more : List (List ℕ)) → length word ≡ 0 → filled (word ∷ more) ≡ filled more
filled_empty word more none = rw (eq-eqb (length word) 0 none) refl

pub words_last : (rest word : List ℕ) → pieces 32 rest ≡ word ∷ [] → length word ≢ 0 → words_of rest ≡ word ∷ words_of []
unfolding words_of
words_last rest word is some = ap filled is ∙ filled_some word [] some

pub words_end : (rest word : List ℕ) → pieces 32 rest ≡ word ∷ [] → length word ≡ 0 → words_of rest ≡ []
unfolding words_of
words_end rest word is none = ap filled is ∙ filled_empty word [] none

pub words_first : (rest word next : List ℕ) → pieces 32 rest ≡ word ∷ pieces 32 next → length word ≢ 0 → words_of rest ≡ word ∷ words_of next
unfolding words_of
words_first rest word next is some = ap filled is ∙ filled_some word (pieces 32 next) some

pub words_skip : (rest word next : List ℕ) → pieces 32 rest ≡ word ∷ pieces 32 next → length word ≡ 0 → words_of rest ≡ words_of next
unfolding words_of
words_skip rest word next is none = ap filled is ∙ filled_empty word (pieces 32 next) none

whole_cons : (line : List ℕ) (more : List (List ℕ)) → 0 < length more → lines_of_parts (line ∷ more) ≡ strip_carriage_return line ∷ lines_of_parts more
whole_cons line [] some = absurd (omega arith)
whole_cons line (next ∷ more) some = refl

open_cons : (line : List ℕ) (more : List (List ℕ)) → 0 < length more → before_ends (line ∷ more) ≡ strip_carriage_return line ∷ before_ends more
open_cons line [] some = absurd (omega arith)
open_cons line (next ∷ more) some = refl

-- a text with an LF begins with a line
pub line_first : (ended : Bool) (text line next : List ℕ) → pieces 10 text ≡ line ∷ pieces 10 next → lines_in ended text ≡ strip_carriage_return line ∷ lines_in ended next
unfolding lines_of ended_lines
line_first true text line next is = ap lines_of_parts is ∙ whole_cons line (pieces 10 next) (omega (arith, length-slice_split (λ b. eqb b 10) next))
line_first false text line next is = ap before_ends is ∙ open_cons line (pieces 10 next) (omega (arith, length-slice_split (λ b. eqb b 10) next))

-- a whole text without one is its one line
pub line_last : (ended : Bool) (text line : List ℕ) → pieces 10 text ≡ line ∷ [] → ended ≡ true → length line ≢ 0 → lines_in ended text ≡ line ∷ lines_in ended []
unfolding lines_of ended_lines
line_last true text line is whole some = ap lines_of_parts is ∙ rw (ne_eqb (length line) 0 some) refl
line_last false text line is whole some = absurd (true≢false (sym whole))

-- an empty text has none
pub line_none : (ended : Bool) (text line : List ℕ) → pieces 10 text ≡ line ∷ [] → length line ≡ 0 → lines_in ended text ≡ []
unfolding lines_of ended_lines
line_none true text line is none = ap lines_of_parts is ∙ rw (eq-eqb (length line) 0 none) refl
line_none false text line is none = ap before_ends is

-- and so has one that may go on
pub line_open : (ended : Bool) (text line : List ℕ) → pieces 10 text ≡ line ∷ [] → ended ≡ false → lines_in ended text ≡ []
unfolding lines_of ended_lines
line_open true text line is goes = absurd (true≢false goes)
line_open false text line is goes = ap before_ends is
