-- Text that is split into lines, words and the items of a list.
use Rattle.std.specs.Prelude.{ℕ, ◌≡◌, Bool, List, [], ◌∷◌, ◌==◌, length, Option, Some, None, if◌then◌else◌}
use Rattle.std.specs.List.{slice_split}
use Rattle.std.specs.Str.Lines.{lines, strip_carriage_return}

-- the parts between the octets of that value: at least one
abbrev pub pieces : ℕ → List ℕ → List (List ℕ)
pieces stop text = slice_split (λ b. b == stop) text

-- the parts after the first, if a text follows it
abbrev pub more_pieces : ℕ → Option (List ℕ) → List (List ℕ)
more_pieces stop None = []
more_pieces stop (Some text) = pieces stop text

-- the first part has a property
pub record FirstIs (stop : ℕ) (text : List ℕ) (P : List ℕ → Type 0) : Type 0 where
  pub piece : List ℕ
  pub more : List (List ℕ)
  pub split : pieces stop text ≡ piece ∷ more
  pub is : P piece

-- the first part, before the rest of the text if there is one, has a property
pub record FirstBefore (stop : ℕ) (text : List ℕ) (rest : Option (List ℕ)) (P : List ℕ → Type 0) : Type 0 where
  pub piece : List ℕ
  pub split : pieces stop text ≡ piece ∷ more_pieces stop rest
  pub is : P piece

-- The lines of a complete text. Each ends with LF, before which one CR is dropped. The last may lack its LF.
unfoldable pub lines_of : List ℕ → List (List ℕ)
lines_of text = lines text

-- what precedes each LF, less one CR
abbrev pub before_ends : List (List ℕ) → List (List ℕ)
before_ends [] = []
before_ends (rest ∷ []) = []
before_ends (line ∷ next ∷ more) = strip_carriage_return line ∷ before_ends (next ∷ more)

-- The lines of a prefix of a text: those that end with LF.
unfoldable pub ended_lines : List ℕ → List (List ℕ)
ended_lines text = before_ends (pieces 10 text)

-- the lines of a complete text, or of one that may continue
abbrev pub lines_in : Bool → List ℕ → List (List ℕ)
lines_in ended text = if ended then lines_of text else ended_lines text

-- the parts that are not empty
abbrev pub filled : List (List ℕ) → List (List ℕ)
filled [] = []
filled (piece ∷ more) = if length piece == 0 then filled more else piece ∷ filled more

-- Words are separated by one or more spaces; spaces before the first and after the last are ignored.
unfoldable pub words_of : List ℕ → List (List ℕ)
words_of line = filled (pieces 32 line)

-- the word, if it is the only one
abbrev pub only_word : List (List ℕ) → Option (List ℕ)
only_word [] = None
only_word (word ∷ []) = Some word
only_word (word ∷ next ∷ more) = None

-- the two words, if there are two
abbrev pub two_words : List (List ℕ) → Option (List ℕ × List ℕ)
two_words [] = None
two_words (first ∷ []) = None
two_words (first ∷ second ∷ []) = Some (first, second)
two_words (first ∷ second ∷ third ∷ more) = None
