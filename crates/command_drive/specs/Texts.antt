-- Text that is processed line by line: how much of it is read, and how it closes.
use Rattle.std.specs.Prelude.{ℕ, Bool, true, false, nat_le, List, length, take}
use Rattle.replay_text.specs.Pieces.{lines_in}
use Rattle.wire_base.specs.declared.limits.TheConstants.{TEXT_LIMIT}

-- A text has at most 67,108,864 octets. Of a longer one the lines are read that end within them.
abbrev pub is_short : List ℕ → Bool
is_short text = nat_le (length text) TEXT_LIMIT

unfoldable pub within_limit : List ℕ → List ℕ
within_limit text = take TEXT_LIMIT text

-- the lines of a text that are read
abbrev pub lines_within : List ℕ → List (List ℕ)
lines_within text = lines_in (is_short text) (within_limit text)

-- What follows the lines: the text ends, it exceeds the size limit, or its source failed.
pub data Close : Type 0 where
  Ended : Close
  Longer : Close
  Cut : Close

abbrev pub close_of : Bool → Close
close_of true = Ended
close_of false = Longer
