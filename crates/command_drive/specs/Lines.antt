-- Text that is read in chunks and returned line by line.
use Rattle.std.specs.Prelude.{ℕ, ◌≡◌, ◌+◌, ◌*◌, ◌==◌, Bool, true, false, nat_lt, List, [], ◌∷◌, ◌++◌, length, take, map, All, if◌then◌else◌}
use Rattle.wire_base.specs.declared.limits.TheConstants.{LINE_LIMIT}
use Rattle.replay_text.specs.Pieces.{lines_in}
use Rattle.command_drive.specs.declared.items.Close.TheVariants as close
use Rattle.command_drive.specs.Reading.{End, Ends, Fails, Closed, Cut, Reads}

-- Of a line that is too long a prefix is returned, which is too long as well.
unfoldable pub shown : List ℕ → List ℕ
shown line = take (LINE_LIMIT + 1) line

-- the lines of a complete text, or of one that may continue
abbrev pub lines_shown : Bool → List ℕ → List (List ℕ)
lines_shown ended text = map shown (lines_in ended text)

-- for a text that was cut at its limit, and for a whole one
abbrev pub cut_read : List ℕ → Reads (List ℕ)
cut_read text = record { items = lines_shown false text; behind = Closed close.TooLong }

abbrev pub whole_read : End → List ℕ → Reads (List ℕ)
whole_read Ends text = record { items = lines_shown true text; behind = Closed close.Ended }
whole_read Fails text = record { items = lines_shown false text; behind = Cut }

-- The items that a reader returns from further octets. It holds the octets `held` of the text and may read `room` more;
-- with `over` it has found more octets than it may read.
abbrev pub lines_read : (held : List ℕ) → (room : ℕ) → (over : Bool) → End → List ℕ → Reads (List ℕ)
lines_read held room true end octets = cut_read held
lines_read held room false end octets = if nat_lt room (length octets) then cut_read (held ++ take room octets) else whole_read end (held ++ octets)

-- how many lines and waits may still occur
abbrev pub lines_left : (held : List ℕ) → (room : ℕ) → (short : Bool) → ℕ
lines_left held room short = 3 * room + (2 * length held + (if short then 1 else 0))

-- ---- the parts of a line

-- octets of one line
abbrev pub HasNoEnd : List ℕ → Type 0
HasNoEnd octets = All (λ octet. (octet == 10) ≡ false) octets

-- how much of a line is kept: a line of that length is too long, with or without a CR at its end
unfoldable pub kept : List ℕ → List ℕ
kept line = take (LINE_LIMIT + 2) line

-- what becomes of the octets up to the first LF, or of all if there is none, and of the part of the line that is kept
abbrev pub TakesPart : Bool → (unread line unread_now line_now : List ℕ) → Type 0
TakesPart true unread line unread_now line_now = (part : List ℕ) × HasNoEnd part × (unread ≡ part ++ 10 ∷ unread_now) × (line_now ≡ kept (line ++ part))
TakesPart false unread line unread_now line_now = HasNoEnd unread × (unread_now ≡ []) × (line_now ≡ kept (line ++ unread))
