-- How much of a capture is read, and captures without a partial record.
use Rattle.std.specs.Prelude.{ℕ, ◌≡◌, Bool, nat_le, List, length, take, Ok, None}
use Rattle.wire_base.specs.declared.limits.TheConstants.{CAPTURE_LIMIT}
use Rattle.command_drive.specs.CaptureReading.{any_unread, any_fed, any_drained, any_next}

-- A capture has at most 268,435,456 octets. Of a longer one the records are read that are complete within them.
unfoldable pub within_limit : List ℕ → List ℕ
within_limit input = take CAPTURE_LIMIT input

abbrev pub is_within : List ℕ → Bool
is_within input = nat_le (length input) CAPTURE_LIMIT

-- The octets read so far contain neither a further complete record nor a fault.
abbrev pub IsOpen : List ℕ → Type 0
IsOpen octets = (any_next (any_drained (any_fed any_unread octets)).1).0 ≡ Ok None
