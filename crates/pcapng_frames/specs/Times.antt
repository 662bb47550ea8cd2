-- The interfaces of a section (draft-ietf-opsawg-pcapng, 4.2) and the resolution of their times (option if_tsresol).
use Rattle.std.specs.Prelude.{ℕ, zero, suc, ◌+◌, ◌-◌, ◌*◌, ◌/◌, ◌%◌, ◌^◌, ◌&&◌, ◌||◌, List, length, drop, slice_index, Option, Some, None, nat_lt, nat_le, ◌==◌, if◌then◌else◌}
use Rattle.pcapng_frames.specs.declared.order.Order.{Order}
use Rattle.pcapng_frames.specs.declared.moment.Moment.{Moment}
use Rattle.pcapng_frames.specs.Blocks.{number}

-- how many units of time a second has, for a resolution: 10 to the power n for the octet n, 2 to the power n for 128 + n
abbrev pub units : ℕ → Option ℕ
units resolution =
    if nat_le resolution 18 then Some (10 ^ resolution) else
    if nat_le 128 resolution && nat_le resolution 191 then Some (2 ^ (resolution - 128)) else
    None

-- the second and the microsecond, both cut down, of a number of units of which a second has that many; none if the seconds do
-- not fit 32 bits
abbrev pub moment_of : ℕ → ℕ → Option Moment
moment_of ticks second =
    if nat_lt 4294967295 (ticks / second) then None else
    Some (record { sec = ticks / second; usec = (ticks % second) * 1000000 / second })

abbrev pub moment_in : ℕ → Option ℕ → Option Moment
moment_in ticks None = None
moment_in ticks (Some second) = moment_of ticks second

-- the length of an option's value with its padding
abbrev pub padded : ℕ → ℕ
padded n = (n + 3) / 4 * 4

-- The resolution that options give: the octet of the first option 9 of length 1, or microseconds, 6, without one. The options
-- end at code 0, where fewer than 4 octets are left, and where a value passes the octets. At most that many options are looked at.
abbrev pub option_on : (List ℕ → ℕ) → ℕ → ℕ → List ℕ → ℕ
option_on more code size options =
    if (code == 0) || nat_lt (length options) (4 + padded size) then 6 else
    if (code == 9) && (size == 1) then slice_index options 4 else
    more (drop (4 + padded size) options)

unfoldable pub resolution_by : Order → ℕ → List ℕ → ℕ
resolution_by order zero options = 6
resolution_by order (suc most) options =
    if nat_lt (length options) 4 then 6 else
    option_on (resolution_by order most) (number order 2 options) (number order 2 (drop 2 options)) options

-- All of them: each has 4 octets or more.
unfoldable pub resolution_of : Order → List ℕ → ℕ
resolution_of order options = resolution_by order (length options) options
