-- The blocks of a pcapng capture (draft-ietf-opsawg-pcapng, 3.1): a type and a total length of four octets each, a body, and the
-- total length again. A section header (4.1) determines the byte order of all numbers up to the next one.
use Rattle.std.specs.Prelude.{ℕ, ◌-◌, ◌%◌, Bool, ◌&&◌, List, length, drop, Result, Ok, Err, Option, Some, None, nat_lt, nat_le, ◌==◌, if◌then◌else◌}
use Rattle.byteorder.specs.Endian.{big_number, little_number}
use Rattle.pcapng_frames.specs.declared.order.Order.{Order}
use Rattle.pcapng_frames.specs.declared.order.Order.TheVariants as orders
use Rattle.pcapng_frames.specs.declared.block.Block.{Block}
use Rattle.pcapng_frames.specs.declared.block.TheConstants.{SECTION_HEADER, INTERFACE, SIMPLE_PACKET, ENHANCED_PACKET, LONGEST_BLOCK}
use Rattle.pcapng_frames.specs.declared.faults.NgFault.{NgFault}
use Rattle.pcapng_frames.specs.declared.faults.NgFault.TheVariants as faults

-- the number in the first octets
abbrev pub number : Order → ℕ → List ℕ → ℕ
number orders.Big n octets = big_number n octets
number orders.Little n octets = little_number n octets

-- the byte order of a byte-order magic, 1A2B3C4D, read with its highest octet first
abbrev pub order_of : ℕ → Option Order
order_of magic =
    if magic == 439041101 then Some orders.Big else
    if magic == 1295788826 then Some orders.Little else
    None

-- the least total length of a block of that type
abbrev pub least : ℕ → ℕ
least kind =
    if kind == SECTION_HEADER then 28 else
    if kind == INTERFACE then 20 else
    if kind == ENHANCED_PACKET then 32 else
    if kind == SIMPLE_PACKET then 16 else
    12

abbrev pub is_length : ℕ → ℕ → Bool
is_length kind size = nat_le (least kind) size && ((size % 4 == 0) && nat_le size LONGEST_BLOCK)

-- A block of that type and total length: whole, nothing yet, or of two lengths.
abbrev pub whole_at : Order → ℕ → ℕ → List ℕ → Result (Option Block) NgFault
whole_at order kind size octets =
    if nat_lt (length octets) size then Ok None else
    if number order 4 (drop (size - 4) octets) == size then Ok (Some (record { order = order; kind = kind; size = size })) else
    Err faults.NgLength

abbrev pub sized_at : Order → ℕ → ℕ → List ℕ → Result (Option Block) NgFault
sized_at order kind size octets = if is_length kind size then whole_at order kind size octets else Err faults.NgLength

-- the same for a section header, whose byte-order magic was recognized or not
abbrev pub section_at : Option Order → List ℕ → Result (Option Block) NgFault
section_at None octets = Err faults.NgOrder
section_at (Some order) octets = sized_at order SECTION_HEADER (number order 4 (drop 4 octets)) octets

-- and for any other block, in a section of that byte order or before the first one
abbrev pub inner_at : Option Order → List ℕ → Result (Option Block) NgFault
inner_at None octets = Err faults.NgMagic
inner_at (Some order) octets = if nat_lt (length octets) 8 then Ok None else sized_at order (number order 4 octets) (number order 4 (drop 4 octets)) octets

-- The block at the front of what was received so far, nothing yet, or the first rule that it breaks. The type of a section
-- header is the same in both byte orders.
unfoldable pub block_at : Option Order → List ℕ → Result (Option Block) NgFault
block_at within octets =
    if nat_lt (length octets) 4 then Ok None else
    if big_number 4 octets == SECTION_HEADER then (if nat_lt (length octets) 12 then Ok None else section_at (order_of (big_number 4 (drop 8 octets))) octets) else
    inner_at within octets
