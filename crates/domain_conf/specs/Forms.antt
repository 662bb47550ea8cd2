-- The formats of single values: what a text or a number encodes, if it has the format that its key requires.
use Rattle.std.specs.Prelude.{ℕ, ◌+◌, ◌-◌, ◌*◌, ◌%◌, Bool, true, false, ◌==◌, ◌&&◌, ◌||◌, nat_le, nat_lt, ℤ, pos, negsuc, List, [], ◌∷◌, length, slice_index, Option, Some, None, option_map, option_and_then, codes, if◌then◌else◌}
use Rattle.std.specs.List.{list_all, slice_split}
use Rattle.std.specs.Str.{bytes_eq}
use Rattle.wire_base.specs.declared.addresses.SystemId.{SystemId}
use Rattle.wire_base.specs.declared.addresses.Mac.{Mac}
use Rattle.wire_base.specs.declared.addresses.Ipv4.{Ipv4}
use Rattle.wire_base.specs.declared.bsl.Bsl.{Bsl}
use Rattle.wire_base.specs.declared.conf.Kind.{Kind}
use Rattle.wire_base.specs.declared.conf.Kind.TheVariants.{Mpls, Configured}
use Rattle.wire_base.specs.declared.conf.Level.{Level}
use Rattle.wire_base.specs.declared.conf.Level.TheVariants.{One, Two}
use Rattle.wire_base.specs.model.Configuration.{is_between, is_name}
use Rattle.wire_base.specs.model.Place.{bsl_with}

-- ---- numbers

-- a number within bounds
abbrev pub nat_within : ℕ → ℕ → ℤ → Option ℕ
nat_within low high (pos n) = if nat_le low n && nat_le n high then Some n else None
nat_within low high (negsuc n) = None

-- a BitStringLength, by its number of bits
abbrev pub bsl_in : ℤ → Option Bsl
bsl_in (pos n) = bsl_with n
bsl_in (negsuc n) = None

abbrev pub level_of : ℕ → Option Level
level_of n = if n == 1 then Some One else if n == 2 then Some Two else None

abbrev pub level_in : ℤ → Option Level
level_in (pos n) = level_of n
level_in (negsuc n) = None

-- ---- keywords

abbrev pub kind_named : List ℕ → Option Kind
kind_named text =
    if bytes_eq text (codes "mpls") then Some Mpls else
    if bytes_eq text (codes "configured") then Some Configured else
    None

abbrev pub name_in : List ℕ → Option (List ℕ)
name_in text = if is_name text then Some text else None

-- ---- octets in hexadecimal digits, of either case

unfoldable pub hex_digit : ℕ → Option ℕ
hex_digit c =
    if is_between 48 57 c then Some (c - 48) else
    if is_between 65 70 c then Some (c - 55) else
    if is_between 97 102 c then Some (c - 87) else
    None

-- the octet of two digits
unfoldable pub hex_octet : ℕ → ℕ → Option ℕ
hex_octet high low = option_and_then (λ h. option_map (λ l. 16 * h + l) (hex_digit low)) (hex_digit high)

-- one more octet at the front
abbrev pub before : ℕ → Option (List ℕ) → Option (List ℕ)
before x more = option_map (λ xs. x ∷ xs) more

-- the octets that a text encodes, two digits each
unfoldable pub hex_octets : List ℕ → Option (List ℕ)
hex_octets [] = Some []
hex_octets (high ∷ []) = None
hex_octets (high ∷ low ∷ more) = option_and_then (λ x. before x (hex_octets more)) (hex_octet high low)

-- the octets whose two digits are at those indices of a text
unfoldable pub octets_at : List ℕ → List ℕ → Option (List ℕ)
octets_at text [] = Some []
octets_at text (at ∷ places) = option_and_then (λ x. before x (octets_at text places)) (hex_octet (slice_index text at) (slice_index text (at + 1)))

-- a text of that length with that character at each of those indices
abbrev pub is_parted : ℕ → ℕ → List ℕ → List ℕ → Bool
is_parted size mark places text = (length text == size) && list_all (λ at. slice_index text at == mark) places

abbrev pub in_size : ℕ → ℕ → List ℕ → Option (List ℕ)
in_size low high xs = if is_between low high (length xs) then Some xs else None

-- an area address of 1 to 13 octets (ISO/IEC 10589, 7.1)
unfoldable pub area_in : List ℕ → Option (List ℕ)
area_in text = option_and_then (in_size 1 13) (hex_octets text)

-- a system ID, such as `0000.0000.0001`
unfoldable pub system_octets : List ℕ → Option (List ℕ)
system_octets text =
    if is_parted 14 46 (4 ∷ 9 ∷ []) text then octets_at text (0 ∷ 2 ∷ 5 ∷ 7 ∷ 10 ∷ 12 ∷ []) else None

abbrev pub system_of : List ℕ → SystemId
system_of octets = record { 0 = octets }

abbrev pub system_in : List ℕ → Option SystemId
system_in text = option_map system_of (system_octets text)

-- the first octet of a unicast address is even (IEEE 802.3, 3.2.3)
abbrev pub if_station : List ℕ → Option (List ℕ)
if_station octets = if slice_index octets 0 % 2 == 0 then Some octets else None

-- an Ethernet address, such as `02:00:00:00:00:01`
unfoldable pub mac_octets : List ℕ → Option (List ℕ)
mac_octets text =
    if is_parted 17 58 (2 ∷ 5 ∷ 8 ∷ 11 ∷ 14 ∷ []) text
    then option_and_then if_station (octets_at text (0 ∷ 3 ∷ 6 ∷ 9 ∷ 12 ∷ 15 ∷ []))
    else None

abbrev pub mac_of : List ℕ → Mac
mac_of octets = record { 0 = octets }

abbrev pub mac_in : List ℕ → Option Mac
mac_in text = option_map mac_of (mac_octets text)

-- ---- an address as four decimal numbers with dots

abbrev pub digit_of : ℕ → Option ℕ
digit_of c = if is_between 48 57 c then Some (c - 48) else None

-- the digit, if it is not 0
abbrev pub first_digit_of : ℕ → Option ℕ
first_digit_of c = if is_between 49 57 c then Some (c - 48) else None

-- another digit
abbrev pub then_digit : Option ℕ → ℕ → Option ℕ
then_digit so_far c = option_and_then (λ n. option_map (λ d. 10 * n + d) (digit_of c)) so_far

abbrev pub below_256 : Option ℕ → Option ℕ
below_256 found = option_and_then (λ n. if nat_lt n 256 then Some n else None) found

-- a number up to 255 of one to three digits, without a leading zero
unfoldable pub small_number : List ℕ → Option ℕ
small_number [] = None
small_number (c ∷ []) = digit_of c
small_number (b ∷ c ∷ []) = then_digit (first_digit_of b) c
small_number (a ∷ b ∷ c ∷ []) = below_256 (then_digit (then_digit (first_digit_of a) b) c)
small_number (a ∷ b ∷ c ∷ d ∷ more) = None

-- the numbers that four texts encode
abbrev pub four_numbers : List (List ℕ) → Option (List ℕ)
four_numbers (a ∷ b ∷ c ∷ d ∷ []) =
    option_and_then (λ w. option_and_then (λ x. option_and_then (λ y. option_map (λ z. w ∷ x ∷ y ∷ z ∷ []) (small_number d)) (small_number c)) (small_number b)) (small_number a)
four_numbers _ = None

-- a unicast address: its first number is 1 to 223
abbrev pub if_unicast : List ℕ → Option (List ℕ)
if_unicast octets = if is_between 1 223 (slice_index octets 0) then Some octets else None

-- an IPv4 address, such as `10.0.0.1`
unfoldable pub prefix_octets : List ℕ → Option (List ℕ)
prefix_octets text = option_and_then if_unicast (four_numbers (slice_split (λ c. c == 46) text))

abbrev pub prefix_of : List ℕ → Ipv4
prefix_of octets = record { 0 = octets }

abbrev pub prefix_in : List ℕ → Option Ipv4
prefix_in text = option_map prefix_of (prefix_octets text)

-- the parts of a text after the first, if a text follows it
abbrev pub more_pieces : ℕ → Option (List ℕ) → List (List ℕ)
more_pieces stop None = []
more_pieces stop (Some after) = slice_split (λ c. c == stop) after
