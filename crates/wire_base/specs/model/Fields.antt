-- Parsing from left to right: the result is a value and the octets after it, or an error.
use Rattle.std.specs.Prelude.{◌≡◌, ℕ, ◌<◌, List, [], ◌∷◌, ◌++◌, length, take, drop, slice_index, Result, Ok, Err, nat_lt, if◌then◌else◌}
use Rattle.byteorder.specs.Endian.{big_number}

infixl 10 ◌>>=◌
abbrev pub ◌>>=◌ : {E A B : Type 0} → Result A E → (A → Result B E) → Result B E
(Ok x) >>= f = f x
(Err e) >>= f = Err e

-- The returned value, converted by view, equals the parsed one.
abbrev pub Gives : {X Y E : Type 0} → (X → Y) → Result X E → Result Y E → Type 0
Gives view (Ok x) read = read ≡ Ok (view x)
Gives view (Err e) read = read ≡ Err e

-- that many octets
abbrev pub octets_at : {E : Type 0} → E → ℕ → List ℕ → Result (List ℕ × List ℕ) E
octets_at fault n octets = if nat_lt (length octets) n then Err fault else Ok (take n octets, drop n octets)

-- one octet
abbrev pub octet_at : {E : Type 0} → E → List ℕ → Result (ℕ × List ℕ) E
octet_at fault [] = Err fault
octet_at fault (octet ∷ rest) = Ok (octet, rest)

-- the number that the first n octets encode
abbrev pub number_at : {E : Type 0} → E → ℕ → List ℕ → Result (ℕ × List ℕ) E
number_at fault n octets = if nat_lt (length octets) n then Err fault else Ok (big_number n octets, drop n octets)

-- each octet is one
abbrev pub AreOctets : List ℕ → Type 0
AreOctets octets = (i : ℕ) → slice_index octets i < 256

-- what was appended parses as that value, whatever follows it
abbrev pub IsReadAgain : {X E : Type 0} → (List ℕ → Result (X × List ℕ) E) → List ℕ → List ℕ → X → Type 0
IsReadAgain read old new value = (rest : List ℕ) → read (drop (length old) new ++ rest) ≡ Ok (value, rest)

-- octets preceded by their number
abbrev pub counted : List ℕ → List ℕ
counted octets = length octets ∷ octets

abbrev pub counted_at : {E : Type 0} → E → List ℕ → Result (List ℕ × List ℕ) E
counted_at fault octets = do
  n ← octet_at fault octets
  octets_at fault n.0 n.1
