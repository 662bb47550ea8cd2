-- The keys of a table: their paths, the unknown ones, and their values.
use Rattle.std.specs.Prelude.{ℕ, Bool, true, false, not, List, [], ◌∷◌, ◌++◌, filter, Option, Some, None, option_and_then, Result, Ok, Err, codes, if◌then◌else◌}
use Rattle.std.specs.Fmt.{decimal}
use Rattle.std.specs.List.{list_any}
use Rattle.std.specs.Str.{bytes_eq}
use Rattle.std.specs.Ordering.{nat_cmp, is_lt}
use Rattle.std.specs.Cmp.Lexicographic.{slice_cmp}
use Rattle.toml.specs.Data.{Data, Members, no_members, member, get, as_str, as_integer, as_bool, as_table}
use Rattle.wire_base.specs.declared.bsl.Bsl.{Bsl}
use Rattle.wire_base.specs.model.Fields.{◌>>=◌}
use Rattle.domain_conf.specs.declared.fault.ConfFault.{ConfFault}
use Rattle.domain_conf.specs.declared.fault.ConfFault.TheVariants as fault
use Rattle.domain_conf.specs.Reading.{or_fault}
use Rattle.domain_conf.specs.Forms.{nat_within, bsl_in}

-- ---- paths

-- `array[i]`
abbrev pub place_path : List ℕ → ℕ → List ℕ
place_path array i = array ++ (91 ∷ (decimal i ++ (93 ∷ [])))

-- `array[i].key`
unfoldable pub entry_path : List ℕ → ℕ → List ℕ → List ℕ
entry_path array i key = array ++ (91 ∷ (decimal i ++ (93 ∷ 46 ∷ key)))

-- ---- unknown keys

abbrev pub keys_of : Members → List (List ℕ)
keys_of no_members = []
keys_of (member k d ms) = k ∷ keys_of ms

abbrev pub keys_found : Option Members → List (List ℕ)
keys_found None = []
keys_found (Some ms) = keys_of ms

-- the keys of a table; another value has none
abbrev pub keys_in : Data → List (List ℕ)
keys_in d = keys_found (as_table d)

abbrev pub is_among : List (List ℕ) → List ℕ → Bool
is_among known key = list_any (λ k. bytes_eq k key) known

-- of a key and perhaps another, the one that is first in octet order
abbrev pub lesser : List ℕ → Option (List ℕ) → List ℕ
lesser k None = k
lesser k (Some l) = if is_lt (slice_cmp nat_cmp l k) then l else k

-- the key that is first in octet order
abbrev pub least : List (List ℕ) → Option (List ℕ)
least [] = None
least (k ∷ ks) = Some (lesser k (least ks))

-- the least unknown key
unfoldable pub unknown_in : List (List ℕ) → List (List ℕ) → Option (List ℕ)
unknown_in known keys = least (filter (λ k. not (is_among known k)) keys)

abbrev pub refuse_key : (List ℕ → List ℕ) → Option (List ℕ) → Result (Unit {0}) ConfFault
refuse_key at None = Ok tt
refuse_key at (Some k) = Err (fault.Field (at k))

-- an entry has no keys but these; `at` returns the path of a key
abbrev pub known_keys : (List ℕ → List ℕ) → List (List ℕ) → Data → Result (Unit {0}) ConfFault
known_keys at known d = refuse_key at (unknown_in known (keys_in d))

-- ---- the value at a key

-- What is at a key. `kind` returns what a value of the expected kind holds, and `form` what that encodes. A missing
-- value, or one of another kind, is the error Field. One that is malformed or out of range is the error Range.
unfoldable pub field : {A B : Type 0} → (Data → Option A) → (A → Option B) → List ℕ → Option Data → Result B ConfFault
field kind form path found = do
  x ← or_fault (fault.Field path) (option_and_then kind found)
  or_fault (fault.Range path) (form x)

abbrev pub number : ℕ → ℕ → (List ℕ → List ℕ) → List ℕ → Data → Result ℕ ConfFault
number low high at key d = field as_integer (nat_within low high) (at key) (get key d)

abbrev pub text : {B : Type 0} → (List ℕ → Option B) → (List ℕ → List ℕ) → List ℕ → Data → Result B ConfFault
text form at key d = field as_str form (at key) (get key d)

-- the BitStringLength at the key `bsl`
abbrev pub bsl : (List ℕ → List ℕ) → Data → Result Bsl ConfFault
bsl at d = field as_integer bsl_in (at (codes "bsl")) (get (codes "bsl") d)

-- a value that may be missing, with its default
abbrev pub or_default : {B : Type 0} → B → (Option Data → Result B ConfFault) → Option Data → Result B ConfFault
or_default x read None = Ok x
or_default x read (Some d) = read (Some d)

-- true or false; false if it is missing
abbrev pub flag : (List ℕ → List ℕ) → List ℕ → Data → Result Bool ConfFault
flag at key d = or_default false (field as_bool Some (at key)) (get key d)
