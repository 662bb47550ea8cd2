-- The entries of a TLV's value as an iterator returns them.
use Rattle.std.specs.Prelude.{◌≡◌, ◌≢◌, ℕ, zero, suc, List, [], ◌∷◌, length, Option, Some, None, Result, Ok, Err, IfOk, IfSome}
use Rattle.wire_base.specs.declared.triple.Summary.{Summary}
use Rattle.wire_base.specs.declared.faults.TlvFault.{TlvFault}
use Rattle.wire_base.specs.model.Tlv.{prefix_bits}
use Rattle.isis_tlv.specs.declared.prefixes.PrefixEntry.{PrefixEntry}

-- an invalid entry is the last
abbrev pub then_walked : {X E : Type 0} → Result (X × List ℕ) E → (List ℕ → List (Result X E)) → List (Result X E)
then_walked (Ok x) more = Ok x.0 ∷ more x.1
then_walked (Err e) more = Err e ∷ []

-- Each entry has an octet or more, so there are no more entries than octets; the number only bounds the recursion.
unfoldable pub walked_within : {X E : Type 0} → (List ℕ → Result (X × List ℕ) E) → ℕ → List ℕ → List (Result X E)
walked_within read zero octets = []
walked_within read (suc n) [] = []
walked_within read (suc n) (octet ∷ octets) = then_walked (read (octet ∷ octets)) (walked_within read n)

-- the entries of a value, one after the other, to its end, or to the error of the first invalid one
unfoldable pub walked : {X E : Type 0} → (List ℕ → Result (X × List ℕ) E) → List ℕ → List (Result X E)
walked read octets = walked_within read (length octets) octets

-- an item of an iterator, each entry converted by view
abbrev pub seen : {A X E : Type 0} → (A → X) → Result A E → Result X E
seen view (Ok a) = Ok (view a)
seen view (Err e) = Err e

abbrev pub good : {X E : Type 0} → X → Result X E
good x = Ok x

-- a step of an iterator from old to new: an entry and the octets after it; for invalid octets the error, and
-- nothing is left; at the end nothing
abbrev pub Steps : {A X E : Type 0} → (A → X) → (List ℕ → Result (X × List ℕ) E) → List ℕ → Option (Result A E) → List ℕ → Type 0
Steps view read old (Some (Ok a)) new = read old ≡ Ok (view a, new)
Steps view read old (Some (Err e)) new = (old ≢ []) × (read old ≡ Err e) × (new ≡ [])
Steps view read old None new = (old ≡ []) × (new ≡ [])

-- an entry of TLV 9 borrows no octets, and is its own model
abbrev pub itself : Summary → Summary
itself s = s

-- the length of a returned prefix is that of its control octet
abbrev pub HasItsBits : Option (Result PrefixEntry TlvFault) → Type 0
HasItsBits given = IfSome given (λ r. IfOk r (λ p. p.length ≡ prefix_bits p.control))
