-- A walk over entries gives the entries of the octets that are left.
use Rattle.std.proofs.Common.{◌≡◌, ◌≢◌, ℕ, zero, suc, ◌≤◌, List, [], ◌∷◌, ◌++◌, length, map, Option, Some, None, Result, Ok, Err, refl, sym, ap, ◌∙◌, arith}
use Rattle.std.specs.Prelude.{⊤}
use Rattle.std.specs.List.{filter_map, flat_map, AllByRecursion}
use Rattle.std.specs.Result.{result_ok}
use Rattle.std.specs.Iterator.{YieldsFirstBy, MakesProgress, item_count}
use Rattle.std.proofs.lemmas.List.Concat.{flat_map-cons}
use Rattle.wire_base.specs.declared.faults.TlvFault.TheVariants.{EntryShort}
use Rattle.wire_base.specs.model.Tlv.{reach_at, prefix_at, row_at, entries_of}
use Rattle.laws_format.proofs.TlvListLaws.{Shortens, entries_step, entries_end}
use Rattle.isis_tlv.specs.Walked.{then_walked, walked_within, walked, seen, good, Steps}

then_same : {X E : Type 0} (r : Result (X × List ℕ) E) (f g : List ℕ → List (Result X E)) → ((x : X) (rest : List ℕ) → r ≡ Ok (x, rest) → f rest ≡ g rest) → then_walked r f ≡ then_walked r g
then_same (Ok x) f g h = ap (λ xs. Ok x.0 ∷ xs) (h x.0 x.1 refl)
then_same (Err e) f g h = refl

enough : {X E : Type 0} (read : List ℕ → Result (X × List ℕ) E) → Shortens read → (m n : ℕ) (octets : List ℕ) → length octets ≤ m → length octets ≤ n → walked_within read m octets ≡ walked_within read n octets
unfolding walked_within
enough read shortens zero zero octets h k = refl
enough read shortens zero (suc n) [] h k = refl
enough read shortens zero (suc n) (octet ∷ octets) h k = absurd (omega arith)
enough read shortens (suc m) zero [] h k = refl
enough read shortens (suc m) zero (octet ∷ octets) h k = absurd (omega arith)
enough read shortens (suc m) (suc n) [] h k = refl
enough read shortens (suc m) (suc n) (octet ∷ octets) h k = then_same (read (octet ∷ octets)) (walked_within read m) (walked_within read n) (λ x rest e. let s = shortens (octet ∷ octets) x rest e in enough read shortens m n rest (omega arith) (omega arith))

pub walked_more : {X E : Type 0} (read : List ℕ → Result (X × List ℕ) E) → Shortens read → (octets : List ℕ) (x : X) (rest : List ℕ) → read octets ≡ Ok (x, rest) → walked read octets ≡ Ok x ∷ walked read rest
unfolding walked walked_within
walked_more read shortens [] x rest e = let s = shortens [] x rest e in absurd (omega arith)
walked_more {X} {E} read shortens (octet ∷ octets) x rest e =
    let s = shortens (octet ∷ octets) x rest e in
    ap (λ (r : Result (X × List ℕ) E). then_walked r (walked_within read (length octets))) e
    ∙ ap (λ (xs : List (Result X E)). Ok x ∷ xs) (enough read shortens (length octets) (length rest) rest (omega arith) (omega arith))

pub walked_fault : {X E : Type 0} (read : List ℕ → Result (X × List ℕ) E) (octets : List ℕ) (f : E) → octets ≢ [] → read octets ≡ Err f → walked read octets ≡ Err f ∷ []
unfolding walked walked_within
walked_fault read [] f some e = absurd (some refl)
walked_fault {X} {E} read (octet ∷ octets) f some e = ap (λ (r : Result (X × List ℕ) E). then_walked r (walked_within read (length octets))) e

pub walked_none : {X E : Type 0} (read : List ℕ → Result (X × List ℕ) E) → walked read [] ≡ []
unfolding walked walked_within
walked_none read = refl

few_then : {X E : Type 0} (r : Result (X × List ℕ) E) (f : List ℕ → List (Result X E)) (n : ℕ) → ((rest : List ℕ) → length (f rest) ≤ n) → length (then_walked r f) ≤ suc n
few_then (Ok x) f n h = let l = h x.1 in omega arith
few_then (Err e) f n h = omega arith

few_within : {X E : Type 0} (read : List ℕ → Result (X × List ℕ) E) (n : ℕ) (octets : List ℕ) → length (walked_within read n octets) ≤ n
unfolding walked_within
few_within read zero octets = omega arith
few_within read (suc n) [] = omega arith
few_within read (suc n) (octet ∷ octets) = few_then (read (octet ∷ octets)) (walked_within read n) n (λ rest. few_within read n rest)

-- ---- a step

pub step_gives : {A X E : Type 0} (view : A → X) (read : List ℕ → Result (X × List ℕ) E) → Shortens read → (old : List ℕ) (r : Option (Result A E)) (new : List ℕ)
    → Steps view read old r new → YieldsFirstBy (seen view) (walked read) old r new
step_gives view read shortens old (Some (Ok a)) new h = walked_more read shortens old (view a) new h
step_gives {E = E} view read shortens old (Some (Err e)) new h = walked_fault read old e h.0 h.1 ∙ ap (λ xs. Err e ∷ xs) (sym (ap (walked read) h.2 ∙ walked_none read))
step_gives view read shortens old None new h = (ap (walked read) h.0 ∙ walked_none read, ap (walked read) h.1 ∙ walked_none read)

pub step_goes : {A X E : Type 0} (view : A → X) (read : List ℕ → Result (X × List ℕ) E) (old : List ℕ) (r : Option (Result A E)) (new : List ℕ)
    → YieldsFirstBy (seen view) (walked read) old r new → MakesProgress (λ _. ⊤) (item_count (walked read)) old r new
step_goes view read old (Some a) new h = let l = ap length h in record { on = λ _. (tt, tt, omega arith); keeps = tt; rests = λ _. tt }
step_goes view read old None new h = record { on = λ _. tt; keeps = tt; rests = λ _. tt }

-- ---- the whole walk

-- the entries before a fault are those that are read one after the other
by_read : {X E : Type 0} (read : List ℕ → Result (X × List ℕ) E) → Shortens read → (octets : List ℕ) (r : Result (X × List ℕ) E) → octets ≢ [] → read octets ≡ r
    → ((x : X) (rest : List ℕ) → read octets ≡ Ok (x, rest) → filter_map result_ok (walked read rest) ≡ entries_of read rest)
    → filter_map result_ok (walked read octets) ≡ entries_of read octets
by_read {X} read shortens octets (Ok x) some e more =
    ap (filter_map result_ok) (walked_more read shortens octets x.0 x.1 e)
    ∙ ap (λ (xs : List X). x.0 ∷ xs) (more x.0 x.1 e)
    ∙ sym (entries_step read shortens octets x.0 x.1 e)
by_read read shortens octets (Err f) some e more = ap (filter_map result_ok) (walked_fault read octets f some e) ∙ sym (entries_end read shortens octets f e)

by_size : {X E : Type 0} (read : List ℕ → Result (X × List ℕ) E) (f : E) → Shortens read → read [] ≡ Err f → (n : ℕ) (octets : List ℕ) → length octets ≤ n → filter_map result_ok (walked read octets) ≡ entries_of read octets
by_size read f shortens ends n [] h = ap (filter_map result_ok) (walked_none read) ∙ sym (entries_end read shortens [] f ends)
by_size read f shortens ends zero (octet ∷ octets) h = absurd (omega arith)
by_size read f shortens ends (suc n) (octet ∷ octets) h =
    by_read read shortens (octet ∷ octets) (read (octet ∷ octets)) (λ same. absurd cc) refl
    (λ x rest e. let s = shortens (octet ∷ octets) x rest e in by_size read f shortens ends n rest (omega arith))

pub walked_entries : {X E : Type 0} (read : List ℕ → Result (X × List ℕ) E) (f : E) → Shortens read → read [] ≡ Err f → (octets : List ℕ) → filter_map result_ok (walked read octets) ≡ entries_of read octets
walked_entries read f shortens ends octets = by_size read f shortens ends (length octets) octets (omega arith)

-- entries that are spelled one after the other are given, and no fault
pub walked_again : {X E : Type 0} (read : List ℕ → Result (X × List ℕ) E) (spell : X → List ℕ) (Fits : X → Type 0) → Shortens read
    → ((x : X) (rest : List ℕ) → Fits x → read (spell x ++ rest) ≡ Ok (x, rest)) → (xs : List X) → AllByRecursion Fits xs → walked read (flat_map spell xs) ≡ map good xs
walked_again read spell Fits shortens again [] fits = walked_none read
walked_again {X} {E} read spell Fits shortens again (x ∷ xs) fits =
    ap (walked read) (flat_map-cons spell x xs)
    ∙ walked_more read shortens (spell x ++ flat_map spell xs) x (flat_map spell xs) (again x (flat_map spell xs) fits.0)
    ∙ ap (λ (ys : List (Result X E)). Ok x ∷ ys) (walked_again read spell Fits shortens again xs fits.1)

pub reach_none : reach_at [] ≡ Err EntryShort
unfolding reach_at
reach_none = refl

pub prefix_none : prefix_at [] ≡ Err EntryShort
unfolding prefix_at
prefix_none = refl

pub row_none : row_at [] ≡ Err EntryShort
unfolding row_at
row_none = refl
