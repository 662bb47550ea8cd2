-- Lists of TLVs and of entries: what a writer wrote one after the other is walked as those values.
use Rattle.std.proofs.Common.{◌≡◌, ℕ, zero, suc, ◌+◌, ◌*◌, ◌%◌, ◌<◌, ◌≤◌, Bool, true, false, ◌&&◌, eq-eqb, min, List, [], ◌∷◌, ◌++◌, length, take, drop, Option, Some, None, Result, Ok, Err, refl, sym, ap, ◌∙◌, arith, inl, inr}
use Rattle.std.specs.List.{list_all, flat_map, AllByRecursion}
use Rattle.std.proofs.lemmas.Bool.{cases_lt}
use Rattle.std.proofs.lemmas.List.{take_all, drop_all, take-append-drop, length-append, length-take, length-drop}
use Rattle.std.proofs.lemmas.List.Concat.{flat_map-cons}
use Rattle.wire_base.specs.declared.faults.TlvFault.{TlvFault}
use Rattle.wire_base.specs.declared.faults.TlvFault.TheVariants.{Overrun, EntryShort}
use Rattle.wire_base.specs.declared.triple.Summary.{Summary}
use Rattle.wire_base.specs.declared.addresses.LspId.{LspId}
use Rattle.wire_base.specs.model.Fields.{◌>>=◌, octet_at, octets_at, number_at, counted_at}
use Rattle.wire_base.specs.model.Tlv.{Tlv, tlv, tlv_at, then_tlvs, tlvs_within, tlvs_of, Reach, ReachFits, reach, reach_at, Prefix, PrefixFits, prefix, prefix_at, SummaryFits, row, row_at, then_entries, entries_within, entries_of, some_tlv, one_tlv_at, bits_at, prefix_octets, subs_if_at, has_subs, lsp_id_at, tlvs_before, rows_in, rows_of}
use Rattle.wire_base.specs.model.Pdu.{passes, AreTlvs, all_pass, tlvs_pass, blocks_within, blocks, row_tlv, row_tlvs}
use Rattle.laws_format.proofs.FieldLaws.{bind_ok, ok_is, octet_shorter, octets_shorter, number_shorter, counted_shorter}
use Rattle.laws_format.proofs.TlvLaws.{tlv_parts, tlv_again, tlv_end, length_row, row_again, reach_again, prefix_again}

-- ---- lists of TLVs

pub tlv_shorter : (octets : List ℕ) (t : Tlv) (rest : List ℕ) → tlv_at octets ≡ Ok (Some (t, rest)) → length rest + 2 ≤ length octets
tlv_shorter octets t rest e = let p = ap length (tlv_parts octets t rest e) in omega (arith, p, length-append (tlv t) rest)

-- what comes after a TLV alone counts
step_same : (r : Result (Option (Tlv × List ℕ)) TlvFault) (f g : List ℕ → Result (List Tlv) TlvFault) → ((t : Tlv) (rest : List ℕ) → r ≡ Ok (Some (t, rest)) → f rest ≡ g rest) → (r >>= λ o. then_tlvs o f) ≡ (r >>= λ o. then_tlvs o g)
step_same (Ok (Some x)) f g h = ap (λ (s : Result (List Tlv) TlvFault). s >>= λ ts. Ok (x.0 ∷ ts)) (h x.0 x.1 refl)
step_same (Ok None) f g h = refl
step_same (Err e) f g h = refl

-- any number that is large enough gives the same
tlvs_enough : (m n : ℕ) (octets : List ℕ) → length octets ≤ m → length octets ≤ n → tlvs_within m octets ≡ tlvs_within n octets
unfolding tlvs_within
tlvs_enough zero zero octets h k = refl
tlvs_enough zero (suc n) [] h k = refl
tlvs_enough zero (suc n) (x ∷ octets) h k = absurd (omega arith)
tlvs_enough (suc m) zero [] h k = refl
tlvs_enough (suc m) zero (x ∷ octets) h k = absurd (omega arith)
tlvs_enough (suc m) (suc n) octets h k = step_same (tlv_at octets) (tlvs_within m) (tlvs_within n) (λ t rest e. let s = tlv_shorter octets t rest e in tlvs_enough m n rest (omega arith) (omega arith))

pub tlvs_first : (octets : List ℕ) → tlvs_of octets ≡ (tlv_at octets >>= λ o. then_tlvs o (tlvs_within (length octets)))
unfolding tlvs_of tlvs_within
tlvs_first octets = tlvs_enough (length octets) (suc (length octets)) octets (omega arith) (omega arith)

pub tlvs_step : (octets : List ℕ) (t : Tlv) (rest : List ℕ) → tlv_at octets ≡ Ok (Some (t, rest)) → tlvs_of octets ≡ (tlvs_of rest >>= λ ts. Ok (t ∷ ts))
unfolding tlvs_of
tlvs_step octets t rest e =
    let s = tlv_shorter octets t rest e in
    tlvs_first octets ∙ ap (λ (r : Result (Option (Tlv × List ℕ)) TlvFault). r >>= λ o. then_tlvs o (tlvs_within (length octets))) e ∙ ap (λ (r : Result (List Tlv) TlvFault). r >>= λ ts. Ok (t ∷ ts)) (tlvs_enough (length octets) (length rest) rest (omega arith) (omega arith))

pub tlvs_none : (octets : List ℕ) → tlv_at octets ≡ Ok None → tlvs_of octets ≡ Ok []
tlvs_none octets e = tlvs_first octets ∙ ap (λ (r : Result (Option (Tlv × List ℕ)) TlvFault). r >>= λ o. then_tlvs o (tlvs_within (length octets))) e

pub tlvs_fault : (octets : List ℕ) (f : TlvFault) → tlv_at octets ≡ Err f → tlvs_of octets ≡ Err f
tlvs_fault octets f e = tlvs_first octets ∙ ap (λ (r : Result (Option (Tlv × List ℕ)) TlvFault). r >>= λ o. then_tlvs o (tlvs_within (length octets))) e

-- TLVs that are spelled one after the other are read again
pub tlvs_again : (ts : List Tlv) → tlvs_of (flat_map tlv ts) ≡ Ok ts
tlvs_again [] = tlvs_none [] refl
tlvs_again (t ∷ ts) =
    tlvs_step (flat_map tlv (t ∷ ts)) t (flat_map tlv ts) (tlv_again t (flat_map tlv ts)) ∙ ap (λ (r : Result (List Tlv) TlvFault). r >>= λ us. Ok (t ∷ us)) (tlvs_again ts)

-- and what is read as a list of TLVs is spelled so
tlvs_parts_within : (n : ℕ) (octets : List ℕ) (ts : List Tlv) → length octets ≤ n → tlvs_of octets ≡ Ok ts → octets ≡ flat_map tlv ts
tlvs_parts_within n octets ts within e = by_front n octets ts within (tlv_at octets) refl e
  where
    by_front : (n : ℕ) (octets : List ℕ) (ts : List Tlv) → length octets ≤ n → (r : Result (Option (Tlv × List ℕ)) TlvFault) → tlv_at octets ≡ r → tlvs_of octets ≡ Ok ts → octets ≡ flat_map tlv ts
    by_front n octets ts within (Ok None) front e =
        let none : [] ≡ ts = ok_is {E = TlvFault} [] ts (sym (tlvs_none octets front) ∙ e) in
        tlv_end octets front ∙ ap (flat_map tlv) none
    by_front n octets ts within (Err f) front e = let both : Err f ≡ Ok ts = sym (tlvs_fault octets f front) ∙ e in absurd cc
    by_front zero octets ts within (Ok (Some x)) front e = let s = tlv_shorter octets x.0 x.1 front in absurd (omega arith)
    by_front (suc n) octets ts within (Ok (Some x)) front e =
        let s = tlv_shorter octets x.0 x.1 front in
        let b = bind_ok (tlvs_of x.1) _ ts (sym (tlvs_step octets x.0 x.1 front) ∙ e) in
        let same : x.0 ∷ b.0 ≡ ts = ok_is {E = TlvFault} (x.0 ∷ b.0) ts b.2 in
        let more : x.1 ≡ flat_map tlv b.0 = by_front n x.1 b.0 (omega arith) (tlv_at x.1) refl b.1 in
        tlv_parts octets x.0 x.1 front ∙ ap (λ (l : List ℕ). tlv x.0 ++ l) more ∙ sym (flat_map-cons tlv x.0 b.0) ∙ ap (flat_map tlv) same

pub tlvs_parts : (octets : List ℕ) (ts : List Tlv) → tlvs_of octets ≡ Ok ts → octets ≡ flat_map tlv ts
tlvs_parts octets ts e = tlvs_parts_within (length octets) octets ts (omega arith) e

-- ---- the test of a whole list

and_false : (b : Bool) → (b && false) ≡ false
and_false true = refl
and_false false = refl

pub pass_step : (rows : Bool) (octets : List ℕ) (t : Tlv) (rest : List ℕ) → tlv_at octets ≡ Ok (Some (t, rest)) → tlvs_pass rows octets ≡ (passes rows t && tlvs_pass rows rest)
unfolding tlvs_pass
pass_step rows octets t rest e = ap (all_pass rows) (tlvs_step octets t rest e) ∙ both (tlvs_of rest)
  where
    both : (r : Result (List Tlv) TlvFault) → all_pass rows (r >>= λ ts. Ok (t ∷ ts)) ≡ (passes rows t && all_pass rows r)
    both (Ok ts) = refl
    both (Err f) = sym (and_false (passes rows t))

pub pass_none : (rows : Bool) (octets : List ℕ) → tlv_at octets ≡ Ok None → tlvs_pass rows octets ≡ true
unfolding tlvs_pass
pass_none rows octets e = ap (all_pass rows) (tlvs_none octets e)

pub pass_fault : (rows : Bool) (octets : List ℕ) (f : TlvFault) → tlv_at octets ≡ Err f → tlvs_pass rows octets ≡ false
unfolding tlvs_pass
pass_fault rows octets f e = ap (all_pass rows) (tlvs_fault octets f e)

pub pass_spelled : (rows : Bool) (ts : List Tlv) → list_all (passes rows) ts ≡ true → tlvs_pass rows (flat_map tlv ts) ≡ true
unfolding tlvs_pass
pass_spelled rows ts h = ap (all_pass rows) (tlvs_again ts) ∙ h

pub pass_on : (rows : Bool) (octets : List ℕ) (t : Tlv) (rest : List ℕ) → tlv_at octets ≡ Ok (Some (t, rest)) → true ≡ passes rows t → tlvs_pass rows octets ≡ tlvs_pass rows rest
pass_on rows octets t rest e does = pass_step rows octets t rest e ∙ ap (λ (b : Bool). b && tlvs_pass rows rest) (sym does)

pub pass_off : (rows : Bool) (octets : List ℕ) (t : Tlv) (rest : List ℕ) → tlv_at octets ≡ Ok (Some (t, rest)) → false ≡ passes rows t → tlvs_pass rows octets ≡ false
pass_off rows octets t rest e fails = pass_step rows octets t rest e ∙ ap (λ (b : Bool). b && tlvs_pass rows rest) (sym fails)

-- the test finds the lists of TLVs that are whole, and no other
pub passes_are : (rows : Bool) (octets : List ℕ) → tlvs_pass rows octets ≡ true → AreTlvs rows octets
unfolding tlvs_pass
passes_are rows octets e = by_list (tlvs_of octets) refl e
  where
    by_list : (r : Result (List Tlv) TlvFault) → tlvs_of octets ≡ r → all_pass rows r ≡ true → AreTlvs rows octets
    by_list (Ok ts) list e = record { tlvs = ts; spelled = tlvs_parts octets ts list; pass = e }
    by_list (Err f) list e = absurd cc

pub are_passes : (rows : Bool) (octets : List ℕ) → AreTlvs rows octets → tlvs_pass rows octets ≡ true
are_passes rows octets are = ap (tlvs_pass rows) are.spelled ∙ pass_spelled rows are.tlvs are.pass

-- TLVs that are spelled one after the other are whole, where no entries are listed
all_plain : (ts : List Tlv) → list_all (passes false) ts ≡ true
all_plain [] = refl
all_plain (t ∷ ts) = all_plain ts

pub are_spelled : (ts : List Tlv) → AreTlvs false (flat_map tlv ts)
are_spelled ts = record { tlvs = ts; spelled = refl; pass = all_plain ts }

-- ---- entries one after the other

-- each entry that is read takes an octet or more
abbrev pub Shortens : {X E : Type 0} → (List ℕ → Result (X × List ℕ) E) → Type 0
Shortens {X} read = (octets : List ℕ) (x : X) (rest : List ℕ) → read octets ≡ Ok (x, rest) → length rest < length octets

entry_same : {X E : Type 0} (r : Result (X × List ℕ) E) (f g : List ℕ → List X) → ((x : X) (rest : List ℕ) → r ≡ Ok (x, rest) → f rest ≡ g rest) → then_entries r f ≡ then_entries r g
entry_same (Ok x) f g h = ap (λ xs. x.0 ∷ xs) (h x.0 x.1 refl)
entry_same (Err e) f g h = refl

then_none : {X E : Type 0} (r : Result (X × List ℕ) E) (f : List ℕ → List X) → ((x : X) (rest : List ℕ) → r ≡ Ok (x, rest) → ⊥) → then_entries r f ≡ []
then_none (Ok x) f h = absurd (h x.0 x.1 refl)
then_none (Err e) f h = refl

entries_enough : {X E : Type 0} (read : List ℕ → Result (X × List ℕ) E) → Shortens read → (m n : ℕ) (octets : List ℕ) → length octets ≤ m → length octets ≤ n → entries_within read m octets ≡ entries_within read n octets
unfolding entries_within
entries_enough read shortens zero zero octets h k = refl
entries_enough read shortens zero (suc n) octets h k = sym (then_none (read octets) (entries_within read n) (λ x rest e. let s = shortens octets x rest e in omega arith))
entries_enough read shortens (suc m) zero octets h k = then_none (read octets) (entries_within read m) (λ x rest e. let s = shortens octets x rest e in omega arith)
entries_enough read shortens (suc m) (suc n) octets h k = entry_same (read octets) (entries_within read m) (entries_within read n) (λ x rest e. let s = shortens octets x rest e in entries_enough read shortens m n rest (omega arith) (omega arith))

pub entries_step : {X E : Type 0} (read : List ℕ → Result (X × List ℕ) E) → Shortens read → (octets : List ℕ) (x : X) (rest : List ℕ) → read octets ≡ Ok (x, rest) → entries_of read octets ≡ x ∷ entries_of read rest
unfolding entries_of entries_within
entries_step {X} {E} read shortens octets x rest e =
    let s = shortens octets x rest e in
    let first : entries_within read (length octets) octets ≡ entries_within read (suc (length octets)) octets = entries_enough read shortens (length octets) (suc (length octets)) octets (omega arith) (omega arith) in
    first ∙ ap (λ (r : Result (X × List ℕ) E). then_entries r (entries_within read (length octets))) e ∙ ap (λ (xs : List X). x ∷ xs) (entries_enough read shortens (length octets) (length rest) rest (omega arith) (omega arith))

pub entries_end : {X E : Type 0} (read : List ℕ → Result (X × List ℕ) E) → Shortens read → (octets : List ℕ) (f : E) → read octets ≡ Err f → entries_of read octets ≡ []
unfolding entries_of entries_within
entries_end {X} {E} read shortens octets f e =
    let first : entries_within read (length octets) octets ≡ entries_within read (suc (length octets)) octets = entries_enough read shortens (length octets) (suc (length octets)) octets (omega arith) (omega arith) in
    first ∙ ap (λ (r : Result (X × List ℕ) E). then_entries r (entries_within read (length octets))) e

-- entries that are spelled one after the other are read again
pub entries_again : {X E : Type 0} (read : List ℕ → Result (X × List ℕ) E) (spell : X → List ℕ) (Fits : X → Type 0) (f : E) → Shortens read → read [] ≡ Err f
    → ((x : X) (rest : List ℕ) → Fits x → read (spell x ++ rest) ≡ Ok (x, rest)) → (xs : List X) → AllByRecursion Fits xs → entries_of read (flat_map spell xs) ≡ xs
entries_again read spell Fits f shortens ends again [] fits = entries_end read shortens [] f ends
entries_again {X} read spell Fits f shortens ends again (x ∷ xs) fits =
    ap (entries_of read) (flat_map-cons spell x xs) ∙ entries_step read shortens (spell x ++ flat_map spell xs) x (flat_map spell xs) (again x (flat_map spell xs) fits.0) ∙ ap (λ (ys : List X). x ∷ ys) (entries_again read spell Fits f shortens ends again xs fits.1)

-- ---- each reader of an entry takes an octet or more

pub reach_shortens : Shortens reach_at
unfolding reach_at
reach_shortens octets x rest e =
    let y : Reach × List ℕ = (x, rest) in
    let a = bind_ok (octets_at EntryShort 6 octets) _ y e in
    let b = bind_ok (octet_at EntryShort a.0.1) _ y a.2 in
    let c = bind_ok (number_at EntryShort 3 b.0.1) _ y b.2 in
    let d = bind_ok (counted_at EntryShort c.0.1) _ y c.2 in
    let s0 = octets_shorter EntryShort 6 octets a.0 a.1 in
    let s1 = octet_shorter EntryShort a.0.1 b.0 b.1 in
    let s2 = number_shorter EntryShort 3 b.0.1 c.0 c.1 in
    let s3 = counted_shorter EntryShort c.0.1 d.0 d.1 in
    let last : d.0.1 ≡ rest = ap (λ (p : Reach × List ℕ). p.1) (ok_is {E = TlvFault} _ y d.2) in
    let l = ap length last in
    omega (arith, s0, s1, s2, s3, l)

subs_shorter : (follow : Bool) (octets : List ℕ) (x : List ℕ × List ℕ) → subs_if_at follow octets ≡ Ok x → length x.1 ≤ length octets
subs_shorter true octets x e = let s = counted_shorter EntryShort octets x e in omega (arith, s)
subs_shorter false octets x e = let l = ap (λ (p : List ℕ × List ℕ). length p.1) (ok_is {E = TlvFault} ([], octets) x e) in omega (arith, l)

pub prefix_shortens : Shortens prefix_at
unfolding prefix_at
prefix_shortens octets x rest e =
    let y : Prefix × List ℕ = (x, rest) in
    let a = bind_ok (number_at EntryShort 4 octets) _ y e in
    let b = bind_ok (octet_at EntryShort a.0.1) _ y a.2 in
    let c = bind_ok (bits_at b.0.0) _ y b.2 in
    let d = bind_ok (octets_at EntryShort (prefix_octets c.0) b.0.1) _ y c.2 in
    let f = bind_ok (subs_if_at (has_subs b.0.0) d.0.1) _ y d.2 in
    let s0 = number_shorter EntryShort 4 octets a.0 a.1 in
    let s1 = octet_shorter EntryShort a.0.1 b.0 b.1 in
    let s2 = octets_shorter EntryShort (prefix_octets c.0) b.0.1 d.0 d.1 in
    let s3 = subs_shorter (has_subs b.0.0) d.0.1 f.0 f.1 in
    let last : f.0.1 ≡ rest = ap (λ (p : Prefix × List ℕ). p.1) (ok_is {E = TlvFault} _ y f.2) in
    let l = ap length last in
    omega (arith, s0, s1, s2, s3, l)

lsp_id_shorter : (octets : List ℕ) (x : LspId × List ℕ) → lsp_id_at EntryShort octets ≡ Ok x → length x.1 < length octets
lsp_id_shorter octets x e =
    let a = bind_ok (octets_at EntryShort 6 octets) _ x e in
    let b = bind_ok (octet_at EntryShort a.0.1) _ x a.2 in
    let c = bind_ok (octet_at EntryShort b.0.1) _ x b.2 in
    let s0 = octets_shorter EntryShort 6 octets a.0 a.1 in
    let s1 = octet_shorter EntryShort a.0.1 b.0 b.1 in
    let s2 = octet_shorter EntryShort b.0.1 c.0 c.1 in
    let last : c.0.1 ≡ x.1 = ap (λ (p : LspId × List ℕ). p.1) (ok_is {E = TlvFault} _ x c.2) in
    let l = ap length last in
    omega (arith, s0, s1, s2, l)

pub row_shortens : Shortens row_at
unfolding row_at
row_shortens octets x rest e =
    let y : Summary × List ℕ = (x, rest) in
    let a = bind_ok (number_at EntryShort 2 octets) _ y e in
    let b = bind_ok (lsp_id_at EntryShort a.0.1) _ y a.2 in
    let c = bind_ok (number_at EntryShort 4 b.0.1) _ y b.2 in
    let d = bind_ok (number_at EntryShort 2 c.0.1) _ y c.2 in
    let s0 = number_shorter EntryShort 2 octets a.0 a.1 in
    let s1 = lsp_id_shorter a.0.1 b.0 b.1 in
    let s2 = number_shorter EntryShort 4 b.0.1 c.0 c.1 in
    let s3 = number_shorter EntryShort 2 c.0.1 d.0 d.1 in
    let last : d.0.1 ≡ rest = ap (λ (p : Summary × List ℕ). p.1) (ok_is {E = TlvFault} _ y d.2) in
    let l = ap length last in
    omega (arith, s0, s1, s2, s3, l)

some_tlv_is : (r : Result (Option (Tlv × List ℕ)) TlvFault) (x : Tlv × List ℕ) → some_tlv r ≡ Ok x → r ≡ Ok (Some x)
some_tlv_is (Ok (Some y)) x e = ap (λ (z : Tlv × List ℕ). Ok (Some z)) (ok_is {E = TlvFault} y x e)
some_tlv_is (Ok None) x e = absurd cc
some_tlv_is (Err f) x e = absurd cc

pub tlv_shortens : Shortens one_tlv_at
tlv_shortens octets x rest e = let s = tlv_shorter octets x rest (some_tlv_is (tlv_at octets) (x, rest) e) in omega (arith, s)

-- ---- what is listed one after the other

reach_none : reach_at [] ≡ Err EntryShort
unfolding reach_at
reach_none = refl

prefix_none : prefix_at [] ≡ Err EntryShort
unfolding prefix_at
prefix_none = refl

row_none : row_at [] ≡ Err EntryShort
unfolding row_at
row_none = refl

pub reaches_again : (rs : List Reach) → AllByRecursion ReachFits rs → entries_of reach_at (flat_map reach rs) ≡ rs
reaches_again rs fits = entries_again reach_at reach ReachFits EntryShort reach_shortens reach_none reach_again rs fits

pub prefixes_again : (ps : List Prefix) → AllByRecursion PrefixFits ps → entries_of prefix_at (flat_map prefix ps) ≡ ps
prefixes_again ps fits = entries_again prefix_at prefix PrefixFits EntryShort prefix_shortens prefix_none prefix_again ps fits

pub rows_again : (rows : List Summary) → AllByRecursion SummaryFits rows → entries_of row_at (flat_map row rows) ≡ rows
rows_again rows fits = entries_again row_at row SummaryFits EntryShort row_shortens row_none row_again rows fits

-- the steps of a walk to the end or to an overrun
pub before_step : (octets : List ℕ) (t : Tlv) (rest : List ℕ) → tlv_at octets ≡ Ok (Some (t, rest)) → tlvs_before octets ≡ t ∷ tlvs_before rest
before_step octets t rest e = entries_step one_tlv_at tlv_shortens octets t rest (ap some_tlv e)

pub before_end : (octets : List ℕ) → tlv_at octets ≡ Ok None → tlvs_before octets ≡ []
before_end octets e = entries_end one_tlv_at tlv_shortens octets Overrun (ap some_tlv e)

pub before_fault : (octets : List ℕ) (f : TlvFault) → tlv_at octets ≡ Err f → tlvs_before octets ≡ []
before_fault octets f e = entries_end one_tlv_at tlv_shortens octets f (ap some_tlv e)

-- where the octets are TLVs to their end these are all
pub before_spelled : (ts : List Tlv) → tlvs_before (flat_map tlv ts) ≡ ts
before_spelled [] = before_end [] refl
before_spelled (t ∷ ts) = before_step (flat_map tlv (t ∷ ts)) t (flat_map tlv ts) (tlv_again t (flat_map tlv ts)) ∙ ap (λ (us : List Tlv). t ∷ us) (before_spelled ts)

pub before_all : (octets : List ℕ) (ts : List Tlv) → tlvs_of octets ≡ Ok ts → tlvs_before octets ≡ ts
before_all octets ts e = ap (λ (l : List ℕ). tlvs_before l) (tlvs_parts octets ts e) ∙ before_spelled ts

-- ---- entries in TLVs 9

blocks_enough : (m n : ℕ) (rows : List Summary) → length rows ≤ m → length rows ≤ n → blocks_within m rows ≡ blocks_within n rows
unfolding blocks_within
blocks_enough zero zero rows h k = refl
blocks_enough zero (suc n) [] h k = refl
blocks_enough zero (suc n) (r ∷ rows) h k = absurd (omega arith)
blocks_enough (suc m) zero [] h k = refl
blocks_enough (suc m) zero (r ∷ rows) h k = absurd (omega arith)
blocks_enough (suc m) (suc n) [] h k = refl
blocks_enough (suc m) (suc n) (r ∷ rows) h k = ap (λ (bs : List (List Summary)). take 15 (r ∷ rows) ∷ bs) (blocks_enough m n (drop 15 (r ∷ rows)) (omega (arith, length-drop 15 (r ∷ rows))) (omega (arith, length-drop 15 (r ∷ rows))))

pub row_tlvs_end : row_tlvs [] ≡ []
unfolding row_tlvs blocks_within
row_tlvs_end = refl

-- the first block and the others
pub row_tlvs_step : (rows : List Summary) (n : ℕ) → 0 < length rows → n ≡ min (length rows) 15 → row_tlvs rows ≡ tlv (row_tlv (take n rows)) ++ row_tlvs (drop n rows)
unfolding row_tlvs blocks_within
row_tlvs_step [] n h e = absurd (omega arith)
row_tlvs_step (r ∷ rows) n h e =
    let all = r ∷ rows in
    let rest : blocks_within (length rows) (drop 15 all) ≡ blocks (drop 15 all) = blocks_enough (length rows) (length (drop 15 all)) (drop 15 all) (omega (arith, length-drop 15 all)) (omega arith) in
    let t : take n all ≡ take 15 all = elim (cases_lt (length all) 15) [
      | inl lt ↦ take_all n all (omega arith) ∙ sym (take_all 15 all (omega arith))
      | inr le ↦ ap (λ (k : ℕ). take k all) (let k : n ≡ 15 = omega arith in k)
    ] in
    let d : drop n all ≡ drop 15 all = elim (cases_lt (length all) 15) [
      | inl lt ↦ drop_all n all (omega arith) ∙ sym (drop_all 15 all (omega arith))
      | inr le ↦ ap (λ (k : ℕ). drop k all) (let k : n ≡ 15 = omega arith in k)
    ] in
    flat_map-cons (λ block. tlv (row_tlv block)) (take 15 all) (blocks_within (length rows) (drop 15 all)) ∙ ap (λ (bs : List (List Summary)). tlv (row_tlv (take 15 all)) ++ flat_map (λ block. tlv (row_tlv block)) bs) rest ∙ rw (t, d) refl

pub length_rows : (rows : List Summary) → AllByRecursion SummaryFits rows → length (flat_map row rows) ≡ 16 * length rows
length_rows [] fits = omega arith
length_rows (r ∷ rows) fits =
    let e = length_rows rows fits.1 in
    omega (arith, e, length_row r fits.0, length-append (row r) (flat_map row rows))

pub fits_take : (n : ℕ) (rows : List Summary) → AllByRecursion SummaryFits rows → AllByRecursion SummaryFits (take n rows)
fits_take zero rows fits = tt
fits_take (suc n) [] fits = tt
fits_take (suc n) (r ∷ rows) fits = (fits.0, fits_take n rows fits.1)

pub fits_drop : (n : ℕ) (rows : List Summary) → AllByRecursion SummaryFits rows → AllByRecursion SummaryFits (drop n rows)
fits_drop zero rows fits = fits
fits_drop (suc n) [] fits = tt
fits_drop (suc n) (r ∷ rows) fits = fits_drop n rows fits.1

pub fits_joined : (a b : List Summary) → AllByRecursion SummaryFits a → AllByRecursion SummaryFits b → AllByRecursion SummaryFits (a ++ b)
fits_joined [] b fa fb = fb
fits_joined (r ∷ a) b fa fb = (fa.0, fits_joined a b fa.1 fb)

block_passes : (block : List Summary) → AllByRecursion SummaryFits block → true ≡ passes true (row_tlv block)
block_passes block fits =
    let e : length (flat_map row block) % 16 ≡ 0 = let l = length_rows block fits in omega (arith, l) in
    sym (eq-eqb _ _ e)

blocks_pass : (n : ℕ) (rows : List Summary) → AllByRecursion SummaryFits rows → tlvs_pass true (flat_map (λ block. tlv (row_tlv block)) (blocks_within n rows)) ≡ true
unfolding blocks_within
blocks_pass zero rows fits = pass_none true [] refl
blocks_pass (suc n) [] fits = pass_none true [] refl
blocks_pass (suc n) (r ∷ rows) fits =
    let all = r ∷ rows in
    let rest = flat_map (λ block. tlv (row_tlv block)) (blocks_within n (drop 15 all)) in
    ap (tlvs_pass true) (flat_map-cons (λ block. tlv (row_tlv block)) (take 15 all) (blocks_within n (drop 15 all)))
    ∙ pass_on true (tlv (row_tlv (take 15 all)) ++ rest) (row_tlv (take 15 all)) rest (tlv_again (row_tlv (take 15 all)) rest) (block_passes (take 15 all) (fits_take 15 all fits))
    ∙ blocks_pass n (drop 15 all) (fits_drop 15 all fits)

pub row_tlvs_pass : (rows : List Summary) → AllByRecursion SummaryFits rows → tlvs_pass true (row_tlvs rows) ≡ true
unfolding row_tlvs
row_tlvs_pass rows fits = blocks_pass (length rows) rows fits

-- the TLVs of rows are read as those rows
blocks_rows : (n : ℕ) (rows : List Summary) → length rows ≤ n → AllByRecursion SummaryFits rows → rows_of (flat_map (λ block. tlv (row_tlv block)) (blocks_within n rows)) ≡ rows
unfolding blocks_within
blocks_rows zero [] h fits = ap (flat_map rows_in) (before_end [] refl)
blocks_rows zero (r ∷ rows) h fits = absurd (omega arith)
blocks_rows (suc n) [] h fits = ap (flat_map rows_in) (before_end [] refl)
blocks_rows (suc n) (r ∷ rows) h fits =
    let all = r ∷ rows in
    let block = take 15 all in
    let rest = flat_map (λ block. tlv (row_tlv block)) (blocks_within n (drop 15 all)) in
    let whole : flat_map (λ block. tlv (row_tlv block)) (block ∷ blocks_within n (drop 15 all)) ≡ tlv (row_tlv block) ++ rest = flat_map-cons (λ block. tlv (row_tlv block)) block (blocks_within n (drop 15 all)) in
    ap rows_of whole
    ∙ ap (flat_map rows_in) (before_step (tlv (row_tlv block) ++ rest) (row_tlv block) rest (tlv_again (row_tlv block) rest))
    ∙ flat_map-cons rows_in (row_tlv block) (tlvs_before rest)
    ∙ ap (λ (rs : List Summary). rs ++ rows_of rest) (rows_again block (fits_take 15 all fits))
    ∙ ap (λ (rs : List Summary). block ++ rs) (blocks_rows n (drop 15 all) (omega (arith, length-drop 15 all)) (fits_drop 15 all fits))
    ∙ take-append-drop 15 all

pub rows_of_tlvs : (rows : List Summary) → AllByRecursion SummaryFits rows → rows_of (row_tlvs rows) ≡ rows
unfolding row_tlvs
rows_of_tlvs rows fits = blocks_rows (length rows) rows (omega arith) fits

blocks_length : (n : ℕ) (rows : List Summary) → AllByRecursion SummaryFits rows → length (flat_map (λ block. tlv (row_tlv block)) (blocks_within n rows)) ≤ 18 * length rows
unfolding blocks_within
blocks_length zero rows fits = omega arith
blocks_length (suc n) [] fits = omega arith
blocks_length (suc n) (r ∷ rows) fits =
    let all = r ∷ rows in
    let rest = flat_map (λ block. tlv (row_tlv block)) (blocks_within n (drop 15 all)) in
    let block = take 15 all in
    let whole : flat_map (λ block. tlv (row_tlv block)) (block ∷ blocks_within n (drop 15 all)) ≡ tlv (row_tlv block) ++ rest = flat_map-cons (λ block. tlv (row_tlv block)) block (blocks_within n (drop 15 all)) in
    let l0 = ap length whole in
    let l1 = length-append (tlv (row_tlv block)) rest in
    let l2 = length_rows block (fits_take 15 all fits) in
    let l3 = blocks_length n (drop 15 all) (fits_drop 15 all fits) in
    let l4 = length-take 15 all in
    let l5 = length-drop 15 all in
    omega (arith, l0, l1, l2, l3, l4, l5)

pub row_tlvs_length : (rows : List Summary) → AllByRecursion SummaryFits rows → length (row_tlvs rows) ≤ 18 * length rows
unfolding row_tlvs
row_tlvs_length rows fits = blocks_length (length rows) rows fits

-- ---- steps for those who walk entries
