-- The entries that TLVs list are no more than their octets, and the rules for a list of entries.
use Rattle.std.proofs.Common.{◌≡◌, ℕ, zero, suc, ◌+◌, ◌≤◌, ◌==◌, Bool, true, false, List, [], ◌++◌, length, take, drop, Option, Some, None, Result, Ok, Err, OnErr, refl, sym, ap, ◌∙◌, arith}
use Rattle.std.specs.List.{flat_map}
use Rattle.std.proofs.Math.Seq.{take-append_seam}
use Rattle.std.proofs.lemmas.List.{append-nil, length-append, length-take, take-append-le, take-append-drop}
use Rattle.std.proofs.lemmas.List.Concat.{flat_map-cons}
use Rattle.wire_base.specs.model.Control.{Flood}
use Rattle.wire_base.specs.model.Flooding.{mark_all}
use Rattle.wire_base.specs.declared.faults.TlvFault.{TlvFault}
use Rattle.wire_base.specs.declared.addresses.LspId.{LspId}
use Rattle.wire_base.specs.declared.triple.Summary.{Summary}
use Rattle.wire_base.specs.model.Tlv.{Tlv, tlv, tlv_at, row_at, then_entries, entries_within, entries_of, some_tlv, one_tlv_at, rows_in, rows_of}
use Rattle.laws_format.proofs.TlvLaws.{tlv_parts}

few_then : {X E : Type 0} (r : Result (X × List ℕ) E) (f : List ℕ → List X) (n : ℕ) → ((rest : List ℕ) → length (f rest) ≤ n) → length (then_entries r f) ≤ suc n
few_then (Ok x) f n h = let l = h x.1 in omega arith
few_then (Err e) f n h = omega arith

few_within : {X E : Type 0} (read : List ℕ → Result (X × List ℕ) E) (n : ℕ) (octets : List ℕ) → length (entries_within read n octets) ≤ n
unfolding entries_within
few_within read zero octets = omega arith
few_within read (suc n) octets = few_then (read octets) (entries_within read n) n (λ rest. few_within read n rest)

-- there are no more entries than octets
entries_few : {X E : Type 0} (read : List ℕ → Result (X × List ℕ) E) (octets : List ℕ) → length (entries_of read octets) ≤ length octets
unfolding entries_of
entries_few read octets = few_within read (length octets) octets

few_in : (t : Tlv) → length (rows_in t) ≤ length t.value
few_in t = by (t.code == 9) refl
  where
    by : (b : Bool) → (t.code == 9) ≡ b → length (rows_in t) ≤ length t.value
    by true e = rw e (entries_few row_at t.value)
    by false e = rw e (omega arith)

rows_then : (r : Result (Option (Tlv × List ℕ)) TlvFault) (octets : List ℕ) (f : List ℕ → List Tlv) → tlv_at octets ≡ r → ((rest : List ℕ) → length (flat_map rows_in (f rest)) ≤ length rest) → length (flat_map rows_in (then_entries (some_tlv r) f)) ≤ length octets
rows_then (Ok (Some x)) octets f e h =
    let here = few_in x.0 in
    let more = h x.1 in
    let all = ap length (flat_map-cons rows_in x.0 (f x.1)) in
    let parts = ap length (tlv_parts octets x.0 x.1 e) in
    omega (arith, here, more, all, length-append (rows_in x.0) (flat_map rows_in (f x.1)), parts, length-append (tlv x.0) x.1)
rows_then (Ok None) octets f e h = omega arith
rows_then (Err fault) octets f e h = omega arith

rows_within : (n : ℕ) (octets : List ℕ) → length (flat_map rows_in (entries_within one_tlv_at n octets)) ≤ length octets
unfolding entries_within
rows_within zero octets = omega arith
rows_within (suc n) octets = rows_then (tlv_at octets) octets (entries_within one_tlv_at n) refl (λ rest. rows_within n rest)

rows_few : (octets : List ℕ) → length (rows_of octets) ≤ length octets
unfolding entries_of
rows_few octets = rows_within (length octets) octets

-- ---- at the end of a walk

pub listed_few : (rows : List Summary) (octets : List ℕ) → rows ≡ rows_of octets → length rows ≤ length octets
listed_few rows octets is = let l = ap length is in omega (arith, l, rows_few octets)

-- those of TLVs were added
pub appended_few : (before now : List Summary) (octets : List ℕ) → now ≡ before ++ rows_of octets → length now ≤ length before + length octets
appended_few before now octets is = let l = ap length is in omega (arith, l, length-append before (rows_of octets), rows_few octets)

-- ---- where memory runs out

-- what there was stands in front of what is there
pub front_kept : (before now more total : List Summary) → now ++ more ≡ before ++ total → length before ≤ length now → take (length before) now ≡ before
front_kept before now more total is le = sym (take-append-le (length before) now more le) ∙ ap (take (length before)) is ∙ take-append_seam before total

pub front_through : (before between now : List Summary) → take (length before) between ≡ before → take (length between) now ≡ between → take (length before) now ≡ before
front_through before between now first then_now =
    let le : length before ≤ length between = let l = ap length first in omega (arith, l, length-take (length before) between) in
    ap (take (length before)) (sym (take-append-drop (length between) now) ∙ ap (λ (rows : List Summary). rows ++ drop (length between) now) then_now) ∙ take-append-le (length before) between (drop (length between) now) le ∙ first

-- what holds at any rate holds after an error
pub after_error : {T E P : Type 0} (r : Result T E) → P → OnErr r P
after_error (Ok x) p = tt
after_error (Err e) p = p

-- no more are left
pub none_left : (rows more total : List Summary) → more ≡ [] → rows ++ more ≡ total → rows ≡ total
none_left rows more total none so = sym (append-nil rows) ∙ ap (λ xs. rows ++ xs) (sym none) ∙ so

-- marking changes no link
pub marked_links : (f new : Flood) (id : LspId) → new ≡ mark_all f id → length new.up ≡ length f.up
unfolding mark_all
marked_links f new id is = ap (λ (g : Flood). length g.up) is
