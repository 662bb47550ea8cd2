-- Lists of rows in blocks: how long they are, and that each row of a block is one of the list.
use Rattle.std.proofs.Common.{ℕ, zero, suc, ◌+◌, ◌*◌, ◌/◌, ◌≤◌, List, [], ◌∷◌, ◌++◌, length, map, filter, take, drop, Bool, true, false, cond, ap, arith}
use Rattle.std.specs.List.{flat_map, AllByRecursion}
use Rattle.std.proofs.lemmas.List.{length-append, length-take, length-drop}
use Rattle.std.proofs.lemmas.List.Concat.{flat_map-cons}
use Rattle.wire_base.specs.declared.triple.Summary.{Summary}
use Rattle.wire_base.specs.model.Lists as lists
use Rattle.wire_base.specs.model.Pdu.{blocks_within, row_tlv, row_tlvs}
use Rattle.wire_base.specs.model.Tlv.{tlv, SummaryFits}
use Rattle.laws_format.proofs.TlvListLaws.{length_rows, fits_take, fits_drop}
use Rattle.laws_format.proofs.ContentLaws.{each_taken, each_dropped}

-- ---- facts of each element

pub all_joined : {X : Type 0} (P : X → Type 0) (xs ys : List X) → AllByRecursion P xs → AllByRecursion P ys → AllByRecursion P (xs ++ ys)
all_joined P [] ys fx fy = fy
all_joined P (x ∷ xs) ys fx fy = (fx.0, all_joined P xs ys fx.1 fy)

pub all_mapped : {X Y : Type 0} (P : X → Type 0) (Q : Y → Type 0) (f : X → Y) (xs : List X) → ((x : X) → P x → Q (f x)) → AllByRecursion P xs → AllByRecursion Q (map f xs)
all_mapped P Q f [] each all = tt
all_mapped P Q f (x ∷ xs) each all = (each x all.0, all_mapped P Q f xs each all.1)

pub all_filtered : {X : Type 0} (P : X → Type 0) (test : X → Bool) (xs : List X) → AllByRecursion P xs → AllByRecursion P (filter test xs)
all_filtered P test [] all = tt
all_filtered P test (x ∷ xs) all = kept_if (test x) (all_filtered P test xs all.1)
  where
    kept_if : (b : Bool) → AllByRecursion P (filter test xs) → AllByRecursion P (cond b (x ∷ filter test xs) (filter test xs))
    kept_if true rest = (all.0, rest)
    kept_if false rest = rest

-- ---- blocks

-- a block of at most so many, each of which has the property
pub record IsBlock {X : Type 0} (P : X → Type 0) (n : ℕ) (block : List X) : Type 0 where
  pub few : length block ≤ n
  pub each : AllByRecursion P block

within_blocks : {X : Type 0} (P : X → Type 0) (more n : ℕ) (xs : List X) → AllByRecursion P xs → AllByRecursion (IsBlock P n) (lists.blocks_within more n xs)
within_blocks P zero n xs all = tt
within_blocks P (suc more) n [] all = tt
within_blocks P (suc more) n (x ∷ xs) all =
    (record { few = omega (arith, length-take n (x ∷ xs)); each = each_taken P n (x ∷ xs) all }, within_blocks P more n (drop n (x ∷ xs)) (each_dropped P n (x ∷ xs) all))

pub are_blocks : {X : Type 0} (P : X → Type 0) (n : ℕ) (xs : List X) → AllByRecursion P xs → AllByRecursion (IsBlock P n) (lists.blocks n xs)
are_blocks P n xs all = within_blocks P (length xs) n xs all

-- ---- rows in TLVs

blocks_long : (n : ℕ) (rows : List Summary) → AllByRecursion SummaryFits rows
    → length (flat_map (λ block. tlv (row_tlv block)) (blocks_within n rows)) ≤ 16 * length rows + 2 * ((length rows + 14) / 15)
unfolding blocks_within
blocks_long zero rows fits = omega arith
blocks_long (suc n) [] fits = omega arith
blocks_long (suc n) (r ∷ rows) fits =
    let all = r ∷ rows in
    let rest = flat_map (λ block. tlv (row_tlv block)) (blocks_within n (drop 15 all)) in
    let block = take 15 all in
    let l0 = ap length (flat_map-cons (λ block. tlv (row_tlv block)) block (blocks_within n (drop 15 all))) in
    let l1 = length-append (tlv (row_tlv block)) rest in
    let l2 = length_rows block (fits_take 15 all fits) in
    let l3 = blocks_long n (drop 15 all) (fits_drop 15 all fits) in
    let l4 = length-take 15 all in
    let l5 = length-drop 15 all in
    omega (arith, l0, l1, l2, l3, l4, l5)

-- ninety rows are six TLVs
pub rows_short : (rows : List Summary) → AllByRecursion SummaryFits rows → length rows ≤ 90 → length (row_tlvs rows) ≤ 1452
unfolding row_tlvs
rows_short rows fits few = omega (arith, blocks_long (length rows) rows fits)
