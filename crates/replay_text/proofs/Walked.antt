-- A set that is written position by position.
use Rattle.std.proofs.Common.{◌≡◌, ℕ, ◌++◌, List, [], ◌∷◌, Some, None, Result, Ok, Err, OnOk, OnErr, sym, ap, ◌∙◌, append_assoc, append-nil, refl}
use Rattle.std.specs.List.{flat_map}
use Rattle.std.specs.Fmt.{decimal}
use Rattle.std.proofs.lemmas.List.Concat.{flat_map-append}
use Rattle.wire_base.specs.model.BitSet.{first_member}
use Rattle.bier_bits.specs.Sets.{from_on}
use Rattle.bier_bits.proofs.Places.{from-zero}
use Rattle.replay_text.specs.Ids.{ids_text}
use Rattle.replay_text.specs.Room.{IsFront}

abbrev pub behind_comma : ℕ → List ℕ
behind_comma next = 44 ∷ decimal next

-- a text and the block behind it, with the comma and the number of one position more
pub written_more : (old base out block out' block' number done : List ℕ) (p : ℕ) → out ++ block ≡ old ++ (base ++ flat_map behind_comma done) → out' ++ block' ≡ out ++ block → number ≡ block' ++ behind_comma p → out' ++ number ≡ old ++ (base ++ flat_map behind_comma (done ++ p ∷ []))
written_more old base out block out' block' number done p so_far moved is_number =
    ap (λ (l : List ℕ). out' ++ l) is_number
    ∙ sym (append_assoc out' block' (behind_comma p)) ∙ ap (λ (l : List ℕ). l ++ behind_comma p) (moved ∙ so_far)
    ∙ append_assoc old (base ++ flat_map behind_comma done) (behind_comma p) ∙ ap (λ (l : List ℕ). old ++ l) (append_assoc base (flat_map behind_comma done) (behind_comma p)
    ∙ ap (λ (l : List ℕ). base ++ l) (sym (flat_map-append behind_comma done (p ∷ []) ∙ ap (λ (l : List ℕ). flat_map behind_comma done ++ l) (append_nil (behind_comma p)))))
  where
    append_nil : (l : List ℕ) → l ++ [] ≡ l
    append_nil [] = refl
    append_nil (x ∷ xs) = ap (λ (l : List ℕ). x ∷ l) (append_nil xs)

pub left_more : (whole done rest more : List ℕ) (p : ℕ) → whole ≡ done ++ rest → rest ≡ p ∷ more → whole ≡ (done ++ p ∷ []) ++ more
left_more whole done rest more p so_far next = so_far ∙ ap (λ (l : List ℕ). done ++ l) next ∙ sym (append_assoc done (p ∷ []) more)

-- the whole text, once the first position is known
pub whole_text : (set more : List ℕ) (p : ℕ) → from_on 0 set ≡ p ∷ more → ids_text set ≡ decimal p ++ flat_map behind_comma more
whole_text set more p first = ap ids_text (sym (from-zero set) ∙ first)

-- no position, behind a block that was moved
pub none_written : (old base out block new set : List ℕ) → None ≡ first_member (from_on 0 set) → out ++ block ≡ old ++ base → new ≡ block ++ 45 ∷ [] → out ++ new ≡ old ++ (base ++ ids_text set)
none_written old base out block new [] none moved is = ap (λ (l : List ℕ). out ++ l) is ∙ sym (append_assoc out block (45 ∷ [])) ∙ ap (λ (l : List ℕ). l ++ 45 ∷ []) moved ∙ append_assoc old base (45 ∷ [])
none_written old base out block new (x ∷ xs) none moved is =
    let some : None ≡ Some x = none ∙ ap first_member (from-zero (x ∷ xs)) in
    absurd cc

-- the first position, behind a block that was moved, and the others
pub set_written : {T E : Type 0} (result : Result T E) (old base out block block' new_out new_block set more : List ℕ) (p : ℕ) → from_on 0 set ≡ p ∷ more → out ++ block ≡ old ++ base → block' ≡ block ++ decimal p
    → OnOk result (new_out ++ new_block ≡ out ++ (block' ++ flat_map behind_comma more)) → OnOk result (new_out ++ new_block ≡ old ++ (base ++ ids_text set))
set_written (Ok x) old base out block block' new_out new_block set more p first moved number rest =
    let others = flat_map behind_comma more in
    rest ∙ ap (λ (l : List ℕ). out ++ (l ++ others)) number ∙ ap (λ (l : List ℕ). out ++ l) (append_assoc block (decimal p) others) ∙ sym (append_assoc out block (decimal p ++ others))
    ∙ ap (λ (l : List ℕ). l ++ (decimal p ++ others)) moved ∙ append_assoc old base (decimal p ++ others) ∙ ap (λ (l : List ℕ). old ++ (base ++ l)) (sym (whole_text set more p first))
set_written (Err e) old base out block block' new_out new_block set more p first moved number rest = tt

-- ---- what stands after out of memory

pub on_err : {T E P : Type 0} (result : Result T E) → P → OnErr result P
on_err (Ok x) p = tt
on_err (Err e) p = p

pub front_written : (old base out block out' block' done left all : List ℕ) → out ++ block ≡ old ++ (base ++ flat_map behind_comma done) → (out' ≡ out) × (block' ≡ block) → all ≡ done ++ left → IsFront (old ++ base) (flat_map behind_comma all) (out' ++ block')
front_written old base out block out' block' done left all so_far same parts =
    record {
      done = flat_map behind_comma done;
      left = flat_map behind_comma left;
      parts = ap (flat_map behind_comma) parts ∙ flat_map-append behind_comma done left;
      is = ap (λ (l : List ℕ). l ++ block') same.0 ∙ ap (λ (l : List ℕ). out ++ l) same.1 ∙ so_far ∙ sym (append_assoc old base (flat_map behind_comma done));
    }

pub front_empty : (old base out block more : List ℕ) → (out ≡ old) × (block ≡ base) → IsFront (old ++ base) more (out ++ block)
front_empty old base out block more same =
    record { done = []; left = more; parts = refl; is = ap (λ (l : List ℕ). l ++ block) same.0 ∙ ap (λ (l : List ℕ). old ++ l) same.1 ∙ sym (append-nil (old ++ base)) }

pub front_of_set : {T E : Type 0} (result : Result T E) (old base out block block' new set more : List ℕ) (p : ℕ) → from_on 0 set ≡ p ∷ more → out ++ block ≡ old ++ base → block' ≡ block ++ decimal p
    → OnErr result (IsFront (out ++ block') (flat_map behind_comma more) new) → OnErr result (IsFront (old ++ base) (ids_text set) new)
front_of_set (Ok x) old base out block block' new set more p first moved number rest = tt
front_of_set (Err e) old base out block block' new set more p first moved number rest =
    record {
      done = decimal p ++ rest.done;
      left = rest.left;
      parts = whole_text set more p first ∙ ap (λ (l : List ℕ). decimal p ++ l) rest.parts ∙ sym (append_assoc (decimal p) rest.done rest.left);
      is = rest.is ∙ ap (λ (l : List ℕ). l ++ rest.done) (ap (λ (l : List ℕ). out ++ l) number ∙ sym (append_assoc out block (decimal p)) ∙ ap (λ (l : List ℕ). l ++ decimal p) moved) ∙ append_assoc (old ++ base) (decimal p) rest.done;
    }
