-- A text and the block that ends it, with one piece after the other.
use Rattle.std.proofs.Common.{◌≡◌, List, ℕ, ◌++◌, Result, Ok, Err, OnOk, sym, ap, ◌∙◌, append_assoc}

pub then_put : (old base first out block second out' block' : List ℕ) → out ++ block ≡ old ++ (base ++ first) → out' ++ block' ≡ out ++ (block ++ second) → out' ++ block' ≡ old ++ (base ++ (first ++ second))
then_put old base first out block second out' block' one two =
    two ∙ sym (append_assoc out block second) ∙ ap (λ (l : List ℕ). l ++ second) one ∙ append_assoc old (base ++ first) second ∙ ap (λ (l : List ℕ). old ++ l) (append_assoc base first second)

pub then_on_ok : {T E : Type 0} (result : Result T E) (old base first out block second out' block' : List ℕ) → out ++ block ≡ old ++ (base ++ first) → OnOk result (out' ++ block' ≡ out ++ (block ++ second)) → OnOk result (out' ++ block' ≡ old ++ (base ++ (first ++ second)))
then_on_ok (Ok x) old base first out block second out' block' one two = then_put old base first out block second out' block' one two
then_on_ok (Err e) old base first out block second out' block' one two = tt

on_ok_is : {T E : Type 0} (result : Result T E) (old base text same now : List ℕ) → text ≡ same → OnOk result (now ≡ old ++ (base ++ text)) → OnOk result (now ≡ old ++ (base ++ same))
on_ok_is (Ok x) old base text same now is was = was ∙ ap (λ (l : List ℕ). old ++ (base ++ l)) is
on_ok_is (Err e) old base text same now is was = tt

-- the line of a delivery: its start, its id and its end
pub local_put : {T E : Type 0} (result : Result T E) (old base start id end o1 k1 o2 k2 o3 k3 : List ℕ) → o1 ++ k1 ≡ old ++ (base ++ start) → o2 ++ k2 ≡ o1 ++ (k1 ++ id) → OnOk result (o3 ++ k3 ≡ o2 ++ (k2 ++ end)) → OnOk result (o3 ++ k3 ≡ old ++ (base ++ (start ++ id ++ end)))
local_put result old base start id end o1 k1 o2 k2 o3 k3 one two three =
    then_on_ok result old base (start ++ id) o2 k2 end o3 k3 (then_put old base start o1 k1 id o2 k2 one two) three

-- the line of a copy: its start, then the name and a space in the block, and the ids with the end
pub copy_put : {T E : Type 0} (result : Result T E) (old base start name gap ids end o1 k1 k2 o3 k3 : List ℕ) → o1 ++ k1 ≡ old ++ (base ++ start) → k2 ≡ k1 ++ (name ++ gap) → OnOk result (o3 ++ k3 ≡ o1 ++ (k2 ++ (ids ++ end))) → OnOk result (o3 ++ k3 ≡ old ++ (base ++ (start ++ name ++ gap ++ ids ++ end)))
copy_put result old base start name gap ids end o1 k1 k2 o3 k3 one two three =
    let named : o1 ++ k2 ≡ old ++ (base ++ (start ++ (name ++ gap))) = then_put old base start o1 k1 (name ++ gap) o1 k2 one (ap (λ (l : List ℕ). o1 ++ l) two) in
    let same : start ++ (name ++ gap) ++ (ids ++ end) ≡ start ++ name ++ gap ++ ids ++ end = ap (λ (l : List ℕ). l ++ (ids ++ end)) (sym (append_assoc start name gap)) ∙ sym (append_assoc (start ++ name ++ gap) ids end) in
    on_ok_is result old base (start ++ (name ++ gap) ++ (ids ++ end)) (start ++ name ++ gap ++ ids ++ end) (o3 ++ k3) same (then_on_ok result old base (start ++ (name ++ gap)) o1 k2 (ids ++ end) o3 k3 named three)

-- one piece of several, with those that follow
pub piece_put : (out block one more out' block' before : List ℕ) → out' ++ block' ≡ out ++ (block ++ one) → out ++ (block ++ (one ++ more)) ≡ before → out' ++ (block' ++ more) ≡ before
piece_put out block one more out' block' before put was =
    sym (append_assoc out' block' more) ∙ ap (λ (l : List ℕ). l ++ more) put ∙ append_assoc out (block ++ one) more ∙ ap (λ (l : List ℕ). out ++ l) (append_assoc block one more) ∙ was
