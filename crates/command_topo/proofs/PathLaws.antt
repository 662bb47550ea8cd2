-- The lines of paths, one after another.
use Rattle.std.proofs.Common.{◌≡◌, ℕ, zero, suc, ◌+◌, List, [], ◌∷◌, ◌++◌, sym, ap, ◌∙◌, arith}
use Rattle.std.specs.Prelude.{flat_map}
use Rattle.std.specs.List.{range_with_len}
use Rattle.std.proofs.lemmas.List.{flat_map_more}

range_suc : (a n : ℕ) → range_with_len a (suc n) ≡ range_with_len a n ++ (a + n) ∷ []
range_suc a zero = let same : a ≡ a + 0 = omega arith in ap (λ (x : ℕ). x ∷ []) same
range_suc a (suc n) =
    let same : a + 1 + n ≡ a + suc n = omega arith in
    ap (λ (l : List ℕ). a ∷ l) (range_suc (a + 1) n) ∙ ap (λ (x : ℕ). a ∷ (range_with_len (a + 1) n ++ x ∷ [])) same

pub paths_more : (f : ℕ → List ℕ) (old out now : List ℕ) (n : ℕ) → out ≡ old ++ flat_map f (range_with_len 0 n) → now ≡ out ++ f n → now ≡ old ++ flat_map f (range_with_len 0 (n + 1))
paths_more f old out now n before is =
    let same : 0 + n ≡ n = omega arith in
    let one : suc n ≡ n + 1 = omega arith in
    is ∙ ap (λ (l : List ℕ). l ++ f n) before ∙ flat_map_more f old (range_with_len 0 n) n
    ∙ ap (λ (l : List ℕ). old ++ flat_map f l) (ap (λ (x : ℕ). range_with_len 0 n ++ x ∷ []) (sym same) ∙ sym (range_suc 0 n) ∙ ap (range_with_len 0) one)
