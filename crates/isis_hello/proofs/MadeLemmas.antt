-- Lists with a value for each interface and each router, as they are made.
use Rattle.std.proofs.Common.{◌≡◌, ℕ, zero, suc, ◌+◌, ◌<◌, List, [], ◌∷◌, ◌++◌, length, map, take, drop, get_or, set, sum_by, refl, ap, ◌∙◌, arith}
use Rattle.std.proofs.lemmas.List.{get_or_default}
use Rattle.std.proofs.lemmas.List.Edits.{map_over_more}
use Rattle.std.proofs.lemmas.List.Sums.{sum_by-cons}
use Rattle.wire_base.specs.declared.conf.End.{End}
use Rattle.wire_base.specs.declared.conf.RouterConf.{RouterConf}
use Rattle.isis_hello.specs.declared.hello.Hello.{Hello}
use Rattle.isis_hello.specs.Circuits.{hello_count, no_hellos}

-- the same value for one more
pub one_more : {X Y : Type 0} (y : Y) (xs : List X) (n : ℕ) → n < length xs → map (λ x. y) (take (n + 1) xs) ≡ map (λ x. y) (take n xs) ++ y ∷ []
one_more y [] n h = absurd (omega (arith, h))
one_more y (x ∷ xs) zero h = refl
one_more {X} {Y} y (x ∷ xs) (suc n) h =
    let k : suc n + 1 ≡ suc (n + 1) = omega arith in
    ap (λ (m : ℕ). map (λ (x : X). y) (take m (x ∷ xs))) k ∙ ap (λ (ys : List Y). y ∷ ys) (one_more y xs n (omega (arith, h)))

none_queued : (ends : List End) → sum_by (λ (queue : List Hello). length queue) (map (λ e. []) ends) ≡ 0
none_queued [] = refl
none_queued (e ∷ es) =
    let n = none_queued es in
    let s = sum_by-cons (λ (queue : List Hello). length queue) [] (map (λ (e : End). []) es) in
    omega (arith, n, s)

pub none_counted : (confs : List RouterConf) → hello_count (no_hellos confs) ≡ 0
unfolding hello_count
none_counted [] = refl
none_counted (r ∷ rs) =
    let n = none_queued r.ends in
    let m = none_counted rs in
    let s = sum_by-cons (λ (row : List (List Hello)). sum_by (λ queue. length queue) row) (map (λ (e : End). []) r.ends) (no_hellos rs) in
    omega (arith, n, m, s)

-- one more element is changed
pub changed_more : {X : Type 0} (f : X → X) (xs ys : List X) (i : ℕ) (d y : X) → i < length xs → length ys ≡ length xs → ys ≡ map f (take i xs) ++ drop i xs → y ≡ f (get_or ys i d) → set ys i y ≡ map f (take (i + 1) xs) ++ drop (i + 1) xs
changed_more {X} f xs ys i d y h l e is =
    let within : i < length ys = omega (arith, h, l) in
    ap (λ (z : X). set ys i z) is ∙ map_over_more f xs ys i (get_or ys i d) h e (get_or_default ys i d (get_or ys i d) within)
