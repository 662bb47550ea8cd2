-- Laws of lists of BFR-NBRs that are stored one after another.
use Rattle.std.proofs.Common.{◌≡◌, ℕ, zero, suc, ◌+◌, ◌-◌, ◌<◌, ◌≤◌, List, [], ◌∷◌, ◌++◌, length, take, drop, slice_index_or, refl, sym, ap, ◌∙◌, arith}
use Rattle.std.proofs.lemmas.List.{take-append-le, drop-append-le, drop_all, length-append, length-drop, take_all}
use Rattle.std.proofs.Math.Numerals.{suc-eq-add-one}
use Rattle.wire_base.specs.declared.view.First.{First}
use Rattle.wire_base.specs.FirstLists.{AreStarts, extend_last, lists_in}

pub lists_length : (starts : List ℕ) (routers : List First) → length (lists_in starts routers) ≡ length starts
lists_length [] routers = refl
lists_length (s ∷ starts) routers = ap suc (lists_length starts routers)

pub list_at : (starts : List ℕ) (routers : List First) (i : ℕ) → i < length starts → slice_index_or (lists_in starts routers) i [] ≡ take (slice_index_or starts (suc i) (length routers) - slice_index_or starts i 0) (drop (slice_index_or starts i 0) routers)
list_at [] routers i within = absurd (omega (arith, within))
list_at (s ∷ starts) routers zero within = refl
list_at (s ∷ starts) routers (suc i) within = list_at starts routers i (omega (arith, within))

pub none_after : (starts : List ℕ) (routers : List First) (i : ℕ) → length starts ≤ i → slice_index_or (lists_in starts routers) i [] ≡ []
none_after [] routers i after = refl
none_after (s ∷ starts) routers zero after = absurd (omega (arith, after))
none_after (s ∷ starts) routers (suc i) after = none_after starts routers i (omega (arith, after))

-- a list lies within the routers
pub next_within : (starts : List ℕ) (n i : ℕ) → AreStarts starts n → slice_index_or starts i n ≤ n
next_within [] n i are = omega arith
next_within (s ∷ starts) n zero are = omega (arith, are.0, next_within starts n 0 are.1)
next_within (s ∷ starts) n (suc i) are = next_within starts n i are.1

before_next : (starts : List ℕ) (n i : ℕ) → AreStarts starts n → i < length starts → slice_index_or starts i 0 ≤ slice_index_or starts (suc i) n
before_next [] n i are within = absurd (omega (arith, within))
before_next (s ∷ starts) n zero are within = are.0
before_next (s ∷ starts) n (suc i) are within = before_next starts n i are.1 (omega (arith, within))

pub start_before : (starts : List ℕ) (n i : ℕ) → AreStarts starts n → i < length starts → slice_index_or starts i 0 ≤ slice_index_or starts (i + 1) n
start_before starts n i are within = rw (sym (suc-eq-add-one i)) (before_next starts n i are within)

-- an empty list behind all others
pub begun : (starts : List ℕ) (routers : List First) → lists_in (starts ++ length routers ∷ []) routers ≡ lists_in starts routers ++ [] ∷ []
begun [] routers =
    let n : ℕ = length routers in
    let empty : take (n - n) (drop n routers) ≡ [] = ap (λ (l : List First). take (n - n) l) (drop_all n routers (omega arith)) ∙ take_all (n - n) [] (omega arith) in
    ap (λ (l : List First). l ∷ []) empty
begun (s ∷ []) routers = ap (λ (ls : List (List First)). take (length routers - s) (drop s routers) ∷ ls) (begun [] routers)
begun (s ∷ t ∷ starts) routers = ap (λ (ls : List (List First)). take (t - s) (drop s routers) ∷ ls) (begun (t ∷ starts) routers)

pub are_begun : (starts : List ℕ) (n : ℕ) → AreStarts starts n → AreStarts (starts ++ n ∷ []) n
are_begun [] n are = (omega arith, tt)
are_begun (s ∷ []) n are = (are.0, are_begun [] n tt)
are_begun (s ∷ t ∷ starts) n are = (are.0, are_begun (t ∷ starts) n are.1)

-- one more router in the last list
last_list : (s : ℕ) (routers : List First) (first : First) → s ≤ length routers → take (length (routers ++ first ∷ []) - s) (drop s (routers ++ first ∷ [])) ≡ take (length routers - s) (drop s routers) ++ first ∷ []
last_list s routers first within =
    rw (drop-append-le s routers (first ∷ []) within)
    (take_all (length (routers ++ first ∷ []) - s) (drop s routers ++ first ∷ []) (omega (arith, length-append routers (first ∷ []), length-append (drop s routers) (first ∷ []), length-drop s routers))
    ∙ ap (λ (l : List First). l ++ first ∷ []) (sym (take_all (length routers - s) (drop s routers) (omega (arith, length-drop s routers)))))

earlier_list : (s t : ℕ) (routers : List First) (first : First) → s ≤ t → t ≤ length routers → take (t - s) (drop s (routers ++ first ∷ [])) ≡ take (t - s) (drop s routers)
earlier_list s t routers first order within =
    rw (drop-append-le s routers (first ∷ []) (omega (arith, order, within)))
    (take-append-le (t - s) (drop s routers) (first ∷ []) (omega (arith, order, within, length-drop s routers)))

pub extended : (starts : List ℕ) (routers : List First) (first : First) → AreStarts starts (length routers) → lists_in starts (routers ++ first ∷ []) ≡ extend_last first (lists_in starts routers)
extended [] routers first are = refl
extended (s ∷ []) routers first are = ap (λ (l : List First). l ∷ []) (last_list s routers first are.0)
extended (s ∷ t ∷ starts) routers first are =
    let here : take (t - s) (drop s (routers ++ first ∷ [])) ≡ take (t - s) (drop s routers) = earlier_list s t routers first are.0 (next_within (t ∷ starts) (length routers) 0 are.1) in
    rw here (ap (λ (ls : List (List First)). take (t - s) (drop s routers) ∷ ls) (extended (t ∷ starts) routers first are.1))

pub are_extended : (starts : List ℕ) (n : ℕ) → AreStarts starts n → AreStarts starts (suc n)
are_extended [] n are = tt
are_extended (s ∷ []) n are = (omega (arith, are.0), tt)
are_extended (s ∷ t ∷ starts) n are = (are.0, are_extended (t ∷ starts) n are.1)

-- routers are appended to the list that was begun last
pub extend_new : (lists : List (List First)) (list : List First) (first : First) → extend_last first (lists ++ list ∷ []) ≡ lists ++ (list ++ first ∷ []) ∷ []
extend_new [] list first = refl
extend_new (l ∷ []) list first = refl
extend_new (l ∷ k ∷ lists) list first = ap (λ (ls : List (List First)). l ∷ ls) (extend_new (k ∷ lists) list first)
