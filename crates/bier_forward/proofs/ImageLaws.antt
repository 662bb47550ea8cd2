-- A hop over BFR-ids is the hop over their bit positions.
use Rattle.std.proofs.Common.{◌≡◌, ℕ, zero, suc, ◌==◌, ◌&&◌, ◌≤◌, not, Bool, true, false, List, [], ◌∷◌, ◌++◌, filter, map, Option, Some, None, is_some, option_and_then, cond, refl, sym, ap, ◌∙◌, arith}
use Rattle.std.specs.List.{AllByRecursion, filter_map}
use Rattle.laws_route.proofs.TightLemmas.{map_append}
use Rattle.wire_base.specs.declared.triple.Triple.{Triple}
use Rattle.wire_base.specs.model.BitSet.{IsWithin}
use Rattle.wire_base.specs.model.Hop.{Outcome, Local, Copy, Expired, NoRow, distinct, forward, has, hop, is_this, local, unless_empty}
use Rattle.wire_base.specs.model.Place.{bits_of, id_at, position_in}
use Rattle.bier_forward.specs.Hops.{over_ids}
use Rattle.bier_forward.proofs.DueLaws.{all-filter}
use Rattle.bier_forward.proofs.IdLaws.{position-is, position-tells}

-- ---- lists

filter-image : (f : ℕ → ℕ) (a b : ℕ → Bool) (ps : List ℕ) → AllByRecursion (λ p. a (f p) ≡ b p) ps → filter a (map f ps) ≡ map f (filter b ps)
filter-image f a b [] all = refl
filter-image f a b (p ∷ ps) all = by (b p) all.0 (filter-image f a b ps all.1)
  where
    by : (t : Bool) → a (f p) ≡ t → filter a (map f ps) ≡ map f (filter b ps) → filter a (f p ∷ map f ps) ≡ map f (cond t (p ∷ filter b ps) (filter b ps))
    by true e more = rw e (ap (λ (xs : List ℕ). f p ∷ xs) more)
    by false e more = rw e more

chosen-image : (f : ℕ → ℕ) (a b : ℕ → Option ℕ) (ps : List ℕ) → AllByRecursion (λ p. a (f p) ≡ b p) ps → filter_map a (map f ps) ≡ filter_map b ps
chosen-image f a b [] all = refl
chosen-image f a b (p ∷ ps) all = rw (all.0, chosen-image f a b ps all.1) refl

all-weaker : {X : Type 0} (P Q : X → Type 0) → ((x : X) → P x → Q x) → (xs : List X) → AllByRecursion P xs → AllByRecursion Q xs
all-weaker P Q h [] all = tt
all-weaker P Q h (x ∷ xs) all = (h x all.0, all-weaker P Q h xs all.1)

-- ---- outcomes

-- what an id and its position have in common
record IsAlike (t : Triple) (o here : Option ℕ) (choose chosen : ℕ → Option ℕ) (p : ℕ) : Type 0 where
  pub choice : choose (id_at t p) ≡ chosen p
  pub own : is_this o (id_at t p) ≡ is_this here p

expired-image : (t : Triple) (ps : List ℕ) → unless_empty Expired (map (id_at t) ps) ≡ map (over_ids t) (unless_empty Expired ps)
expired-image t [] = refl
expired-image t (p ∷ ps) = refl

none-image : (t : Triple) (ps : List ℕ) → unless_empty NoRow (map (id_at t) ps) ≡ map (over_ids t) (unless_empty NoRow ps)
none-image t [] = refl
none-image t (p ∷ ps) = refl

has-image : (t : Triple) (k q : ℕ) (ps : List ℕ) → AllByRecursion (λ p. (id_at t p == k) ≡ (p == q)) ps → has (map (id_at t) ps) k ≡ has ps q
has-image t k q [] all = refl
has-image t k q (p ∷ ps) all = rw (all.0, has-image t k q ps all.1) refl

has-none : (t : Triple) (k : ℕ) (ps : List ℕ) → AllByRecursion (λ p. (id_at t p == k) ≡ false) ps → has (map (id_at t) ps) k ≡ false
has-none t k [] all = refl
has-none t k (p ∷ ps) all = rw (all.0, has-none t k ps all.1) refl

local-image : (t : Triple) (own : Option ℕ) (choose chosen : ℕ → Option ℕ) (ps : List ℕ) → AllByRecursion (IsAlike t own (option_and_then (position_in t) own) choose chosen) ps
    → local own (map (id_at t) ps) ≡ map (over_ids t) (local (option_and_then (position_in t) own) ps)
local-image t None choose chosen ps all = refl
local-image t (Some k) choose chosen ps all = by (position_in t k) refl (all-weaker (IsAlike t (Some k) (position_in t k) choose chosen) (λ p. (id_at t p == k) ≡ is_this (position_in t k) p) (λ p is. is.own) ps all)
  where
    by : (o : Option ℕ) → position_in t k ≡ o → AllByRecursion (λ p. (id_at t p == k) ≡ is_this o p) ps → local (Some k) (map (id_at t) ps) ≡ map (over_ids t) (local o ps)
    by None e all = rw (has-none t k ps all) refl
    by (Some q) e all = rw (has-image t k q ps all) (at (has ps q) (position-is t k q e).id)
      where
        at : (b : Bool) → id_at t q ≡ k → cond b (Local k ∷ []) [] ≡ map (over_ids t) (cond b (Local q ∷ []) [])
        at true e = ap (λ (n : ℕ). Local n ∷ []) (sym e)
        at false e = refl

copies-image : (t : Triple) (choose chosen : ℕ → Option ℕ) (ps : List ℕ) (ttl : ℕ) (xs : List ℕ) → AllByRecursion (λ p. choose (id_at t p) ≡ chosen p) ps
    → map (λ x. Copy x (filter (λ k. is_this (choose k) x) (map (id_at t) ps)) ttl) xs ≡ map (over_ids t) (map (λ x. Copy x (filter (λ k. is_this (chosen k) x) ps) ttl) xs)
copies-image t choose chosen ps ttl [] all = refl
copies-image t choose chosen ps ttl (x ∷ xs) all =
    ap (λ (ks : List ℕ). Copy x ks ttl ∷ map (λ y. Copy y (filter (λ k. is_this (choose k) y) (map (id_at t) ps)) ttl) xs)
    (filter-image (id_at t) (λ k. is_this (choose k) x) (λ k. is_this (chosen k) x) ps (all-weaker (λ p. choose (id_at t p) ≡ chosen p) (λ p. is_this (choose (id_at t p)) x ≡ is_this (chosen p) x) (λ p e. ap (λ (o : Option ℕ). is_this o x) e) ps all))
    ∙ ap (λ (os : List Outcome). Copy x (map (id_at t) (filter (λ k. is_this (chosen k) x) ps)) ttl ∷ os) (copies-image t choose chosen ps ttl xs all)

forward-image : (t : Triple) (choose chosen : ℕ → Option ℕ) (ps : List ℕ) (ttl : ℕ) → AllByRecursion (λ p. choose (id_at t p) ≡ chosen p) ps
    → forward choose (map (id_at t) ps) ttl ≡ map (over_ids t) (forward chosen ps ttl)
forward-image t choose chosen ps zero all =
    ap (unless_empty Expired) (filter-image (id_at t) (λ k. is_some (choose k)) (λ k. is_some (chosen k)) ps (all-weaker (λ p. choose (id_at t p) ≡ chosen p) (λ p. is_some (choose (id_at t p)) ≡ is_some (chosen p)) (λ p e. ap is_some e) ps all))
    ∙ expired-image t (filter (λ k. is_some (chosen k)) ps)
forward-image t choose chosen ps (suc ttl) all =
    ap (λ (xs : List ℕ). map (λ x. Copy x (filter (λ k. is_this (choose k) x) (map (id_at t) ps)) (suc ttl)) (distinct xs)) (chosen-image (id_at t) choose chosen ps all)
    ∙ copies-image t choose chosen ps (suc ttl) (distinct (filter_map chosen ps)) all

image : (t : Triple) (own : Option ℕ) (choose chosen : ℕ → Option ℕ) (ps : List ℕ) (ttl : ℕ) → AllByRecursion (IsAlike t own (option_and_then (position_in t) own) choose chosen) ps
    → hop own choose (map (id_at t) ps) ttl ≡ map (over_ids t) (hop (option_and_then (position_in t) own) chosen ps ttl)
unfolding hop
image t own choose chosen ps zero all = expired-image t ps
image t own choose chosen ps (suc ttl) all =
    let here = option_and_then (position_in t) own in
    let others = filter (λ k. not (is_this here k)) ps in
    let mine : filter (λ k. not (is_this own k)) (map (id_at t) ps) ≡ map (id_at t) others =
    filter-image (id_at t) (λ k. not (is_this own k)) (λ k. not (is_this here k)) ps (all-weaker (IsAlike t own here choose chosen) (λ p. not (is_this own (id_at t p)) ≡ not (is_this here p)) (λ p is. ap not is.own) ps all) in
    let there : AllByRecursion (λ p. choose (id_at t p) ≡ chosen p) ps = all-weaker (IsAlike t own here choose chosen) (λ p. choose (id_at t p) ≡ chosen p) (λ p is. is.choice) ps all in
    let rest : filter (λ k. not (is_some (choose k)) && not (is_this own k)) (map (id_at t) ps) ≡ map (id_at t) (filter (λ k. not (is_some (chosen k)) && not (is_this here k)) ps) =
    filter-image (id_at t) (λ k. not (is_some (choose k)) && not (is_this own k)) (λ k. not (is_some (chosen k)) && not (is_this here k)) ps
    (all-weaker (IsAlike t own here choose chosen) (λ p. (not (is_some (choose (id_at t p))) && not (is_this own (id_at t p))) ≡ (not (is_some (chosen p)) && not (is_this here p)))
    (λ p is. ap (λ (o : Option ℕ). not (is_some o) && not (is_this own (id_at t p))) is.choice ∙ ap (λ (b : Bool). not (is_some (chosen p)) && not b) is.own) ps all) in
    let a : local own (map (id_at t) ps) ≡ map (over_ids t) (local here ps) = local-image t own choose chosen ps all in
    let b : forward choose (filter (λ k. not (is_this own k)) (map (id_at t) ps)) ttl ≡ map (over_ids t) (forward chosen others ttl) =
    ap (λ (xs : List ℕ). forward choose xs ttl) mine ∙ forward-image t choose chosen others ttl (all-filter (λ p. choose (id_at t p) ≡ chosen p) (λ k. not (is_this here k)) ps there) in
    let c : unless_empty NoRow (filter (λ k. not (is_some (choose k)) && not (is_this own k)) (map (id_at t) ps)) ≡ map (over_ids t) (unless_empty NoRow (filter (λ k. not (is_some (chosen k)) && not (is_this here k)) ps)) =
    ap (unless_empty NoRow) rest ∙ none-image t (filter (λ k. not (is_some (chosen k)) && not (is_this here k)) ps) in
    joined-image (local here ps) (forward chosen others ttl) (unless_empty NoRow (filter (λ k. not (is_some (chosen k)) && not (is_this here k)) ps)) a b c
  where
    joined-image : {A B C : List Outcome} (X Y Z : List Outcome) → A ≡ map (over_ids t) X → B ≡ map (over_ids t) Y → C ≡ map (over_ids t) Z → A ++ B ++ C ≡ map (over_ids t) (X ++ Y ++ Z)
    joined-image {A} {B} {C} X Y Z a b c =
        ap (λ (os : List Outcome). os ++ B ++ C) a ∙ ap (λ (os : List Outcome). map (over_ids t) X ++ os ++ C) b ∙ ap (λ (os : List Outcome). map (over_ids t) X ++ map (over_ids t) Y ++ os) c
        ∙ sym (map_append (over_ids t) (X ++ Y) Z ∙ ap (λ (os : List Outcome). os ++ map (over_ids t) Z) (map_append (over_ids t) X Y))

-- Where the positions of a set have the choices of their ids.
pub hop-image : (t : Triple) (own : Option ℕ) (choose chosen : ℕ → Option ℕ) (ps : List ℕ) (ttl : ℕ) → IsWithin 0 (bits_of t.bsl) ps → ((p : ℕ) → 1 ≤ p → p ≤ bits_of t.bsl → choose (id_at t p) ≡ chosen p)
    → hop own choose (map (id_at t) ps) ttl ≡ map (over_ids t) (hop (option_and_then (position_in t) own) chosen ps ttl)
hop-image t own choose chosen ps ttl within same = image t own choose chosen ps ttl (alike 0 ps within)
  where
    tells : (own : Option ℕ) (p : ℕ) → 1 ≤ p → p ≤ bits_of t.bsl → is_this own (id_at t p) ≡ is_this (option_and_then (position_in t) own) p
    tells None p low high = refl
    tells (Some k) p low high = position-tells t k p low high

    alike : (low : ℕ) (ps : List ℕ) → IsWithin low (bits_of t.bsl) ps → AllByRecursion (IsAlike t own (option_and_then (position_in t) own) choose chosen) ps
    alike low [] within = tt
    alike low (p ∷ ps) within =
        let above : 1 ≤ p = omega (arith, within.0) in
        (record { choice = same p above within.1; own = tells own p above within.1 }, alike p ps within.2)
