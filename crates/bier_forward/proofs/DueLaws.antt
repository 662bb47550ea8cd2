-- What the outcomes of a hop over a table are about: the own position, and routers of the table.
use mathlib.Core.Bool.{true≢false}
use Rattle.std.proofs.Common.{◌≡◌, ℕ, zero, suc, ◌==◌, ◌&&◌, ◌<◌, not, Bool, true, false, List, [], ◌∷◌, ◌++◌, filter, map, get_or, Option, Some, None, is_some, option_map, cond, refl, sym, ap, subst, ◌∙◌}
use Rattle.std.specs.List.{AllByRecursion, filter_map, cons_option}
use Rattle.wire_base.specs.declared.conf.RouterConf.{RouterConf}
use Rattle.wire_base.specs.declared.view.First.{First}
use Rattle.wire_base.specs.declared.view.ViewNode.{ViewNode}
use Rattle.wire_base.specs.model.Choice.{first_at}
use Rattle.wire_base.specs.model.Hop as hops
use Rattle.wire_base.specs.model.Hop.{Outcome, Expired, NoRow, distinct, forward, has, hop, is_this, local, unless_empty}
use Rattle.wire_base.specs.model.OnFrame.{Packet, node_place}
use Rattle.wire_base.specs.model.Place.{id_at}
use Rattle.bift_table.specs.Bift.{leads_to, router_at}
use Rattle.bift_table.proofs.BiftLaws.{same_router-is, same_router-refl}
use Rattle.bier_hop.specs.declared.out.Out.{Out}
use Rattle.bier_hop.specs.declared.out.Out.TheVariants.{Local, Copy, Dropped}
use Rattle.bier_hop.specs.Outcomes.{HopState, IsNumbering, choose_in, left, number_in, outcome}
use Rattle.bier_forward.specs.Hops.{AreNext, IsNext, IsDue, place_of}

-- ---- outcomes

-- a delivery is for the own id, and a copy for an id with that choice
IsGiven : Option ℕ → (ℕ → Option ℕ) → Outcome → Type 0
IsGiven own choose (hops.Local p) = own ≡ Some p
IsGiven own choose (hops.Copy to ids ttl) = (p : ℕ) × (choose p ≡ Some to)
IsGiven own choose (hops.Expired ids) = Unit {0}
IsGiven own choose (hops.NoRow ids) = Unit {0}

all-append : {X : Type 0} (P : X → Type 0) (xs ys : List X) → AllByRecursion P xs → AllByRecursion P ys → AllByRecursion P (xs ++ ys)
all-append P [] ys all more = more
all-append P (x ∷ xs) ys all more = (all.0, all-append P xs ys all.1 more)

pub all-filter : {X : Type 0} (P : X → Type 0) (q : X → Bool) (xs : List X) → AllByRecursion P xs → AllByRecursion P (filter q xs)
all-filter P q [] all = tt
all-filter P q (x ∷ xs) all = by (q x) (all-filter P q xs all.1)
  where
    by : (b : Bool) → AllByRecursion P (filter q xs) → AllByRecursion P (cond b (x ∷ filter q xs) (filter q xs))
    by true more = (all.0, more)
    by false more = more

all-distinct : (P : ℕ → Type 0) (xs : List ℕ) → AllByRecursion P xs → AllByRecursion P (distinct xs)
all-distinct P [] all = tt
all-distinct P (x ∷ xs) all = (all.0, all-filter P (λ y. not (y == x)) (distinct xs) (all-distinct P xs all.1))

pub all-map : {X Y : Type 0} (P : Y → Type 0) (f : X → Y) (xs : List X) → AllByRecursion (λ x. P (f x)) xs → AllByRecursion P (map f xs)
all-map P f [] all = tt
all-map P f (x ∷ xs) all = (all.0, all-map P f xs all.1)

all-chosen : (choose : ℕ → Option ℕ) (ids : List ℕ) → AllByRecursion (λ x. (p : ℕ) × (choose p ≡ Some x)) (filter_map choose ids)
all-chosen choose [] = tt
all-chosen choose (k ∷ ids) = by (choose k) refl (all-chosen choose ids)
  where
    by : (o : Option ℕ) → choose k ≡ o → AllByRecursion (λ x. (p : ℕ) × (choose p ≡ Some x)) (filter_map choose ids) → AllByRecursion (λ x. (p : ℕ) × (choose p ≡ Some x)) (cons_option o (filter_map choose ids))
    by None e more = more
    by (Some x) e more = ((k, e), more)

all-local : (own : Option ℕ) (choose : ℕ → Option ℕ) (ids : List ℕ) → AllByRecursion (IsGiven own choose) (local own ids)
unfolding IsGiven
all-local None choose ids = tt
all-local (Some o) choose ids = by (has ids o)
  where
    by : (b : Bool) → AllByRecursion (IsGiven (Some o) choose) (cond b (hops.Local o ∷ []) [])
    by true = (refl, tt)
    by false = tt

all-expired : (own : Option ℕ) (choose : ℕ → Option ℕ) (ids : List ℕ) → AllByRecursion (IsGiven own choose) (unless_empty Expired ids)
unfolding IsGiven
all-expired own choose [] = tt
all-expired own choose (k ∷ ids) = (tt, tt)

all-none : (own : Option ℕ) (choose : ℕ → Option ℕ) (ids : List ℕ) → AllByRecursion (IsGiven own choose) (unless_empty NoRow ids)
unfolding IsGiven
all-none own choose [] = tt
all-none own choose (k ∷ ids) = (tt, tt)

all-forward : (own : Option ℕ) (choose : ℕ → Option ℕ) (ids : List ℕ) (ttl : ℕ) → AllByRecursion (IsGiven own choose) (forward choose ids ttl)
unfolding IsGiven
all-forward own choose ids zero = all-expired own choose (filter (λ k. is_some (choose k)) ids)
all-forward own choose ids (suc ttl) =
    all-map (IsGiven own choose) (λ x. hops.Copy x (filter (λ k. is_this (choose k) x) ids) (suc ttl)) (distinct (filter_map choose ids))
    (all-distinct (λ x. (p : ℕ) × (choose p ≡ Some x)) (filter_map choose ids) (all-chosen choose ids))

all-given : (own : Option ℕ) (choose : ℕ → Option ℕ) (ids : List ℕ) (ttl : ℕ) → AllByRecursion (IsGiven own choose) (hop own choose ids ttl)
unfolding hop
all-given own choose ids zero = all-expired own choose ids
all-given own choose ids (suc ttl) =
    let others = filter (λ k. not (is_this own k)) ids in
    all-append (IsGiven own choose) (local own ids ++ forward choose others ttl) (unless_empty NoRow (filter (λ k. not (is_some (choose k)) && not (is_this own k)) ids))
    (all-append (IsGiven own choose) (local own ids) (forward choose others ttl) (all-local own choose ids) (all-forward own choose others ttl))
    (all-none own choose (filter (λ k. not (is_some (choose k)) && not (is_this own k)) ids))

first-given : (own : Option ℕ) (choose : ℕ → Option ℕ) (ids : List ℕ) (ttl : ℕ) (o : Outcome) (os : List Outcome) → hop own choose ids ttl ≡ o ∷ os → IsGiven own choose o
first-given own choose ids ttl o os e = let all : AllByRecursion (IsGiven own choose) (o ∷ os) = subst (AllByRecursion (IsGiven own choose)) e (all-given own choose ids ttl) in all.0

-- ---- numbers of routers

-- a router of the table stands at its number
number-place : (table : List (Option First)) (i : ℕ) (f : First) → get_or table i None ≡ Some f → get_or table (number_in table f) None ≡ Some f
number-place [] i f at = cc
number-place (o ∷ table) i f at = by (λ j. number-place table j f) (leads_to o f) refl
  where
    named : (o : Option First) → leads_to o f ≡ true → o ≡ Some f
    named None h = absurd (true≢false (sym h))
    named (Some g) h = ap (λ (k : First). Some k) (same_router-is g f h)

    later : ((j : ℕ) → get_or table j None ≡ Some f → get_or table (number_in table f) None ≡ Some f) → (j : ℕ) → get_or (o ∷ table) j None ≡ Some f → leads_to o f ≡ false → get_or table (number_in table f) None ≡ Some f
    later more zero q other = absurd (true≢false (sym (ap (λ (k : Option First). leads_to k f) q ∙ same_router-refl f) ∙ other))
    later more (suc j) q other = more j q

    by : ((j : ℕ) → get_or table j None ≡ Some f → get_or table (number_in table f) None ≡ Some f) → (b : Bool) → leads_to o f ≡ b → get_or (o ∷ table) (number_in (o ∷ table) f) None ≡ Some f
    by more true e = rw e (named o e)
    by more false e = rw e (later more i at e)

-- and who has its number is that router
number-hit : (table : List (Option First)) (f to : First) → get_or table (number_in table to) None ≡ Some f → f ≡ to
number-hit [] f to at = cc
number-hit (o ∷ table) f to at = by (number-hit table f to) (leads_to o to) refl
  where
    by : (get_or table (number_in table to) None ≡ Some f → f ≡ to) → (b : Bool) → leads_to o to ≡ b → f ≡ to
    by more true e =
        let here : o ≡ Some f = rw e at at in
        same_router-is f to (ap (λ (k : Option First). leads_to k to) (sym here) ∙ e)
    by more false e = more (rw e at at)

same_Some : (f g : First) → Some f ≡ Some g → f ≡ g
same_Some f g e = cc

same_number : (m n : ℕ) → Some m ≡ Some n → m ≡ n
same_number m n e = cc

-- a choice by such numbers is a router of the table
chosen-in : (table : List (Option First)) (p : ℕ) (to : First) → choose_in table p ≡ Some (number_in table to) → router_at table p ≡ Some to
chosen-in table p to e = by (router_at table p) refl e
  where
    at_place : (q : ℕ) (f : First) → router_at table q ≡ Some f → get_or table (number_in table f) None ≡ Some f
    at_place zero f at = cc
    at_place (suc i) f at = number-place table i f at

    by : (o : Option First) → router_at table p ≡ o → option_map (number_in table) o ≡ Some (number_in table to) → router_at table p ≡ Some to
    by None q e = cc
    by (Some f) q e =
        let number : number_in table f ≡ number_in table to = same_number _ _ e in
        let is = number-hit table f to (ap (λ (n : ℕ). get_or table n None) (sym number) ∙ at_place p f q) in
        q ∙ ap (λ (g : First). Some g) is

-- ---- what is due

pub due-is : {w : ℕ} (r : RouterConf) (g : List ViewNode) (p : Packet) (h : HopState) (out : Out w) (rest : List Outcome)
    → AreNext r g h.table → ((q : ℕ) → h.own ≡ Some q → id_at p.triple q < 65536)
    → left (choose_in h.table) h ≡ outcome (number_in h.table) out ∷ rest → IsDue r g p out
unfolding IsGiven
due-is r g p h (Local bp) rest direct own e = own bp (first-given h.own (choose_in h.table) h.rest h.ttl (hops.Local bp) rest e)
due-is r g p h (Copy to set ttl) rest direct own e =
    let chosen = first-given h.own (choose_in h.table) h.rest h.ttl (hops.Copy (number_in h.table to.now) set ttl) rest e in
    direct chosen.0 to.now (chosen-in h.table chosen.0 to.now chosen.1)
due-is r g p h (Dropped set why) rest direct own e = tt

-- the routers of such a table are told apart by their nodes
pub numbered-places : (r : RouterConf) (g : List ViewNode) (other table : List (Option First)) → other ≡ table → AreNext r g table → IsNumbering other (place_of g) (λ p. option_map (place_of g) (router_at table p))
numbered-places r g other table is direct =
    subst (λ (t : List (Option First)). IsNumbering t (place_of g) (λ p. option_map (place_of g) (router_at table p))) (sym is)
    (record { chosen = λ p. refl; apart = λ p q f h at_f at_h same. apart f h (direct p f at_f) (direct q h at_h) same })
  where
    apart : (f h : First) → IsNext r g f → IsNext r g h → place_of g f ≡ place_of g h → f ≡ h
    apart f h a b same = same_Some f h (sym a.named ∙ ap (first_at r.ends g (node_place g r.system)) same ∙ b.named)
