-- Neighbors with their masks, and the number of each position's one, stand for a table.
use Rattle.std.proofs.Common.{◌≡◌, ℕ, zero, suc, ◌+◌, ◌-◌, ◌<◌, ◌≤◌, ◌||◌, ◌++◌, Bool, true, false, List, [], ◌∷◌, length, get_or, set, take, drop, replicate, map, cond, Option, Some, None, option_map, is_some, refl, sym, ap, ◌∙◌, arith, subst, inl, inr, append-nil, append_assoc}
use Rattle.std.specs.List.{AllByRecursion, list_any, slice_get}
use Rattle.std.proofs.lemmas.Bool.{cases_Bool, cases_lt, true≢false}
use Rattle.std.proofs.lemmas.List.{drop_all, drop_more, take_more, take_all, length-take-le, get_or-append_right}
use Rattle.std.proofs.lemmas.Option.{same_Some, slice_get-map, slice_get_past, slice_get_read}
use Rattle.std.proofs.Math.ListN.{get_or-map}
use Rattle.wire_base.specs.declared.view.First.{First}
use Rattle.wire_base.specs.model.BitSet.{has_member, with_member, union, IsWithin}
use Rattle.wire_base.proofs.SetLaws.{filter-is, has-union, within-union}
use Rattle.bier_bits.proofs.Chosen.{chosen, chosen_more, chosen_same}
use Rattle.bift_table.specs.declared.neighbour.Neighbour.{Neighbour}
use Rattle.bift_table.specs.Bift.{router_at, same_router, leads_to, mask_of, routed_of, member_at, routers_from, routers_of, table_of}
use Rattle.bift_table.specs.Neighbours.{numbered, table_in, AreMasks, IsNumber, AreNumbers, AreApart, union_from, number_in, given, given_to, number_to}
use Rattle.bift_table.proofs.BiftLaws.{same_router-is, same_router-refl, router_at-place, has-mask, mask-whole, within-mask, length-table, stored-within, table-at}

same_router-swap : (a b : First) → same_router a b ≡ same_router b a
same_router-swap a b = elim (cases_Bool (same_router a b)) [
  | inl same ↦ (let e = same_router-is a b same in same ∙ sym (ap (λ g. same_router b g) e ∙ same_router-refl b))
  | inr other ↦ elim (cases_Bool (same_router b a)) [
    | inl same ↦ (let e = same_router-is b a same in absurd (true≢false (sym (ap (λ g. same_router a g) e ∙ same_router-refl a) ∙ other)))
    | inr differs ↦ other ∙ sym differs
  ]
]

-- whether a router has a neighbor
abbrev pub is_known : {w : ℕ} → First → List (Neighbour w) → Bool
is_known to ns = list_any (λ n. same_router n.to to) ns

-- ---- the number of a router

pub found_number : {w : ℕ} (ns : List (Neighbour w)) (to : First) (n : Neighbour w) (k : ℕ) → k < length ns → is_known to (take k ns) ≡ false → n ≡ get_or ns k n → same_router n.to to ≡ true → (is_known to ns ≡ true) × (k ≡ number_in to ns) × (k < length ns)
found_number [] to n k lt none is same = absurd (omega (arith, lt))
found_number (m ∷ ns) to n zero lt none is same =
    let here : same_router m.to to ≡ true = ap (λ (x : Neighbour _). same_router x.to to) (sym is) ∙ same in
    (rw here refl, rw here refl, lt)
found_number (m ∷ ns) to n (suc k) lt none is same = elim (cases_Bool (same_router m.to to)) [
  | inl here ↦ absurd (true≢false (rw here at none))
  | inr other ↦
      let rest = found_number ns to n k (omega (arith, lt)) (rw other at none) is same in
      (rw other rest.0, rw other (ap suc rest.1), lt)
]

-- the neighbor of a router is the only one
pub only_number : {w : ℕ} (ns : List (Neighbour w)) (to : First) (n : Neighbour w) (k : ℕ) → AreApart ns → k < length ns → n ≡ get_or ns k n → same_router n.to to ≡ true → (is_known to ns ≡ true) × (k ≡ number_in to ns) × (k < length ns)
only_number [] to n k apart lt is same = absurd (omega (arith, lt))
only_number (m ∷ ns) to n zero apart lt is same =
    let here : same_router m.to to ≡ true = ap (λ (x : Neighbour _). same_router x.to to) (sym is) ∙ same in
    (rw here refl, rw here refl, lt)
only_number (m ∷ ns) to n (suc k) apart lt is same =
    let rest = only_number ns to n k apart.1 (omega (arith, lt)) is same in
    elim (cases_Bool (same_router m.to to)) [
      | inl here ↦ absurd (true≢false (sym rest.0 ∙ ap (λ f. is_known f ns) (sym (same_router-is m.to to here)) ∙ apart.0))
      | inr other ↦ (rw other rest.0, rw other (ap suc rest.1), lt)
    ]

pub given-found : {w : ℕ} (ns : List (Neighbour w)) (to : First) (n : Neighbour w) (p k : ℕ) → is_known to ns ≡ true → k ≡ number_in to ns → n ≡ get_or ns k n → set ns k (record { to = n.to; mask = with_member p n.mask }) ≡ given to p ns
given-found [] to n p k known at is = absurd (true≢false (sym known))
given-found {w} (m ∷ ns) to n p k known at is = elim (cases_Bool (same_router m.to to)) [
  | inl here ↦
      let zeroth : k ≡ 0 = rw here at at in
      first k zeroth here is
  | inr other ↦
      let next : k ≡ suc (number_in to ns) = rw other at at in
      rw other (later k (number_in to ns) next is (given-found ns to n p (number_in to ns) (rw other at known) refl))
]
  where
    first : (k : ℕ) → k ≡ 0 → same_router m.to to ≡ true → n ≡ get_or (m ∷ ns) k n → set (m ∷ ns) k (record { to = n.to; mask = with_member p n.mask }) ≡ given to p (m ∷ ns)
    first zero e here is = rw here (ap (λ (x : Neighbour w). record { to = x.to; mask = with_member p x.mask } ∷ ns) is)
    first (suc k) e here is = absurd (omega (arith, e))

    later : (k i : ℕ) → k ≡ suc i → n ≡ get_or (m ∷ ns) k n → (n ≡ get_or ns i n → set ns i (record { to = n.to; mask = with_member p n.mask }) ≡ given to p ns) → set (m ∷ ns) k (record { to = n.to; mask = with_member p n.mask }) ≡ m ∷ given to p ns
    later zero i e is rest = absurd (omega (arith, e))
    later (suc k) i e is rest =
        let same : k ≡ i = omega (arith, e) in
        ap (λ (j : ℕ). m ∷ set ns j (record { to = n.to; mask = with_member p n.mask })) same ∙ ap (λ (l : List (Neighbour w)). m ∷ l) (rest (is ∙ ap (λ (j : ℕ). get_or ns j n) same))

pub number-new : {w : ℕ} (ns : List (Neighbour w)) (to : First) → is_known to ns ≡ false → length ns ≡ number_in to ns
number-new [] to none = refl
number-new (m ∷ ns) to none = elim (cases_Bool (same_router m.to to)) [
  | inl here ↦ absurd (true≢false (rw here at none))
  | inr other ↦ rw other (ap suc (number-new ns to (rw other at none)))
]

pub given-new : {w : ℕ} (ns : List (Neighbour w)) (to : First) (p : ℕ) → is_known to ns ≡ false → ns ++ record { to = to; mask = p ∷ [] } ∷ [] ≡ given to p ns
given-new [] to p none = refl
given-new {w} (m ∷ ns) to p none = elim (cases_Bool (same_router m.to to)) [
  | inl here ↦ absurd (true≢false (rw here at none))
  | inr other ↦ rw other (ap (λ (l : List (Neighbour w)). m ∷ l) (given-new ns to p (rw other at none)))
]

-- ---- what stands after so many positions

-- each mask has the positions so far that lead to its router
abbrev pub MasksTo : {w : ℕ} → List (Option First) → ℕ → List (Neighbour w) → Type 0
MasksTo table k ns = AllByRecursion (λ n. n.mask ≡ chosen (λ p. leads_to (router_at table p) n.to) k) ns

-- each router so far has one
abbrev pub AreKnown : {w : ℕ} → List (Option First) → ℕ → List (Neighbour w) → Type 0
AreKnown table k ns = (p : ℕ) (f : First) → p ≤ k → router_at table p ≡ Some f → is_known f ns ≡ true

pub record IsDrawn {w : ℕ} (table : List (Option First)) (k : ℕ) (ns : List (Neighbour w)) (numbers : List (Option ℕ)) : Type 0 where
  pub masks : MasksTo table k ns
  pub apart : AreApart ns
  pub known : AreKnown table k ns
  pub numbers_are : AreNumbers ns (take k table) numbers
  pub few : length ns ≤ k
  pub order : routers_from (map (λ n. n.to) ns) (drop k table) ≡ routers_of table

masks-none : {w : ℕ} (table : List (Option First)) (k m : ℕ) (ns : List (Neighbour w)) → m ≡ suc k → router_at table m ≡ None → MasksTo table k ns → MasksTo table m ns
masks-none table k m [] step none are = tt
masks-none table k m (n ∷ ns) step none are = (
  chosen_same (λ p. leads_to (router_at table p) n.to) k m n.mask step (ap (λ o. leads_to o n.to) none) are.0,
  masks-none table k m ns step none are.1,
)

masks-other : {w : ℕ} (table : List (Option First)) (k m : ℕ) (to : First) (ns : List (Neighbour w)) → m ≡ suc k → router_at table m ≡ Some to → is_known to ns ≡ false → MasksTo table k ns → MasksTo table m ns
masks-other table k m to [] step is none are = tt
masks-other table k m to (n ∷ ns) step is none are = elim (cases_Bool (same_router n.to to)) [
  | inl here ↦ absurd (true≢false (rw here at none))
  | inr other ↦ (
    chosen_same (λ p. leads_to (router_at table p) n.to) k m n.mask step (ap (λ o. leads_to o n.to) is ∙ same_router-swap to n.to ∙ other) are.0,
    masks-other table k m to ns step is (rw other at none) are.1,
  )
]

masks-given : {w : ℕ} (table : List (Option First)) (k m : ℕ) (to : First) (ns : List (Neighbour w)) → m ≡ suc k → router_at table m ≡ Some to → AreApart ns → (is_known to ns ≡ false → chosen (λ p. leads_to (router_at table p) to) k ≡ []) → MasksTo table k ns → MasksTo table m (given to m ns)
masks-given table k m to [] step is apart fresh are =
    (chosen_more (λ p. leads_to (router_at table p) to) k m [] (m ∷ []) step (ap (λ o. leads_to o to) is ∙ same_router-refl to) (sym (fresh refl)) refl, tt)
masks-given {w} table k m to (n ∷ ns) step is apart fresh are = elim (cases_Bool (same_router n.to to)) [
  | inl here ↦
      let e : n.to ≡ to = same_router-is n.to to here in
      rw here (
        chosen_more (λ p. leads_to (router_at table p) n.to) k m n.mask (with_member m n.mask) step (ap (λ o. leads_to o n.to) is ∙ same_router-swap to n.to ∙ here) are.0 refl,
        masks-other table k m to ns step is (ap (λ f. is_known f ns) (sym e) ∙ apart.0) are.1,
      )
  | inr other ↦ rw other (
    chosen_same (λ p. leads_to (router_at table p) n.to) k m n.mask step (ap (λ o. leads_to o n.to) is ∙ same_router-swap to n.to ∙ other) are.0,
    masks-given table k m to ns step is apart.1 (λ none. fresh (rw other none)) are.1,
  )
]

-- who is known then
known-given : {w : ℕ} (f to : First) (p : ℕ) (ns : List (Neighbour w)) → is_known f (given to p ns) ≡ (is_known f ns || same_router to f)
known-given f to p [] = or_nothing (same_router to f)
  where
    or_nothing : (b : Bool) → (b || false) ≡ b
    or_nothing true = refl
    or_nothing false = refl
known-given f to p (n ∷ ns) = elim (cases_Bool (same_router n.to to)) [
  | inl here ↦ (let e = same_router-is n.to to here in rw here (again (same_router n.to f) (is_known f ns) (same_router to f) (ap (λ g. same_router g f) e)))
  | inr other ↦ rw other (rw (known-given f to p ns) (further (same_router n.to f) (is_known f ns) (same_router to f)))
]
  where
    again : (a b c : Bool) → a ≡ c → (a || b) ≡ ((a || b) || c)
    again true b c e = refl
    again false b true e = absurd (true≢false (sym e))
    again false true false e = refl
    again false false false e = refl

    further : (a b c : Bool) → (a || (b || c)) ≡ ((a || b) || c)
    further true b c = refl
    further false b c = refl

apart-given : {w : ℕ} (to : First) (p : ℕ) (ns : List (Neighbour w)) → AreApart ns → AreApart (given to p ns)
apart-given to p [] are = (refl, tt)
apart-given to p (n ∷ ns) are = elim (cases_Bool (same_router n.to to)) [
  | inl here ↦ rw here are
  | inr other ↦ rw other (known-given n.to to p ns ∙ rw (are.0, same_router-swap to n.to ∙ other) refl, apart-given to p ns are.1)
]

known-none : {w : ℕ} (table : List (Option First)) (k m : ℕ) (ns : List (Neighbour w)) → m ≡ suc k → router_at table m ≡ None → AreKnown table k ns → AreKnown table m ns
known-none table k m ns step none known p f le q = elim (cases_lt k p) [
  | inl after ↦ (let same : p ≡ m = omega (arith, after, le, step) in absurd (none-some (ap (router_at table) same ∙ none) q))
  | inr before ↦ known p f before q
]
  where
    none-some : {o : Option First} {f : First} → o ≡ None → o ≡ Some f → ⊥
    none-some a b = cc

known-some : {w : ℕ} (table : List (Option First)) (k m : ℕ) (to : First) (ns : List (Neighbour w)) → m ≡ suc k → router_at table m ≡ Some to → AreKnown table k ns → AreKnown table m (given to m ns)
known-some table k m to ns step is known p f le q = elim (cases_lt k p) [
  | inl after ↦
      let same : p ≡ m = omega (arith, after, le, step) in
      let e : f ≡ to = same_Some f to (sym q ∙ ap (router_at table) same ∙ is) in
      known-given f to m ns ∙ rw (ap (λ g. same_router to g) e ∙ same_router-refl to) (or_true (is_known f ns))
  | inr before ↦ known-given f to m ns ∙ rw (known p f before q) refl
]
  where
    or_true : (b : Bool) → (b || true) ≡ true
    or_true true = refl
    or_true false = refl

-- a router without a neighbor has no position so far
fresh-none : {w : ℕ} (table : List (Option First)) (k : ℕ) (to : First) (ns : List (Neighbour w)) → AreKnown table k ns → is_known to ns ≡ false → chosen (λ p. leads_to (router_at table p) to) k ≡ []
fresh-none table k to ns known none = filter-is k (λ p. leads_to (router_at table p) to) [] tt (λ p low high. sym (on p high (router_at table p) refl))
  where
    on : (p : ℕ) → p ≤ k → (o : Option First) → router_at table p ≡ o → leads_to o to ≡ false
    on p high None q = refl
    on p high (Some f) q = elim (cases_Bool (same_router f to)) [
      | inl same ↦ absurd (true≢false (sym (known p f high q) ∙ ap (λ g. is_known g ns) (same_router-is f to same) ∙ none))
      | inr differs ↦ differs
    ]

-- the numbers then
given-at : {w : ℕ} (to f : First) (p i : ℕ) (ns : List (Neighbour w)) → option_map (λ n. n.to) (slice_get ns i) ≡ Some f → option_map (λ n. n.to) (slice_get (given to p ns) i) ≡ Some f
given-at to f p i [] q = cc
given-at to f p zero (n ∷ ns) q = elim (cases_Bool (same_router n.to to)) [
  | inl here ↦ rw here q
  | inr other ↦ rw other q
]
given-at to f p (suc i) (n ∷ ns) q = elim (cases_Bool (same_router n.to to)) [
  | inl here ↦ rw here q
  | inr other ↦ rw other (given-at to f p i ns q)
]

given-number : {w : ℕ} (to : First) (p : ℕ) (ns : List (Neighbour w)) → option_map (λ n. n.to) (slice_get (given to p ns) (number_in to ns)) ≡ Some to
given-number to p [] = refl
given-number to p (n ∷ ns) = elim (cases_Bool (same_router n.to to)) [
  | inl here ↦ rw here (ap (λ (f : First). Some f) (same_router-is n.to to here))
  | inr other ↦ rw other (given-number to p ns)
]

numbers-given : {w : ℕ} (to : First) (p : ℕ) (ns : List (Neighbour w)) (os : List (Option First)) (ms : List (Option ℕ)) → AreNumbers ns os ms → AreNumbers (given to p ns) os ms
numbers-given to p ns [] [] are = tt
numbers-given to p ns [] (m ∷ ms) are = absurd are
numbers-given to p ns (o ∷ os) [] are = absurd are
numbers-given to p ns (None ∷ os) (None ∷ ms) are = (tt, numbers-given to p ns os ms are.1)
numbers-given to p ns (None ∷ os) (Some i ∷ ms) are = absurd are.0
numbers-given to p ns (Some f ∷ os) (None ∷ ms) are = absurd are.0
numbers-given to p ns (Some f ∷ os) (Some i ∷ ms) are = (given-at to f p i ns are.0, numbers-given to p ns os ms are.1)

numbers-push : {w : ℕ} (ns : List (Neighbour w)) (os : List (Option First)) (ms : List (Option ℕ)) (o : Option First) (m : Option ℕ) → AreNumbers ns os ms → IsNumber ns o m → AreNumbers ns (os ++ o ∷ []) (ms ++ m ∷ [])
numbers-push ns [] [] o m are is = (is, tt)
numbers-push ns [] (n ∷ ms) o m are is = absurd are
numbers-push ns (p ∷ os) [] o m are is = absurd are
numbers-push ns (p ∷ os) (n ∷ ms) o m are is = (are.0, numbers-push ns os ms o m are.1 is)

few-given : {w : ℕ} (to : First) (p k : ℕ) (ns : List (Neighbour w)) → length ns ≤ k → length (given to p ns) ≤ suc k
few-given to p k [] few = omega arith
few-given to p zero (n ∷ ns) few = absurd (omega (arith, few))
few-given to p (suc k) (n ∷ ns) few = elim (cases_Bool (same_router n.to to)) [
  | inl here ↦ rw here (omega (arith, few))
  | inr other ↦ rw other (omega (arith, few-given to p k ns (omega (arith, few))))
]

-- the routers then
routers-given : {w : ℕ} (to : First) (p : ℕ) (ns : List (Neighbour w)) → map (λ n. n.to) (given to p ns) ≡ cond (list_any (λ g. same_router g to) (map (λ n. n.to) ns)) (map (λ n. n.to) ns) (map (λ n. n.to) ns ++ to ∷ [])
routers-given to p [] = refl
routers-given to p (n ∷ ns) = elim (cases_Bool (same_router n.to to)) [
  | inl here ↦ rw here refl
  | inr other ↦ rw (other, routers-given to p ns) (behind (list_any (λ g. same_router g to) (map (λ n. n.to) ns)))
]
  where
    behind : (b : Bool) → n.to ∷ cond b (map (λ n. n.to) ns) (map (λ n. n.to) ns ++ to ∷ []) ≡ cond b (n.to ∷ map (λ n. n.to) ns) (n.to ∷ map (λ n. n.to) ns ++ to ∷ [])
    behind true = refl
    behind false = refl

order-start : (table : List (Option First)) → routers_from [] (drop 0 table) ≡ routers_of table
unfolding routers_of
order-start table = refl

-- the routers once a position is seen
abbrev seen_with : Option First → List First → List First
seen_with None seen = seen
seen_with (Some f) seen = cond (list_any (λ g. same_router g f) seen) seen (seen ++ f ∷ [])

order-next : (table : List (Option First)) (k : ℕ) (o : Option First) (seen : List First) → k < length table → o ≡ get_or table k None → routers_from seen (drop k table) ≡ routers_of table → routers_from (seen_with o seen) (drop (suc k) table) ≡ routers_of table
order-next table k o seen lt is so_far =
    let next : k + 1 ≡ suc k = omega arith in
    let front : drop k table ≡ o ∷ drop (suc k) table = drop_more table k None lt ∙ ap (λ (j : ℕ). get_or table k None ∷ drop j table) next ∙ ap (λ (x : Option First). x ∷ drop (suc k) table) (sym is) in
    sym (first o) ∙ ap (routers_from seen) (sym front) ∙ so_far
  where
    first : (x : Option First) → routers_from seen (x ∷ drop (suc k) table) ≡ routers_from (seen_with x seen) (drop (suc k) table)
    first None = refl
    first (Some f) = refl

-- ---- one position more

taken : (table : List (Option First)) (k m : ℕ) (o : Option First) → m ≡ suc k → k < length table → o ≡ router_at table m → take m table ≡ take k table ++ o ∷ []
taken table k m o step lt is =
    let next : m ≡ k + 1 = omega (arith, step) in
    ap (λ (j : ℕ). take j table) next ∙ take_more table k None lt ∙ ap (λ (x : Option First). take k table ++ x ∷ []) (sym (is ∙ router_at-place table k m step))

pub drawn-start : {w : ℕ} (table : List (Option First)) → IsDrawn {w = w} table 0 [] []
drawn-start table = record { masks = tt; apart = tt; known = λ p f le q. absurd (none p f le q); numbers_are = tt; few = omega arith; order = order-start table }
  where
    none : (p : ℕ) (f : First) → p ≤ 0 → router_at table p ≡ Some f → ⊥
    none zero f le q = cc
    none (suc p) f le q = absurd (omega (arith, le))

pub drawn-next : {w : ℕ} (table : List (Option First)) (k m : ℕ) (ns new : List (Neighbour w)) (numbers more : List (Option ℕ)) (to : Option First) → m ≡ suc k → k < length table → to ≡ router_at table m → new ≡ given_to to m ns → more ≡ numbers ++ number_to to ns ∷ [] → IsDrawn table k ns numbers → IsDrawn table m new more
drawn-next table k m ns new numbers more None step lt is ns_are more_are d = record {
  masks = subst (λ l. MasksTo table m l) (sym ns_are) (masks-none table k m ns step (sym is) d.masks);
  apart = subst (λ l. AreApart l) (sym ns_are) d.apart;
  known = subst (λ l. AreKnown table m l) (sym ns_are) (known-none table k m ns step (sym is) d.known);
  numbers_are = subst (λ (l : List (Option ℕ)). AreNumbers new (take m table) l) (sym more_are) (subst (λ l. AreNumbers l (take m table) (numbers ++ None ∷ [])) (sym ns_are)
      (subst (λ (t : List (Option First)). AreNumbers ns t (numbers ++ None ∷ [])) (sym (taken table k m None step lt is)) (numbers-push ns (take k table) numbers None None d.numbers_are tt)));
  few = rw ns_are (omega (arith, d.few, step));
  order = rw (ns_are, step) (order-next table k None (map (λ n. n.to) ns) lt (is ∙ router_at-place table k m step) d.order);
}
drawn-next table k m ns new numbers more (Some to) step lt is ns_are more_are d = record {
  masks = subst (λ l. MasksTo table m l) (sym ns_are) (masks-given table k m to ns step (sym is) d.apart (fresh-none table k to ns d.known) d.masks);
  apart = subst (λ l. AreApart l) (sym ns_are) (apart-given to m ns d.apart);
  known = subst (λ l. AreKnown table m l) (sym ns_are) (known-some table k m to ns step (sym is) d.known);
  numbers_are = subst (λ (l : List (Option ℕ)). AreNumbers new (take m table) l) (sym more_are) (subst (λ l. AreNumbers l (take m table) (numbers ++ Some (number_in to ns) ∷ [])) (sym ns_are)
      (subst (λ (t : List (Option First)). AreNumbers (given to m ns) t (numbers ++ Some (number_in to ns) ∷ [])) (sym (taken table k m (Some to) step lt is))
      (numbers-push (given to m ns) (take k table) numbers (Some to) (Some (number_in to ns)) (numbers-given to m ns (take k table) numbers d.numbers_are) (given-number to m ns))));
  few = rw ns_are (omega (arith, few-given to m k ns d.few, step));
  order = rw (ns_are, routers-given to m ns, step) (order-next table k (Some to) (map (λ n. n.to) ns) lt (is ∙ router_at-place table k m step) d.order);
}

-- ---- the positions of all neighbors

has-from : {w : ℕ} (p : ℕ) (positions : List ℕ) (ns : List (Neighbour w)) → has_member p (union_from positions ns) ≡ (has_member p positions || list_any (λ n. has_member p n.mask) ns)
has-from p positions [] = or_nothing (has_member p positions)
  where
    or_nothing : (b : Bool) → b ≡ (b || false)
    or_nothing true = refl
    or_nothing false = refl
has-from p positions (n ∷ ns) = has-from p (union positions n.mask) ns ∙ rw (has-union p positions n.mask) (further (has_member p positions) (has_member p n.mask) (list_any (λ n. has_member p n.mask) ns))
  where
    further : (a b c : Bool) → ((a || b) || c) ≡ (a || (b || c))
    further true b c = refl
    further false b c = refl

within-from : {w : ℕ} (table : List (Option First)) (positions : List ℕ) (ns : List (Neighbour w)) → IsWithin 0 (length table) positions → AreMasks table ns → IsWithin 0 (length table) (union_from positions ns)
within-from table positions [] is are = is
within-from table positions (n ∷ ns) is are =
    within-from table (union positions n.mask) ns (within-union 0 (length table) positions n.mask is (subst (λ mask. IsWithin 0 (length table) mask) (sym are.0) (within-mask table n.to))) are.1

has-any : {w : ℕ} (table : List (Option First)) (p : ℕ) (o : Option First) (ns : List (Neighbour w)) → router_at table p ≡ o → (f : First) → o ≡ Some f → AreMasks table ns → list_any (λ n. has_member p n.mask) ns ≡ is_known f ns
has-any table p o [] at f is are = refl
has-any table p o (n ∷ ns) at f is are =
    let here : has_member p n.mask ≡ same_router n.to f = ap (has_member p) are.0 ∙ has-mask table n.to p ∙ ap (λ x. leads_to x n.to) (at ∙ is) ∙ same_router-swap f n.to in
    ap (λ (b : Bool). b || list_any (λ n. has_member p n.mask) ns) here ∙ ap (λ (b : Bool). same_router n.to f || b) (has-any table p o ns at f is are.1)

has-none : {w : ℕ} (table : List (Option First)) (p : ℕ) (ns : List (Neighbour w)) → router_at table p ≡ None → AreMasks table ns → list_any (λ n. has_member p n.mask) ns ≡ false
has-none table p [] at are = refl
has-none table p (n ∷ ns) at are =
    let here : has_member p n.mask ≡ false = ap (has_member p) are.0 ∙ has-mask table n.to p ∙ ap (λ x. leads_to x n.to) at in
    ap (λ (b : Bool). b || list_any (λ n. has_member p n.mask) ns) here ∙ has-none table p ns at are.1

pub routed-all : {w : ℕ} (table : List (Option First)) (k : ℕ) (ns : List (Neighbour w)) → length table ≤ k → AreMasks table ns → AreKnown table k ns → union_from [] ns ≡ routed_of table
unfolding routed_of
routed-all table k ns long are known = sym (filter-is (length table) (λ p. is_some (router_at table p)) (union_from [] ns) (within-from table [] ns tt are) (λ p low high. has-from p [] ns ∙ on p (omega (arith, high, long)) (router_at table p) refl))
  where
    on : (p : ℕ) → p ≤ k → (o : Option First) → router_at table p ≡ o → list_any (λ n. has_member p n.mask) ns ≡ is_some o
    on p le None q = has-none table p ns q are
    on p le (Some f) q = has-any table p (Some f) ns q f refl are ∙ known p f le q

-- ---- the positions that are not stored

pub length-numbers : {w : ℕ} (ns : List (Neighbour w)) (table : List (Option First)) (numbers : List (Option ℕ)) → AreNumbers ns table numbers → length numbers ≡ length table
length-numbers ns [] [] are = refl
length-numbers ns [] (m ∷ ms) are = absurd are
length-numbers ns (o ∷ os) [] are = absurd are
length-numbers ns (o ∷ os) (m ∷ ms) are = ap suc (length-numbers ns os ms are.1)

none-after : (rows stored : List (List First)) (class j k p : ℕ) → rows ≡ stored ++ replicate j [] → k ≡ length stored → k < p → router_at (table_of rows class) p ≡ None
none-after rows stored class j k zero is all past = absurd (omega (arith, past))
none-after rows stored class j k (suc p) is all past =
    table-at rows class (suc p) (omega arith)
    ∙ ap (λ (l : List (List First)). member_at class (get_or l (suc p - 1) [])) is
    ∙ ap (member_at class) (get_or-append_right stored (replicate j []) (length stored) (suc p - 1) [] refl (omega (arith, all, past)) ∙ none j (suc p - 1 - length stored))
  where
    none : (j i : ℕ) → get_or (replicate {A = List First} j []) i [] ≡ []
    none zero i = refl
    none (suc j) zero = refl
    none (suc j) (suc i) = none j i

drawn-rest : {w : ℕ} (table : List (Option First)) (k m n : ℕ) (ns : List (Neighbour w)) (numbers more : List (Option ℕ)) → n ≡ k + m → n ≤ length table → ((p : ℕ) → k < p → router_at table p ≡ None)
    → more ≡ numbers ++ replicate m None → IsDrawn table k ns numbers → IsDrawn table n ns more
drawn-rest table k zero n ns numbers more sum long none all d =
    let same : k ≡ n = omega (arith, sum) in
    subst (λ (j : ℕ). IsDrawn table j ns more) same (subst (λ (l : List (Option ℕ)). IsDrawn table k ns l) (sym (all ∙ append-nil numbers)) d)
drawn-rest table k (suc m) n ns numbers more sum long none all d =
    drawn-rest table (suc k) m n ns (numbers ++ None ∷ []) more (omega (arith, sum)) long (λ p past. none p (omega (arith, past))) (all ∙ sym (append_assoc numbers (None ∷ []) (replicate m None)))
    (drawn-next table k (suc k) ns ns numbers (numbers ++ None ∷ []) None refl (omega (arith, sum, long)) (sym (none (suc k) (omega arith))) refl refl d)

-- after the stored positions, all positions are drawn
pub drawn-all : {w : ℕ} (rows stored : List (List First)) (class j k n : ℕ) (ns : List (Neighbour w)) (numbers more : List (Option ℕ)) → rows ≡ stored ++ replicate j [] → k ≡ length stored → n ≡ length rows
    → more ≡ take n numbers ++ replicate (n - length numbers) None → IsDrawn (table_of rows class) k ns numbers → IsDrawn (table_of rows class) n ns more
drawn-all rows stored class j k n ns numbers more is all end filled d =
    let table = table_of rows class in
    let size : length stored ≤ length rows = stored-within rows stored j is in
    let within : k ≤ length table = omega (arith, all, size, length-table rows class) in
    let so_far : length numbers ≡ k = length-numbers ns (take k table) numbers d.numbers_are ∙ length-take-le k table within in
    drawn-rest table k (n - length numbers) n ns numbers more (omega (arith, so_far, all, end, size)) (omega (arith, end, length-table rows class)) (λ p past. none-after rows stored class j k p is all past)
    (filled ∙ ap (λ (l : List (Option ℕ)). l ++ replicate (n - length numbers) None) (take_all n numbers (omega (arith, so_far, all, end, size)))) d

-- ---- all positions

table-is : {w : ℕ} (ns : List (Neighbour w)) (table : List (Option First)) (numbers : List (Option ℕ)) → AreNumbers ns table numbers → table_in ns numbers ≡ table
unfolding table_in
table-is ns [] [] are = refl
table-is ns [] (m ∷ ms) are = absurd are
table-is ns (o ∷ os) [] are = absurd are
table-is ns (None ∷ os) (None ∷ ms) are = ap (λ (l : List (Option First)). None ∷ l) (table-is ns os ms are.1)
table-is ns (None ∷ os) (Some i ∷ ms) are = absurd are.0
table-is ns (Some f ∷ os) (None ∷ ms) are = absurd are.0
table-is ns (Some f ∷ os) (Some i ∷ ms) are = ap (λ (o : Option First). o ∷ table_in ns ms) are.0 ∙ ap (λ (l : List (Option First)). Some f ∷ l) (table-is ns os ms are.1)

pub table_in-is : {w : ℕ} (ns : List (Neighbour w)) (table : List (Option First)) (numbers : List (Option ℕ)) → AreNumbers ns table numbers → table_in ns numbers ≡ table
table_in-is ns table numbers are = table-is ns table numbers are

pub drawn-masks : {w : ℕ} (rows : List (List First)) (class k : ℕ) (ns : List (Neighbour w)) → k ≡ length rows → MasksTo (table_of rows class) k ns → AreMasks (table_of rows class) ns
drawn-masks rows class k [] end are = tt
drawn-masks rows class k (n ∷ ns) end are = (mask-whole rows class k n.to n.mask end are.0, drawn-masks rows class k ns end are.1)

pub drawn-numbers : {w : ℕ} (rows : List (List First)) (class k : ℕ) (ns : List (Neighbour w)) (numbers : List (Option ℕ)) → k ≡ length rows → AreNumbers ns (take k (table_of rows class)) numbers → AreNumbers ns (table_of rows class) numbers
drawn-numbers rows class k ns numbers end are =
    let whole : take k (table_of rows class) ≡ table_of rows class = take_all k (table_of rows class) (omega (arith, end, length-table rows class)) in
    subst (λ (t : List (Option First)). AreNumbers ns t numbers) whole are

pub drawn-order : {w : ℕ} (rows : List (List First)) (class k : ℕ) (ns : List (Neighbour w)) → k ≡ length rows → routers_from (map (λ n. n.to) ns) (drop k (table_of rows class)) ≡ routers_of (table_of rows class) → map (λ n. n.to) ns ≡ routers_of (table_of rows class)
drawn-order rows class k ns end order = sym (ap (routers_from (map (λ n. n.to) ns)) (drop_all k (table_of rows class) (omega (arith, end, length-table rows class)))) ∙ order

pub length-in : {w : ℕ} (ns : List (Neighbour w)) (numbers : List (Option ℕ)) → length (table_in ns numbers) ≡ length numbers
unfolding table_in
length-in ns [] = refl
length-in ns (m ∷ ms) = ap suc (length-in ns ms)

-- ---- rows

pub row-at : {w : ℕ} (ns : List (Neighbour w)) (numbers : List (Option ℕ)) (table : List (Option First)) (p : ℕ) → table_in ns numbers ≡ table → 1 ≤ p → router_at table p ≡ numbered ns (get_or numbers (p - 1) None)
unfolding table_in
row-at ns numbers table p is low =
    ap (λ t. router_at t p) (sym is) ∙ router_at-place (map (numbered ns) numbers) (p - 1) p (omega (arith, low)) ∙ get_or-map (numbered ns) numbers (p - 1) None

pub record IsRow {w : ℕ} (ns : List (Neighbour w)) (table : List (Option First)) (p k : ℕ) (n : Neighbour w) : Type 0 where
  pub to : router_at table p ≡ Some n.to
  pub mask : n.mask ≡ mask_of table n.to
  pub has : has_member p n.mask ≡ true
  pub number : slice_get (map (λ m. m.to) ns) k ≡ Some n.to

mask-at : {w : ℕ} (table : List (Option First)) (ns : List (Neighbour w)) (i : ℕ) (n : Neighbour w) → AreMasks table ns → slice_get ns i ≡ Some n → n.mask ≡ mask_of table n.to
mask-at table [] i n are q = cc
mask-at {w} table (m ∷ ns) zero n are q =
    let e : m ≡ n = same_Some m n q in
    ap (λ (k : Neighbour w). k.mask) (sym e) ∙ are.0 ∙ ap (λ (k : Neighbour w). mask_of table k.to) e
mask-at table (m ∷ ns) (suc i) n are q = mask-at table ns i n are.1 q

-- the number of a position, as it is read
number-at : (numbers : List (Option ℕ)) (i : ℕ) (o d : Option ℕ) → i < length numbers → o ≡ get_or numbers i o → get_or numbers i d ≡ o
number-at [] i o d lt is = absurd (omega (arith, lt))
number-at (m ∷ ms) zero o d lt is = sym is
number-at (m ∷ ms) (suc i) o d lt is = number-at ms i o d (omega (arith, lt)) is

pub row-none : {w : ℕ} (size : ℕ) (ns : List (Neighbour w)) (numbers : List (Option ℕ)) (table : List (Option First)) (p i : ℕ) (o : Option ℕ) → table_in ns numbers ≡ table → length numbers ≡ size → 1 ≤ p → p ≤ size → i ≡ p - 1 → o ≡ get_or numbers i o → o ≡ None → router_at table p ≡ None
row-none size ns numbers table p i o is long low high at read none =
    row-at ns numbers table p is low ∙ ap (numbered ns) (number-at numbers (p - 1) o None (omega (arith, low, high, long)) (read ∙ ap (λ (j : ℕ). get_or numbers j o) at) ∙ none)

pub row-past : {w : ℕ} (size : ℕ) (ns : List (Neighbour w)) (numbers : List (Option ℕ)) (table : List (Option First)) (p i k : ℕ) (o : Option ℕ) → table_in ns numbers ≡ table → length numbers ≡ size → 1 ≤ p → p ≤ size → i ≡ p - 1 → o ≡ get_or numbers i o → o ≡ Some k → length ns ≤ k → router_at table p ≡ None
row-past size ns numbers table p i k o is long low high at read some past =
    row-at ns numbers table p is low ∙ ap (numbered ns) (number-at numbers (p - 1) o None (omega (arith, low, high, long)) (read ∙ ap (λ (j : ℕ). get_or numbers j o) at) ∙ some) ∙ ap (option_map (λ m. m.to)) (slice_get_past ns k past)

pub row-some : {w : ℕ} (size : ℕ) (ns : List (Neighbour w)) (numbers : List (Option ℕ)) (table : List (Option First)) (p i k : ℕ) (o : Option ℕ) (n : Neighbour w) → table_in ns numbers ≡ table → AreMasks (table_in ns numbers) ns → length numbers ≡ size → 1 ≤ p → p ≤ size → i ≡ p - 1 → o ≡ get_or numbers i o → o ≡ Some k → k < length ns → n ≡ get_or ns k n → IsRow ns table p k n
row-some size ns numbers table p i k o n is masks long low high at read some inside found =
    let here : slice_get ns k ≡ Some n = slice_get_read ns (length ns) k n refl inside found in
    let number = number-at numbers (p - 1) o None (omega (arith, low, high, long)) (read ∙ ap (λ (j : ℕ). get_or numbers j o) at) ∙ some in
    let to : router_at table p ≡ Some n.to = row-at ns numbers table p is low ∙ ap (numbered ns) number ∙ ap (option_map (λ m. m.to)) here in
    let mask : n.mask ≡ mask_of table n.to = mask-at (table_in ns numbers) ns k n masks here ∙ ap (λ t. mask_of t n.to) is in
    record {
      to = to;
      mask = mask;
      has = ap (has_member p) mask ∙ has-mask table n.to p ∙ ap (λ o. leads_to o n.to) to ∙ same_router-refl n.to;
      number = slice_get-map (λ m. m.to) ns k ∙ ap (option_map (λ m. m.to)) here;
    }
