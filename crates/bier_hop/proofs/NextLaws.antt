-- Each outcome of a hop, and the outcomes of what is left after it.
use Rattle.std.proofs.Common.{◌≡◌, ℕ, zero, suc, ◌<◌, ◌≤◌, ◌==◌, ◌&&◌, ◌||◌, not, Bool, true, false, List, [], ◌∷◌, ◌++◌, length, get_or, filter, map, Option, Some, None, is_some, is_none, option_map, IfSome, MatchOption, refl, ap, sym, ◌∙◌, inl, inr, arith, subst}
use Rattle.std.specs.List.{filter_map}
use Rattle.std.proofs.Math.Bool.{and-false}
use Rattle.std.proofs.lemmas.Bool.{cases_Bool, cases_lt, true≢false, eq-eqb, ne_eqb}
use Rattle.std.proofs.lemmas.Bool.Decides.{eqb_tells}
use Rattle.std.proofs.lemmas.Option.{same_Some}
use Rattle.wire_base.specs.declared.view.First.{First}
use Rattle.wire_base.specs.model.BitSet.{has_member, IsWithin, first_member, intersection, difference}
use Rattle.wire_base.specs.model.Hop as model
use Rattle.wire_base.specs.model.Hop.{Outcome, has, hop, local, forward, copies, unless_empty, is_this, distinct}
use Rattle.wire_base.proofs.SetLaws.{has_head, has-filter, none_below, none_above}
use Rattle.bier_bits.specs.Sets.{AreApartBelow}
use Rattle.bift_table.specs.Bift.{router_at, leads_to, same_router, mask_of, routed_of}
use Rattle.bift_table.proofs.BiftLaws.{has-mask, has-routed, same_router-is, same_router-refl}
use Rattle.bier_hop.specs.declared.out.Action.{Action}
use Rattle.bier_hop.specs.declared.out.Out.{Out}
use Rattle.bier_hop.specs.declared.out.Out.TheVariants.{Local, Copy, Dropped}
use Rattle.bier_hop.specs.declared.out.Why.{Why}
use Rattle.bier_hop.specs.declared.out.Why.TheVariants.{NoRow, Ttl}
use Rattle.bier_hop.specs.Outcomes.{HopState, IsOwn, IsNumbering, number_in, choose_in, out_of, own_in, drop_of, left_after, positions_of, IsCopy, IsNext}
use Rattle.bier_hop.proofs.CopyLaws.{filter-same, filter-filter, filter-none, filter-every, filter_map-none, filter_map-first, copies-first}

-- ---- hops over any choice

abbrev yes : (ℕ → Option ℕ) → ℕ → Bool
yes choose = λ k. is_some (choose k)

abbrev no : (ℕ → Option ℕ) → ℕ → Bool
no choose = λ k. not (is_some (choose k))

abbrev foreign : Option ℕ → ℕ → Bool
foreign own = λ k. not (is_this own k)

abbrev lost : Option ℕ → (ℕ → Option ℕ) → ℕ → Bool
lost own choose = λ k. not (is_some (choose k)) && not (is_this own k)

-- the own id isn't among the ids
abbrev IsAway : Option ℕ → List ℕ → Type 0
IsAway own ids = (k : ℕ) → has_member k ids ≡ true → is_this own k ≡ false

away-filter : (own : Option ℕ) (q : ℕ → Bool) (ids : List ℕ) → IsAway own ids → IsAway own (filter q ids)
away-filter own q ids away k is = away k (left-of (has_member k ids) (q k) (sym (has-filter k q ids) ∙ is))
  where
    left-of : (a b : Bool) → (a && b) ≡ true → a ≡ true
    left-of true b h = refl
    left-of false b h = absurd (true≢false (sym h))

has-is : (ids : List ℕ) (k : ℕ) → has ids k ≡ has_member k ids
has-is [] k = refl
has-is (j ∷ ids) k = elim (eqb_tells j k) [
  | inl same ↦ rw (same.0, eq-eqb k j (sym same.1)) refl
  | inr differs ↦ rw (differs.0, ne_eqb k j (λ e. differs.1 (sym e))) (has-is ids k)
]

local-away : (own : Option ℕ) (ids : List ℕ) → IsAway own ids → local own ids ≡ []
local-away None ids away = refl
local-away (Some o) ids away = elim (cases_Bool (has_member o ids)) [
  | inl is ↦ absurd (true≢false (sym (eq-eqb o o refl) ∙ away o is))
  | inr isnt ↦ rw (has-is ids o ∙ isnt) refl
]

local-here : (o : ℕ) (ids : List ℕ) → has_member o ids ≡ true → local (Some o) ids ≡ model.Local o ∷ []
local-here o ids is = rw (has-is ids o ∙ is) refl

hop-none : (own : Option ℕ) (choose : ℕ → Option ℕ) (ttl : ℕ) → hop own choose [] ttl ≡ []
unfolding hop
hop-none own choose zero = refl
hop-none None choose (suc zero) = refl
hop-none None choose (suc (suc n)) = refl
hop-none (Some o) choose (suc zero) = refl
hop-none (Some o) choose (suc (suc n)) = refl

hop-ended : (own : Option ℕ) (choose : ℕ → Option ℕ) (ids : List ℕ) → hop own choose ids zero ≡ unless_empty model.Expired ids
unfolding hop
hop-ended own choose ids = refl

-- where the own id is away
hop-away : (own : Option ℕ) (choose : ℕ → Option ℕ) (ids : List ℕ) (t : ℕ) → IsAway own ids → hop own choose ids (suc t) ≡ forward choose ids t ++ unless_empty model.NoRow (filter (no choose) ids)
unfolding hop
hop-away own choose ids t away =
    let all : filter (foreign own) ids ≡ ids = filter-same (foreign own) (λ k. true) ids (λ k is. ap not (away k is)) ∙ filter-every ids in
    let unrouted : filter (lost own choose) ids ≡ filter (no choose) ids = filter-same (lost own choose) (no choose) ids (λ k is. ap (λ b. not (is_some (choose k)) && not b) (away k is) ∙ and-true (not (is_some (choose k)))) in
    ap (λ l. (l ++ forward choose (filter (foreign own) ids) t) ++ unless_empty model.NoRow (filter (lost own choose) ids)) (local-away own ids away)
    ∙ ap (λ l. forward choose l t ++ unless_empty model.NoRow (filter (lost own choose) ids)) all
    ∙ ap (λ l. forward choose ids t ++ unless_empty model.NoRow l) unrouted
  where
    and-true : (b : Bool) → (b && true) ≡ b
    and-true true = refl
    and-true false = refl

-- the own id first
hop-here : (o : ℕ) (choose : ℕ → Option ℕ) (ids : List ℕ) (t : ℕ) → has_member o ids ≡ true → hop (Some o) choose ids (suc t) ≡ model.Local o ∷ hop (Some o) choose (filter (foreign (Some o)) ids) (suc t)
unfolding hop
hop-here o choose ids t is =
    let own : Option ℕ = Some o in
    let rest = filter (foreign own) ids in
    let away : IsAway own rest = λ k has. not-own k (sym (has-filter k (foreign own) ids) ∙ has) in
    let again : filter (foreign own) rest ≡ rest = filter-filter (foreign own) (foreign own) ids ∙ filter-same (λ k. foreign own k && foreign own k) (foreign own) ids (λ k has. twice (foreign own k)) in
    let unrouted : filter (lost own choose) rest ≡ filter (lost own choose) ids = filter-filter (lost own choose) (foreign own) ids ∙ filter-same (λ k. foreign own k && lost own choose k) (lost own choose) ids (λ k has. absorbed (is_this own k) (not (is_some (choose k)))) in
    let first = ap (λ l. (l ++ forward choose rest t) ++ unless_empty model.NoRow (filter (lost own choose) ids)) (local-here o ids is) in
    let others = ap (λ l. (l ++ forward choose (filter (foreign own) rest) t) ++ unless_empty model.NoRow (filter (lost own choose) rest)) (local-away own rest away)
    ∙ ap (λ l. forward choose l t ++ unless_empty model.NoRow (filter (lost own choose) rest)) again
    ∙ ap (λ l. forward choose rest t ++ unless_empty model.NoRow l) unrouted in
    first ∙ ap (λ (l : List Outcome). model.Local o ∷ l) (sym others)
  where
    not-own : (k : ℕ) → (has_member k ids && not (k == o)) ≡ true → (k == o) ≡ false
    not-own k h = elim (cases_Bool (k == o)) [
      | inl e ↦ absurd (true≢false (sym h ∙ rw e (and-false (has_member k ids))))
      | inr e ↦ e
    ]

    twice : (b : Bool) → (b && b) ≡ b
    twice true = refl
    twice false = refl

    absorbed : (a b : Bool) → (not a && (b && not a)) ≡ (b && not a)
    absorbed true b = sym (and-false b)
    absorbed false b = refl

-- one copy, and what it leaves
hop-copy : (own : Option ℕ) (choose : ℕ → Option ℕ) (ids : List ℕ) (n x : ℕ) (ys : List ℕ) → IsAway own ids → filter_map choose ids ≡ x ∷ ys
    → hop own choose ids (suc (suc n)) ≡ model.Copy x (filter (λ k. is_this (choose k) x) ids) (suc n) ∷ hop own choose (filter (λ k. not (is_this (choose k) x)) ids) (suc (suc n))
hop-copy own choose ids n x ys away first =
    let rest = filter (λ k. not (is_this (choose k) x)) ids in
    let unrouted : filter (no choose) ids ≡ filter (no choose) rest = sym (filter-filter (no choose) (λ k. not (is_this (choose k) x)) ids ∙ filter-same (λ k. not (is_this (choose k) x) && no choose k) (no choose) ids (λ k has. no-way (choose k))) in
    hop-away own choose ids (suc n) away
    ∙ ap (λ l. l ++ unless_empty model.NoRow (filter (no choose) ids)) (copies-first choose ids (suc n) x ys first)
    ∙ ap (λ (l : List Outcome). model.Copy x (filter (λ k. is_this (choose k) x) ids) (suc n) ∷ l)
    (ap (λ l. copies choose rest (suc n) ++ unless_empty model.NoRow l) unrouted ∙ sym (hop-away own choose rest (suc n) (away-filter own (λ k. not (is_this (choose k) x)) ids away)))
  where
    no-way : (o : Option ℕ) → (not (is_this o x) && not (is_some o)) ≡ not (is_some o)
    no-way None = refl
    no-way (Some y) = and-false (not (x == y))

-- the drop at the last TTL, and what it leaves
hop-last : (own : Option ℕ) (choose : ℕ → Option ℕ) (ids : List ℕ) (p : ℕ) (ps : List ℕ) → IsAway own ids → filter (yes choose) ids ≡ p ∷ ps
    → hop own choose ids 1 ≡ model.Expired (p ∷ ps) ∷ hop own choose (filter (no choose) ids) 1
hop-last own choose ids p ps away some =
    let rest = filter (no choose) ids in
    let again : filter (no choose) rest ≡ rest = filter-filter (no choose) (no choose) ids ∙ filter-same (λ k. no choose k && no choose k) (no choose) ids (λ k has. twice (no choose k)) in
    let none : filter (yes choose) rest ≡ [] = filter-filter (yes choose) (no choose) ids ∙ filter-same (λ k. no choose k && yes choose k) (λ k. false) ids (λ k has. contrary (is_some (choose k))) ∙ filter-none ids in
    hop-away own choose ids 0 away
    ∙ ap (λ l. unless_empty model.Expired l ++ unless_empty model.NoRow rest) some
    ∙ ap (λ (l : List Outcome). model.Expired (p ∷ ps) ∷ l) (sym (hop-away own choose rest 0 (away-filter own (no choose) ids away) ∙ ap (λ l. unless_empty model.Expired l ++ unless_empty model.NoRow (filter (no choose) rest)) none ∙ ap (λ l. unless_empty model.NoRow l) again))
  where
    twice : (b : Bool) → (b && b) ≡ b
    twice true = refl
    twice false = refl

    contrary : (b : Bool) → (not b && b) ≡ false
    contrary true = refl
    contrary false = refl

-- what has no choice, last
hop-lost : (own : Option ℕ) (choose : ℕ → Option ℕ) (ids : List ℕ) (t : ℕ) → IsAway own ids → filter (yes choose) ids ≡ [] → hop own choose ids (suc t) ≡ unless_empty model.NoRow ids
hop-lost own choose ids t away none =
    let every : filter (no choose) ids ≡ ids = filter-same (no choose) (λ k. true) ids (λ k is. ap not (missing k is)) ∙ filter-every ids in
    hop-away own choose ids t away ∙ ap (λ l. l ++ unless_empty model.NoRow (filter (no choose) ids)) (still t) ∙ ap (λ l. unless_empty model.NoRow l) every
  where
    missing : (k : ℕ) → has_member k ids ≡ true → is_some (choose k) ≡ false
    missing k is = elim (cases_Bool (is_some (choose k))) [
      | inl some ↦ absurd (true≢false (sym (has-filter k (yes choose) ids ∙ rw (is, some) refl) ∙ ap (has_member k) none))
      | inr isnt ↦ isnt
    ]

    still : (t : ℕ) → forward choose ids t ≡ []
    still zero = ap (λ l. unless_empty model.Expired l) none
    still (suc n) = ap (λ l. map (λ x. model.Copy x (filter (λ k. is_this (choose k) x) ids) (suc n)) (distinct l)) (filter_map-none choose ids none)

-- ---- numbers of a table's routers

yes-is : (table : List (Option First)) (number : First → ℕ) (choose : ℕ → Option ℕ) → IsNumbering table number choose → (k : ℕ) → is_some (choose k) ≡ has_member k (routed_of table)
yes-is table number choose is k = ap (λ (o : Option ℕ). is_some o) (is.chosen k) ∙ same (router_at table k) ∙ sym (has-routed table k)
  where
    same : (o : Option First) → is_some (option_map number o) ≡ is_some o
    same None = refl
    same (Some f) = refl

this-is : (table : List (Option First)) (number : First → ℕ) (choose : ℕ → Option ℕ) → IsNumbering table number choose → (p : ℕ) (f : First) → router_at table p ≡ Some f → (k : ℕ) → is_this (choose k) (number f) ≡ has_member k (mask_of table f)
this-is table number choose is p f at k = ap (λ o. is_this o (number f)) (is.chosen k) ∙ same (router_at table k) refl ∙ sym (has-mask table f k)
  where
    same : (o : Option First) → router_at table k ≡ o → is_this (option_map number o) (number f) ≡ leads_to o f
    same None q = refl
    same (Some g) q = elim (cases_Bool (same_router g f)) [
      | inl one ↦ eq-eqb (number f) (number g) (ap number (sym (same_router-is g f one))) ∙ sym one
      | inr two ↦ ne_eqb (number f) (number g) (λ e. differ two (is.apart p k f g at q e)) ∙ sym two
    ]
      where
        differ : same_router g f ≡ false → f ≡ g → ⊥
        differ two e = true≢false (sym (same_router-refl f) ∙ ap (λ h. same_router h f) e ∙ two)

-- ---- what is left

pub difference-shared : (rest ys : List ℕ) → difference rest (intersection rest ys) ≡ difference rest ys
difference-shared rest ys = filter-same (λ p. not (has_member p (intersection rest ys))) (λ p. not (has_member p ys)) rest (λ p is. ap not (has-filter p (λ q. has_member q ys) rest ∙ rw is refl))

pub difference-itself : (rest : List ℕ) → difference rest rest ≡ []
difference-itself rest = filter-same (λ p. not (has_member p rest)) (λ p. false) rest (λ p is. ap not is) ∙ filter-none rest

not-longer : (q : ℕ → Bool) (xs : List ℕ) → length (filter q xs) ≤ length xs
not-longer q [] = omega arith
not-longer q (x ∷ xs) = elim (cases_Bool (q x)) [
  | inl t ↦ rw t (omega (arith, not-longer q xs))
  | inr f ↦ rw f (omega (arith, not-longer q xs))
]

filter-shorter : (q : ℕ → Bool) (p : ℕ) (xs : List ℕ) → has_member p xs ≡ true → q p ≡ false → length (filter q xs) < length xs
filter-shorter q p [] is fails = cc
filter-shorter q p (x ∷ xs) is fails = elim (eqb_tells p x) [
  | inl same ↦ (let gone : q x ≡ false = ap q (sym same.1) ∙ fails in rw gone (omega (arith, not-longer q xs)))
  | inr differs ↦ (let later : has_member p xs ≡ true = rw differs.0 at is in elim (cases_Bool (q x)) [
    | inl t ↦ rw t (omega (arith, filter-shorter q p xs later fails))
    | inr f ↦ rw f (omega (arith, not-longer q xs))
  ])
]

left-shorter : (rest ys : List ℕ) (p : ℕ) → has_member p rest ≡ true → has_member p ys ≡ true → length (difference rest ys) < length rest
left-shorter rest ys p is taken = filter-shorter (λ q. not (has_member q ys)) p rest is (ap not taken)

not-empty : (rest : List ℕ) (p : ℕ) → has_member p rest ≡ true → false ≡ (length rest == 0)
not-empty [] p is = cc
not-empty (x ∷ rest) p is = sym (ne_eqb (length (x ∷ rest)) 0 (λ e. omega (arith, e)))

member-first : (set : List ℕ) (p : ℕ) → first_member set ≡ Some p → has_member p set ≡ true
member-first [] p q = cc
member-first (x ∷ xs) p q = rw (eq-eqb p x (sym (same_Some x p q))) refl

first-cons : (set : List ℕ) (p : ℕ) → first_member set ≡ Some p → (ps : List ℕ) × (set ≡ p ∷ ps)
first-cons [] p q = cc
first-cons (x ∷ xs) p q = (xs, ap (λ (k : ℕ). k ∷ xs) (same_Some x p q))

first-none : (set : List ℕ) → first_member set ≡ None → set ≡ []
first-none [] q = refl
first-none (x ∷ xs) q = cc

away-of : (own : Option ℕ) (rest : List ℕ) → own_in own rest ≡ None → IsAway own rest
away-of None rest q k is = refl
away-of (Some o) rest q k is = elim (eqb_tells k o) [
  | inl same ↦ (let has : has_member o rest ≡ true = ap (λ j. has_member j rest) (sym same.1) ∙ is in absurd (some-none (rw has at q)))
  | inr differs ↦ differs.0
]
  where
    some-none : {o : ℕ} → Some o ≡ None → ⊥
    some-none h = cc

own-here : (o p : ℕ) (rest : List ℕ) → own_in (Some o) rest ≡ Some p → (o ≡ p) × (has_member o rest ≡ true)
own-here o p rest q = elim (cases_Bool (has_member o rest)) [
  | inl has ↦ (let e : Some o ≡ Some p = rw has at q in (same_Some o p e, has))
  | inr hasnt ↦ (let e : None ≡ Some p = rw hasnt at q in absurd (none-some e))
]
  where
    none-some : None ≡ Some p → ⊥
    none-some h = cc

-- ---- each outcome is the next

abbrev state : List (Option First) → Option ℕ → List ℕ → ℕ → HopState
state table own rest ttl = record { table = table; own = own; rest = rest; ttl = ttl }

gone : (own : Option ℕ) (choose : ℕ → Option ℕ) (rest : List ℕ) (ttl : ℕ) → hop own choose (difference rest rest) ttl ≡ []
gone own choose rest ttl = ap (λ l. hop own choose l ttl) (difference-itself rest) ∙ hop-none own choose ttl

expired-now : {w : ℕ} (bits : ℕ) (table : List (Option First)) (own : Option ℕ) (rest : List ℕ) → IsNext {w = w} bits (state table own rest 0) (drop_of rest Ttl)
expired-now bits table own [] = record { gives = λ number choose is. hop-none own choose 0; none = refl; shorter = tt; local = tt }
expired-now bits table own (p ∷ ps) = record {
  gives = λ number choose is. hop-ended own choose (p ∷ ps) ∙ ap (λ (l : List Outcome). model.Expired (p ∷ ps) ∷ l) (sym (gone own choose (p ∷ ps) 0));
  none = not-empty (p ∷ ps) p (has_head p ps);
  shorter = left-shorter (p ∷ ps) (p ∷ ps) p (has_head p ps) (has_head p ps);
  local = tt;
}

pub expired : {w : ℕ} (bits : ℕ) (table : List (Option First)) (own : Option ℕ) (rest : List ℕ) (ttl : ℕ) → ttl ≡ 0 → IsNext {w = w} bits (state table own rest ttl) (drop_of rest Ttl)
expired {w} bits table own rest ttl e = subst (λ t. IsNext {w = w} bits (state table own rest t) (drop_of rest Ttl)) (sym e) (expired-now bits table own rest)

pub delivered : {w : ℕ} (bits : ℕ) (table : List (Option First)) (own : Option ℕ) (rest : List ℕ) (ttl p : ℕ) → 0 < ttl → IsOwn bits own → own_in own rest ≡ Some p → IsNext {w = w} bits (state table own rest ttl) (Some (Local p))
delivered bits table own rest zero p low within q = absurd (omega arith)
delivered bits table None rest (suc t) p low within q = cc
delivered {w} bits table (Some o) rest (suc t) p low within q =
    let here = own-here o p rest q in
    let others : (choose : ℕ → Option ℕ) → hop (Some o) choose (filter (foreign (Some o)) rest) (suc t) ≡ hop (Some o) choose (difference rest (o ∷ [])) (suc t) =
    λ choose. ap (λ l. hop (Some o) choose l (suc t)) (filter-same (foreign (Some o)) (λ k. not (has_member k (o ∷ []))) rest (λ k has. ap not (sym (or-false (k == o))))) in
    let is : IsNext {w = w} bits (state table (Some o) rest (suc t)) (Some (Local o)) = record {
      gives = λ number choose is. hop-here o choose rest t here.1 ∙ ap (λ (l : List Outcome). model.Local o ∷ l) (others choose);
      none = not-empty rest o here.1;
      shorter = left-shorter rest (o ∷ []) o here.1 (has_head o []);
      local = within;
    } in
    subst (λ k. IsNext {w = w} bits (state table (Some o) rest (suc t)) (Some (Local k))) here.0 is
  where
    or-false : (b : Bool) → (b || false) ≡ b
    or-false true = refl
    or-false false = refl

-- what has a row, among what is left
routed-is : (table : List (Option First)) (number : First → ℕ) (choose : ℕ → Option ℕ) → IsNumbering table number choose → (rest set : List ℕ) → set ≡ intersection rest (routed_of table) → filter (yes choose) rest ≡ set
routed-is table number choose is rest set e = filter-same (yes choose) (λ k. has_member k (routed_of table)) rest (λ k has. yes-is table number choose is k) ∙ sym e

pub unrouted : {w : ℕ} (bits : ℕ) (table : List (Option First)) (own : Option ℕ) (rest set : List ℕ) (ttl : ℕ) → 0 < ttl → own_in own rest ≡ None → set ≡ intersection rest (routed_of table) → first_member set ≡ None → IsNext {w = w} bits (state table own rest ttl) (drop_of rest NoRow)
unrouted bits table own rest set zero low q e none = absurd (omega arith)
unrouted bits table own [] set (suc t) low q e none = record { gives = λ number choose is. hop-none own choose (suc t); none = refl; shorter = tt; local = tt }
unrouted bits table own (p ∷ ps) set (suc t) low q e none = record {
  gives = λ number choose is. hop-lost own choose (p ∷ ps) t (away-of own (p ∷ ps) q) (routed-is table number choose is (p ∷ ps) set e ∙ first-none set none)
      ∙ ap (λ (l : List Outcome). model.NoRow (p ∷ ps) ∷ l) (sym (gone own choose (p ∷ ps) (suc t)));
  none = not-empty (p ∷ ps) p (has_head p ps);
  shorter = left-shorter (p ∷ ps) (p ∷ ps) p (has_head p ps) (has_head p ps);
  local = tt;
}

in-both : (rest ys set : List ℕ) (p : ℕ) → set ≡ intersection rest ys → has_member p set ≡ true → has_member p rest ≡ true
in-both rest ys set p e is = left-of (has_member p rest) (has_member p ys) (sym (has-filter p (λ k. has_member k ys) rest) ∙ ap (has_member p) (sym e) ∙ is)
  where
    left-of : (a b : Bool) → (a && b) ≡ true → a ≡ true
    left-of true b h = refl
    left-of false b h = absurd (true≢false (sym h))

pub last : {w : ℕ} (bits : ℕ) (table : List (Option First)) (own : Option ℕ) (rest set : List ℕ) (ttl p : ℕ) → ttl ≡ 1 → own_in own rest ≡ None → set ≡ intersection rest (routed_of table) → first_member set ≡ Some p → IsNext {w = w} bits (state table own rest ttl) (drop_of set Ttl)
last {w} bits table own rest set ttl p one q e first =
    let cons = first-cons set p first in
    let ps = cons.0 in
    let among : p ∷ ps ≡ intersection rest (routed_of table) = sym cons.1 ∙ e in
    let inside : has_member p rest ≡ true = in-both rest (routed_of table) (p ∷ ps) p among (has_head p ps) in
    let left : (number : First → ℕ) (choose : ℕ → Option ℕ) → IsNumbering table number choose → filter (no choose) rest ≡ difference rest (p ∷ ps) = λ number choose is.
    sym (ap (difference rest) among ∙ difference-shared rest (routed_of table) ∙ filter-same (λ k. not (has_member k (routed_of table))) (no choose) rest (λ k has. ap not (sym (yes-is table number choose is k)))) in
    let is : IsNext {w = w} bits (state table own rest 1) (drop_of (p ∷ ps) Ttl) = record {
      gives = λ number choose is. hop-last own choose rest p ps (away-of own rest q) (routed-is table number choose is rest (p ∷ ps) among)
          ∙ ap (λ l. model.Expired (p ∷ ps) ∷ hop own choose l 1) (left number choose is);
      none = not-empty rest p inside;
      shorter = left-shorter rest (p ∷ ps) p inside (has_head p ps);
      local = tt;
    } in
    subst (λ l. IsNext {w = w} bits (state table own rest ttl) (drop_of l Ttl)) (sym cons.1) (subst (λ t. IsNext {w = w} bits (state table own rest t) (drop_of (p ∷ ps) Ttl)) (sym one) is)

pub copied : {w : ℕ} (bits : ℕ) (table : List (Option First)) (own : Option ℕ) (rest set : List ℕ) (ttl p : ℕ) (result : Option (Out w)) → 1 < ttl → own_in own rest ≡ None → set ≡ intersection rest (routed_of table) → first_member set ≡ Some p → IsCopy (state table None rest ttl) p result → IsNext {w = w} bits (state table own rest ttl) result
copied bits table own rest set ttl p None low q e first is = absurd is
copied bits table own rest set ttl p (Some (Local o)) low q e first is = absurd is
copied bits table own rest set ttl p (Some (Dropped sent why)) low q e first is = absurd is
copied bits table own rest set ttl p (Some (Copy to sent zero)) low q e first is = absurd (omega (arith, is.2))
copied {w} bits table own rest set ttl p (Some (Copy to sent (suc n))) low q e first is =
    let f = to.now in
    let inside : has_member p rest ≡ true = in-both rest (routed_of table) set p e (member-first set p first) in
    let masked : has_member p (mask_of table f) ≡ true = has-mask table f p ∙ ap (λ o. leads_to o f) is.0 ∙ same_router-refl f in
    let taken : has_member p sent ≡ true = ap (has_member p) is.1 ∙ has-filter p (λ k. has_member k (mask_of table f)) rest ∙ rw (inside, masked) refl in
    let cons = first-cons set p first in
    record {
      gives = λ number choose num.
          let x = number f in
          let way : choose p ≡ Some x = num.chosen p ∙ ap (λ o. option_map number o) is.0 in
          let ys = filter_map-first choose rest p cons.0 x (routed-is table number choose num rest set e ∙ cons.1) way in
          let here : filter (λ k. is_this (choose k) x) rest ≡ sent = filter-same (λ k. is_this (choose k) x) (λ k. has_member k (mask_of table f)) rest (λ k has. this-is table number choose num p f is.0 k) ∙ sym is.1 in
          let others : filter (λ k. not (is_this (choose k) x)) rest ≡ difference rest sent =
          sym (ap (difference rest) is.1 ∙ difference-shared rest (mask_of table f) ∙ filter-same (λ k. not (has_member k (mask_of table f))) (λ k. not (is_this (choose k) x)) rest (λ k has. ap not (sym (this-is table number choose num p f is.0 k)))) in
          subst (λ t. hop own choose rest t ≡ model.Copy x sent (suc n) ∷ hop own choose (difference rest sent) t) is.2
          (hop-copy own choose rest n x ys.0 (away-of own rest q) ys.1
          ∙ ap (λ l. model.Copy x l (suc n) ∷ hop own choose (filter (λ k. not (is_this (choose k) x)) rest) (suc (suc n))) here
          ∙ ap (λ l. model.Copy x sent (suc n) ∷ hop own choose l (suc (suc n))) others);
      none = not-empty rest p inside;
      shorter = left-shorter rest sent p inside taken;
      local = tt;
    }

-- ---- a drop of nothing, and of something

pub drop-none : {w : ℕ} (rest : List ℕ) (why : Why) → (length rest == 0) ≡ true → None ≡ drop_of {w = w} rest why
drop-none [] why e = refl
drop-none (p ∷ ps) why e = absurd (true≢false (sym e ∙ sym (not-empty (p ∷ ps) p (has_head p ps))))

pub drop-some : {w : ℕ} (rest set : List ℕ) (why : Why) → (length rest == 0) ≡ false → set ≡ rest → Some (Dropped set why) ≡ drop_of {w = w} rest why
drop-some [] set why e same = absurd (true≢false e)
drop-some {w} (p ∷ ps) set why e same =
    let some : List ℕ → Option (Out w) = λ l. Some (Dropped l why) in
    ap some same

pub drop-first : {w : ℕ} (set : List ℕ) (why : Why) (p : ℕ) → first_member set ≡ Some p → drop_of {w = w} set why ≡ Some (Dropped set why)
drop-first [] why p first = cc
drop-first (q ∷ qs) why p first = refl

-- ---- what each outcome leaves

-- all that is left goes
pub all-left : {w : ℕ} (rest set : List ℕ) (why : Why) (result : Option (Out w)) → set ≡ [] → result ≡ drop_of rest why → set ≡ left_after rest result
all-left [] set why None none e = none
all-left [] set why (Some out) none e = cc
all-left (p ∷ ps) set why None none e = cc
all-left {w} (p ∷ ps) set why (Some out) none e = none ∙ sym (difference-itself (p ∷ ps)) ∙ ap (left_after {w = w} (p ∷ ps)) (sym e)

-- ---- what isn't looked at

-- no position that has a row comes back
pub apart-after : {w : ℕ} (low : ℕ) (rest routed left : List ℕ) (result : Option (Out w)) → left ≡ left_after rest result → AreApartBelow low rest routed → AreApartBelow low left routed
apart-after low rest routed left None is apart p some lt = ap (λ (l : List ℕ). has_member p (intersection l routed)) is ∙ apart p some lt
apart-after low rest routed left (Some out) is apart p some lt =
    ap (λ (l : List ℕ). has_member p (intersection l routed)) is
    ∙ fewer (has_member p (difference rest (positions_of out))) (has_member p rest) (has_member p routed) _ _ (has-filter p (λ k. has_member k routed) (difference rest (positions_of out)))
    (has-filter p (λ k. not (has_member k (positions_of out))) rest) (sym (has-filter p (λ k. has_member k routed) rest) ∙ apart p some lt)
  where
    fewer : (a b c d e : Bool) → d ≡ (a && c) → a ≡ (b && e) → (b && c) ≡ false → d ≡ false
    fewer a true c d e is_d is_a none = is_d ∙ ap (λ (k : Bool). a && k) none ∙ and-false a
    fewer a false c d e is_d is_a none = is_d ∙ ap (λ (k : Bool). k && c) is_a

-- the mask of a router has only positions with a row
pub apart-mask : (table : List (Option First)) (f : First) (low : ℕ) (rest : List ℕ) → AreApartBelow low rest (routed_of table) → AreApartBelow low rest (mask_of table f)
apart-mask table f low rest apart p some lt =
    has-filter p (λ k. has_member k (mask_of table f)) rest
    ∙ fewer (has_member p rest) (has_member p (mask_of table f)) (has_member p (routed_of table)) (λ h. has-routed table p ∙ leads (router_at table p) (sym (has-mask table f p) ∙ h)) (sym (has-filter p (λ k. has_member k (routed_of table)) rest) ∙ apart p some lt)
  where
    leads : (o : Option First) → leads_to o f ≡ true → is_some o ≡ true
    leads None h = h
    leads (Some g) h = refl

    fewer : (a b c : Bool) → (b ≡ true → c ≡ true) → (a && c) ≡ false → (a && b) ≡ false
    fewer a false c more none = and-false a
    fewer a true c more none = ap (λ (k : Bool). a && k) (sym (more refl)) ∙ none

-- ---- numbers that every table has

number-place : (table : List (Option First)) (p : ℕ) (f : First) → get_or table p None ≡ Some f → get_or table (number_in table f) None ≡ Some f
number-place [] p f q = cc
number-place (o ∷ table) p f q = elim (cases_Bool (leads_to o f)) [
  | inl leads ↦ rw leads (named o leads)
  | inr not_so ↦ rw not_so (later p q not_so (λ i r. number-place table i f r))
]
  where
    named : (o : Option First) → leads_to o f ≡ true → o ≡ Some f
    named None h = cc
    named (Some g) h = ap (λ (k : First). Some k) (same_router-is g f h)

    later : (p : ℕ) → get_or (o ∷ table) p None ≡ Some f → leads_to o f ≡ false → ((i : ℕ) → get_or table i None ≡ Some f → get_or table (number_in table f) None ≡ Some f) → get_or table (number_in table f) None ≡ Some f
    later zero q not_so more = absurd (true≢false (sym (ap (λ k. leads_to k f) q ∙ same_router-refl f) ∙ not_so))
    later (suc i) q not_so more = more i q

pub numbered : (table : List (Option First)) → IsNumbering table (number_in table) (choose_in table)
numbered table = record { chosen = λ p. refl; apart = λ p q f g at_p at_q same. same_Some f g (sym (placed p f at_p) ∙ ap (λ (i : ℕ). get_or table i None) same ∙ placed q g at_q) }
  where
    placed : (p : ℕ) (f : First) → router_at table p ≡ Some f → get_or table (number_in table f) None ≡ Some f
    placed zero f at = cc
    placed (suc i) f at = number-place table i f at

-- ---- where the row of a copy is asked for

bounds : (bits p : ℕ) (set : List ℕ) → IsWithin 0 bits set → has_member p set ≡ true → (1 ≤ p) × (p ≤ bits)
bounds bits p set within is = (
  elim (cases_lt 0 p) [
    | inl low ↦ omega (arith, low)
    | inr none ↦ absurd (true≢false (sym is ∙ none_below p 0 bits set within none))
  ],
  elim (cases_lt bits p) [
    | inl past ↦ absurd (true≢false (sym is ∙ none_above p 0 bits set within past))
    | inr high ↦ high
  ],
)

pub record IsFirstRouted (bits : ℕ) (positions : List ℕ) (result : Option ℕ) : Type 0 where
  pub low : IfSome result (λ p. 1 ≤ p)
  pub high : IfSome result (λ p. p ≤ bits)
  pub routed : IfSome result (λ p. has_member p positions ≡ true)

pub first-routed : (bits : ℕ) (routed rest : List ℕ) (result : Option ℕ) → IsWithin 0 bits routed → result ≡ first_member (intersection rest routed) → IsFirstRouted bits routed result
first-routed bits routed rest None within e = record { low = tt; high = tt; routed = tt }
first-routed bits routed rest (Some p) within e =
    let has : has_member p routed ≡ true = right-of (has_member p rest) (has_member p routed) (sym (has-filter p (λ k. has_member k routed) rest) ∙ member-first (intersection rest routed) p (sym e)) in
    let between = bounds bits p routed within has in
    record { low = between.0; high = between.1; routed = has }
  where
    right-of : (a b : Bool) → (a && b) ≡ true → b ≡ true
    right-of true b h = h
    right-of false b h = absurd (true≢false (sym h))

-- ---- an action on a set, as an outcome

pub mapped-matches : {w : ℕ} (r : Option Action) (set : List ℕ) (result : Option (Out w)) (none : Type 0) (some : Out w → Type 0) → result ≡ option_map (out_of {w = w} set) r → MatchOption r none (λ action. some (out_of {w = w} set action)) → MatchOption result none some
mapped-matches {w} None set result none some is holds = subst (λ (o : Option (Out w)). MatchOption o none some) (sym is) holds
mapped-matches {w} (Some action) set result none some is holds = subst (λ (o : Option (Out w)). MatchOption o none some) (sym is) holds

pub mapped-none : {w : ℕ} (r : Option Action) (set : List ℕ) (result : Option (Out w)) → result ≡ option_map (out_of {w = w} set) r → is_none result ≡ is_none r
mapped-none {w} None set result is = ap (λ (o : Option (Out w)). is_none o) is
mapped-none {w} (Some action) set result is = ap (λ (o : Option (Out w)). is_none o) is

pub mapped-some : {w : ℕ} (r : Option Action) (set : List ℕ) (result : Option (Out w)) (some : Type 0) → result ≡ option_map (out_of {w = w} set) r → IfSome r (λ action. some) → IfSome result (λ out. some)
mapped-some {w} None set result some is holds = subst (λ (o : Option (Out w)). IfSome o (λ out. some)) (sym is) holds
mapped-some {w} (Some action) set result some is holds = subst (λ (o : Option (Out w)). IfSome o (λ out. some)) (sym is) holds
