-- The packets of a list of BFR-ids: the sets in ascending order, and the bits of each.
use Rattle.std.proofs.Common.{◌≡◌, ℕ, suc, ◌+◌, ◌-◌, ◌*◌, ◌/◌, ◌%◌, ◌<◌, ◌≤◌, ◌==◌, ◌&&◌, ◌||◌, nat_lt, not, Bool, true, false, cond, length, List, [], ◌∷◌, ◌++◌, filter, map, find, Option, Some, None, refl, ap, sym, ◌∙◌, inl, inr, arith}
use Rattle.std.specs.List.{list_any}
use Rattle.std.specs.Option.{option_map_or}
use Rattle.std.proofs.Math.Bool.{or-true}
use Rattle.std.proofs.lemmas.Bool.{cases_Bool, cases_lt, cases_order, true≢false, eq-eqb, ne_eqb, lt-ltb, le-ltb}
use Rattle.std.proofs.lemmas.Bool.Decides.{eqb_tells}
use Rattle.std.proofs.lemmas.Nat.{le-div}
use Rattle.std.proofs.Math.Nat.{div-mul-le_self, div-add-mod, mod-lt}
use Rattle.std.proofs.lemmas.List.{append-nil}
use Rattle.wire_base.specs.declared.conf.RouterConf.{RouterConf}
use Rattle.wire_base.specs.declared.faults.EdgeFault.{EdgeFault}
use Rattle.wire_base.specs.declared.triple.Triple.{Triple}
use Rattle.wire_base.specs.declared.bsl.Bsl.{Bsl}
use Rattle.wire_base.specs.declared.bsl.Bsl.TheVariants.{B64, B128, B256, B512, B1024, B2048, B4096}
use Rattle.wire_base.specs.model.BitSet.{has_member, with_member, IsWithin}
use Rattle.wire_base.specs.model.Hop.{distinct}
use Rattle.wire_base.specs.model.Ingress.{id_set, sets_of, ids_of_set, is_large, large_fault, edge_fault}
use Rattle.wire_base.specs.model.Place.{bits_of, set_identifier, bit_position, position_in}
use Rattle.wire_base.proofs.SetLaws.{same_set, has-filter, has_head}

-- ---- numbers that rise from one to the next, and the sets among them

-- each is at least the bound, and above the one before it
abbrev pub Rises : ℕ → List ℕ → Type 0
Rises low [] = Unit {0}
Rises low (x ∷ xs) = (low ≤ x) × Rises (suc x) xs

-- each is at least the one before it
abbrev pub Climbs : ℕ → List ℕ → Type 0
Climbs low [] = Unit {0}
Climbs low (x ∷ xs) = (low ≤ x) × Climbs x xs

rises-lower : (a low : ℕ) (xs : List ℕ) → a ≤ low → Rises low xs → Rises a xs
rises-lower a low [] le is = tt
rises-lower a low (x ∷ xs) le is = (omega (arith, is.0), is.1)

rises-filter : (low : ℕ) (q : ℕ → Bool) (xs : List ℕ) → Rises low xs → Rises low (filter q xs)
rises-filter low q [] is = tt
rises-filter low q (x ∷ xs) is = elim (cases_Bool (q x)) [
  | inl t ↦ rw t (is.0, rises-filter (suc x) q xs is.1)
  | inr f ↦ rw f (rises-lower low (suc x) (filter q xs) (omega (arith, is.0)) (rises-filter (suc x) q xs is.1))
]

-- without its least possible number the list rises from the next
rises-other : (x : ℕ) (xs : List ℕ) → Rises x xs → Rises (suc x) (filter (λ y. not (y == x)) xs)
rises-other x [] is = tt
rises-other x (y ∷ ys) is = elim (eqb_tells y x) [
  | inl same ↦ rw same.0 (rises-lower (suc x) (suc y) (filter (λ z. not (z == x)) ys) (omega (arith, same.1)) (rises-filter (suc y) (λ z. not (z == x)) ys is.1))
  | inr differs ↦ (let above : suc x ≤ y = elim (cases_order x y) [
    | inl e ↦ absurd (differs.1 (sym e))
    | inr other ↦ elim other [ inl lt ↦ omega (arith, lt) | inr gt ↦ absurd (omega (arith, gt, is.0)) ]
  ] in rw differs.0 (above, rises-filter (suc y) (λ z. not (z == x)) ys is.1))
]

distinct-rises : (low : ℕ) (xs : List ℕ) → Climbs low xs → Rises low (distinct xs)
distinct-rises low [] is = tt
distinct-rises low (x ∷ xs) is = (is.0, rises-other x (distinct xs) (distinct-rises x xs is.1))

climbs-lower : (a low : ℕ) (xs : List ℕ) → a ≤ low → Climbs low xs → Climbs a xs
climbs-lower a low [] le is = tt
climbs-lower a low (x ∷ xs) le is = (omega (arith, is.0), is.1)

pub div-le : (a b d : ℕ) → 0 < d → a ≤ b → a / d ≤ b / d
div-le a b d some le = le-div (a / d) b d some (omega (arith, div-mul-le_self a d, le))

climbs-sets : (bits low : ℕ) (ids : List ℕ) → 0 < bits → Rises low ids → Climbs (set_identifier bits low) (map (set_identifier bits) ids)
climbs-sets bits low [] some is = tt
climbs-sets bits low (k ∷ ks) some is =
    (div-le (low - 1) (k - 1) bits some (omega (arith, is.0)), climbs-sets bits k ks some (rises-lower k (suc k) ks (omega arith) is.1))

pub some-bits : (bsl : Bsl) → 0 < bits_of bsl
some-bits B64 = omega arith
some-bits B128 = omega arith
some-bits B256 = omega arith
some-bits B512 = omega arith
some-bits B1024 = omega arith
some-bits B2048 = omega arith
some-bits B4096 = omega arith

and-true : (b : Bool) → (b && true) ≡ b
and-true true = refl
and-true false = refl

or-same : (a b : Bool) → (a || b) ≡ (a || (a || b))
or-same true b = refl
or-same false b = refl

or-swap : (a b c : Bool) → (a || (b || c)) ≡ (b || (a || c))
or-swap true true c = refl
or-swap true false c = refl
or-swap false b c = refl

-- ---- the set of the ids

rises-with : (low q : ℕ) (xs : List ℕ) → low ≤ q → Rises low xs → Rises low (with_member q xs)
rises-with low q [] le is = (le, tt)
rises-with low q (x ∷ xs) le is = elim (cases_order q x) [
  | inl e ↦ rw (le-ltb q x (omega arith), eq-eqb q x e) is
  | inr other ↦ elim other [
    | inl before ↦ rw (lt-ltb q x before) (le, (omega (arith, before), is.1))
    | inr after ↦ rw (le-ltb q x (omega arith), ne_eqb q x (λ e. omega arith)) (is.0, rises-with (suc x) q xs (omega (arith, after)) is.1)
  ]
]

pub rises-id_set : (ids : List ℕ) → list_any (λ j. j == 0) ids ≡ false → Rises 1 (id_set ids)
rises-id_set [] none = tt
rises-id_set (k ∷ ks) none = elim (eqb_tells k 0) [
  | inl zero_id ↦ absurd (true≢false (rw zero_id.0 at none))
  | inr some ↦ rises-with 1 k (id_set ks) (omega (arith, some.1)) (rises-id_set ks (rw some.0 at none))
]

pub sets-rise : (bsl : Bsl) (ids : List ℕ) → list_any (λ j. j == 0) ids ≡ false → Rises 0 (sets_of bsl ids)
sets-rise bsl ids none = distinct-rises 0 (map (set_identifier (bits_of bsl)) (id_set ids)) (climbs-lower 0 (set_identifier (bits_of bsl) 1) (map (set_identifier (bits_of bsl)) (id_set ids)) (omega arith) (climbs-sets (bits_of bsl) 1 (id_set ids) (some-bits bsl) (rises-id_set ids none)))

-- ---- the sets one after the other

pub none-early : (n low : ℕ) (xs : List ℕ) → n < low → Rises low xs → has_member n xs ≡ false
none-early n low [] lt is = refl
none-early n low (x ∷ xs) lt is = rw (ne_eqb n x (λ e. omega (arith, is.0, lt))) (none-early n (suc x) xs (omega (arith, is.0, lt)) is.1)

none-below_high : (n low : ℕ) (xs : List ℕ) → n ≤ low → Rises low xs → filter (λ s. nat_lt s n) xs ≡ []
none-below_high n low [] le is = refl
none-below_high n low (x ∷ xs) le is = rw (le-ltb x n (omega (arith, is.0, le))) (none-below_high n (suc x) xs (omega (arith, is.0, le)) is.1)

one-more : (n low : ℕ) (xs : List ℕ) → Rises low xs → filter (λ s. nat_lt s (suc n)) xs ≡ filter (λ s. nat_lt s n) xs ++ cond (has_member n xs) (n ∷ []) []
one-more n low [] is = refl
one-more n low (x ∷ xs) is = elim (cases_order x n) [
  | inl e ↦ rw (lt-ltb x (suc n) (omega (arith, e)), le-ltb x n (omega (arith, e)), eq-eqb n x (sym e), none-below_high (suc n) (suc x) xs (omega (arith, e)) is.1, none-below_high n (suc x) xs (omega (arith, e)) is.1) (ap (λ (k : ℕ). k ∷ []) e)
  | inr other ↦ elim other [
    | inl lt ↦ rw (lt-ltb x (suc n) (omega (arith, lt)), lt-ltb x n lt, ne_eqb n x (λ e. omega (arith, lt))) (ap (λ (l : List ℕ). x ∷ l) (one-more n (suc x) xs is.1))
    | inr gt ↦ rw (le-ltb x (suc n) (omega (arith, gt)), le-ltb x n (omega (arith, gt)), ne_eqb n x (λ e. omega (arith, gt)), none-early n (suc x) xs (omega (arith, gt)) is.1, none-below_high (suc n) (suc x) xs (omega (arith, gt)) is.1, none-below_high n (suc x) xs (omega (arith, gt)) is.1) refl
  ]
]

pub set-here : (n m : ℕ) (bsl : Bsl) (ids : List ℕ) → list_any (λ j. j == 0) ids ≡ false → m ≡ suc n → has_member n (sets_of bsl ids) ≡ true → filter (λ s. nat_lt s m) (sets_of bsl ids) ≡ filter (λ s. nat_lt s n) (sets_of bsl ids) ++ n ∷ []
set-here n m bsl ids none e has = ap (λ (k : ℕ). filter (λ s. nat_lt s k) (sets_of bsl ids)) e ∙ one-more n 0 (sets_of bsl ids) (sets-rise bsl ids none) ∙ rw has refl

pub set-missing : (n m : ℕ) (bsl : Bsl) (ids : List ℕ) → list_any (λ j. j == 0) ids ≡ false → m ≡ suc n → has_member n (sets_of bsl ids) ≡ false → filter (λ s. nat_lt s m) (sets_of bsl ids) ≡ filter (λ s. nat_lt s n) (sets_of bsl ids)
set-missing n m bsl ids none e hasnt = ap (λ (k : ℕ). filter (λ s. nat_lt s k) (sets_of bsl ids)) e ∙ one-more n 0 (sets_of bsl ids) (sets-rise bsl ids none) ∙ rw hasnt (append-nil (filter (λ s. nat_lt s n) (sets_of bsl ids)))

-- ---- which sets there are

pub has-distinct : (n : ℕ) (xs : List ℕ) → has_member n (distinct xs) ≡ has_member n xs
has-distinct n [] = refl
has-distinct n (x ∷ xs) = elim (eqb_tells n x) [
  | inl same ↦ rw same.0 refl
  | inr differs ↦ rw differs.0 (has-filter n (λ y. not (y == x)) (distinct xs) ∙ rw differs.0 (and-true (has_member n (distinct xs))) ∙ has-distinct n xs)
]

empty-set : (f g : ℕ → ℕ) (n : ℕ) (ks : List ℕ) → (length (map g (filter (λ k. f k == n) ks)) == 0) ≡ not (has_member n (map f ks))
empty-set f g n [] = refl
empty-set f g n (k ∷ ks) = elim (eqb_tells (f k) n) [
  | inl same ↦ rw (same.0, eq-eqb n (f k) (sym same.1)) (ne_eqb (suc (length (map g (filter (λ j. f j == n) ks)))) 0 (λ e. omega (arith, e)))
  | inr differs ↦ rw (differs.0, ne_eqb n (f k) (λ e. differs.1 (sym e))) (empty-set f g n ks)
]

pub no-bits : (bsl : Bsl) (ids : List ℕ) (n : ℕ) → (length (map (bit_position (bits_of bsl)) (ids_of_set bsl ids n)) == 0) ≡ not (has_member n (sets_of bsl ids))
no-bits bsl ids n = empty-set (set_identifier (bits_of bsl)) (bit_position (bits_of bsl)) n (id_set ids) ∙ ap not (sym (has-distinct n (map (set_identifier (bits_of bsl)) (id_set ids))))

any-with : (test : ℕ → Bool) (k : ℕ) (xs : List ℕ) → list_any test (with_member k xs) ≡ (test k || list_any test xs)
any-with test k [] = refl
any-with test k (x ∷ xs) = elim (cases_order k x) [
  | inl e ↦ rw (le-ltb k x (omega arith), eq-eqb k x e, e) (or-same (test x) (list_any test xs))
  | inr other ↦ elim other [
    | inl lt ↦ rw (lt-ltb k x lt) refl
    | inr gt ↦ rw (le-ltb k x (omega arith), ne_eqb k x (λ e. omega arith), any-with test k xs) (or-swap (test x) (test k) (list_any test xs))
  ]
]

pub any-id_set : (test : ℕ → Bool) (ids : List ℕ) → list_any test (id_set ids) ≡ list_any test ids
any-id_set test [] = refl
any-id_set test (k ∷ ks) = any-with test k (id_set ks) ∙ ap (λ b. test k || b) (any-id_set test ks)

pub find-none : (test : ℕ → Bool) (xs : List ℕ) → find test xs ≡ None → list_any test xs ≡ false
find-none test [] q = refl
find-none test (x ∷ xs) q = elim (cases_Bool (test x)) [
  | inl t ↦ absurd (some-none (rw t at q))
  | inr f ↦ rw f (find-none test xs (rw f at q))
]
  where
    some-none : Some x ≡ None → ⊥
    some-none h = cc

all-below : (f : ℕ → ℕ) (last : ℕ) (ks : List ℕ) → list_any (λ k. nat_lt last (f k)) ks ≡ false → (s : ℕ) → has_member s (map f ks) ≡ true → nat_lt s (suc last) ≡ true
all-below f last [] none s is = cc
all-below f last (k ∷ ks) none s is = elim (cases_lt last (f k)) [
  | inl large ↦ absurd (true≢false (rw (lt-ltb last (f k) large) at none))
  | inr small ↦ elim (eqb_tells s (f k)) [
    | inl same ↦ lt-ltb s (suc last) (omega (arith, same.1, small))
    | inr differs ↦ all-below f last ks (rw (le-ltb last (f k) small) at none) s (rw differs.0 at is)
  ]
]

filter-all : (q : ℕ → Bool) (xs : List ℕ) → ((s : ℕ) → has_member s xs ≡ true → q s ≡ true) → filter q xs ≡ xs
filter-all q [] every = refl
filter-all q (x ∷ xs) every = rw (every x (has_head x xs)) (ap (λ (l : List ℕ). x ∷ l) (filter-all q xs (λ s is. every s (rw is (or-true (s == x))))))

pub all-sets : (bsl : Bsl) (ids : List ℕ) (n last : ℕ) → n ≡ suc last → list_any (λ k. nat_lt last (set_identifier (bits_of bsl) k)) ids ≡ false → filter (λ s. nat_lt s n) (sets_of bsl ids) ≡ sets_of bsl ids
all-sets bsl ids n last e none =
    ap (λ (m : ℕ). filter (λ s. nat_lt s m) (sets_of bsl ids)) e
    ∙ filter-all (λ s. nat_lt s (suc last)) (sets_of bsl ids) (λ s is. all-below (set_identifier (bits_of bsl)) last (id_set ids) (any-id_set (λ k. nat_lt last (set_identifier (bits_of bsl) k)) ids ∙ none) s (sym (has-distinct s (map (set_identifier (bits_of bsl)) (id_set ids))) ∙ is))

-- ---- the bits of one set

later-position : (bits k j : ℕ) → 0 < bits → 1 ≤ k → k < j → set_identifier bits k ≡ set_identifier bits j → bit_position bits k < bit_position bits j
later-position bits k j some low lt same = above ((k - 1) % bits) ((j - 1) % bits) (bits * ((k - 1) / bits)) (k - 1) (j - 1) (div-add-mod (k - 1) bits) (ap (λ (q : ℕ). bits * q + (j - 1) % bits) same ∙ div-add-mod (j - 1) bits) (omega (arith, low, lt))
  where
    above : (r s m a b : ℕ) → m + r ≡ a → m + s ≡ b → a < b → r + 1 < s + 1
    above r s m a b p q h = omega (arith, p, q, h)

within-positions : (bits n low a : ℕ) (ks : List ℕ) → 0 < bits → 1 ≤ low → Rises low ks → ((k : ℕ) → low ≤ k → set_identifier bits k ≡ n → a < bit_position bits k) → IsWithin a bits (map (bit_position bits) (filter (λ k. set_identifier bits k == n) ks))
within-positions bits n low a [] some first is from = tt
within-positions bits n low a (k ∷ ks) some first is from = elim (eqb_tells (set_identifier bits k) n) [
  | inl same ↦ rw same.0 (from k is.0 same.1, omega (arith, mod-lt (k - 1) some), within-positions bits n (suc k) (bit_position bits k) ks some (omega (arith, is.0)) is.1 (λ j le at. later-position bits k j some (omega (arith, first, is.0)) (omega (arith, le)) (same.1 ∙ sym at)))
  | inr differs ↦ rw differs.0 (within-positions bits n (suc k) a ks some (omega (arith, is.0)) is.1 (λ j le at. from j (omega (arith, le, is.0)) at))
]

abbrev pub named : Triple → ℕ → ℕ → Bool
named t p k = option_map_or (λ q. p == q) (position_in t k) false

has-positions : (bits n p : ℕ) (ks : List ℕ) → has_member p (map (bit_position bits) (filter (λ k. set_identifier bits k == n) ks)) ≡ list_any (λ k. (set_identifier bits k == n) && (p == bit_position bits k)) ks
has-positions bits n p [] = refl
has-positions bits n p (k ∷ ks) = elim (cases_Bool (set_identifier bits k == n)) [
  | inl t ↦ rw t (ap (λ b. (p == bit_position bits k) || b) (has-positions bits n p ks))
  | inr f ↦ rw f (has-positions bits n p ks)
]

any-named : (t : Triple) (p : ℕ) (ids : List ℕ) → list_any (λ j. j == 0) ids ≡ false → list_any (named t p) ids ≡ list_any (λ k. (set_identifier (bits_of t.bsl) k == t.si) && (p == bit_position (bits_of t.bsl) k)) ids
any-named t p [] none = refl
any-named t p (k ∷ ks) none = elim (eqb_tells k 0) [
  | inl zero_id ↦ absurd (true≢false (rw zero_id.0 at none))
  | inr some ↦ elim (cases_Bool (set_identifier (bits_of t.bsl) k == t.si)) [
    | inl here ↦ rw (some.0, here) (ap (λ b. (p == bit_position (bits_of t.bsl) k) || b) (any-named t p ks (rw some.0 at none)))
    | inr away ↦ rw (some.0, away) (any-named t p ks (rw some.0 at none))
  ]
]

pub bits-whole : (t : Triple) (ids set : List ℕ) → list_any (λ j. j == 0) ids ≡ false → IsWithin 0 (bits_of t.bsl) set → ((p : ℕ) → has_member p set ≡ list_any (named t p) ids) → set ≡ map (bit_position (bits_of t.bsl)) (ids_of_set t.bsl ids t.si)
bits-whole t ids set none within same =
    let bits = bits_of t.bsl in
    let wanted = map (bit_position bits) (ids_of_set t.bsl ids t.si) in
    same_set 0 bits 0 bits set wanted within
    (within-positions bits t.si 1 0 (id_set ids) (some-bits t.bsl) (omega arith) (rises-id_set ids none) (λ k le at. omega arith))
    (λ p. same p ∙ any-named t p ids none ∙ sym (has-positions bits t.si p (id_set ids) ∙ any-id_set (λ k. (set_identifier bits k == t.si) && (p == bit_position bits k)) ids))

-- ---- ids that are not refused

pub allowed : (r : RouterConf) (sd : ℕ) (bsl : Bsl) (ids : List ℕ) → edge_fault r sd bsl ids ≡ None → (list_any (λ j. j == 0) ids ≡ false) × (find (is_large bsl) ids ≡ None)
unfolding edge_fault
allowed r sd bsl [] q = cc
allowed r sd bsl (k ∷ ks) q = elim (cases_Bool (list_any (λ j. j == 0) (k ∷ ks))) [
  | inl t ↦ absurd (some-none (rw t at q))
  | inr f ↦ (f, small (find (is_large bsl) (k ∷ ks)) (rw f at q))
]
  where
    some-none : {e : EdgeFault} → Some e ≡ None → ⊥
    some-none h = cc

    small : (o : Option ℕ) → large_fault r sd bsl o ≡ None → o ≡ None
    small None h = refl
    small (Some j) h = absurd (some-none h)
