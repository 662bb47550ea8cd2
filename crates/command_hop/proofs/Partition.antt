-- Each id of a packet stands in exactly one of its lines.
use Rattle.std.proofs.Common.{◌≡◌, ℕ, ◌+◌, ◌≤◌, Bool, true, false, cond, eqb, not, ◌&&◌, ◌||◌, List, [], ◌∷◌, ◌++◌, Option, Some, None, refl, sym, ap, ◌∙◌, arith, inl, inr}
use Rattle.std.specs.Prelude.{filter, is_none}
use Rattle.std.specs.List.{flat_map, list_any}
use Rattle.std.specs.Option.{option_map_or}
use Rattle.std.specs.Str.{bytes_eq}
use Rattle.std.proofs.lemmas.Bool.{cases_eq, cases_Bool, eq-eqb, ne_eqb, true≢false, false_from_ne_true}
use Rattle.std.proofs.lemmas.Slice.Eq.{bytes_eq-Decides}
use Rattle.wire_base.specs.model.BitSet.{has_member, IsWithin}
use Rattle.replay_text.specs.declared.hop.HopRow.{HopRow}
use Rattle.std.proofs.lemmas.List.Folds.{flat_map-map}
use Rattle.command_hop.specs.Forward as forward
use Rattle.command_hop.specs.Forward.{Outcome, Local, outcomes, delivered, others, way_of, ways, copies, copy_of, dropped, dropped_of, unrouted, group_of, name_of}
use Rattle.command_hop.specs.Partition.{times_in}

-- ---- groups, by rows and ids

-- whether the row of an id has that name
abbrev pub goes_to : List HopRow → List ℕ → ℕ → Bool
goes_to rows name id = option_map_or (λ found. bytes_eq found name) (name_of rows id) false

group_is : (rows : List HopRow) (name ids : List ℕ) → group_of name (ways rows ids) ≡ filter (goes_to rows name) ids
group_is rows name [] = refl
group_is rows name (x ∷ ids) = elim (cases_Bool (goes_to rows name x)) [
  | inl holds ↦ rw holds (ap (λ (l : List ℕ). x ∷ l) (group_is rows name ids))
  | inr fails ↦ rw fails (group_is rows name ids)
]

pub unrouted_is : (rows : List HopRow) (ids : List ℕ) → unrouted (ways rows ids) ≡ filter (λ (id : ℕ). is_none (name_of rows id)) ids
unrouted_is rows [] = refl
unrouted_is rows (x ∷ ids) = elim (cases_Bool (is_none (name_of rows x))) [
  | inl holds ↦ rw holds (ap (λ (l : List ℕ). x ∷ l) (unrouted_is rows ids))
  | inr fails ↦ rw fails (unrouted_is rows ids)
]

abbrev pub copy_to : List HopRow → List ℕ → ℕ → Option (List ℕ) → List Outcome
copy_to rows ids id None = []
copy_to rows ids id (Some name) = copy_of name id (filter (goes_to rows name) ids)

abbrev pub copy_at : List HopRow → List ℕ → ℕ → List Outcome
copy_at rows ids id = copy_to rows ids id (name_of rows id)

copy_is : (rows : List HopRow) (ids : List ℕ) (id : ℕ) (o : Option (List ℕ)) → forward.copy_to (ways rows ids) id o ≡ copy_to rows ids id o
copy_is rows ids id None = refl
copy_is rows ids id (Some name) = ap (copy_of name id) (group_is rows name ids)

pub copies_are : (rows : List HopRow) (ids : List ℕ) → copies (ways rows ids) ≡ flat_map (copy_at rows ids) ids
unfolding copies
copies_are rows ids =
    flat_map-map (forward.copy_at (ways rows ids)) (way_of rows) ids
    ∙ (λ i. flat_map (λ (id : ℕ). copy_is rows ids id (name_of rows id) i) ids)

-- ---- counting

abbrev one_if : Bool → ℕ
one_if b = cond b 1 0

times-append : (id : ℕ) (a b : List Outcome) → times_in id (a ++ b) ≡ times_in id a + times_in id b
times-append id [] b = omega arith
times-append id (x ∷ a) b = omega (arith, times-append id a b)

-- ---- filters of sets

has-filter : (p : ℕ → Bool) (id : ℕ) (xs : List ℕ) → has_member id (filter p xs) ≡ (has_member id xs && p id)
has-filter p id [] = refl
has-filter p id (x ∷ xs) = elim (cases_eq id x) [
  | inl same ↦ elim (cases_Bool (p x)) [
    | inl holds ↦
        let here : p id ≡ true = ap p same ∙ holds in
        rw (holds, eq-eqb id x same, here) refl
    | inr fails ↦
        let here : p id ≡ false = ap p same ∙ fails in
        rw (fails, eq-eqb id x same, has-filter p id xs, here) (and-false (has_member id xs))
  ]
  | inr other ↦ elim (cases_Bool (p x)) [
    | inl holds ↦ rw (holds, ne_eqb id x other) (has-filter p id xs)
    | inr fails ↦ rw (fails, ne_eqb id x other) (has-filter p id xs)
  ]
]
  where
    and-false : (b : Bool) → (b && false) ≡ false
    and-false true = refl
    and-false false = refl

lower : (a low high : ℕ) (xs : List ℕ) → a ≤ low → IsWithin low high xs → IsWithin a high xs
lower a low high [] le is = tt
lower a low high (x ∷ xs) le is = (omega (arith, is.0), is.1, is.2)

pub within-filter : (p : ℕ → Bool) (low high : ℕ) (xs : List ℕ) → IsWithin low high xs → IsWithin low high (filter p xs)
within-filter p low high [] is = tt
within-filter p low high (x ∷ xs) is = elim (cases_Bool (p x)) [
  | inl holds ↦ rw holds (is.0, is.1, within-filter p x high xs is.2)
  | inr fails ↦ rw fails (lower low x high (filter p xs) (omega (arith, is.0)) (within-filter p x high xs is.2))
]

-- how often a number stands in a list
abbrev occurs : ℕ → List ℕ → ℕ
occurs p [] = 0
occurs p (x ∷ xs) = one_if (eqb p x) + occurs p xs

absent : (low high p : ℕ) (xs : List ℕ) → IsWithin low high xs → p ≤ low → (occurs p xs ≡ 0) × (has_member p xs ≡ false)
absent low high p [] is le = (refl, refl)
absent low high p (x ∷ xs) is le =
    let rest = absent x high p xs is.2 (omega (arith, is.0)) in
    let other : p ≡ x → ⊥ = (λ e. omega (arith, is.0)) in
    (rw (ne_eqb p x other) (omega (arith, rest.0)), rw (ne_eqb p x other) rest.1)

occurs-once : (low high p : ℕ) (xs : List ℕ) → IsWithin low high xs → occurs p xs ≡ one_if (has_member p xs)
occurs-once low high p [] is = refl
occurs-once low high p (x ∷ xs) is = elim (cases_eq p x) [
  | inl same ↦
      let rest = absent x high p xs is.2 (omega arith) in
      rw (eq-eqb p x same) (omega (arith, rest.0))
  | inr other ↦ rw (ne_eqb p x other) (omega (arith, occurs-once x high p xs is.2))
]

times-flat : (id least : ℕ) (f : ℕ → List Outcome) → ((x : ℕ) → times_in id (f x) ≡ one_if (eqb least x)) → (xs : List ℕ) → times_in id (flat_map f xs) ≡ occurs least xs
times-flat id least f each [] = refl
times-flat id least f each (x ∷ xs) = times-append id (f x) (flat_map f xs) ∙ omega (arith, each x, times-flat id least f each xs)

times-none : (id : ℕ) (f : ℕ → List Outcome) → ((x : ℕ) → times_in id (f x) ≡ 0) → (xs : List ℕ) → times_in id (flat_map f xs) ≡ 0
times-none id f each [] = refl
times-none id f each (x ∷ xs) = times-append id (f x) (flat_map f xs) ∙ omega (arith, each x, times-none id f each xs)

-- ---- names

named : (name : List ℕ) (o : Option (List ℕ)) → option_map_or (λ found. bytes_eq found name) o false ≡ true → o ≡ Some name
named name None h = absurd cc
named name (Some found) h = ap (λ (n : List ℕ). Some n) ((bytes_eq-Decides found name).0 h)

goes_from : (rows : List HopRow) (name : List ℕ) (id : ℕ) → name_of rows id ≡ Some name → goes_to rows name id ≡ true
goes_from rows name id is = ap (λ (o : Option (List ℕ)). option_map_or (λ found. bytes_eq found name) o false) is ∙ (bytes_eq-Decides name name).1 refl

not_copied : (id x : ℕ) (name : List ℕ) (group : List ℕ) → has_member id group ≡ false → times_in id (copy_of name x group) ≡ 0
not_copied id x name [] none = refl
not_copied id x name (least ∷ group) none = elim (cases_Bool (eqb least x)) [
  | inl holds ↦ rw (holds, none) refl
  | inr fails ↦ rw fails refl
]

copied : (id x least : ℕ) (name more : List ℕ) → has_member id (least ∷ more) ≡ true → times_in id (copy_of name x (least ∷ more)) ≡ one_if (eqb least x)
copied id x least name more has = elim (cases_Bool (eqb least x)) [
  | inl holds ↦ rw (holds, has) refl
  | inr fails ↦ rw fails refl
]

module _ (rows : List HopRow) (all : List ℕ) (id : ℕ) where
  -- an id that isn't there, or has no row, is in no copy
  none_to : (none : (name : List ℕ) → has_member id (filter (goes_to rows name) all) ≡ false) (x : ℕ) (o : Option (List ℕ)) → times_in id (copy_to rows all x o) ≡ 0
  none_to none x None = refl
  none_to none x (Some name) = not_copied id x name (filter (goes_to rows name) all) (none name)

  module _ (name : List ℕ) (its : name_of rows id ≡ Some name) (least : ℕ) (more : List ℕ) (group : filter (goes_to rows name) all ≡ least ∷ more) (has : has_member id (least ∷ more) ≡ true) where
    least_named : name_of rows least ≡ Some name
    least_named =
        let there : has_member least (filter (goes_to rows name) all) ≡ true = ap (has_member least) group ∙ rw (eq-eqb least least refl) refl in
        let both = sym (has-filter (goes_to rows name) least all) ∙ there in
        named name (name_of rows least) (and_right (has_member least all) (goes_to rows name least) both)
      where
        and_right : (a b : Bool) → (a && b) ≡ true → b ≡ true
        and_right true b h = h
        and_right false b h = absurd cc

    other_name : (m : List ℕ) → (m ≡ name → ⊥) → has_member id (filter (goes_to rows m) all) ≡ false
    other_name m differs =
        let fails : goes_to rows m id ≡ false = false_from_ne_true (goes_to rows m id) (λ holds. differs (same_some m name (sym (named m (name_of rows id) holds) ∙ its))) in
        has-filter (goes_to rows m) id all ∙ rw fails (and-false (has_member id all))
      where
        same_some : (a b : List ℕ) → Some a ≡ Some b → a ≡ b
        same_some a b e = cc

        and-false : (b : Bool) → (b && false) ≡ false
        and-false true = refl
        and-false false = refl

    one_to : (x : ℕ) (o : Option (List ℕ)) → name_of rows x ≡ o → times_in id (copy_to rows all x o) ≡ one_if (eqb least x)
    one_to x None is = rw (ne_eqb least x (λ e. absurd (some_none (sym least_named ∙ ap (name_of rows) e ∙ is)))) refl
      where
        some_none : Some name ≡ None → ⊥
        some_none e = cc
    one_to x (Some m) is = elim (cases_Bool (bytes_eq m name)) [
      | inl holds ↦
          let same : m ≡ name = (bytes_eq-Decides m name).0 holds in
          ap (λ (n : List ℕ). times_in id (copy_of n x (filter (goes_to rows n) all))) same ∙ ap (λ (g : List ℕ). times_in id (copy_of name x g)) group ∙ copied id x least name more has
      | inr fails ↦
          let differs : m ≡ name → ⊥ = (λ e. true≢false (sym ((bytes_eq-Decides m name).1 e) ∙ fails)) in
          let apart : least ≡ x → ⊥ = (λ e. differs (same_some m name (sym is ∙ ap (name_of rows) (sym e) ∙ least_named))) in
          not_copied id x m (filter (goes_to rows m) all) (other_name m differs) ∙ rw (ne_eqb least x apart) refl
    ]
      where
        same_some : (a b : List ℕ) → Some a ≡ Some b → a ≡ b
        same_some a b e = cc

-- ---- the whole packet

and-none : (b : Bool) → (b && false) ≡ false
and-none true = refl
and-none false = refl

and-all : (b : Bool) → (b && true) ≡ b
and-all true = refl
and-all false = refl

dropped-times : (id : ℕ) (xs : List ℕ) → times_in id (dropped_of xs) ≡ one_if (has_member id xs)
dropped-times id [] = refl
dropped-times id (x ∷ xs) = omega arith

-- the copies and the drop have each id once
rest_once : (high id : ℕ) (rows : List HopRow) (all : List ℕ) → IsWithin 0 high all → times_in id (copies (ways rows all)) + times_in id (dropped (ways rows all)) ≡ one_if (has_member id all)
unfolding dropped
rest_once high id rows all is = rw (copies_are rows all, unrouted_is rows all) (go (name_of rows id) refl (has_member id all) refl)
  where
    drops : (b : Bool) → is_none (name_of rows id) ≡ b → times_in id (dropped_of (filter (λ (x : ℕ). is_none (name_of rows x)) all)) ≡ one_if (has_member id all && b)
    drops b e = dropped-times id (filter (λ (x : ℕ). is_none (name_of rows x)) all) ∙ ap one_if (has-filter (λ x. is_none (name_of rows x)) id all ∙ ap (λ (c : Bool). has_member id all && c) e)

    some : (name : List ℕ) → name_of rows id ≡ Some name → has_member id all ≡ true → (group : List ℕ) → filter (goes_to rows name) all ≡ group → has_member id group ≡ true → times_in id (flat_map (copy_at rows all) all) ≡ 1
    some name its has [] group none = absurd cc
    some name its has (least ∷ more) group there =
        let first : has_member least (filter (goes_to rows name) all) ≡ true = ap (has_member least) group ∙ rw (eq-eqb least least refl) refl in
        let inside : has_member least all ≡ true = and_left (has_member least all) (goes_to rows name least) (sym (has-filter (goes_to rows name) least all) ∙ first) in
        times-flat id least (copy_at rows all) (λ x. one_to rows all id name its least more group there x (name_of rows x) refl) all ∙ occurs-once 0 high least all is ∙ ap one_if inside
      where
        and_left : (a b : Bool) → (a && b) ≡ true → a ≡ true
        and_left true b h = refl
        and_left false b h = h

    go : (o : Option (List ℕ)) → name_of rows id ≡ o → (b : Bool) → has_member id all ≡ b → times_in id (flat_map (copy_at rows all) all) + times_in id (dropped_of (filter (λ (x : ℕ). is_none (name_of rows x)) all)) ≡ one_if (has_member id all)
    go None its b has =
        let none = (λ (name : List ℕ). has-filter (goes_to rows name) id all ∙ ap (λ (o : Option (List ℕ)). has_member id all && option_map_or (λ found. bytes_eq found name) o false) its ∙ and-none (has_member id all)) in
        omega (arith, times-none id (copy_at rows all) (λ x. none_to rows all id none x (name_of rows x)) all, drops true (ap is_none its), ap one_if (and-all (has_member id all)))
    go (Some name) its true has =
        let there : has_member id (filter (goes_to rows name) all) ≡ true = has-filter (goes_to rows name) id all ∙ rw (has, goes_from rows name id its) refl in
        omega (arith, some name its has (filter (goes_to rows name) all) refl there, drops false (ap is_none its), ap one_if (and-none (has_member id all)), ap one_if has)
    go (Some name) its false has =
        let none = (λ (m : List ℕ). has-filter (goes_to rows m) id all ∙ ap (λ (b : Bool). b && goes_to rows m id) has) in
        omega (arith, times-none id (copy_at rows all) (λ x. none_to rows all id none x (name_of rows x)) all, drops false (ap is_none its), ap one_if (and-none (has_member id all)), ap one_if has)

delivered-times : (id own : ℕ) (ids : List ℕ) → times_in id (delivered own ids) ≡ one_if (has_member own ids && eqb id own)
delivered-times id own ids = rw (any-has own ids) (cases (has_member own ids) (eqb id own))
  where
    any-has : (own : ℕ) (ids : List ℕ) → list_any (λ id. eqb id own) ids ≡ has_member own ids
    any-has own [] = refl
    any-has own (x ∷ ids) = elim (cases_eq x own) [
      | inl same ↦ rw (eq-eqb x own same, eq-eqb own x (sym same)) refl
      | inr other ↦ rw (ne_eqb x own other, ne_eqb own x (λ e. other (sym e))) (any-has own ids)
    ]

    cases : (a b : Bool) → times_in id (cond a (Local own ∷ []) []) ≡ one_if (a && eqb id own)
    cases true b = one (eqb id own)
      where
        one : (c : Bool) → cond (c || false) 1 0 + 0 ≡ one_if c
        one true = refl
        one false = refl
    cases false b = refl

pub each_once : (own high id : ℕ) (rows : List HopRow) (ids : List ℕ) → IsWithin 0 high ids → times_in id (outcomes own rows ids) ≡ one_if (has_member id ids)
unfolding outcomes
each_once own high id rows ids is =
    let rest = others own ids in
    let other = rest_once high id rows rest (within-filter (λ x. not (eqb x own)) 0 high ids is) in
    let split = times-append id (delivered own ids) (copies (ways rows rest) ++ dropped (ways rows rest)) ∙ ap (λ (n : ℕ). times_in id (delivered own ids) + n) (times-append id (copies (ways rows rest)) (dropped (ways rows rest))) in
    let left = has-filter (λ x. not (eqb x own)) id ids in
    elim (cases_eq id own) [
      | inl same ↦
          let none : has_member id rest ≡ false = left ∙ rw (eq-eqb id own same) (and-none (has_member id ids)) in
          let mine : times_in id (delivered own ids) ≡ one_if (has_member id ids) = delivered-times id own ids ∙ rw (eq-eqb id own same) (ap one_if (and-all (has_member own ids)) ∙ ap (λ (k : ℕ). one_if (has_member k ids)) (sym same)) in
          omega (arith, split, other, mine, ap one_if none)
      | inr apart ↦
          let all : has_member id rest ≡ has_member id ids = left ∙ rw (ne_eqb id own apart) (and-all (has_member id ids)) in
          let mine : times_in id (delivered own ids) ≡ 0 = delivered-times id own ids ∙ rw (ne_eqb id own apart) (ap one_if (and-none (has_member own ids))) in
          omega (arith, split, other, mine, ap one_if all)
    ]
