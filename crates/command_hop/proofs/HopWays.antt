-- A hop over the table of written rows gives the outcomes of these rows.
use Rattle.std.proofs.Common.{◌≡◌, ℕ, ◌<◌, ◌≤◌, Bool, true, false, cond, not, eqb, ◌||◌, ◌&&◌, List, [], ◌∷◌, ◌++◌, map, Option, Some, None, refl, sym, ap, subst, ◌∙◌, arith, inl, inr, append-nil, append_assoc}
use Rattle.std.specs.Prelude.{filter, is_none, is_some, option_map, ◌⊎◌, Result, Ok, Err, OnOk}
use Rattle.std.specs.List.{flat_map, filter_map, list_any, AllByRecursion}
use Rattle.std.specs.Option.{option_map_or}
use Rattle.std.specs.Str.{bytes_eq}
use Rattle.std.proofs.lemmas.Bool.{cases_Bool, cases_eq, cases_lt, eq-eqb, ne_eqb, lt-ltb, le-ltb, or_parts, true≢false}
use Rattle.std.proofs.lemmas.List.{map-append}
use Rattle.std.proofs.lemmas.List.Elements.{filter_map-append, filter-append}
use Rattle.std.proofs.lemmas.List.Folds.{flat_map-map}
use Rattle.std.proofs.lemmas.Simd.{map-map}
use Rattle.std.proofs.lemmas.Slice.Eq.{bytes_eq-Decides}
use Rattle.wire_base.specs.model.BitSet.{IsWithin}
use Rattle.wire_base.specs.declared.view.First.{First}
use Rattle.wire_base.specs.model.Hop as model
use Rattle.wire_base.specs.model.Hop.{hop, has, distinct, is_this, local, unless_empty}
use Rattle.replay_text.specs.declared.hop.HopRow.{HopRow}
use Rattle.replay_text.specs.Ids.{in_range}
use Rattle.replay_text.proofs.EachOnce as once
use Rattle.command_hop.specs.Forward.{Outcome, Local, Copy, name_of, delivered, others, copies, copy_of, dropped, dropped_of, ways, outcomes, outcome_text, outcomes_text}
use Rattle.bier_hop.specs.Outcomes.{IsNumbering}
use Rattle.wire_base.specs.declared.bsl.Bsl.{Bsl}
use Rattle.wire_base.specs.model.Place.{bits_of}
use Rattle.command_hop.specs.declared.ways.Ways.{Ways}
use Rattle.bift_table.specs.Any.{bsl_of, positions_of}
use Rattle.command_hop.specs.Ways.{AreNumbered, AreWays, has_name, number_in, neighbour, number_of, leading, IsKnown, IsLinked, chosen, name_at, seen, texts}
use Rattle.command_hop.proofs.Partition.{goes_to, copy_to, copy_at, copies_are, unrouted_is, within-filter}
use Rattle.command_hop.proofs.WayLaws.{at_number}

-- ---- where ids go

-- an id goes to the number of its row's name
pub record Goes (rows : List HopRow) (names : List (List ℕ)) (choose : ℕ → Option ℕ) (id : ℕ) : Type 0 where
  pub choice : choose id ≡ option_map (number_in names) (name_of rows id)
  pub known : IsKnown names (name_of rows id)

number_leads : (names : List (List ℕ)) (row : Option (List ℕ)) → option_map number_of (leading names row) ≡ option_map (number_in names) row
number_leads names None = refl
number_leads names (Some name) = refl

pub goes : (rows : List HopRow) (names : List (List ℕ)) (table : List (Option First)) (id : ℕ) → IsLinked rows names table id → Goes rows names (chosen table) id
goes rows names table id linked = record { choice = ap (option_map number_of) linked.router ∙ number_leads names (name_of rows id); known = linked.known }

same_number : (names : List (List ℕ)) (a b : List ℕ) → has_name names a ≡ true → has_name names b ≡ true → number_in names a ≡ number_in names b → a ≡ b
same_number names a b knows_a knows_b same = sym (at_number names a knows_a) ∙ ap (name_at names) same ∙ at_number names b knows_b

number_test : (names : List (List ℕ)) (m name : List ℕ) → has_name names m ≡ true → has_name names name ≡ true → eqb (number_in names name) (number_in names m) ≡ bytes_eq m name
number_test names m name knows_m knows = elim (cases_Bool (bytes_eq m name)) [
  | inl same ↦ eq-eqb (number_in names name) (number_in names m) (ap (number_in names) (sym ((bytes_eq-Decides m name).0 same))) ∙ sym same
  | inr apart ↦
      ne_eqb (number_in names name) (number_in names m) (λ e. true≢false (sym ((bytes_eq-Decides m name).1 (same_number names m name knows_m knows (sym e))) ∙ apart)) ∙ sym apart
]

choice_test : (names : List (List ℕ)) (choice : Option ℕ) (row : Option (List ℕ)) (name : List ℕ) → choice ≡ option_map (number_in names) row → IsKnown names row → has_name names name ≡ true
    → is_this choice (number_in names name) ≡ option_map_or (λ found. bytes_eq found name) row false
choice_test names choice None name is known knows = ap (λ (o : Option ℕ). is_this o (number_in names name)) is
choice_test names choice (Some m) name is known knows = ap (λ (o : Option ℕ). is_this o (number_in names name)) is ∙ number_test names m name known knows

module _ (rows : List HopRow) (names : List (List ℕ)) (choose : ℕ → Option ℕ) where
  abbrev pub AllGo : List ℕ → Type 0
  AllGo ids = AllByRecursion (Goes rows names choose) ids

  goes_test : (id : ℕ) (name : List ℕ) → Goes rows names choose id → has_name names name ≡ true → is_this (choose id) (number_in names name) ≡ goes_to rows name id
  goes_test id name go knows = choice_test names (choose id) (name_of rows id) name go.choice go.known knows

  group_same : (ids : List ℕ) (name : List ℕ) → AllGo ids → has_name names name ≡ true → filter (λ k. is_this (choose k) (number_in names name)) ids ≡ filter (goes_to rows name) ids
  group_same [] name all knows = refl
  group_same (id ∷ ids) name all knows = elim (cases_Bool (goes_to rows name id)) [
    | inl holds ↦ rw (goes_test id name all.0 knows, holds) (ap (λ (l : List ℕ). id ∷ l) (group_same ids name all.1 knows))
    | inr fails ↦ rw (goes_test id name all.0 knows, fails) (group_same ids name all.1 knows)
  ]

  -- the numbers that ids go to
  abbrev numbers : List ℕ → List ℕ
  numbers ids = filter_map choose ids

  numbers_none : (id : ℕ) (ids : List ℕ) → choose id ≡ None → numbers (id ∷ ids) ≡ numbers ids
  numbers_none id ids none = rw none refl

  numbers_some : (id n : ℕ) (ids : List ℕ) → choose id ≡ Some n → numbers (id ∷ ids) ≡ n ∷ numbers ids
  numbers_some id n ids some = rw some refl

  -- whether a number is among them tells whether some id goes to the name
  numbers_test : (ids : List ℕ) (name : List ℕ) → AllGo ids → has_name names name ≡ true → has (numbers ids) (number_in names name) ≡ list_any (goes_to rows name) ids
  numbers_test [] name all knows = refl
  numbers_test (id ∷ ids) name all knows = go (numbers_test ids name all.1 knows) (choose id) refl
    where
      go : has (numbers ids) (number_in names name) ≡ list_any (goes_to rows name) ids → (o : Option ℕ) → choose id ≡ o → has (numbers (id ∷ ids)) (number_in names name) ≡ list_any (goes_to rows name) (id ∷ ids)
      go rest None is =
          let fails : goes_to rows name id ≡ false = sym (goes_test id name all.0 knows) ∙ ap (λ (o : Option ℕ). is_this o (number_in names name)) is in
          ap (λ (l : List ℕ). has l (number_in names name)) (numbers_none id ids is) ∙ rest ∙ ap (λ (b : Bool). b || list_any (goes_to rows name) ids) (sym fails)
      go rest (Some n) is =
          let test : eqb (number_in names name) n ≡ goes_to rows name id = sym (ap (λ (o : Option ℕ). is_this o (number_in names name)) is) ∙ goes_test id name all.0 knows in
          ap (λ (l : List ℕ). has l (number_in names name)) (numbers_some id n ids is) ∙ ap (λ (b : Bool). b || has (numbers ids) (number_in names name)) (once.flip n (number_in names name) ∙ test) ∙ ap (λ (b : Bool). goes_to rows name id || b) rest

  none_in : (test : ℕ → Bool) (ids : List ℕ) → list_any test ids ≡ false → filter test ids ≡ []
  none_in test [] none = refl
  none_in test (id ∷ ids) none =
      let parts = or_parts (test id) (list_any test ids) none in
      rw parts.0 (none_in test ids parts.1)

  -- the least of those that pass is below what is above them all
  some_in : (test : ℕ → Bool) (top : ℕ) (ids : List ℕ) → list_any test ids ≡ true → AllByRecursion (λ y. y < top) ids → (least : ℕ) × ((more : List ℕ) × (filter test ids ≡ least ∷ more) × (least < top))
  some_in test top [] some below = absurd (true≢false (sym some))
  some_in test top (id ∷ ids) some below = elim (cases_Bool (test id)) [
    | inl holds ↦ (id, (filter test ids, rw holds refl, below.0))
    | inr fails ↦
        let rest : list_any test ids ≡ true = rw fails at some in
        let found = some_in test top ids rest below.1 in
        (found.0, (found.1.0, rw fails found.1.1, found.1.2))
  ]

  -- ---- the copies

  -- the copy to a number
  abbrev copy_from : List ℕ → ℕ → Outcome
  copy_from all n = Copy (name_at names n) (filter (λ k. is_this (choose k) n) all)

  -- the numbers that the ids before didn't go to
  abbrev new_ones : List ℕ → List ℕ → List ℕ
  new_ones before ids = once.others (numbers before) (distinct (numbers ids))

  known_more : (before : List ℕ) (n : ℕ) (ns : List ℕ) → has before n ≡ true → once.others (before ++ n ∷ []) ns ≡ once.others before ns
  known_more before n ns there = sym (once.new_one before n ns) ∙ once.known before n ns there

  all_front : (before ids : List ℕ) → AllGo (before ++ ids) → AllGo before
  all_front [] ids all = tt
  all_front (y ∷ before) ids all = (all.0, all_front before ids all.1)

  -- where the ids stand in ascending order, those before one are below it
  front_below : (low high id : ℕ) (before ids : List ℕ) → IsWithin low high (before ++ id ∷ ids) → AllByRecursion (λ y. y < id) before
  front_below low high id [] ids is = tt
  front_below low high id (y ∷ before) ids is = (above y high id before ids is.2, front_below y high id before ids is.2)
    where
      above : (low high id : ℕ) (before ids : List ℕ) → IsWithin low high (before ++ id ∷ ids) → low < id
      above low high id [] ids is = is.0
      above low high id (y ∷ before) ids is = omega (arith, is.0, above y high id before ids is.2)

  copy_first : (id : ℕ) (name more : List ℕ) → copy_of name id (id ∷ more) ≡ Copy name (id ∷ more) ∷ []
  copy_first id name more = rw (eq-eqb id id refl) refl

  copy_later : (id least : ℕ) (name more : List ℕ) → least < id → copy_of name id (least ∷ more) ≡ []
  copy_later id least name more lt = rw (ne_eqb least id (λ e. omega arith)) refl

  middle : (test : ℕ → Bool) (before : List ℕ) (id : ℕ) (ids : List ℕ) → test id ≡ true → filter test (before ++ id ∷ ids) ≡ filter test before ++ id ∷ filter test ids
  middle test before id ids holds =
      let here : filter test (id ∷ ids) ≡ id ∷ filter test ids = rw holds refl in
      filter-append test before (id ∷ ids) ∙ ap (λ (l : List ℕ). filter test before ++ l) here

  module _ (high : ℕ) (all : List ℕ) (go : AllGo all) (is : IsWithin 0 high all) where
    copies_from : (before ids : List ℕ) → all ≡ before ++ ids → AllGo ids → flat_map (copy_at rows all) ids ≡ map (copy_from all) (new_ones before ids)
    copies_from before [] whole rest = refl
    copies_from before (id ∷ ids) whole rest = by (copies_from (before ++ id ∷ []) ids (whole ∙ sym (append_assoc before (id ∷ []) ids)) rest.1) (name_of rows id) refl
      where
        front : AllGo before
        front = all_front before (id ∷ ids) (subst (λ (l : List ℕ). AllGo l) whole go)

        below : AllByRecursion (λ y. y < id) before
        below = front_below 0 high id before ids (subst (IsWithin 0 high) whole is)

        -- what the id is sent in, and what is left for those after it
        split : (here : List Outcome) → flat_map (copy_at rows all) ids ≡ map (copy_from all) (new_ones (before ++ id ∷ []) ids) → copy_at rows all id ≡ here → map (copy_from all) (new_ones before (id ∷ ids)) ≡ here ++ map (copy_from all) (new_ones (before ++ id ∷ []) ids)
            → flat_map (copy_at rows all) (id ∷ ids) ≡ map (copy_from all) (new_ones before (id ∷ ids))
        split here later mine same = ap (λ (l : List Outcome). l ++ flat_map (copy_at rows all) ids) mine ∙ ap (λ (l : List Outcome). here ++ l) later ∙ sym same

        by : flat_map (copy_at rows all) ids ≡ map (copy_from all) (new_ones (before ++ id ∷ []) ids) → (o : Option (List ℕ)) → name_of rows id ≡ o → flat_map (copy_at rows all) (id ∷ ids) ≡ map (copy_from all) (new_ones before (id ∷ ids))
        by later None its =
            let none : choose id ≡ None = rest.0.choice ∙ ap (option_map (number_in names)) its in
            let same : numbers (before ++ id ∷ []) ≡ numbers before = filter_map-append choose before (id ∷ []) ∙ ap (λ (l : List ℕ). numbers before ++ l) (numbers_none id [] none) ∙ append-nil (numbers before) in
            split [] later (ap (copy_to rows all id) its)
            (ap (λ (l : List ℕ). map (copy_from all) (once.others (numbers before) (distinct l))) (numbers_none id ids none)
            ∙ ap (λ (l : List ℕ). map (copy_from all) (once.others l (distinct (numbers ids)))) (sym same))
        by later (Some name) its =
            let n = number_in names name in
            let knows : has_name names name ≡ true = subst (IsKnown names) its rest.0.known in
            let some : choose id ≡ Some n = rest.0.choice ∙ ap (option_map (number_in names)) its in
            let grown : numbers (before ++ id ∷ []) ≡ numbers before ++ n ∷ [] = filter_map-append choose before (id ∷ []) ∙ ap (λ (l : List ℕ). numbers before ++ l) (numbers_some id n [] some) in
            let mine : goes_to rows name id ≡ true = ap (λ (o : Option (List ℕ)). option_map_or (λ found. bytes_eq found name) o false) its ∙ (bytes_eq-Decides name name).1 refl in
            let group : filter (goes_to rows name) all ≡ filter (goes_to rows name) before ++ id ∷ filter (goes_to rows name) ids = ap (filter (goes_to rows name)) whole ∙ middle (goes_to rows name) before id ids mine in
            let before_test = numbers_test before name front knows in
            let first = ap (λ (l : List ℕ). map (copy_from all) (once.others (numbers before) (distinct l))) (numbers_some id n ids some) in
            let left = ap (λ (l : List ℕ). map (copy_from all) (once.others l (distinct (numbers ids)))) (sym grown) in
            elim (cases_Bool (list_any (goes_to rows name) before)) [
              | inl earlier ↦
                  let there : has (numbers before) n ≡ true = before_test ∙ earlier in
                  let least = some_in (goes_to rows name) id before earlier below in
                  let none : copy_at rows all id ≡ [] = ap (copy_to rows all id) its ∙ ap (copy_of name id) (group ∙ ap (λ (l : List ℕ). l ++ id ∷ filter (goes_to rows name) ids) least.1.1) ∙ copy_later id least.0 name (least.1.0 ++ id ∷ filter (goes_to rows name) ids) least.1.2 in
                  split [] later none
                  (first ∙ ap (map (copy_from all)) (dropped_first there) ∙ ap (map (copy_from all)) (sym (known_more (numbers before) n (distinct (numbers ids)) there)) ∙ left)
              | inr never ↦
                  let new : has (numbers before) n ≡ false = before_test ∙ never in
                  let alone : filter (goes_to rows name) all ≡ id ∷ filter (goes_to rows name) ids = group ∙ ap (λ (l : List ℕ). l ++ id ∷ filter (goes_to rows name) ids) (none_in (goes_to rows name) before never) in
                  let one : copy_at rows all id ≡ copy_from all n ∷ [] = ap (copy_to rows all id) its ∙ ap (copy_of name id) alone ∙ copy_first id name (filter (goes_to rows name) ids) ∙ ap (λ (l : List ℕ). Copy name l ∷ []) (sym alone)
                  ∙ ap (λ (l : List ℕ). Copy name l ∷ []) (sym (group_same all name go knows)) ∙ ap (λ (m : List ℕ). Copy m (filter (λ k. is_this (choose k) n) all) ∷ []) (sym (at_number names name knows)) in
                  split (copy_from all n ∷ []) later one
                  (first ∙ ap (map (copy_from all)) (kept_first new) ∙ ap (λ (l : List ℕ). copy_from all n ∷ map (copy_from all) l) (once.new_one (numbers before) n (distinct (numbers ids))) ∙ ap (λ (l : List Outcome). copy_from all n ∷ l) left)
            ]
          where
            dropped_first : has (numbers before) (number_in names name) ≡ true → once.others (numbers before) (distinct (number_in names name ∷ numbers ids)) ≡ once.others (numbers before) (distinct (numbers ids))
            dropped_first there = rw there (once.known (numbers before) (number_in names name) (distinct (numbers ids)) there)

            kept_first : has (numbers before) (number_in names name) ≡ false → once.others (numbers before) (distinct (number_in names name ∷ numbers ids)) ≡ number_in names name ∷ once.others (numbers before) (once.but (number_in names name) (distinct (numbers ids)))
            kept_first new = rw new refl

    all_copies : copies (ways rows all) ≡ map (seen names) (model.copies choose all 254)
    all_copies =
        copies_are rows all ∙ copies_from [] all refl go ∙ ap (map (copy_from all)) (once.none_after (distinct (numbers all)))
        ∙ sym (map-map (seen names) (λ (n : ℕ). model.Copy n (filter (λ k. is_this (choose k) n) all) 254) (distinct (numbers all)))

  -- ---- the whole packet

  some_choice : (choice : Option ℕ) (row : Option (List ℕ)) → choice ≡ option_map (number_in names) row → is_none row ≡ not (is_some choice)
  some_choice choice None is = ap (λ (o : Option ℕ). not (is_some o)) (sym is)
  some_choice choice (Some name) is = ap (λ (o : Option ℕ). not (is_some o)) (sym is)

  -- a test that tells the own id among these
  abbrev TellsOwn : (ℕ → Bool) → ℕ → List ℕ → Type 0
  TellsOwn mine own ids = AllByRecursion (λ k. mine k ≡ eqb k own) ids

  without_row : (own : ℕ) (mine : ℕ → Bool) (ids : List ℕ) → TellsOwn mine own ids → AllGo ids
      → filter (λ (id : ℕ). is_none (name_of rows id)) (filter (λ id. not (eqb id own)) ids) ≡ filter (λ k. not (is_some (choose k)) && not (mine k)) ids
  without_row own mine [] same all = refl
  without_row own mine (id ∷ ids) same all =
      let rest = without_row own mine ids same.1 all.1 in
      let none = some_choice (choose id) (name_of rows id) all.0.choice in
      elim (cases_Bool (eqb id own)) [
        | inl is ↦ rw (same.0, is, and_no (not (is_some (choose id)))) rest
        | inr other ↦ rw (same.0, other) (elim (cases_Bool (is_none (name_of rows id))) [
          | inl lacks ↦ rw (lacks, sym none ∙ lacks) (ap (λ (l : List ℕ). id ∷ l) rest)
          | inr has_row ↦ rw (has_row, sym none ∙ has_row) rest
        ])
      ]
    where
      and_no : (b : Bool) → (b && false) ≡ false
      and_no true = refl
      and_no false = refl

  without_own : (own : ℕ) (mine : ℕ → Bool) (ids : List ℕ) → TellsOwn mine own ids → filter (λ k. not (mine k)) ids ≡ others own ids
  without_own own mine [] same = refl
  without_own own mine (id ∷ ids) same =
      let rest = without_own own mine ids same.1 in
      elim (cases_Bool (eqb id own)) [
        | inl is ↦ rw (same.0, is) rest
        | inr other ↦ rw (same.0, other) (ap (λ (l : List ℕ). id ∷ l) rest)
      ]

  others_go : (own : ℕ) (ids : List ℕ) → AllGo ids → AllGo (others own ids)
  others_go own [] all = tt
  others_go own (id ∷ ids) all = elim (cases_Bool (eqb id own)) [
    | inl is ↦ rw is (others_go own ids all.1)
    | inr other ↦ rw other (all.0, others_go own ids all.1)
  ]

  seen_drop : (ids : List ℕ) → map (seen names) (unless_empty model.NoRow ids) ≡ dropped_of ids
  seen_drop [] = refl
  seen_drop (id ∷ ids) = refl

  seen_local : (b : Bool) (own : ℕ) → map (seen names) (cond b (model.Local own ∷ []) []) ≡ cond b (Local own ∷ []) []
  seen_local true own = refl
  seen_local false own = refl

  hop_by : (o : Option ℕ) (own high : ℕ) (ids : List ℕ) → IsWithin 0 high ids → AllGo ids → map (seen names) (local o ids) ≡ delivered own ids → TellsOwn (is_this o) own ids
      → map (seen names) (hop o choose ids 255) ≡ outcomes own rows ids
  unfolding hop outcomes dropped
  hop_by o own high ids is all mine same =
      let rest = others own ids in
      let left : filter (λ k. not (is_this o k)) ids ≡ rest = without_own own (is_this o) ids same in
      let sent = all_copies high rest (others_go own ids all) (within-filter (λ id. not (eqb id own)) 0 high ids is) in
      let copied : map (seen names) (model.copies choose (filter (λ k. not (is_this o k)) ids) 254) ≡ copies (ways rows rest) = ap (λ (l : List ℕ). map (seen names) (model.copies choose l 254)) left ∙ sym sent in
      let none = filter (λ k. not (is_some (choose k)) && not (is_this o k)) ids in
      let drops : map (seen names) (unless_empty model.NoRow none) ≡ dropped (ways rows rest) = seen_drop none ∙ ap dropped_of (sym (unrouted_is rows rest ∙ without_row own (is_this o) ids same all)) in
      map-append (seen names) (local o ids ++ model.copies choose (filter (λ k. not (is_this o k)) ids) 254) (unless_empty model.NoRow none)
      ∙ ap (λ (l : List Outcome). l ++ map (seen names) (unless_empty model.NoRow none)) (map-append (seen names) (local o ids) (model.copies choose (filter (λ k. not (is_this o k)) ids) 254))
      ∙ ap (λ (l : List Outcome). (l ++ map (seen names) (model.copies choose (filter (λ k. not (is_this o k)) ids) 254)) ++ map (seen names) (unless_empty model.NoRow none)) mine
      ∙ ap (λ (l : List Outcome). (delivered own ids ++ l) ++ map (seen names) (unless_empty model.NoRow none)) copied
      ∙ ap (λ (l : List Outcome). (delivered own ids ++ copies (ways rows rest)) ++ l) drops
      ∙ append_assoc (delivered own ids) (copies (ways rows rest)) (dropped (ways rows rest))

-- ---- the own position

own_itself : (own : ℕ) (ids : List ℕ) → AllByRecursion (λ k. is_this (Some own) k ≡ eqb k own) ids
own_itself own [] = tt
own_itself own (id ∷ ids) = (refl, own_itself own ids)

-- an own id that is no position is none of the ids
own_absent : (low high own : ℕ) (ids : List ℕ) → IsWithin low high ids → (own ≤ low) ⊎ (high < own) → AllByRecursion (λ k. is_this None k ≡ eqb k own) ids × (list_any (λ id. eqb id own) ids ≡ false)
own_absent low high own [] is out = (tt, refl)
own_absent low high own (id ∷ ids) is out =
    let apart : id ≡ own → ⊥ = λ e. elim out [
      | inl le ↦ omega (arith, is.0, e, le)
      | inr gt ↦ omega (arith, is.1, e, gt)
    ] in
    let rest = own_absent id high own ids is.2 (elim out [
      | inl le ↦ inl (omega (arith, is.0, le))
      | inr gt ↦ inr gt
    ]) in
    ((sym (ne_eqb id own apart), rest.0), rw (ne_eqb id own apart) rest.1)

-- A hop over the table of rows, seen by names, is what is done with a packet on these rows.
pub hop_is : (rows : List HopRow) (names : List (List ℕ)) (table : List (Option First)) (own high : ℕ) (ids : List ℕ) → ((p : ℕ) → 1 ≤ p → p ≤ high → IsLinked rows names table p) → IsWithin 0 high ids
    → map (seen names) (hop (in_range high own) (chosen table) ids 255) ≡ outcomes own rows ids
hop_is rows names table own high ids linked is = elim (cases_eq own 0) [
  | inl nothing ↦
      let none = own_absent 0 high own ids is (inl (omega arith)) in
      rw (eq-eqb own 0 nothing) (hop_by rows names (chosen table) None own high ids is all (ap (λ (b : Bool). cond b (Local own ∷ []) []) (sym none.1)) none.0)
  | inr some ↦ elim (cases_lt high own) [
    | inl over ↦
        let none = own_absent 0 high own ids is (inr over) in
        rw (ne_eqb own 0 some, lt-ltb high own over) (hop_by rows names (chosen table) None own high ids is all (ap (λ (b : Bool). cond b (Local own ∷ []) []) (sym none.1)) none.0)
    | inr fits ↦ rw (ne_eqb own 0 some, le-ltb high own fits) (hop_by rows names (chosen table) (Some own) own high ids is all (seen_local rows names (chosen table) (has ids own) own) (own_itself own ids))
  ]
]
  where
    each : (low : ℕ) (ids : List ℕ) → IsWithin low high ids → AllByRecursion (Goes rows names (chosen table)) ids
    each low [] is = tt
    each low (id ∷ ids) is = (goes rows names table id (linked id (omega (arith, is.0)) is.1), each id ids is.2)

    all : AllByRecursion (Goes rows names (chosen table)) ids
    all = each 0 ids is

-- and so are the lines
pub texts_are : (rows : List HopRow) (names : List (List ℕ)) (table : List (Option First)) (own high line : ℕ) (ids : List ℕ) → ((p : ℕ) → 1 ≤ p → p ≤ high → IsLinked rows names table p) → IsWithin 0 high ids
    → texts line names (hop (in_range high own) (chosen table) ids 255) ≡ outcomes_text line (outcomes own rows ids)
texts_are rows names table own high line ids linked is =
    sym (flat_map-map (outcome_text line) (seen names) (hop (in_range high own) (chosen table) ids 255)) ∙ ap (outcomes_text line) (hop_is rows names table own high ids linked is)

-- ---- the lines of a packet

pub is_numbering : (table : List (Option First)) → AreNumbered table → IsNumbering table number_of (chosen table)
is_numbering table numbered =
    record {
      chosen = λ p. refl;
      apart = λ p q f g at_p at_q same. numbered p f at_p ∙ ap neighbour same ∙ sym (numbered q g at_q);
    }

pub texts_pushed : {E : Type 0} (result : Result (Unit {0}) E) (rows : List HopRow) (built : Ways) (bsl : Bsl) (own line : ℕ) (ids old new : List ℕ) → bsl_of built.table ≡ bsl → AreWays rows built → IsWithin 0 (bits_of bsl) ids
    → OnOk result (new ≡ old ++ texts line built.names (hop (in_range (bits_of bsl) own) (chosen (positions_of built.table)) ids 255)) → OnOk result (new ≡ old ++ outcomes_text line (outcomes own rows ids))
texts_pushed (Err e) rows built bsl own line ids old new length are is pushed = tt
texts_pushed (Ok u) rows built bsl own line ids old new length are is pushed =
    pushed ∙ ap (λ (l : List ℕ). old ++ l) (texts_are rows built.names (positions_of built.table) own (bits_of bsl) line ids (λ p low high. are.linked p low (omega (arith, high, ap bits_of length))) is)
