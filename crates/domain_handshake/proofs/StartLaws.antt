-- The start of a domain with hellos: each interface goes down, and none of these events is rejected.
use Rattle.std.proofs.Common.{◌≡◌, ℕ, zero, suc, ◌+◌, ◌*◌, ◌<◌, ◌≤◌, inl, inr, ◌&&◌, cond, eqb, Bool, true, false, List, [], ◌∷◌, ◌++◌, filter, length, map, replicate, slice_get, slice_index_or, is_some, length-append, append-nil, Option, Some, None, refl, sym, ap, subst, ◌∙◌, arith}
use Rattle.std.specs.List.{AllByRecursion, fold, range_with_len}
use Rattle.std.proofs.lemmas.Bool.{and_parts, eqb-true, cases_eq, ne_eqb}
use Rattle.std.proofs.lemmas.List.{get_or-replicate, length-map, length-replicate, map-append}
use Rattle.std.proofs.lemmas.List.Elements.{filter-append}
use Rattle.std.proofs.lemmas.List.FromFn.{length-map-range_with_len}
use Rattle.std.proofs.lemmas.Option.{none-some, same_Some}
use Rattle.wire_base.specs.declared.conf.RouterConf.{RouterConf}
use Rattle.wire_base.specs.declared.limits.TheConstants.{MOST_EVENTS}
use Rattle.wire_base.proofs.SoundLemmas.{all_left, all_right}
use Rattle.wire_base.specs.model.Configuration.{DomainConf, IsValid, IsSound}
use Rattle.wire_base.specs.model.Flooding.{first_control}
use Rattle.isis_hello.specs.declared.event.EndChange.{EndChange}
use Rattle.isis_hello.specs.Changes.{is_at, up_between, IsJoined}
use Rattle.isis_hello.specs.Circuits.{CircuitsState, first_circuits}
use Rattle.isis_hello.specs.Events.{changed_to}
use Rattle.isis_hello.specs.History.{circuits_after}
use Rattle.isis_hello.proofs.ChangeLaws.{leads, none_up}
use Rattle.isis_hello.proofs.QueueLaws.{pair_is}
use Rattle.replay_report.specs.declared.recording.Recording.{Recording}
use Rattle.domain_model.specs.Faults.{is_up_toward}
use Rattle.domain_model.specs.Run.{Direction, direction_over, directions_from, directions}
use Rattle.domain_model.specs.World.{first_world, end_between, link_between, peer_place}
use Rattle.domain_model.proofs.LinkLaws.{join_of, end_found, peer_is}
use Rattle.domain_model.proofs.QueueLaws.{got_within}
use Rattle.domain_replay.specs.Replaying.{IsJoining}
use Rattle.domain_replay.proofs.DirectionLaws.{directions_join}
use Rattle.domain_handshake.specs.Following.{widths, ends_counts, IsWorldOf, IsRunning}
use Rattle.domain_handshake.specs.Handshakes.{Outcome, nothing, fresh_state, one_more, in_turn, change_does, end_goes_down, start_does}
use Rattle.laws_settle.specs.Ups.{ups_in}
use Rattle.laws_settle.proofs.ControlUps.{started_ups}
use Rattle.laws_settle.proofs.WorldUps.{row_at, up_in, toward_is}
use Rattle.domain_handshake.proofs.FollowLaws.{CameOf, changes_come}

-- ---- the first world

first_ups : List RouterConf → List (List Bool)
first_ups confs = map (λ (r : RouterConf). replicate (length r.ends) true) confs

control_up : (r : RouterConf) → (first_control r).flood.up ≡ replicate (length r.ends) true
unfolding first_control
control_up r = started_ups r (replicate (length r.ends) true)

controls_up : (confs : List RouterConf) → ups_in (map first_control confs) ≡ first_ups confs
unfolding ups_in first_ups
controls_up [] = refl
controls_up (r ∷ rs) = let row = control_up r in let rows = controls_up rs in λ i. row i ∷ rows i

first_widths : (confs : List RouterConf) → widths (first_ups confs) ≡ ends_counts confs
unfolding widths first_ups ends_counts
first_widths [] = refl
first_widths (r ∷ rs) = let row = length-replicate (length r.ends) true in let rows = first_widths rs in λ i. row i ∷ rows i

row_up : (confs : List RouterConf) (a link : ℕ) (r : RouterConf) → slice_get confs a ≡ Some r → link < length r.ends → slice_index_or (row_at (first_ups confs) a) link false ≡ true
unfolding first_ups
row_up [] a link r at within = absurd (none-some r at)
row_up (x ∷ xs) zero link r at within = get_or-replicate (length x.ends) link true false (subst (λ (c : RouterConf). link < length c.ends) (sym (same_Some x r at)) within)
row_up (x ∷ xs) (suc a) link r at within = row_up xs a link r at within

-- ---- the changes

-- the interface of a direction goes down
goes_down : Direction → EndChange
goes_down x = record { router = x.from; peer = x.to; up = false }

-- Of places in a row, the test picks none, or one.
module _ {X : Type 0} (test : X → Bool) (f : ℕ → X) where
  pick_none : (k n : ℕ) → ((i : ℕ) → k ≤ i → i < k + n → test (f i) ≡ false) → filter test (map f (range_with_len k n)) ≡ []
  pick_none k zero off = refl
  pick_none k (suc n) off = ap (λ (b : Bool). cond b (f k ∷ filter test (map f (range_with_len (k + 1) n))) (filter test (map f (range_with_len (k + 1) n)))) (off k (omega arith) (omega arith)) ∙ pick_none (k + 1) n (λ i low high. off i (omega (arith, low)) (omega (arith, high)))

  pick_one : (k n at : ℕ) → k ≤ at → at < k + n → test (f at) ≡ true → ((i : ℕ) → (i ≡ at → ⊥) → k ≤ i → i < k + n → test (f i) ≡ false) → filter test (map f (range_with_len k n)) ≡ f at ∷ []
  pick_one k zero at low high on off = absurd (omega (arith, low, high))
  pick_one k (suc n) at low high on off = elim (cases_eq k at) [
    | inl here ↦
        ap (λ (b : Bool). cond b (f k ∷ filter test (map f (range_with_len (k + 1) n))) (filter test (map f (range_with_len (k + 1) n)))) (ap (λ (i : ℕ). test (f i)) here ∙ on)
        ∙ ap (λ (l : List X). f k ∷ l) (pick_none (k + 1) n (λ i more less. off i (λ same. omega (arith, same, here, more)) (omega (arith, more)) (omega (arith, less))))
        ∙ ap (λ (i : ℕ). f i ∷ []) here
    | inr apart ↦
        ap (λ (b : Bool). cond b (f k ∷ filter test (map f (range_with_len (k + 1) n))) (filter test (map f (range_with_len (k + 1) n)))) (off k apart (omega arith) (omega arith))
        ∙ pick_one (k + 1) n at (later k at low apart) (omega (arith, high)) on (λ i other more less. off i other (omega (arith, more)) (omega (arith, less)))
  ]
    where
      later : (k at : ℕ) → k ≤ at → (k ≡ at → ⊥) → k + 1 ≤ at
      later k at low apart = omega (arith, low, apart)

module _ (d : DomainConf) (valid : IsValid d) where
  abbrev confs : List RouterConf
  confs = d.routers

  change_at : ℕ → ℕ → EndChange
  change_at a link = goes_down (direction_over confs a link)

  -- ---- the changes of one router

  module _ (a b : ℕ) where
    abbrev Joins : ℕ → Type 0
    Joins link = link_between confs a (peer_place confs a link) ≡ Some link

    leads_b : (link : ℕ) → Joins link → is_at a b (change_at a link) ≡ true → link_between confs a b ≡ Some link
    unfolding change_at goes_down
    leads_b link joined is = ap (link_between confs a) (sym (eqb-true (peer_place confs a link) b (and_parts (eqb a a) (eqb (peer_place confs a link) b) is).1)) ∙ joined

    not_at : (link : ℕ) → Joins link → (link_between confs a b ≡ Some link → ⊥) → is_at a b (change_at a link) ≡ false
    not_at link joined off = by (is_at a b (change_at a link)) refl
      where
        by : (test : Bool) → is_at a b (change_at a link) ≡ test → test ≡ false
        by true is = absurd (off (leads_b link joined is))
        by false is = refl

    row_picks : (n : ℕ) → ((i : ℕ) → 0 ≤ i → i < 0 + n → Joins i) → (o : Option ℕ) → link_between confs a b ≡ o → ((link : ℕ) → o ≡ Some link → link < n)
        → filter (is_at a b) (map (change_at a) (range_with_len 0 n)) ≡ changed_to a b (is_some o) false
    unfolding change_at goes_down
    row_picks n joins None at within = pick_none (is_at a b) (change_at a) 0 n (λ i low high. not_at i (joins i low high) (λ found. none-some i (sym at ∙ found)))
    row_picks n joins (Some link) at within =
        let less : link < n = within link refl in
        let there : peer_place confs a link ≡ b = peer_is confs valid.consistent.systems a b link at in
        pick_one (is_at a b) (change_at a) 0 n link (omega arith) (omega (arith, less)) (pair_is a b a (peer_place confs a link) refl there)
        (λ i other low high. not_at i (joins i low high) (λ found. other (same_Some i link (sym found ∙ at))))
        ∙ ap (λ (p : ℕ). changed_to a p true false) there

  -- ---- the changes of all routers

  off_row : (a b x : ℕ) (n : ℕ) → (x ≡ a → ⊥) → filter (is_at a b) (map (change_at x) (range_with_len 0 n)) ≡ []
  unfolding change_at goes_down
  off_row a b x n other = pick_none (is_at a b) (change_at x) 0 n (λ i low high. ap (λ (t : Bool). t && eqb (peer_place confs x i) b) (ne_eqb x a other))

  map_map : (x n k : ℕ) → map goes_down (map (direction_over confs x) (range_with_len k n)) ≡ map (change_at x) (range_with_len k n)
  unfolding change_at
  map_map x zero k = refl
  map_map x (suc n) k = ap (λ (l : List EndChange). change_at x k ∷ l) (map_map x n (k + 1))

  rows_picked : (a b i : ℕ) (rs : List RouterConf) → ((j : ℕ) → j < length rs → i + j ≡ a → ⊥) → filter (is_at a b) (map goes_down (directions_from confs i rs)) ≡ []
  rows_picked a b i [] off = refl
  rows_picked a b i (r ∷ rs) off =
      ap (filter (is_at a b)) (map-append goes_down (map (direction_over confs i) (range_with_len 0 (length r.ends))) (directions_from confs (i + 1) rs))
      ∙ filter-append (is_at a b) (map goes_down (map (direction_over confs i) (range_with_len 0 (length r.ends)))) (map goes_down (directions_from confs (i + 1) rs))
      ∙ ap (λ (l : List EndChange). filter (is_at a b) l ++ filter (is_at a b) (map goes_down (directions_from confs (i + 1) rs))) (map_map i (length r.ends) 0)
      ∙ ap (λ (l : List EndChange). l ++ filter (is_at a b) (map goes_down (directions_from confs (i + 1) rs))) (off_row a b i (length r.ends) (λ same. off 0 (omega arith) (omega (arith, same))))
      ∙ rows_picked a b (i + 1) rs (λ j less same. off (suc j) (omega (arith, less)) (omega (arith, same)))

  range_joins : (a n k : ℕ) → AllByRecursion (IsJoining confs) (map (direction_over confs a) (range_with_len k n)) → (i : ℕ) → k ≤ i → i < k + n → link_between confs a (peer_place confs a i) ≡ Some i
  range_joins a zero k all i low high = absurd (omega (arith, low, high))
  range_joins a (suc n) k all i low high = elim (cases_eq k i) [
    | inl here ↦ subst (λ (x : ℕ). link_between confs a (peer_place confs a x) ≡ Some x) here all.0.link
    | inr apart ↦ range_joins a n (k + 1) all.1 i (omega (arith, low, apart)) (omega (arith, high))
  ]

  link_less : (a b link : ℕ) (r : RouterConf) → slice_get confs a ≡ Some r → link_between confs a b ≡ Some link → link < length r.ends
  link_less a b link r near at =
      let j = join_of confs a b link at in
      let e = end_found j.near.ends j.far.system link j.toward in
      subst (λ (c : RouterConf). link < length c.ends) (same_Some j.near r (sym j.near_at ∙ near)) (got_within j.near.ends link e.at e.there)

  -- the rows from i on, where router a is the one at index j of them
  row_picked : (a b i j : ℕ) (rs : List RouterConf) (r : RouterConf) → i + j ≡ a → slice_get rs j ≡ Some r → slice_get confs a ≡ Some r → AllByRecursion (IsJoining confs) (directions_from confs i rs)
      → filter (is_at a b) (map goes_down (directions_from confs i rs)) ≡ changed_to a b (is_some (link_between confs a b)) false
  row_picked a b i j [] r is at near all = absurd (none-some r at)
  row_picked a b i zero (x ∷ rs) r is at near all =
      let first = map (direction_over confs i) (range_with_len 0 (length x.ends)) in
      let rest = directions_from confs (i + 1) rs in
      let here : i ≡ a = omega (arith, is) in
      let joins : AllByRecursion (IsJoining confs) (map (direction_over confs a) (range_with_len 0 (length x.ends))) = subst (λ (n : ℕ). AllByRecursion (IsJoining confs) (map (direction_over confs n) (range_with_len 0 (length x.ends)))) here (all_left (IsJoining confs) first rest all) in
      let same : x ≡ r = same_Some x r at in
      ap (filter (is_at a b)) (map-append goes_down first rest)
      ∙ filter-append (is_at a b) (map goes_down first) (map goes_down rest)
      ∙ ap (λ (l : List EndChange). filter (is_at a b) (map goes_down first) ++ l) (rows_picked a b (i + 1) rs (λ k less there. omega (arith, there, here)))
      ∙ append-nil (filter (is_at a b) (map goes_down first))
      ∙ ap (filter (is_at a b)) (map_map i (length x.ends) 0)
      ∙ ap (λ (n : ℕ). filter (is_at a b) (map (change_at n) (range_with_len 0 (length x.ends)))) here
      ∙ row_picks a b (length x.ends) (range_joins a (length x.ends) 0 joins) (link_between confs a b) refl
      (λ link found. subst (λ (c : RouterConf). link < length c.ends) (sym same) (link_less a b link r near found))
  row_picked a b i (suc j) (x ∷ rs) r is at near all =
      let first = map (direction_over confs i) (range_with_len 0 (length x.ends)) in
      let rest = directions_from confs (i + 1) rs in
      ap (filter (is_at a b)) (map-append goes_down first rest)
      ∙ filter-append (is_at a b) (map goes_down first) (map goes_down rest)
      ∙ ap (λ (l : List EndChange). filter (is_at a b) l ++ filter (is_at a b) (map goes_down rest)) (map_map i (length x.ends) 0)
      ∙ ap (λ (l : List EndChange). l ++ filter (is_at a b) (map goes_down rest)) (off_row a b i (length x.ends) (λ same. omega (arith, same, is)))
      ∙ row_picked a b (i + 1) j rs r (omega (arith, is)) at near (all_right (IsJoining confs) first rest all)

  got : {X : Type 0} (xs : List X) (i : ℕ) → i < length xs → (x : X) × (slice_get xs i ≡ Some x)
  got [] i within = absurd (omega (arith, within))
  got (x ∷ xs) zero within = (x, refl)
  got (x ∷ xs) (suc i) within = got xs i (omega (arith, within))

  -- each interface is up at first
  first_toward : (a b : ℕ) → is_up_toward (first_world d) a b ≡ is_some (link_between confs a b)
  unfolding first_world
  first_toward a b =
      toward_is (first_world d) a b
      ∙ ap (λ (ups : List (List Bool)). up_in ups a (link_between confs a b)) (controls_up confs)
      ∙ by (link_between confs a b) refl
    where
      by : (o : Option ℕ) → link_between confs a b ≡ o → up_in (first_ups confs) a o ≡ is_some o
      by None at = refl
      by (Some link) at = (let j = join_of confs a b link at in row_up confs a link j.near j.near_at (link_less a b link j.near j.near_at at))

  joins_all : AllByRecursion (IsJoining confs) (directions_from confs 0 confs)
  unfolding directions
  joins_all = directions_join d valid

  all_picked : (a b : ℕ) → filter (is_at a b) (map goes_down (directions confs)) ≡ changed_to a b (is_up_toward (first_world d) a b) false
  unfolding directions
  all_picked a b = by (slice_get confs a) refl ∙ ap (λ (up : Bool). changed_to a b up false) (sym (first_toward a b))
    where
      by : (o : Option RouterConf) → slice_get confs a ≡ o → filter (is_at a b) (map goes_down (directions_from confs 0 confs)) ≡ changed_to a b (is_some (link_between confs a b)) false
      by None none =
          rows_picked a b 0 confs (λ j less same. let there = got confs j less in let here : j ≡ a = omega (arith, same) in none-some there.0 (sym none ∙ ap (slice_get confs) (sym here) ∙ there.1))
          ∙ ap (λ (o : Option ℕ). changed_to a b (is_some o) false) (sym (ap (λ (o : Option RouterConf). end_between o (slice_get confs b)) none))
      by (Some r) near = row_picked a b 0 a confs r (omega arith) near near joins_all

  -- ---- there is room for them

  rows_few : (i : ℕ) (rs : List RouterConf) → AllByRecursion IsSound rs → length (directions_from confs i rs) ≤ 64 * length rs
  rows_few i [] all = omega arith
  rows_few i (r ∷ rs) all =
      let row : length (map (direction_over confs i) (range_with_len 0 (length r.ends))) ≡ length r.ends = length-map-range_with_len (direction_over confs i) 0 (length r.ends) in
      let whole = length-append (map (direction_over confs i) (range_with_len 0 (length r.ends))) (directions_from confs (i + 1) rs) in
      let more = rows_few (i + 1) rs all.1 in
      let few : length r.ends ≤ 64 = all.0.few_ends in
      omega (arith, row, whole, more, few)

  room : 0 + length (map goes_down (directions confs)) ≤ MOST_EVENTS
  unfolding directions
  room =
      let few = rows_few 0 confs valid.consistent.sound in
      let same = length-map (directions_from confs 0 confs) goes_down in
      let count = valid.consistent.few in
      omega (arith, few, same, count)

  -- ---- the start

  downs_are : (o : Outcome) (xs : List Direction) → fold (one_more (change_does 0)) o (map goes_down xs) ≡ fold (one_more end_goes_down) o xs
  unfolding goes_down
  downs_are o [] = refl
  downs_are o (x ∷ xs) = downs_are (one_more end_goes_down o x) xs

  downs_there : (xs : List Direction) → AllByRecursion (IsJoining confs) xs → AllByRecursion (λ (c : EndChange). IsJoined confs c.router c.peer) (map goes_down xs)
  unfolding goes_down
  downs_there [] all = tt
  downs_there (x ∷ xs) all = (record { router = all.0.from; peer = all.0.to; link = x.link; joined = all.0.link }, downs_there xs all.1)

  first_is : IsWorldOf d (first_world d)
  unfolding first_world
  first_is = record { domain = refl; interfaces = ap widths (controls_up confs) ∙ first_widths confs }

  start_came : (recording : Recording) → CameOf d (λ a b. false) (first_circuits d) [] (start_does recording d)
  unfolding start_does in_turn first_world
  start_came recording =
      subst (CameOf d (λ a b. false) (first_circuits d) []) (downs_are (nothing (fresh_state recording d)) (directions confs))
      (changes_come d valid 0 (map goes_down (directions confs)) (nothing (fresh_state recording d)) (is_up_toward (first_world d)) (λ a b. false) refl first_is
      (downs_there (directions confs) (directions_join d valid)) room (λ a b. refl) (leads (map goes_down (directions confs)) (is_up_toward (first_world d)) (λ a b. false) all_picked))

  pub start_allowed : (recording : Recording) → (start_does recording d).refused ≡ None
  start_allowed recording = (start_came recording).refused

  pub start_down : (recording : Recording) (a b : ℕ) → is_up_toward (start_does recording d).next.replay.world a b ≡ false
  start_down recording = (start_came recording).ends

  pub start_stands : (recording : Recording) → IsRunning d [] (start_does recording d).next
  unfolding circuits_after
  start_stands recording =
      let c = start_came recording in
      record { is = c.is; circuits = c.circuits_is; ends = λ a b. c.ends a b ∙ sym (none_up d a b) ∙ ap (λ (x : CircuitsState). up_between x a b) (sym c.circuits_is) }
