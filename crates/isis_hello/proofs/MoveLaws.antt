-- What an event does to one circuit.
use Rattle.std.proofs.Common.{◌≡◌, ℕ, zero, suc, ◌⊎◌, Bool, true, false, eqb, List, [], ◌∷◌, map, get_or, set, slice_get, Option, Some, None, refl, sym, ap, ◌∙◌, inl, inr}
use Rattle.std.proofs.lemmas.Bool.{and_parts, eqb-true, eqb-false}
use Rattle.wire_base.specs.declared.conf.End.{End}
use Rattle.wire_base.specs.declared.conf.RouterConf.{RouterConf}
use Rattle.isis_hello.specs.declared.adjacency.Adjacency.TheVariants as adjacency
use Rattle.isis_hello.specs.declared.adjacency.Circuit.{Circuit}
use Rattle.isis_hello.specs.declared.adjacency.Turn.{Turn}
use Rattle.isis_hello.specs.declared.adjacency.Turn.TheVariants as turns
use Rattle.wire_base.specs.declared.hello_event.HelloEvent.{HelloEvent}
use Rattle.wire_base.specs.declared.hello_event.HelloEvent.TheVariants as events
use Rattle.isis_hello.specs.declared.hello.Hello.{Hello}
use Rattle.isis_hello.specs.Adjacency.{after_tick}
use Rattle.isis_hello.specs.Circuits.{CircuitsState, link_between, fresh, broken, fresh_circuits, circuit_at, with_circuit, hellos_at}
use Rattle.isis_hello.specs.Events.{sends, sends_from, sends_on, arrives, arrives_over, forgets, replaces_over, turns_at, turned_circuit, heard, happens}
use Rattle.isis_hello.specs.History.{is_pair, is_reset, is_second}
use Rattle.isis_hello.proofs.StepLemmas.{link_there}

-- ---- an element of a list in which one was replaced

pub set_at : {X : Type 0} (xs : List X) (i j : ℕ) (y d : X) → (get_or (set xs i y) j d ≡ get_or xs j d) ⊎ ((j ≡ i) × (get_or (set xs i y) j d ≡ y))
set_at [] i j y d = inl refl
set_at (x ∷ xs) zero zero y d = inr (refl, refl)
set_at (x ∷ xs) zero (suc j) y d = inl refl
set_at (x ∷ xs) (suc i) zero y d = inl refl
set_at {X} (x ∷ xs) (suc i) (suc j) y d = further (set_at xs i j y d)
  where
    further : (get_or (set xs i y) j d ≡ get_or xs j d) ⊎ ((j ≡ i) × (get_or (set xs i y) j d ≡ y)) → (get_or (set xs i y) j d ≡ get_or xs j d) ⊎ ((suc j ≡ suc i) × (get_or (set xs i y) j d ≡ y))
    further (inl same) = inl same
    further (inr there) = inr (ap suc there.0, there.1)

pub record Replaced (cs : List (List Circuit)) (p l b k : ℕ) (c : Circuit) : Type 0 where
  pub place : b ≡ p
  pub link : k ≡ l
  pub is : circuit_at (with_circuit cs p l c) b k ≡ c

pub with_at : (cs : List (List Circuit)) (p l b k : ℕ) (c : Circuit) → (circuit_at (with_circuit cs p l c) b k ≡ circuit_at cs b k) ⊎ Replaced cs p l b k c
with_at cs p l b k c = by_router (set_at cs p b (set (get_or cs p []) l c) [])
  where
    by_link : b ≡ p → get_or (with_circuit cs p l c) b [] ≡ set (get_or cs p []) l c → (get_or (set (get_or cs p []) l c) k broken ≡ get_or (get_or cs p []) k broken) ⊎ ((k ≡ l) × (get_or (set (get_or cs p []) l c) k broken ≡ c))
        → (circuit_at (with_circuit cs p l c) b k ≡ circuit_at cs b k) ⊎ Replaced cs p l b k c
    by_link here row (inl same) = inl (ap (λ (r : List Circuit). get_or r k broken) row ∙ same ∙ ap (λ (i : ℕ). get_or (get_or cs i []) k broken) (sym here))
    by_link here row (inr there) = inr (record { place = here; link = there.0; is = ap (λ (r : List Circuit). get_or r k broken) row ∙ there.1 })

    by_router : (get_or (with_circuit cs p l c) b [] ≡ get_or cs b []) ⊎ ((b ≡ p) × (get_or (with_circuit cs p l c) b [] ≡ set (get_or cs p []) l c))
        → (circuit_at (with_circuit cs p l c) b k ≡ circuit_at cs b k) ⊎ Replaced cs p l b k c
    by_router (inl same) = inl (ap (λ (r : List Circuit). get_or r k broken) same)
    by_router (inr there) = by_link there.0 there.1 (set_at (get_or cs p []) l k c broken)

row_broken : (row : List Circuit) (k : ℕ) → get_or (set row k broken) k broken ≡ broken
row_broken [] k = refl
row_broken (c ∷ row) zero = refl
row_broken (c ∷ row) (suc k) = row_broken row k

broken_at : (cs : List (List Circuit)) (b k : ℕ) → circuit_at (with_circuit cs b k broken) b k ≡ broken
broken_at [] b k = refl
broken_at (row ∷ cs) zero k = row_broken row k
broken_at (row ∷ cs) (suc b) k = broken_at cs b k

-- ---- a router whose adjacencies all move

turned_broken : (turn : Turn) → broken ≡ turned_circuit turn broken
turned_broken turns.Second = refl
turned_broken turns.Restart = refl

row_turned : (turn : Turn) (row : List Circuit) (k : ℕ) → get_or (map (turned_circuit turn) row) k broken ≡ turned_circuit turn (get_or row k broken)
row_turned turn [] k = turned_broken turn
row_turned turn (c ∷ row) zero = refl
row_turned turn (c ∷ row) (suc k) = row_turned turn row k

abbrev with_turn : Turn → List (List Circuit) → ℕ → List (List Circuit)
with_turn turn cs x = set cs x (map (turned_circuit turn) (get_or cs x []))

pub turned_at : (turn : Turn) (cs : List (List Circuit)) (b k : ℕ) → circuit_at (with_turn turn cs b) b k ≡ turned_circuit turn (circuit_at cs b k)
turned_at turn [] b k = turned_broken turn
turned_at turn (row ∷ cs) zero k = row_turned turn row k
turned_at turn (row ∷ cs) (suc b) k = turned_at turn cs b k

pub turned_other : (turn : Turn) (cs : List (List Circuit)) (x b k : ℕ) → (x ≡ b → ⊥) → circuit_at (with_turn turn cs x) b k ≡ circuit_at cs b k
turned_other turn cs zero zero k h = absurd (h refl)
turned_other turn [] (suc x) b k h = refl
turned_other turn [] zero (suc b) k h = refl
turned_other turn (row ∷ cs) zero (suc b) k h = refl
turned_other turn (row ∷ cs) (suc x) zero k h = refl
turned_other turn (row ∷ cs) (suc x) (suc b) k h = turned_other turn cs x b k (λ e. h (ap suc e))

-- ---- the beginning

row_down : (ends : List End) (k : ℕ) → (get_or (map (λ e. fresh) ends) k broken).adjacency ≡ adjacency.Down
row_down [] k = refl
row_down (e ∷ es) zero = refl
row_down (e ∷ es) (suc k) = row_down es k

pub fresh_down : (confs : List RouterConf) (b k : ℕ) → (circuit_at (fresh_circuits confs) b k).adjacency ≡ adjacency.Down
fresh_down [] b k = refl
fresh_down (r ∷ rs) zero k = row_down r.ends k
fresh_down (r ∷ rs) (suc b) k = fresh_down rs b k

-- ---- what can happen to the circuit of router b toward router a

pub record Stays (e : HelloEvent) (b a : ℕ) (old new : Circuit) : Type 0 where
  pub same : new ≡ old
  pub reset : is_reset b a e ≡ false
  pub second : is_second b e ≡ false

pub record Ages (e : HelloEvent) (b : ℕ) (old new : Circuit) : Type 0 where
  pub is : e ≡ events.Tick b
  pub aged : new.adjacency ≡ after_tick old.adjacency

pub record Hears (s : CircuitsState) (e : HelloEvent) (b back : ℕ) (old new : Circuit) : Type 0 where
  pub x : ℕ
  pub i : ℕ
  pub link : ℕ
  pub h : Hello
  pub is : e ≡ events.Greet x b i
  pub out : link_between s.domain.routers x b ≡ Some link
  pub home : link_between s.domain.routers b x ≡ Some back
  pub got : slice_get (hellos_at s.hellos x link) i ≡ Some h
  pub after : new ≡ heard (slice_get s.domain.routers b) back old h

abbrev pub Moves : CircuitsState → HelloEvent → ℕ → ℕ → ℕ → Circuit → Circuit → Type 0
Moves s e b a back old new = Stays e b a old new ⊎ ((new.adjacency ≡ adjacency.Down) ⊎ (Ages e b old new ⊎ Hears s e b back old new))

stays : (s : CircuitsState) (e : HelloEvent) (b a back : ℕ) (old new : Circuit) → new ≡ old → is_reset b a e ≡ false → is_second b e ≡ false → Moves s e b a back old new
stays s e b a back old new same reset second = inl (record { same = same; reset = reset; second = second })

falls : (s : CircuitsState) (e : HelloEvent) (b a back : ℕ) (old new : Circuit) → new.adjacency ≡ adjacency.Down → Moves s e b a back old new
falls s e b a back old new down = inr (inl down)

on_circuits : (cs ds : List (List Circuit)) (b k : ℕ) → cs ≡ ds → circuit_at cs b k ≡ circuit_at ds b k
on_circuits cs ds b k e = ap (λ (x : List (List Circuit)). circuit_at x b k) e

-- a hello that is sent or lost moves no circuit
sent_on : (s : CircuitsState) (a link : ℕ) (r : RouterConf) (o : Option End) → (sends_on s a link r o).state.circuits ≡ s.circuits
sent_on s a link r None = refl
sent_on s a link r (Some e) = refl

sent_by : (s : CircuitsState) (a link : ℕ) (o : Option RouterConf) → (sends_from s a link o).state.circuits ≡ s.circuits
sent_by s a link None = refl
sent_by s a link (Some r) = sent_on s a link r (slice_get r.ends link)

sent_over : (s : CircuitsState) (a : ℕ) (o : Option ℕ) → (sends s a o).state.circuits ≡ s.circuits
sent_over s a None = refl
sent_over s a (Some link) = sent_by s a link (slice_get s.domain.routers a)

lost_over : (s : CircuitsState) (a i : ℕ) (o : Option ℕ) → (forgets s a i o).state.circuits ≡ s.circuits
lost_over s a i None = refl
lost_over s a i (Some link) = refl

-- a hello that arrives
arrived : (s : CircuitsState) (x y i b a back l k : ℕ) (o : Option Hello) → link_between s.domain.routers x y ≡ Some l → link_between s.domain.routers y x ≡ Some k → slice_get (hellos_at s.hellos x l) i ≡ o
    → Moves s (events.Greet x y i) b a back (circuit_at s.circuits b back) (circuit_at (arrives s x l y k i o).state.circuits b back)
arrived s x y i b a back l k None out home got = stays s (events.Greet x y i) b a back (circuit_at s.circuits b back) (circuit_at s.circuits b back) refl refl refl
arrived s x y i b a back l k (Some h) out home got = by (with_at s.circuits y k b back (heard (slice_get s.domain.routers y) k (circuit_at s.circuits y k) h))
  where
    moved : Circuit
    moved = heard (slice_get s.domain.routers y) k (circuit_at s.circuits y k) h

    by : (circuit_at (with_circuit s.circuits y k (heard (slice_get s.domain.routers y) k (circuit_at s.circuits y k) h)) b back ≡ circuit_at s.circuits b back) ⊎ Replaced s.circuits y k b back (heard (slice_get s.domain.routers y) k (circuit_at s.circuits y k) h)
        → Moves s (events.Greet x y i) b a back (circuit_at s.circuits b back) (circuit_at (arrives s x l y k i (Some h)).state.circuits b back)
    by (inl same) = stays s (events.Greet x y i) b a back (circuit_at s.circuits b back) (circuit_at (arrives s x l y k i (Some h)).state.circuits b back) same refl refl
    by (inr there) = inr (inr (inr (record {
      x = x;
      i = i;
      link = l;
      h = h;
      is = ap (λ (n : ℕ). events.Greet x n i) (sym there.place);
      out = ap (λ (n : ℕ). link_between s.domain.routers x n) there.place ∙ out;
      home = ap (λ (n : ℕ). link_between s.domain.routers n x) there.place ∙ home ∙ ap (λ (n : ℕ). Some n) (sym there.link);
      got = got;
      after = there.is ∙ ap (λ (n : ℕ). heard (slice_get s.domain.routers n) k (circuit_at s.circuits n k) h) (sym there.place) ∙ ap (λ (n : ℕ). heard (slice_get s.domain.routers b) n (circuit_at s.circuits b n) h) (sym there.link);
    })))

arrived_over : (s : CircuitsState) (x y i b a back : ℕ) (o p : Option ℕ) → link_between s.domain.routers x y ≡ o → link_between s.domain.routers y x ≡ p
    → Moves s (events.Greet x y i) b a back (circuit_at s.circuits b back) (circuit_at (arrives_over s x y i o p).state.circuits b back)
arrived_over s x y i b a back None p out home = stays s (events.Greet x y i) b a back (circuit_at s.circuits b back) (circuit_at s.circuits b back) refl refl refl
arrived_over s x y i b a back (Some l) None out home = stays s (events.Greet x y i) b a back (circuit_at s.circuits b back) (circuit_at s.circuits b back) refl refl refl
arrived_over s x y i b a back (Some l) (Some k) out home = arrived s x y i b a back l k (slice_get (hellos_at s.hellos x l) i) out home refl

-- a circuit that fails, or works again
abbrev circuits_over : CircuitsState → ℕ → ℕ → Circuit → Option ℕ → List (List Circuit)
circuits_over s x y c o = (replaces_over s x y c o).state.circuits

replaced_over : (s : CircuitsState) (x y b back : ℕ) (c : Circuit) → c.adjacency ≡ adjacency.Down → (o : Option ℕ)
    → (circuit_at (circuits_over s x y c o) b back ≡ circuit_at s.circuits b back) ⊎ ((circuit_at (circuits_over s x y c o) b back).adjacency ≡ adjacency.Down)
replaced_over s x y b back c down None = inl refl
replaced_over s x y b back c down (Some l) = by (with_at s.circuits x l b back c)
  where
    by : (circuit_at (with_circuit s.circuits x l c) b back ≡ circuit_at s.circuits b back) ⊎ Replaced s.circuits x l b back c
        → (circuit_at (with_circuit s.circuits x l c) b back ≡ circuit_at s.circuits b back) ⊎ ((circuit_at (with_circuit s.circuits x l c) b back).adjacency ≡ adjacency.Down)
    by (inl same) = inl same
    by (inr there) = inr (ap (λ (d : Circuit). d.adjacency) there.is ∙ down)

mended : (s : CircuitsState) (x y b a back : ℕ) (new : Circuit) → (new ≡ circuit_at s.circuits b back) ⊎ (new.adjacency ≡ adjacency.Down) → Moves s (events.Mend x y) b a back (circuit_at s.circuits b back) new
mended s x y b a back new (inl same) = stays s (events.Mend x y) b a back (circuit_at s.circuits b back) new same refl refl
mended s x y b a back new (inr down) = falls s (events.Mend x y) b a back (circuit_at s.circuits b back) new down

-- one that fails is the circuit of b toward a, or another
failed : (s : CircuitsState) (x y b a back : ℕ) → link_between s.domain.routers b a ≡ Some back → (test : Bool) → is_pair b a x y ≡ test
    → (circuit_at (circuits_over s x y broken (link_between s.domain.routers x y)) b back ≡ circuit_at s.circuits b back) ⊎ ((circuit_at (circuits_over s x y broken (link_between s.domain.routers x y)) b back).adjacency ≡ adjacency.Down)
    → Moves s (events.Break x y) b a back (circuit_at s.circuits b back) (circuit_at (circuits_over s x y broken (link_between s.domain.routers x y)) b back)
failed s x y b a back joined false is (inl same) = stays s (events.Break x y) b a back (circuit_at s.circuits b back) (circuit_at (circuits_over s x y broken (link_between s.domain.routers x y)) b back) same is refl
failed s x y b a back joined test is (inr down) = falls s (events.Break x y) b a back (circuit_at s.circuits b back) (circuit_at (circuits_over s x y broken (link_between s.domain.routers x y)) b back) down
failed s x y b a back joined true is (inl same) =
    let both = and_parts (eqb x b) (eqb y a) is in
    let x-is : x ≡ b = eqb-true x b both.0 in
    let y-is : y ≡ a = eqb-true y a both.1 in
    let link : link_between s.domain.routers x y ≡ Some back = ap (λ (n : ℕ). link_between s.domain.routers n y) x-is ∙ ap (λ (n : ℕ). link_between s.domain.routers b n) y-is ∙ joined in
    let down : (circuit_at (circuits_over s x y broken (link_between s.domain.routers x y)) b back).adjacency ≡ adjacency.Down =
    ap (λ (o : Option ℕ). (circuit_at (circuits_over s x y broken o) b back).adjacency) link
    ∙ ap (λ (n : ℕ). (circuit_at (with_circuit s.circuits n back broken) b back).adjacency) x-is
    ∙ ap (λ (c : Circuit). c.adjacency) (broken_at s.circuits b back) in
    falls s (events.Break x y) b a back (circuit_at s.circuits b back) (circuit_at (circuits_over s x y broken (link_between s.domain.routers x y)) b back) down

-- a second, or a restart
abbrev circuits_turned : CircuitsState → ℕ → Turn → Option RouterConf → List (List Circuit)
circuits_turned s x turn o = (turns_at s x turn o).state.circuits

turned_elsewhere : (s : CircuitsState) (x : ℕ) (turn : Turn) (b back : ℕ) (o : Option RouterConf) → eqb x b ≡ false → circuit_at (circuits_turned s x turn o) b back ≡ circuit_at s.circuits b back
turned_elsewhere s x turn b back None other = refl
turned_elsewhere s x turn b back (Some r) other = turned_other turn s.circuits x b back (eqb-false x b other)

turned_here : (s : CircuitsState) (x : ℕ) (turn : Turn) (b back : ℕ) (r : RouterConf) → slice_get s.domain.routers b ≡ Some r → x ≡ b → circuit_at (circuits_turned s x turn (slice_get s.domain.routers x)) b back ≡ turned_circuit turn (circuit_at s.circuits b back)
turned_here s x turn b back r there is =
    ap (λ (n : ℕ). circuit_at (circuits_turned s n turn (slice_get s.domain.routers n)) b back) is
    ∙ ap (λ (o : Option RouterConf). circuit_at (circuits_turned s b turn o) b back) there
    ∙ turned_at turn s.circuits b back

ticked : (s : CircuitsState) (x b a back : ℕ) (r : RouterConf) → slice_get s.domain.routers b ≡ Some r → (test : Bool) → eqb x b ≡ test
    → Moves s (events.Tick x) b a back (circuit_at s.circuits b back) (circuit_at (circuits_turned s x turns.Second (slice_get s.domain.routers x)) b back)
ticked s x b a back r there false other = stays s (events.Tick x) b a back (circuit_at s.circuits b back) (circuit_at (circuits_turned s x turns.Second (slice_get s.domain.routers x)) b back) (turned_elsewhere s x turns.Second b back (slice_get s.domain.routers x) other) refl other
ticked s x b a back r there true here =
    let is : x ≡ b = eqb-true x b here in
    inr (inr (inl (record { is = ap (λ (n : ℕ). events.Tick n) is; aged = ap (λ (c : Circuit). c.adjacency) (turned_here s x turns.Second b back r there is) })))

restarted : (s : CircuitsState) (x b a back : ℕ) (r : RouterConf) → slice_get s.domain.routers b ≡ Some r → (test : Bool) → eqb x b ≡ test
    → Moves s (events.Restart x) b a back (circuit_at s.circuits b back) (circuit_at (circuits_turned s x turns.Restart (slice_get s.domain.routers x)) b back)
restarted s x b a back r there false other = stays s (events.Restart x) b a back (circuit_at s.circuits b back) (circuit_at (circuits_turned s x turns.Restart (slice_get s.domain.routers x)) b back) (turned_elsewhere s x turns.Restart b back (slice_get s.domain.routers x) other) other refl
restarted s x b a back r there true here = falls s (events.Restart x) b a back (circuit_at s.circuits b back) (circuit_at (circuits_turned s x turns.Restart (slice_get s.domain.routers x)) b back) (ap (λ (c : Circuit). c.adjacency) (turned_here s x turns.Restart b back r there (eqb-true x b here)))

-- ---- an event

pub moves : (s : CircuitsState) (e : HelloEvent) (b a back : ℕ) → link_between s.domain.routers b a ≡ Some back → Moves s e b a back (circuit_at s.circuits b back) (circuit_at (happens s e).state.circuits b back)
unfolding happens
moves s (events.Hello x y) b a back joined = stays s (events.Hello x y) b a back (circuit_at s.circuits b back) (circuit_at (sends s x (link_between s.domain.routers x y)).state.circuits b back) (on_circuits (sends s x (link_between s.domain.routers x y)).state.circuits s.circuits b back (sent_over s x (link_between s.domain.routers x y))) refl refl
moves s (events.Greet x y i) b a back joined = arrived_over s x y i b a back (link_between s.domain.routers x y) (link_between s.domain.routers y x) refl refl
moves s (events.Forget x y i) b a back joined = stays s (events.Forget x y i) b a back (circuit_at s.circuits b back) (circuit_at (forgets s x i (link_between s.domain.routers x y)).state.circuits b back) (on_circuits (forgets s x i (link_between s.domain.routers x y)).state.circuits s.circuits b back (lost_over s x i (link_between s.domain.routers x y))) refl refl
moves s (events.Break x y) b a back joined = failed s x y b a back joined (is_pair b a x y) refl (replaced_over s x y b back broken refl (link_between s.domain.routers x y))
moves s (events.Mend x y) b a back joined = mended s x y b a back (circuit_at (circuits_over s x y fresh (link_between s.domain.routers x y)) b back) (replaced_over s x y b back fresh refl (link_between s.domain.routers x y))
moves s (events.Tick x) b a back joined =
    let l = link_there (slice_get s.domain.routers b) (slice_get s.domain.routers a) back joined in
    ticked s x b a back l.r l.near_is (eqb x b) refl
moves s (events.Restart x) b a back joined =
    let l = link_there (slice_get s.domain.routers b) (slice_get s.domain.routers a) back joined in
    restarted s x b a back l.r l.near_is (eqb x b) refl
