-- An adjacency that is up rests on hellos that both routers received.
use Rattle.std.proofs.Common.{◌≡◌, ℕ, suc, ◌+◌, ◌-◌, ◌<◌, ◌⊎◌, Bool, true, false, not, ◌&&◌, cond, eqb, eq-eqb, leb, List, [], ◌∷◌, ◌++◌, slice_get, Option, Some, None, Result, Ok, Err, refl, sym, ap, ◌∙◌, arith, inl, inr}
use Rattle.std.specs.Prelude.{OnOk}
use mathlib.Core.Bool.{true≢false, false≢true}
use Rattle.std.proofs.lemmas.Bool.{and_parts, eqb-true, leb-false}
use Rattle.std.proofs.lemmas.Option.{none-some}
use Rattle.std.proofs.lemmas.Slice.Eq.{bytes_eq-Decides}
use Rattle.wire_base.specs.declared.addresses.SystemId.{SystemId}
use Rattle.wire_base.specs.declared.conf.End.{End}
use Rattle.wire_base.specs.declared.conf.RouterConf.{RouterConf}
use Rattle.wire_base.specs.model.Configuration.{DomainConf, IsValid}
use Rattle.wire_base.specs.model.Control.{same_system}
use Rattle.isis_hello.specs.declared.limits.TheConstants.{HOLDING_TIME}
use Rattle.isis_hello.specs.declared.adjacency.Adjacency.{Adjacency}
use Rattle.isis_hello.specs.declared.adjacency.Adjacency.TheVariants as adjacency
use Rattle.isis_hello.specs.declared.adjacency.Circuit.{Circuit}
use Rattle.isis_hello.specs.declared.adjacency.Kept.{Kept}
use Rattle.wire_base.specs.declared.hello_event.HelloEvent.{HelloEvent}
use Rattle.wire_base.specs.declared.hello_event.HelloEvent.TheVariants as events
use Rattle.isis_hello.specs.declared.hello.Hello.{Hello}
use Rattle.isis_hello.specs.declared.hello.Tri.{Tri}
use Rattle.isis_hello.specs.declared.hello.Tri.TheVariants.{Up, Initializing, Down}
use Rattle.isis_hello.specs.Adjacency.{is_up, neighbor_of, lists_another, state_if, counted_as, moved, kept_of, after_hello, after_tick}
use Rattle.isis_hello.specs.Circuits.{CircuitsState, first_circuits, link_between, circuit_at, circuit_over, circuit_between, hellos_at, hellos_over, hellos_between, circuit_id}
use Rattle.isis_hello.specs.Events.{heard, heard_on, happens}
use Rattle.isis_hello.specs.History.{circuits_after, is_reset, is_second, seconds, sendings, Received, IsHeld, AllHeld}
use Rattle.isis_hello.proofs.LinkLaws.{only_link}
use Rattle.isis_hello.proofs.MoveLaws.{fresh_down, Hears, Moves, moves}
use Rattle.isis_hello.proofs.QueueLaws.{domain_after, Found, all_found, all_sent}

-- ---- one more event

took_more : (e : HelloEvent) (past : List HelloEvent) (b a : ℕ) → is_reset b a e ≡ false → Received past b a → Received (e ∷ past) b a
took_more e past b a same t = record {
  recent = e ∷ t.recent;
  i = t.i;
  before = t.before;
  sent = t.sent;
  parts = ap (λ (l : List HelloEvent). e ∷ l) t.parts;
  taken = t.taken;
  unbroken = rw same t.unbroken;
}

took_now : (e : HelloEvent) (past : List HelloEvent) (b a i : ℕ) (sent : List HelloEvent) → e ≡ events.Greet a b i → slice_get (sendings a b past) i ≡ Some sent → Received (e ∷ past) b a
took_now e past b a i sent is at = record {
  recent = [];
  i = i;
  before = past;
  sent = sent;
  parts = ap (λ (x : HelloEvent). x ∷ past) is;
  taken = at;
  unbroken = refl;
}

-- ---- an adjacency that isn't down

is_down : Adjacency → Bool
is_down adjacency.Down = true
is_down (adjacency.Initializing k) = false
is_down (adjacency.Up k) = false

down_ages : (old : Adjacency) → is_down (after_tick old) ≡ false → is_down old ≡ false
unfolding is_down
down_ages adjacency.Down h = h
down_ages (adjacency.Initializing k) h = refl
down_ages (adjacency.Up k) h = refl

module _ (d : DomainConf) (valid : IsValid d) where
  abbrev circuit_after : List HelloEvent → ℕ → ℕ → Circuit
  circuit_after history b back = circuit_at (circuits_after d history).circuits b back

  link_after : (past : List HelloEvent) (x y : ℕ) → link_between (circuits_after d past).domain.routers x y ≡ link_between d.routers x y
  link_after past x y = ap (λ (c : DomainConf). link_between c.routers x y) (domain_after d past)

  -- the hello that was taken, and when it was sent
  record Taking (past : List HelloEvent) (e : HelloEvent) (b a back : ℕ) (old new : Circuit) : Type 0 where
    i : ℕ
    link : ℕ
    h : Hello
    is : e ≡ events.Greet a b i
    out : link_between d.routers a b ≡ Some link
    got : slice_get (hellos_at (circuits_after d past).hellos a link) i ≡ Some h
    found : Found d a b link h (sendings a b past) i
    after : new ≡ heard (slice_get d.routers b) back old h

  taking : (past : List HelloEvent) (e : HelloEvent) (b a back : ℕ) (old new : Circuit) → link_between d.routers b a ≡ Some back → Hears (circuits_after d past) e b back old new → Taking past e b a back old new
  taking past e b a back old new joined hears =
      let s = circuits_after d past in
      let home : link_between d.routers b hears.x ≡ Some back = sym (link_after past b hears.x) ∙ hears.home in
      let x-is : hears.x ≡ a = only_link d valid b a hears.x back joined home in
      let out : link_between d.routers a b ≡ Some hears.link = ap (λ (n : ℕ). link_between d.routers n b) (sym x-is) ∙ sym (link_after past hears.x b) ∙ hears.out in
      let got : slice_get (hellos_at s.hellos a hears.link) hears.i ≡ Some hears.h = ap (λ (n : ℕ). slice_get (hellos_at s.hellos n hears.link) hears.i) (sym x-is) ∙ hears.got in
      record {
        i = hears.i;
        link = hears.link;
        h = hears.h;
        is = hears.is ∙ ap (λ (n : ℕ). events.Greet n b hears.i) x-is;
        out = out;
        got = got;
        found = all_found d a b hears.link (hellos_at s.hellos a hears.link) (sendings a b past) hears.i hears.h (all_sent d valid a b hears.link back out joined past) got;
        after = hears.after ∙ ap (λ (c : DomainConf). heard (slice_get c.routers b) back old hears.h) (domain_after d past);
      }

  took_step : (past : List HelloEvent) (e : HelloEvent) (b a back : ℕ) (new : Circuit) → link_between d.routers b a ≡ Some back
      → (is_down (circuit_after past b back).adjacency ≡ false → Received past b a)
      → Moves (circuits_after d past) e b a back (circuit_after past b back) new → is_down new.adjacency ≡ false → Received (e ∷ past) b a
  unfolding is_down
  took_step past e b a back new joined before (inl same) some = took_more e past b a same.reset (before (ap (λ (c : Circuit). is_down c.adjacency) (sym same.same) ∙ some))
  took_step past e b a back new joined before (inr (inl down)) some = absurd (true≢false (sym (ap is_down down) ∙ some))
  took_step past e b a back new joined before (inr (inr (inl ages))) some =
      took_more e past b a (ap (is_reset b a) ages.is) (before (down_ages (circuit_after past b back).adjacency (ap is_down (sym ages.aged) ∙ some)))
  took_step past e b a back new joined before (inr (inr (inr hears))) some =
      let t = taking past e b a back (circuit_after past b back) new joined hears in
      took_now e past b a t.i t.found.sent t.is t.found.at

  took : (b a back : ℕ) → link_between d.routers b a ≡ Some back → (history : List HelloEvent) → is_down (circuit_after history b back).adjacency ≡ false → Received history b a
  unfolding circuits_after first_circuits is_down
  took b a back joined [] some = absurd (true≢false (sym (ap is_down (fresh_down d.routers b back)) ∙ some))
  took b a back joined (e ∷ past) some =
      took_step past e b a back (circuit_at (happens (circuits_after d past) e).state.circuits b back) joined (took b a back joined past)
      (moves (circuits_after d past) e b a back (link_after past b a ∙ joined)) some

-- ---- an adjacency that is up

held_in : Adjacency → Kept → Kept
held_in adjacency.Down k = k
held_in (adjacency.Initializing o) k = k
held_in (adjacency.Up o) k = o

same_kept : (o k : Kept) → adjacency.Up o ≡ adjacency.Up k → o ≡ k
unfolding held_in
same_kept o k e = ap (λ (a : Adjacency). held_in a k) e

never_up : (a : Adjacency) (k : Kept) → is_up a ≡ false → a ≡ adjacency.Up k → ⊥
never_up a k not_up e = true≢false (sym (ap is_up e) ∙ not_up)

record Ticked (old : Adjacency) (k : Kept) : Type 0 where
  before : Kept
  was : old ≡ adjacency.Up before
  fell : k.hold + 1 ≡ before.hold
  some : 0 < k.hold

tick_up : (old : Adjacency) (k : Kept) → after_tick old ≡ adjacency.Up k → Ticked old k
tick_up adjacency.Down k e = absurd (never_up adjacency.Down k refl e)
tick_up (adjacency.Initializing o) k e = by (leb o.hold 1) e
  where
    by : (test : Bool) → cond test adjacency.Down (adjacency.Initializing (record { circuit = o.circuit; hold = o.hold - 1 })) ≡ adjacency.Up k → Ticked (adjacency.Initializing o) k
    by true e = absurd (never_up adjacency.Down k refl e)
    by false e = absurd (never_up (adjacency.Initializing (record { circuit = o.circuit; hold = o.hold - 1 })) k refl e)
tick_up (adjacency.Up o) k e = by (leb o.hold 1) refl e
  where
    by : (test : Bool) → leb o.hold 1 ≡ test → cond test adjacency.Down (adjacency.Up (record { circuit = o.circuit; hold = o.hold - 1 })) ≡ adjacency.Up k → Ticked (adjacency.Up o) k
    by true is e = absurd (never_up adjacency.Down k refl e)
    by false is e =
        let more : 1 < o.hold = leb-false o.hold 1 is in
        let n : o.hold - 1 ≡ k.hold = ap (λ (x : Kept). x.hold) (same_kept (record { circuit = o.circuit; hold = o.hold - 1 }) k e) in
        record { before = o; was = refl; fell = omega (arith, more, n); some = omega (arith, more, n) }

-- the hello that an adjacency went up on lists its system and circuit
record Named (own : SystemId) (back : ℕ) (h : Hello) (k : Kept) : Type 0 where
  lists : h.named ≡ Some (own, circuit_id back)
  kept : kept_of h ≡ k

moved_up : (old : Adjacency) (state : Tri) (o k : Kept) → moved old state o ≡ adjacency.Up k → o ≡ k
moved_up adjacency.Down Down o k e = absurd (never_up (adjacency.Initializing o) k refl e)
moved_up adjacency.Down Initializing o k e = same_kept o k e
moved_up adjacency.Down Up o k e = absurd (never_up adjacency.Down k refl e)
moved_up (adjacency.Initializing p) Down o k e = absurd (never_up (adjacency.Initializing o) k refl e)
moved_up (adjacency.Initializing p) Initializing o k e = same_kept o k e
moved_up (adjacency.Initializing p) Up o k e = same_kept o k e
moved_up (adjacency.Up p) Down o k e = absurd (never_up (adjacency.Initializing o) k refl e)
moved_up (adjacency.Up p) Initializing o k e = same_kept o k e
moved_up (adjacency.Up p) Up o k e = same_kept o k e

moved_down : (old : Adjacency) (o k : Kept) → moved old Down o ≡ adjacency.Up k → ⊥
moved_down adjacency.Down o k e = never_up (adjacency.Initializing o) k refl e
moved_down (adjacency.Initializing p) o k e = never_up (adjacency.Initializing o) k refl e
moved_down (adjacency.Up p) o k e = never_up (adjacency.Initializing o) k refl e

not_false : (b : Bool) → not b ≡ false → b ≡ true
not_false true e = refl
not_false false e = absurd (true≢false e)

listed_us : (own : SystemId) (circuit : ℕ) (named : Option (SystemId × ℕ)) (old : Adjacency) (state : Tri) (o k : Kept) → lists_another own circuit named ≡ false → moved old (state_if named state) o ≡ adjacency.Up k → named ≡ Some (own, circuit)
listed_us own circuit None old state o k us up = absurd (moved_down old o k up)
listed_us own circuit (Some n) old state o k us up =
    let both = and_parts (same_system n.0 own) (eqb n.1 circuit) (not_false (same_system n.0 own && eqb n.1 circuit) us) in
    let system : n.0.0 ≡ own.0 = (bytes_eq-Decides n.0.0 own.0).0 both.0 in
    ap (λ (l : List ℕ). Some (record { 0 = l }, n.1)) system ∙ ap (λ (m : ℕ). Some (own, m)) (eqb-true n.1 circuit both.1)

not_true : (b : Bool) → not b ≡ true → b ≡ false
not_true true e = absurd (false≢true e)
not_true false e = refl

hello_up : (own : SystemId) (back : ℕ) (peer : SystemId) (old : Adjacency) (h : Hello) (k : Kept) → after_hello own (circuit_id back) peer old h ≡ adjacency.Up k → (old ≡ adjacency.Up k) ⊎ Named own back h k
hello_up own back peer old h k up = by (same_system h.source peer && not (lists_another own (circuit_id back) h.named)) refl up
  where
    by : (test : Bool) → (same_system h.source peer && not (lists_another own (circuit_id back) h.named)) ≡ test → cond test (moved old (counted_as h) (kept_of h)) old ≡ adjacency.Up k → (old ≡ adjacency.Up k) ⊎ Named own back h k
    by false is e = inl e
    by true is e =
        let both = and_parts (same_system h.source peer) (not (lists_another own (circuit_id back) h.named)) is in
        inr (record {
          lists = listed_us own (circuit_id back) h.named old h.state (kept_of h) k (not_true (lists_another own (circuit_id back) h.named) both.1) e;
          kept = moved_up old (counted_as h) (kept_of h) k e;
        })

heard_up : (r : RouterConf) (back : ℕ) (c : Circuit) (h : Hello) (o : Option End) (k : Kept) → (heard_on r back c h o).adjacency ≡ adjacency.Up k → (c.adjacency ≡ adjacency.Up k) ⊎ Named r.system back h k
heard_up r back c h None k up = inl up
heard_up r back c h (Some e) k up = by c.works up
  where
    by : (works : Bool) → (cond works (record { works = true; adjacency = after_hello r.system (circuit_id back) e.peer c.adjacency h }) c).adjacency ≡ adjacency.Up k → (c.adjacency ≡ adjacency.Up k) ⊎ Named r.system back h k
    by true up = hello_up r.system back e.peer c.adjacency h k up
    by false up = inl up

lists_down : (peer : SystemId) (a : Adjacency) (n : SystemId × ℕ) → neighbor_of peer a ≡ Some n → is_down a ≡ false
unfolding is_down
lists_down peer adjacency.Down n e = absurd (none-some n e)
lists_down peer (adjacency.Initializing k) n e = refl
lists_down peer (adjacency.Up k) n e = refl

second_off : (b : ℕ) (e : HelloEvent) (es : List HelloEvent) → is_second b e ≡ false → seconds b (e ∷ es) ≡ seconds b es
second_off b e es h = rw h refl

second_on : (b : ℕ) (es : List HelloEvent) → seconds b (events.Tick b ∷ es) ≡ suc (seconds b es)
second_on b es = rw (eq-eqb b b refl) refl

module _ (d : DomainConf) (valid : IsValid d) (b a back : ℕ) (r : RouterConf) (there : slice_get d.routers b ≡ Some r) (joined : link_between d.routers b a ≡ Some back) where
  record HeldFor (history : List HelloEvent) (hold : ℕ) : Type 0 where
    took_it : Received history b a
    time : seconds b took_it.recent + hold ≡ HOLDING_TIME
    some : 0 < hold
    h : Hello
    arrived : slice_get (hellos_between (circuits_after d took_it.before) a b) took_it.i ≡ Some h
    put : hellos_between (circuits_after d (events.Hello a b ∷ took_it.sent)) a b ≡ hellos_between (circuits_after d took_it.sent) a b ++ h ∷ []
    lists : h.named ≡ Some (r.system, circuit_id back)
    answered : Received took_it.sent a b

  abbrev own_circuit : List HelloEvent → Circuit
  own_circuit history = circuit_at (circuits_after d history).circuits b back

  -- nothing that matters has happened since
  held_more : (e : HelloEvent) (past : List HelloEvent) (hold : ℕ) → is_reset b a e ≡ false → is_second b e ≡ false → HeldFor past hold → HeldFor (e ∷ past) hold
  unfolding took_more
  held_more e past hold reset second f = record {
    took_it = took_more e past b a reset f.took_it;
    time = ap (λ (n : ℕ). n + hold) (second_off b e f.took_it.recent second) ∙ f.time;
    some = f.some;
    h = f.h;
    arrived = f.arrived;
    put = f.put;
    lists = f.lists;
    answered = f.answered;
  }

  held_aged : (e : HelloEvent) (past : List HelloEvent) (hold before : ℕ) → e ≡ events.Tick b → hold + 1 ≡ before → 0 < hold → HeldFor past before → HeldFor (e ∷ past) hold
  unfolding took_more
  held_aged e past hold before is fell some f = record {
    took_it = took_more e past b a (ap (is_reset b a) is) f.took_it;
    time = let s = ap (λ (x : HelloEvent). seconds b (x ∷ f.took_it.recent)) is ∙ second_on b f.took_it.recent in let t = f.time in omega (arith, s, t, fell);
    some = some;
    h = f.h;
    arrived = f.arrived;
    put = f.put;
    lists = f.lists;
    answered = f.answered;
  }

  between : (link : ℕ) → link_between d.routers a b ≡ Some link → (past : List HelloEvent) → hellos_between (circuits_after d past) a b ≡ hellos_at (circuits_after d past).hellos a link
  between link out past = ap (λ (o : Option ℕ). hellos_over (circuits_after d past).hellos a o) (link_after d valid past a b ∙ out)

  -- a hello that lists b was just taken
  held_now : (e : HelloEvent) (past : List HelloEvent) (new : Circuit) (t : Taking d valid past e b a back (own_circuit past) new) (k : Kept) → Named r.system back t.h k → HeldFor (e ∷ past) k.hold
  unfolding took_now
  held_now e past new t k named =
      let sent = t.found.sent in
      let as_sent = t.found.as_sent in
      let hold : k.hold ≡ HOLDING_TIME = ap (λ (x : Kept). x.hold) (sym named.kept) ∙ ap (λ (x : Hello). x.hold) as_sent.is in
      let lists : neighbor_of as_sent.peer (circuit_at (circuits_after d sent).circuits a t.link).adjacency ≡ Some (r.system, circuit_id back) = ap (λ (x : Hello). x.named) (sym as_sent.is) ∙ named.lists in
      record {
        took_it = took_now e past b a t.i sent t.is t.found.at;
        time = omega (arith, hold);
        some = omega (arith, hold);
        h = t.h;
        arrived = ap (λ (q : List Hello). slice_get q t.i) (between t.link t.out past) ∙ t.got;
        put = between t.link t.out (events.Hello a b ∷ sent) ∙ as_sent.put ∙ ap (λ (q : List Hello). q ++ t.h ∷ []) (sym (between t.link t.out sent));
        lists = named.lists;
        answered = took d valid a b t.link t.out sent (lists_down as_sent.peer (circuit_at (circuits_after d sent).circuits a t.link).adjacency (r.system, circuit_id back) lists);
      }

  held_heard : (e : HelloEvent) (past : List HelloEvent) (new : Circuit) (t : Taking d valid past e b a back (own_circuit past) new) (k : Kept) → ((own_circuit past).adjacency ≡ adjacency.Up k → HeldFor past k.hold)
      → ((own_circuit past).adjacency ≡ adjacency.Up k) ⊎ Named r.system back t.h k → HeldFor (e ∷ past) k.hold
  held_heard e past new t k before (inl was) = held_more e past k.hold (ap (is_reset b a) t.is) (ap (is_second b) t.is) (before was)
  held_heard e past new t k before (inr named) = held_now e past new t k named

  held_step : (e : HelloEvent) (past : List HelloEvent) (new : Circuit) (k : Kept) → ((o : Kept) → (own_circuit past).adjacency ≡ adjacency.Up o → HeldFor past o.hold)
      → Moves (circuits_after d past) e b a back (own_circuit past) new → new.adjacency ≡ adjacency.Up k → HeldFor (e ∷ past) k.hold
  held_step e past new k before (inl same) up = held_more e past k.hold same.reset same.second (before k (ap (λ (c : Circuit). c.adjacency) (sym same.same) ∙ up))
  held_step e past new k before (inr (inl down)) up = absurd (never_up adjacency.Down k refl (sym down ∙ up))
  held_step e past new k before (inr (inr (inl ages))) up =
      let t = tick_up (own_circuit past).adjacency k (sym ages.aged ∙ up) in
      held_aged e past k.hold t.before.hold ages.is t.fell t.some (before t.before t.was)
  held_step e past new k before (inr (inr (inr hears))) up =
      let t = taking d valid past e b a back (own_circuit past) new joined hears in
      let heard_is : new ≡ heard_on r back (own_circuit past) t.h (slice_get r.ends back) = t.after ∙ ap (λ (o : Option RouterConf). heard o back (own_circuit past) t.h) there in
      held_heard e past new t k (before k) (heard_up r back (own_circuit past) t.h (slice_get r.ends back) k (ap (λ (c : Circuit). c.adjacency) (sym heard_is) ∙ up))

  held : (history : List HelloEvent) (k : Kept) → (own_circuit history).adjacency ≡ adjacency.Up k → HeldFor history k.hold
  unfolding circuits_after first_circuits
  held [] k up = absurd (never_up adjacency.Down k refl (sym (fresh_down d.routers b back) ∙ up))
  held (e ∷ past) k up =
      held_step e past (circuit_at (happens (circuits_after d past) e).state.circuits b back) k (held past)
      (moves (circuits_after d past) e b a back (link_after d valid past b a ∙ joined)) up

  kept_up : (x : Adjacency) → is_up x ≡ true → (k : Kept) × (x ≡ adjacency.Up k)
  kept_up adjacency.Down e = absurd (false≢true e)
  kept_up (adjacency.Initializing k) e = absurd (false≢true e)
  kept_up (adjacency.Up k) e = (k, refl)

  is_held : (history : List HelloEvent) → is_up (circuit_between (circuits_after d history) b a).adjacency ≡ true → IsHeld d history b a r.system back
  is_held history up =
      let here : circuit_between (circuits_after d history) b a ≡ own_circuit history = ap (circuit_over (circuits_after d history).circuits b) (link_after d valid history b a ∙ joined) in
      let k = kept_up (own_circuit history).adjacency (ap (λ (c : Circuit). is_up c.adjacency) (sym here) ∙ up) in
      let f = held history k.0 k.1 in
      let t = f.time in
      let s = f.some in
      record { received = f.took_it; lately = omega (arith, t, s); h = f.h; arrived = f.arrived; put = f.put; lists = f.lists; answered = f.answered }

pub all_held : (d : DomainConf) → IsValid d → (history : List HelloEvent) → AllHeld d history
all_held d valid history = λ a b back r there joined up. is_held d valid b a back r there joined history up

-- an event that is executed adds itself to the history
pub held_from : {T E : Type 0} (r : Result T E) (old new : CircuitsState) (e : HelloEvent) → OnOk r (new ≡ (happens old e).state)
    → (d : DomainConf) (history : List HelloEvent) → IsValid d → old ≡ circuits_after d history → OnOk r ((new ≡ circuits_after d (e ∷ history)) × AllHeld d (e ∷ history))
unfolding circuits_after
held_from (Ok x) old new e done d history valid is = (done ∙ ap (λ (s : CircuitsState). (happens s e).state) is, all_held d valid (e ∷ history))
held_from (Err f) old new e done d history valid is = tt
