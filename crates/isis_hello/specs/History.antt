-- Histories of hello events, the newest first: the circuits after one, when each hello in flight was sent, and what an adjacency
-- that is up rests on.
use Rattle.std.specs.Prelude.{◌≡◌, ℕ, suc, ◌<◌, not, ◌&&◌, ◌==◌, Bool, true, false, List, [], ◌∷◌, ◌++◌, slice_get, Some, if◌then◌else◌}
use Rattle.std.specs.List.{list_all, remove}
use Rattle.wire_base.specs.declared.addresses.SystemId.{SystemId}
use Rattle.wire_base.specs.declared.conf.RouterConf.{RouterConf}
use Rattle.wire_base.specs.model.Configuration.{DomainConf}
use Rattle.isis_hello.specs.declared.limits.TheConstants.{HOLDING_TIME}
use Rattle.wire_base.specs.declared.hello_event.HelloEvent.{HelloEvent}
use Rattle.wire_base.specs.declared.hello_event.HelloEvent.TheVariants as events
use Rattle.isis_hello.specs.declared.hello.Hello.{Hello}
use Rattle.isis_hello.specs.Adjacency.{is_up}
use Rattle.isis_hello.specs.Circuits.{CircuitsState, first_circuits, link_between, circuit_between, hellos_between, circuit_id}
use Rattle.isis_hello.specs.Events.{happens}

-- the circuits of a domain after those events
unfoldable pub circuits_after : DomainConf → List HelloEvent → CircuitsState
circuits_after d [] = first_circuits d
circuits_after d (e ∷ past) = (happens (circuits_after d past) e).state

-- ---- when the hellos in flight were sent

abbrev pub is_pair : ℕ → ℕ → ℕ → ℕ → Bool
is_pair a b x y = (x == a) && (y == b)

abbrev pub sent_after : ℕ → ℕ → HelloEvent → List HelloEvent → List (List HelloEvent) → List (List HelloEvent)
sent_after a b (events.Hello x y) past sent = if is_pair a b x y then sent ++ past ∷ [] else sent
sent_after a b (events.Greet x y i) past sent = if is_pair a b x y then remove sent i else sent
sent_after a b (events.Forget x y i) past sent = if is_pair a b x y then remove sent i else sent
sent_after a b (events.Break x y) past sent = sent
sent_after a b (events.Mend x y) past sent = sent
sent_after a b (events.Tick x) past sent = sent
sent_after a b (events.Restart x) past sent = sent

-- for each hello in flight from router a to router b, the history before it was sent
unfoldable pub sendings : ℕ → ℕ → List HelloEvent → List (List HelloEvent)
sendings a b [] = []
sendings a b (e ∷ past) = sent_after a b e past (sendings a b past)

-- ---- what an adjacency rests on

-- router b restarts, or its circuit toward router a fails
abbrev pub is_reset : ℕ → ℕ → HelloEvent → Bool
is_reset b a (events.Hello x y) = false
is_reset b a (events.Greet x y i) = false
is_reset b a (events.Forget x y i) = false
is_reset b a (events.Break x y) = is_pair b a x y
is_reset b a (events.Mend x y) = false
is_reset b a (events.Tick x) = false
is_reset b a (events.Restart x) = x == b

abbrev pub is_second : ℕ → HelloEvent → Bool
is_second b (events.Hello x y) = false
is_second b (events.Greet x y i) = false
is_second b (events.Forget x y i) = false
is_second b (events.Break x y) = false
is_second b (events.Mend x y) = false
is_second b (events.Tick x) = x == b
is_second b (events.Restart x) = false

-- how many seconds pass at router b
abbrev pub seconds : ℕ → List HelloEvent → ℕ
seconds b [] = 0
seconds b (e ∷ es) = if is_second b e then suc (seconds b es) else seconds b es

-- In a history router b received a hello that router a had sent, and has since neither restarted nor had its circuit toward
-- a fail.
pub record Received (history : List HelloEvent) (b a : ℕ) : Type 0 where
  -- what happened after it was received, its index, and what had happened before it was received, and before it was sent
  pub recent : List HelloEvent
  pub i : ℕ
  pub before : List HelloEvent
  pub sent : List HelloEvent
  pub parts : history ≡ recent ++ events.Greet a b i ∷ before
  pub taken : slice_get (sendings a b before) i ≡ Some sent
  pub unbroken : list_all (λ e. not (is_reset b a e)) recent ≡ true

-- Why the adjacency of router b toward router a may be up: b received a hello that a had sent, less than the holding time
-- ago; of the hellos in flight it was the one that then arrived; it lists b's system and circuit; and a had received a hello of
-- b before it sent that one.
pub record IsHeld (d : DomainConf) (history : List HelloEvent) (b a : ℕ) (own : SystemId) (back : ℕ) : Type 0 where
  pub received : Received history b a
  pub lately : seconds b received.recent < HOLDING_TIME
  pub h : Hello
  pub arrived : slice_get (hellos_between (circuits_after d received.before) a b) received.i ≡ Some h
  pub put : hellos_between (circuits_after d (events.Hello a b ∷ received.sent)) a b ≡ hellos_between (circuits_after d received.sent) a b ++ h ∷ []
  pub lists : h.named ≡ Some (own, circuit_id back)
  pub answered : Received received.sent a b

-- each adjacency that is up, of router b with that configuration toward router a on the interface `back`
abbrev pub AllHeld : DomainConf → List HelloEvent → Type 0
AllHeld d history = (a b back : ℕ) (r : RouterConf) → slice_get d.routers b ≡ Some r → link_between d.routers b a ≡ Some back
    → is_up (circuit_between (circuits_after d history) b a).adjacency ≡ true → IsHeld d history b a r.system back
