-- What an event of hellos reports of adjacencies: which came up, and which were up and no longer are.
use Rattle.std.specs.Prelude.{◌≡◌, ℕ, ◌<◌, Bool, true, false, not, List, [], ◌∷◌, filter, length, Some, if◌then◌else◌}
use Rattle.std.specs.List.{AllByRecursion}
use Rattle.wire_base.specs.declared.conf.RouterConf.{RouterConf}
use Rattle.isis_hello.specs.declared.event.EndChange.{EndChange}
use Rattle.wire_base.specs.declared.hello_event.HelloEvent.{HelloEvent}
use Rattle.wire_base.specs.declared.hello_event.HelloEvent.TheVariants as events
use Rattle.isis_hello.specs.Adjacency.{is_up}
use Rattle.isis_hello.specs.Circuits.{CircuitsState, circuit_between, link_between}
use Rattle.isis_hello.specs.Events.{Happened, changed_to}
use Rattle.isis_hello.specs.History.{is_pair}

-- whether the adjacency of router a toward router b is up
abbrev pub up_between : CircuitsState → ℕ → ℕ → Bool
up_between s a b = is_up (circuit_between s a b).adjacency

-- whether a change is at router a, toward router b
abbrev pub is_at : ℕ → ℕ → EndChange → Bool
is_at a b c = is_pair a b c.router c.peer

-- which adjacencies are up after a change, by which were before it
abbrev pub after_change : (ℕ → ℕ → Bool) → EndChange → ℕ → ℕ → Bool
after_change up c a b = if is_at a b c then c.up else up a b

-- The changes, one after the other, lead from the adjacencies that were up to those that are: each of them moves an adjacency
-- that was in its other state up to then.
abbrev pub LeadTo : (ℕ → ℕ → Bool) → List EndChange → (ℕ → ℕ → Bool) → Type 0
LeadTo old [] new = (a b : ℕ) → new a b ≡ old a b
LeadTo old (c ∷ cs) new = (old c.router c.peer ≡ not c.up) × LeadTo (after_change old c) cs new

-- a router of the domain, and another that a link joins it to
pub record IsJoined (confs : List RouterConf) (a b : ℕ) : Type 0 where
  pub router : a < length confs
  pub peer : b < length confs
  pub link : ℕ
  pub joined : link_between confs a b ≡ Some link

-- The changes that an event reports in that state are those of the adjacencies.
pub record AreChanges (s : CircuitsState) (n : Happened) : Type 0 where
  -- of each router toward each other: one if its adjacency is up now and was not, or was up and is not now; and none otherwise
  pub each : (a b : ℕ) → filter (is_at a b) n.out.changes ≡ changed_to a b (up_between s a b) (up_between n.state a b)
  -- one after the other
  pub lead : LeadTo (up_between s) n.out.changes (up_between n.state)
  -- at interfaces that exist
  pub joined : AllByRecursion (λ c. IsJoined s.domain.routers c.router c.peer) n.out.changes

-- whether an event sends a hello
abbrev pub is_hello : HelloEvent → Bool
is_hello (events.Hello a b) = true
is_hello (events.Greet a b i) = false
is_hello (events.Forget a b i) = false
is_hello (events.Break a b) = false
is_hello (events.Mend a b) = false
is_hello (events.Tick a) = false
is_hello (events.Restart a) = false
