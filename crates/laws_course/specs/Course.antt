-- The course of the copies of an injection while the topologies of routers agree: each follows a shortest path to the
-- owner of a BFR-id, and none is dropped (RFC 8279, 6.5 and 6.9; RFC 2784).
--
-- A router's index in the domain is called a or b, and its node in a topology is found by its system ID. The ingress is
-- the node u of the topology g, and has the configuration r.
use Rattle.std.specs.Prelude.{◌≡◌, ℕ, ◌+◌, ◌-◌, ◌<◌, ◌≤◌, ◌%◌, ◌⊎◌, Bool, true, false, List, [], ◌∷◌, ◌++◌, length, slice_get, Option, Some, None}
use Rattle.std.specs.List.{AllByRecursion, fold}
use Rattle.wire_base.specs.declared.conf.RouterConf.{RouterConf}
use Rattle.wire_base.specs.declared.triple.Triple.{Triple}
use Rattle.wire_base.specs.declared.view.ViewNode.{ViewNode}
use Rattle.wire_base.specs.model.Choice.{choose}
use Rattle.wire_base.specs.model.Configuration.{DomainConf, IsValid}
use Rattle.wire_base.specs.model.Control.{Control}
use Rattle.wire_base.specs.model.Graph.{is_overloaded, owner}
use Rattle.wire_base.specs.model.Hop.{has}
use Rattle.wire_base.specs.model.HopCount.{CoversPath, Follows, tunnel_links}
use Rattle.wire_base.specs.model.Item.{Item, ControlItem, PacketItem, DataItem, Outer, target_of}
use Rattle.wire_base.specs.model.OnFrame.{node_place}
use Rattle.wire_base.specs.model.Place.{own_id}
use Rattle.wire_base.specs.model.Tight.{IsTight}
use Rattle.wire_base.specs.model.View.{control_view}
use Rattle.wire_base.specs.model.Walk.{dist}
use Rattle.replay_text.specs.declared.event.Event.{Event}
use Rattle.replay_text.specs.declared.event.Event.TheVariants.{Lose}
use Rattle.domain_model.specs.World.{WorldState, first_world, peer_place, queue_at, frames_between}
use Rattle.domain_model.specs.Faults.{event_fault}
use Rattle.domain_model.specs.Run.{Run, goes_on, run_of}
use Rattle.domain_model.specs.Truth.{IsTruthful, EventFits}
use Rattle.laws_route.specs.OnWay.{IsOnWay}
use Rattle.laws_ledger.specs.Ledger.{Injection, entered, triple_for}
use Rattle.laws_ledger.specs.Runs.{AreAllowed, unlined, IsAccounted}
use Rattle.laws_ledger.specs.Weights.{is_one_of}

-- ---- topologies that agree

-- each router to which a path of the topology g leads from u has this topology
abbrev pub Agreed : WorldState → List ViewNode → ℕ → Type 0
Agreed w g u = (b n : ℕ) (c : Control) → slice_get w.routers b ≡ Some c → dist g u (node_place g c.conf.system) ≡ Some n → control_view c ≡ g

-- ---- paths

-- where a copy is sent for the BFR-id k by the router at a node of the topology
abbrev pub next_for : RouterConf → List ViewNode → Triple → ℕ → ℕ → ℕ → Option ℕ
next_for r g t entropy k y = choose g r.kinds r.table t (entropy % 16) y k

-- y is the node that a tunnel of h links to x reaches over its link number j + 1: that many fewer links are left
pub record LinksLeft (g : List ViewNode) (x y h j : ℕ) : Type 0 where
  pub left : ℕ
  pub are : tunnel_links g x y ≡ Some left
  pub fewer : h ≡ left + (j + 1)

-- ---- courses

-- the node of a router; past the end if there is none
abbrev pub node_by : List ViewNode → Option RouterConf → ℕ
node_by g None = length g
node_by g (Some r) = node_place g r.system

abbrev pub node_at : List RouterConf → List ViewNode → ℕ → ℕ
node_at confs g a = node_by g (slice_get confs a)

abbrev pub node_of : List RouterConf → List ViewNode → Option ℕ → ℕ
node_of confs g None = length g
node_of confs g (Some a) = node_at confs g a

-- the node of the router that a copy in flight to b is for
abbrev pub target_at : List RouterConf → List ViewNode → ℕ → DataItem → ℕ
target_at confs g b x = node_of confs g (target_of confs b x)

-- in a tunnel the tight steps of least system ID lead from a node to the target over fewer links than the outer TTL
abbrev pub HasLinks : List ViewNode → ℕ → ℕ → Option Outer → Type 0
HasLinks g target to None = target ≡ to
HasLinks g target to (Some o) = (h : ℕ) × (tunnel_links g target to ≡ Some h) × (h < o.ttl)

-- A copy in flight from router a to router b is on its course for the BFR-id k: the step is tight toward the owner; the
-- router a is reached from the ingress; the target is on a shortest path to the owner; it is where the choices lead
-- from the ingress, and the TTL covers the rest of the path; and the tunnel's TTL covers the links to the target.
pub record IsOnCourse (confs : List RouterConf) (r : RouterConf) (g : List ViewNode) (u k a b : ℕ) (x : DataItem) : Type 0 where
  pub last : ℕ
  pub owns : owner g x.triple.sd k ≡ Some last
  pub step : IsTight g last (node_at confs g a) (node_at confs g b)
  pub before : ℕ
  pub reached : dist g u (node_at confs g a) ≡ Some before
  pub free : (node_at confs g a ≡ u) ⊎ (is_overloaded g (node_at confs g a) ≡ false)
  pub passes : (target_at confs g b x ≡ last) ⊎ (is_overloaded g (target_at confs g b x) ≡ false)
  pub on : IsOnWay g (node_at confs g b) (target_at confs g b x) last
  pub times : ℕ
  pub path : Follows (next_for r g x.triple x.entropy k) times u (target_at confs g b x)
  pub covers : CoversPath g r.kinds r.table x.triple (target_at confs g b x) (x.entropy % 16) k (x.ttl - 1)
  pub links : HasLinks g (target_at confs g b x) (node_at confs g b) x.outer

-- what is true of each copy of injection n that has k in its set
abbrev pub IfCopyFor : (DataItem → Type 0) → ℕ → ℕ → Item → Type 0
IfCopyFor P n k (ControlItem p) = Unit {0}
IfCopyFor P n k (PacketItem x) = x.number ≡ n → has x.ids k ≡ true → P x

-- all copies of injection n for k are on their course
abbrev pub Kept : WorldState → RouterConf → List ViewNode → ℕ → ℕ → ℕ → Type 0
Kept w r g u n k =
    (a link : ℕ) → AllByRecursion (IfCopyFor (IsOnCourse w.domain.routers r g u k a (peer_place w.domain.routers a link)) n k) (queue_at w.flights a link)

-- ---- events

-- whether an event loses a copy of injection n
abbrev pub loses_copy : WorldState → ℕ → Event → Bool
loses_copy w n (Lose a b i) = is_one_of n (slice_get (frames_between w a b) i)
loses_copy w n e = false

-- the ingress has k itself, or chooses a router to send it to
abbrev pub IsReachable : RouterConf → List ViewNode → ℕ → Injection → ℕ → Type 0
IsReachable r g u i k = (own_id r i.sd ≡ Some k) ⊎ ((x : ℕ) × (next_for r g (triple_for i k) i.entropy k u ≡ Some x))

-- k is reachable at the injection, whose TTL covers the path
pub record IsCovered (r : RouterConf) (g : List ViewNode) (u : ℕ) (i : Injection) (k : ℕ) : Type 0 where
  pub reachable : IsReachable r g u i k
  pub covers : CoversPath g r.kinds r.table (triple_for i k) u (i.entropy % 16) k i.ttl

-- ---- runs

-- the router at index s has the topology g, and all agree with it
pub record HasAgreed (w : WorldState) (s : ℕ) (g : List ViewNode) : Type 0 where
  pub router : Control
  pub there : slice_get w.routers s ≡ Some router
  pub view : control_view router ≡ g
  pub agreed : Agreed w g (node_place g router.conf.system)

-- From here on the router at index s has that topology, all agree with it after each event, and no event loses a copy
-- of injection n.
abbrev pub IsSteady : Run → ℕ → List ViewNode → ℕ → List (ℕ × Event) → Type 0
IsSteady r s g n [] = HasAgreed r.world s g
IsSteady r s g n (e ∷ es) = HasAgreed r.world s g × (loses_copy r.world n e.1 ≡ false) × IsSteady (goes_on r e) s g n es

-- ---- premises

-- a router's own node in its topology
abbrev pub own_node : Control → ℕ
own_node c = node_place (control_view c) c.conf.system

-- all copies of injection n for k are on their course in the topology of the ingress c
abbrev pub KeptFor : WorldState → Control → ℕ → ℕ → Type 0
KeptFor w c n k = Kept w c.conf (control_view c) (own_node c) n k

-- The event is the injection n at the router c, where k is reachable over a path that the TTL covers.
pub record Begins (w : WorldState) (e : Event) (c : Control) (n k : ℕ) (i : Injection) : Type 0 where
  pub truth : IsTruthful w
  pub fits : EventFits (length w.domain.routers) e
  pub allowed : event_fault w e ≡ None
  pub enters : entered w.injections e n ≡ Some i
  pub ingress : slice_get w.routers i.router ≡ Some c
  pub covered : IsCovered c.conf (control_view c) (own_node c) i k

-- The injection n was made before, at the router c of index s. Its copies for k are on their course in the topology of
-- c, with which all topologies agree; and the event loses no copy of it.
pub record GoesOn (w : WorldState) (e : Event) (s : ℕ) (c : Control) (n k : ℕ) : Type 0 where
  pub truth : IsTruthful w
  pub ingress : slice_get w.routers s ≡ Some c
  pub agreed : Agreed w (control_view c) (own_node c)
  pub made : n ≤ w.injections
  pub kept : KeptFor w c n k
  pub harmless : loses_copy w n e ≡ false

-- A run, an event that is its injection n and names k, and the events after it, each allowed. k is reachable at the
-- router c over a path that the TTL covers. From then on topologies agree with the one that c had, and no copy of the
-- injection is lost.
pub record IsCarried (r : Run) (e : ℕ × Event) (fs : List (ℕ × Event)) (c : Control) (n k : ℕ) (i : Injection) : Type 0 where
  pub truth : IsTruthful r.world
  pub accounts : IsAccounted r
  pub allowed : AreAllowed r.world (unlined (e ∷ fs))
  pub enters : entered r.world.injections e.1 n ≡ Some i
  pub names : has i.ids k ≡ true
  pub ingress : slice_get r.world.routers i.router ≡ Some c
  pub covered : IsCovered c.conf (control_view c) (own_node c) i k
  pub steady : IsSteady (goes_on r e) i.router (control_view c) n fs

-- the run extended by that event and those after it
abbrev pub carried_on : Run → ℕ × Event → List (ℕ × Event) → Run
carried_on r e fs = fold goes_on (goes_on r e) fs

-- The same for a run of a valid domain from its start, over the events es, e and fs.
pub record IsCarriedIn (d : DomainConf) (es : List (ℕ × Event)) (e : ℕ × Event) (fs : List (ℕ × Event)) (c : Control) (n k : ℕ) (i : Injection) : Type 0 where
  pub valid : IsValid d
  pub allowed : AreAllowed (first_world d) (unlined (es ++ e ∷ fs))
  pub enters : entered (run_of d es).world.injections e.1 n ≡ Some i
  pub names : has i.ids k ≡ true
  pub ingress : slice_get (run_of d es).world.routers i.router ≡ Some c
  pub covered : IsCovered c.conf (control_view c) (own_node c) i k
  pub steady : IsSteady (goes_on (run_of d es) e) i.router (control_view c) n fs
