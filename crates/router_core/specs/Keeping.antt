-- The topology that a router caches, and the forwarding state that it caches with it.
use Rattle.std.specs.Prelude.{◌≡◌, ◌==◌, Bool, true, false, Option, Some, None}
use Rattle.wire_base.specs.declared.addresses.SystemId.{SystemId}
use Rattle.wire_base.specs.declared.entry.Entry.{Entry}
use Rattle.wire_base.specs.model.Control.{Control, same_system}
use Rattle.wire_base.specs.model.View.{control_view}
use Rattle.view_graph.specs.Keep.{IsUnchanged, said_in}
use Rattle.laws_router.specs.Becoming.{AreOfOne}
use Rattle.bier_forward.specs.Kept.{AreRoutes}
use Rattle.router_core.specs.declared.kept.Kept.{Kept}

-- Each system still advertises what it did when the topology was renewed, except the router itself and those that are
-- noted. All that is cached with the topology belongs to it. If nothing has changed since, the topology is that of the
-- control state.
pub record IsKept (c : Control) (k : Kept) : Type 0 where
  pub system : k.view.system ≡ c.conf.system
  pub kinds : k.view.kinds ≡ c.conf.kinds
  pub unchanged : IsUnchanged k.view k.changed c.entries
  pub current : k.is_current ≡ true → k.view.nodes ≡ control_view c
  pub routes : AreRoutes c.conf k.view.nodes k.routes

-- `IsKept`, if anything is cached
abbrev pub MayKeep : Control → Option Kept → Type 0
MayKeep c None = Unit {0}
MayKeep c (Some k) = IsKept c k

-- `IsKept`, and the topology is that of the control state
pub record IsCurrent (c : Control) (k : Kept) : Type 0 where
  pub kept : IsKept c k
  pub view : k.view.nodes ≡ control_view c

-- something is cached, and its topology is that of the control state
abbrev pub IsNow : Control → Option Kept → Type 0
IsNow c None = ⊥
IsNow c (Some k) = IsCurrent c k

-- In two control states of one router, whose configurations differ at most in its sub-domains and label ranges, each system
-- advertises the same, except the router itself and one more.
pub record SaysSame (system : SystemId) (c next : Control) : Type 0 where
  pub one : AreOfOne next.conf c.conf
  pub said : (s : SystemId) → same_system s c.conf.system ≡ false → same_system system s ≡ false → said_in c.conf.kinds next.entries s ≡ said_in c.conf.kinds c.entries s

-- Whatever a system and the router itself come to advertise: what was cached before is cached after.
abbrev pub StaysKept : SystemId → Option Kept → Option Kept → Type 0
StaysKept system k next_k = (c next : Control) → MayKeep c k → SaysSame system c next → MayKeep next next_k

-- the same if only the router advertises something else
abbrev pub StaysOwn : Option Kept → Option Kept → Type 0
StaysOwn k next_k = (c next : Control) → MayKeep c k → SaysSame c.conf.system c next → MayKeep next next_k

-- an entry that expires within the second
abbrev pub is_last : Entry → Bool
is_last e = e.life == 1
