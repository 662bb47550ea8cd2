-- The state of a three-way adjacency, and how a hello and a second move it (RFC 5303, 3.1 and 3.2;
-- ISO/IEC 10589, 8.2.4).
use Rattle.std.specs.Prelude.{ℕ, ◌-◌, not, ◌&&◌, ◌==◌, nat_le, Bool, true, false, Option, Some, None, if◌then◌else◌}
use Rattle.wire_base.specs.declared.addresses.SystemId.{SystemId}
use Rattle.wire_base.specs.model.Control.{same_system}
use Rattle.isis_hello.specs.declared.adjacency.Adjacency.{Adjacency}
use Rattle.isis_hello.specs.declared.adjacency.Adjacency.TheVariants as adjacency
use Rattle.isis_hello.specs.declared.adjacency.Kept.{Kept}
use Rattle.isis_hello.specs.declared.adjacency.Turn.{Turn}
use Rattle.isis_hello.specs.declared.adjacency.Turn.TheVariants.{Second, Restart}
use Rattle.isis_hello.specs.declared.hello.Hello.{Hello}
use Rattle.isis_hello.specs.declared.hello.Tri.{Tri}
use Rattle.isis_hello.specs.declared.hello.Tri.TheVariants.{Up, Initializing, Down}

-- the state as a hello announces it
abbrev pub tri_of : Adjacency → Tri
tri_of adjacency.Down = Down
tri_of (adjacency.Initializing k) = Initializing
tri_of (adjacency.Up k) = Up

abbrev pub is_up : Adjacency → Bool
is_up adjacency.Down = false
is_up (adjacency.Initializing k) = false
is_up (adjacency.Up k) = true

-- The neighbor that a hello of an adjacency with that peer lists: none while the adjacency is down.
abbrev pub neighbor_of : SystemId → Adjacency → Option (SystemId × ℕ)
neighbor_of peer adjacency.Down = None
neighbor_of peer (adjacency.Initializing k) = Some (peer, k.circuit)
neighbor_of peer (adjacency.Up k) = Some (peer, k.circuit)

-- ---- a hello

-- whether a hello lists a neighbor other than that system and circuit
abbrev pub lists_another : SystemId → ℕ → Option (SystemId × ℕ) → Bool
lists_another own circuit None = false
lists_another own circuit (Some n) = not (same_system n.0 own && (n.1 == circuit))

-- the state that a hello counts as: one that lists nobody counts as Down
abbrev pub state_if : Option (SystemId × ℕ) → Tri → Tri
state_if None state = Down
state_if (Some n) state = state

abbrev pub counted_as : Hello → Tri
counted_as h = state_if h.named h.state

-- The table of states, with what the hello announces (RFC 5303, 3.2, a to c): a neighbor that is Down has not received
-- this router's hellos, one that is Initializing has, and one that is Up is believed only by an adjacency that is not
-- down.
abbrev pub moved : Adjacency → Tri → Kept → Adjacency
moved old Down k = adjacency.Initializing k
moved old Initializing k = adjacency.Up k
moved adjacency.Down Up k = adjacency.Down
moved (adjacency.Initializing o) Up k = adjacency.Up k
moved (adjacency.Up o) Up k = adjacency.Up k

abbrev pub kept_of : Hello → Kept
kept_of h = record { circuit = h.circuit; hold = h.hold }

-- After a hello at the interface of a system with that circuit, whose link leads to that peer. One that comes from another
-- source, or lists another neighbor, changes nothing.
abbrev pub after_hello : SystemId → ℕ → SystemId → Adjacency → Hello → Adjacency
after_hello own circuit peer old h =
    if same_system h.source peer && not (lists_another own circuit h.named) then moved old (counted_as h) (kept_of h) else old

-- ---- a second, and a restart

-- The holding time falls. At 0, or where it was 0, the adjacency is down.
abbrev pub after_tick : Adjacency → Adjacency
after_tick adjacency.Down = adjacency.Down
after_tick (adjacency.Initializing k) = if nat_le k.hold 1 then adjacency.Down else adjacency.Initializing (record { circuit = k.circuit; hold = k.hold - 1 })
after_tick (adjacency.Up k) = if nat_le k.hold 1 then adjacency.Down else adjacency.Up (record { circuit = k.circuit; hold = k.hold - 1 })

abbrev pub turned : Turn → Adjacency → Adjacency
turned Second old = after_tick old
turned Restart old = adjacency.Down
