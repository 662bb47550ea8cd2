-- The circuits of a domain: each interface's circuit and adjacency, and the hellos in flight.
--
-- Routers are named by their indices in the domain, and the interfaces of a router by their indices in its
-- configuration.
use Rattle.std.specs.Prelude.{ℕ, suc, ◌+◌, true, false, List, [], ◌∷◌, ◌++◌, length, map, slice_get, slice_index_or, slice_set, sum_by, Option, Some, None, if◌then◌else◌}
use Rattle.std.specs.List.{remove}
use Rattle.wire_base.specs.declared.addresses.SystemId.{SystemId}
use Rattle.wire_base.specs.declared.conf.RouterConf.{RouterConf}
use Rattle.wire_base.specs.model.Choice.{end_toward}
use Rattle.wire_base.specs.model.Configuration.{DomainConf}
use Rattle.wire_base.specs.model.Control.{same_system}
use Rattle.isis_hello.specs.declared.limits.TheConstants.{HOLDING_TIME}
use Rattle.isis_hello.specs.declared.adjacency.Adjacency.{Adjacency}
use Rattle.isis_hello.specs.declared.adjacency.Adjacency.TheVariants.{Down}
use Rattle.isis_hello.specs.declared.adjacency.Circuit.{Circuit}
use Rattle.isis_hello.specs.declared.hello.Hello.{Hello}
use Rattle.isis_hello.specs.Adjacency.{neighbor_of, tri_of}

-- The domain; for each router and each of its interfaces the circuit, and the hellos in flight from that interface to the
-- router at the far end, the oldest first; how many events have occurred.
pub record CircuitsState : Type 0 where
  pub domain : DomainConf
  pub circuits : List (List Circuit)
  pub hellos : List (List (List Hello))
  pub events : ℕ

-- ---- links

-- the index of the first router with a system ID; past the end if there is none
abbrev pub place_of : List RouterConf → SystemId → ℕ
place_of [] s = 0
place_of (r ∷ rs) s = if same_system r.system s then 0 else suc (place_of rs s)

-- the interface of a router that leads to another
abbrev pub end_between : Option RouterConf → Option RouterConf → Option ℕ
end_between None q = None
end_between (Some r) None = None
end_between (Some r) (Some q) = end_toward r.ends q.system

-- the same for routers by their indices; none if no link joins the two
abbrev pub link_between : List RouterConf → ℕ → ℕ → Option ℕ
link_between confs a b = end_between (slice_get confs a) (slice_get confs b)

-- ---- the circuits

-- a circuit that works, with an adjacency that is down
abbrev pub fresh : Circuit
fresh = record { works = true; adjacency = Down }

-- one that is broken
abbrev pub broken : Circuit
broken = record { works = false; adjacency = Down }

abbrev pub circuit_at : List (List Circuit) → ℕ → ℕ → Circuit
circuit_at circuits place link = slice_index_or (slice_index_or circuits place []) link broken

abbrev pub with_circuit : List (List Circuit) → ℕ → ℕ → Circuit → List (List Circuit)
with_circuit circuits place link c = slice_set circuits place (slice_set (slice_index_or circuits place []) link c)

abbrev pub circuit_over : List (List Circuit) → ℕ → Option ℕ → Circuit
circuit_over circuits place None = broken
circuit_over circuits place (Some link) = circuit_at circuits place link

-- the circuit of a router toward another
abbrev pub circuit_between : CircuitsState → ℕ → ℕ → Circuit
circuit_between s a b = circuit_over s.circuits a (link_between s.domain.routers a b)

-- ---- what is in flight

abbrev pub hellos_at : List (List (List Hello)) → ℕ → ℕ → List Hello
hellos_at hellos place link = slice_index_or (slice_index_or hellos place []) link []

abbrev pub with_hellos : List (List (List Hello)) → ℕ → ℕ → List Hello → List (List (List Hello))
with_hellos hellos place link queue = slice_set hellos place (slice_set (slice_index_or hellos place []) link queue)

-- what is sent on an interface is queued at the end of its direction
abbrev pub push_hello : List (List (List Hello)) → ℕ → ℕ → Hello → List (List (List Hello))
push_hello hellos place link h = with_hellos hellos place link (hellos_at hellos place link ++ h ∷ [])

-- and what arrives, or is lost, is removed from there
abbrev pub without_hello : List (List (List Hello)) → ℕ → ℕ → ℕ → List (List (List Hello))
without_hello hellos place link i = with_hellos hellos place link (remove (hellos_at hellos place link) i)

abbrev pub hellos_over : List (List (List Hello)) → ℕ → Option ℕ → List Hello
hellos_over hellos place None = []
hellos_over hellos place (Some link) = hellos_at hellos place link

-- what is in flight from one router to another, the oldest first
abbrev pub hellos_between : CircuitsState → ℕ → ℕ → List Hello
hellos_between s a b = hellos_over s.hellos a (link_between s.domain.routers a b)

-- how many hellos are in flight in all
unfoldable pub hello_count : List (List (List Hello)) → ℕ
hello_count hellos = sum_by (λ queues. sum_by (λ queue. length queue) queues) hellos

-- ---- what a router sends

-- the circuit ID of an interface is its index and 1
abbrev pub circuit_id : ℕ → ℕ
circuit_id link = link + 1

-- The hello of a router on an interface: the state of its adjacency, and the neighbor unless that is down.
abbrev pub hello_of : SystemId → ℕ → SystemId → Adjacency → Hello
hello_of own link peer a = record { source = own; hold = HOLDING_TIME; circuit = circuit_id link; state = tri_of a; named = neighbor_of peer a }

-- ---- the beginning

abbrev pub no_hellos : List RouterConf → List (List (List Hello))
no_hellos confs = map (λ r. map (λ e. []) r.ends) confs

abbrev pub fresh_circuits : List RouterConf → List (List Circuit)
fresh_circuits confs = map (λ r. map (λ e. fresh) r.ends) confs

-- Each circuit works, each adjacency is down, and nothing is in flight.
unfoldable pub first_circuits : DomainConf → CircuitsState
first_circuits d = record { domain = d; circuits = fresh_circuits d.routers; hellos = no_hellos d.routers; events = 0 }
