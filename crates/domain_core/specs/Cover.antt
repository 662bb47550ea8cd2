-- Which BFR-ids an injection would reach, or why the router would reject it (RFC 8279, 6.5 and 6.9).
use Rattle.std.specs.Prelude.{◌≡◌, ℕ, ◌+◌, ◌%◌, ◌<◌, ◌≤◌, ◌||◌, length, Bool, List, [], ◌∷◌, map, filter, slice_get, Option, Some, None, Result, Ok, Err}
use Rattle.std.specs.List.{flat_map}
use Rattle.wire_base.specs.declared.bsl.Bsl.{Bsl}
use Rattle.wire_base.specs.declared.conf.RouterConf.{RouterConf}
use Rattle.wire_base.specs.declared.faults.EdgeFault.{EdgeFault}
use Rattle.wire_base.specs.declared.faults.EdgeFault.TheVariants as edge
use Rattle.wire_base.specs.declared.triple.Triple.{Triple}
use Rattle.wire_base.specs.declared.view.ViewNode.{ViewNode}
use Rattle.wire_base.specs.model.Control.{Control}
use Rattle.wire_base.specs.model.Ingress.{edge_fault, id_set}
use Rattle.wire_base.specs.model.OnFrame.{Positions}
use Rattle.wire_base.specs.model.Place.{id_at, own_id}
use Rattle.wire_base.specs.model.View.{control_view}
use Rattle.quiet_domain.specs.Paths.{PathsIn, way_in}
use Rattle.quiet_domain.specs.declared.answer.Quiet.TheVariants.{Yes}
use Rattle.replay_text.specs.declared.event.Event.{Event}
use Rattle.domain_model.specs.Moves.{listed}
use Rattle.domain_model.specs.Step.{happens}
use Rattle.domain_model.specs.World.{WorldState}
use Rattle.laws_ledger.specs.Runs.{AreAllowed}
use Rattle.laws_course.specs.Course.{own_node}
use Rattle.laws_quiet.specs.Cover.{AreTakes, covers_id, is_covered, is_own}
use Rattle.domain_core.specs.Quiet.{quiet_of}

-- the BFR-ids, unless there is a reason to reject the injection
abbrev pub unless_refused : Option EdgeFault → List ℕ → Result (List ℕ) EdgeFault
unless_refused None ids = Ok ids
unless_refused (Some fault) ids = Err fault

-- the BFR-ids of a list that packets reach, ascending and each once
abbrev pub covered_ids : Control → ℕ → Bsl → List ℕ → ℕ → ℕ → List ℕ
covered_ids c sd bsl ids ttl entropy = filter (covers_id c sd bsl ttl entropy) (id_set ids)

abbrev pub cover_at : Option Control → ℕ → Bsl → List ℕ → ℕ → ℕ → Result (List ℕ) EdgeFault
cover_at None sd bsl ids ttl entropy = Ok []
cover_at (Some c) sd bsl ids ttl entropy = unless_refused (edge_fault c.conf sd bsl ids) (covered_ids c sd bsl ids ttl entropy)

-- Of an injection at the router at an index, with the TTL that its copies have.
unfoldable pub cover_of : WorldState → ℕ → ℕ → Bsl → List ℕ → ℕ → ℕ → Result (List ℕ) EdgeFault
cover_of w a sd bsl ids ttl entropy = cover_at (slice_get w.routers a) sd bsl ids ttl entropy

-- ---- packet by packet

-- Where packets enter: the router's configuration, the topology and the router's node in it, the TTL of the copies, and
-- the entropy class.
pub record EntryPoint : Type 0 where
  pub conf : RouterConf
  pub nodes : List ViewNode
  pub own : ℕ
  pub ttl : ℕ
  pub class : ℕ

-- the router has a node, and is within the limits of a configuration
pub record IsEntryPoint (e : EntryPoint) : Type 0 where
  pub own : e.own < length e.nodes
  pub class : e.class < 16
  pub ends : length e.conf.ends ≤ 65536

abbrev pub entry_at : Control → ℕ → ℕ → EntryPoint
entry_at c ttl entropy = record { conf = c.conf; nodes = control_view c; own = own_node c; ttl = ttl; class = entropy % 16 }

-- the paths of packets of a triple from there
abbrev pub paths_from : EntryPoint → Triple → PathsIn
paths_from e t = record { conf = e.conf; nodes = e.nodes; triple = t; class = e.class }

-- whether packets of a triple reach a BFR-id from there
abbrev pub reaches_from : EntryPoint → Triple → ℕ → Bool
reaches_from e t k = is_own (own_id e.conf t.sd) k || is_covered e.ttl (way_in (paths_from e t) e.own k)

-- the BFR-ids of bit positions of a triple that they reach
abbrev pub reached_at : EntryPoint → Triple → List ℕ → List ℕ
reached_at e t positions = filter (reaches_from e t) (listed (map (id_at t) positions))

-- those of packets, one after the other
abbrev pub reached_by : EntryPoint → List Positions → List ℕ
reached_by e packets = flat_map (λ p. reached_at e p.triple p.positions) packets

-- ---- what is promised

-- An error is that of the injection, or out of memory.
abbrev pub Rejects : Result (List ℕ) EdgeFault → EdgeFault → Type 0
Rejects cover edge.NoEgress = cover ≡ Err edge.NoEgress
Rejects cover edge.IdZero = cover ≡ Err edge.IdZero
Rejects cover (edge.SiLarge k) = cover ≡ Err (edge.SiLarge k)
Rejects cover edge.NotBfr = cover ≡ Err edge.NotBfr
Rejects cover edge.BslUnknown = cover ≡ Err edge.BslUnknown
Rejects cover edge.Memory = Unit {0}

-- In a quiet world the event e, which is an injection, occurs, and then the events es, which receive copies of it alone. All are
-- allowed.
pub record IsReceived (w : WorldState) (e : Event) (es : List Event) : Type 0 where
  pub quiet : quiet_of w ≡ Yes
  pub allowed : AreAllowed w (e ∷ es)
  pub takes : AreTakes (w.injections + 1) (happens w e).world es
