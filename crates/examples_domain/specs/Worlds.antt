-- Small running domains.
use Rattle.std.specs.Prelude.{ℕ, true, List, [], ◌∷◌, length, map, slice_get, Option, Some, None}
use Rattle.wire_base.specs.declared.bsl.Bsl.TheVariants.{B64}
use Rattle.wire_base.specs.declared.cause.Cause.{Cause}
use Rattle.wire_base.specs.declared.entry.Entry.{Entry}
use Rattle.wire_base.specs.model.Configuration.{DomainConf}
use Rattle.wire_base.specs.model.Control.{Control}
use Rattle.wire_base.specs.model.Item.{Item}
use Rattle.wire_base.specs.model.OwnLsp.{own_lsp}
use Rattle.replay_text.specs.declared.event.Event.{Event}
use Rattle.replay_text.specs.declared.event.Event.TheVariants.{Inject, Take, Send, Tick}
use Rattle.replay_text.specs.declared.event.Line.{Line}
use Rattle.replay_text.specs.declared.event.Line.TheVariants.{Empty, One, Settle}
use Rattle.examples_model.specs.Domains.{pair, pair_a, pair_b, ring, fork}
use Rattle.examples_model.specs.Frames.{settled, fork_lsps}
use Rattle.examples_model.specs.Views.{ring_lsps}
use Rattle.domain_model.specs.World.{WorldState, no_flights, first_world}
use Rattle.domain_model.specs.Moves.{Sending, Made, none_made}
use Rattle.domain_model.specs.Run.{Progress, schedule_done}
use Rattle.domain_model.specs.Step.{happens}

abbrev pub sending : ℕ → ℕ → ℕ → Item → Sending
sending a link b x = record { from = a; link = link; to = b; item = x }

abbrev pub after : WorldState → Event → WorldState
after w e = (happens w e).world

-- all routers have those LSDBs, and nothing is in flight
abbrev pub at_rest : DomainConf → List Entry → WorldState
at_rest d entries =
    record {
      domain = d;
      routers = map (λ r. settled r entries) d.routers;
      flights = no_flights d.routers;
      injections = 0;
      events = 0;
    }

abbrev pub ring_at_rest : WorldState
ring_at_rest = at_rest ring ring_lsps

abbrev pub fork_at_rest : WorldState
fork_at_rest = at_rest fork fork_lsps

-- A injects the payload 00 FF for those BFR-ids
abbrev pub enters : List ℕ → ℕ → ℕ → Event
enters ids ttl entropy = Inject 0 0 B64 ids ttl entropy (0 ∷ 255 ∷ [])

-- the pair after A has sent what is due
abbrev pub pair_sent : WorldState
pair_sent = after (first_world pair) (Send 0 1)

-- how many entries a router has
abbrev pub entries_in : Option Control → ℕ
entries_in None = 0
entries_in (Some c) = length c.entries

abbrev pub entries_at : WorldState → ℕ → ℕ
entries_at w a = entries_in (slice_get w.routers a)

-- the ring after A has sent a copy for C, or with a TTL of 1 for B and C
abbrev pub for_c : WorldState
for_c = after ring_at_rest (enters (3 ∷ []) 8 0)

abbrev pub for_b_and_c : WorldState
for_b_and_c = after ring_at_rest (enters (2 ∷ 3 ∷ []) 1 0)

-- the fork after A has sent a copy for C, or for C and D
abbrev pub through_p : WorldState
through_p = after fork_at_rest (enters (3 ∷ []) 8 0)

abbrev pub for_c_and_d : WorldState
for_c_and_d = after fork_at_rest (enters (3 ∷ 4 ∷ []) 8 0)

-- P drops the copy for C
abbrev pub dropped_at_p : Cause → Made
dropped_at_p why = record none_made { drops = record { router = 1; injection = Some 1; cause = why; ids = 3 ∷ [] } ∷ [] }

-- both LSDBs of the pair once it has converged
abbrev pub pair_lsps : List Entry
pair_lsps = own_lsp pair_a (true ∷ []) 1 ∷ own_lsp pair_b (true ∷ []) 1 ∷ []

abbrev pub pair_settled : Progress
pair_settled = schedule_done pair (Settle 2 ∷ [])

-- a blank line, A sends, a frame that does not exist is delivered, a second
abbrev pub mixed_lines : List Line
mixed_lines = Empty ∷ One (Send 0 1) ∷ One (Take 0 1 5) ∷ One (Tick 0) ∷ []
