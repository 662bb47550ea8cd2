-- Runs of the pair, whose routers are A, at index 0, and B, at index 1.
use Rattle.std.specs.Prelude.{◌≡◌, ℕ, false, List, [], ◌∷◌, ◌++◌, replicate, slice_index_or}
use Rattle.wire_base.specs.declared.bsl.Bsl.TheVariants.{B64}
use Rattle.wire_base.specs.declared.addresses.LspId.{LspId}
use Rattle.wire_base.specs.model.Control.{Control}
use Rattle.replay_text.specs.declared.event.Event.{Event}
use Rattle.replay_text.specs.declared.event.Event.TheVariants.{Inject, Take, Lose, Again, Down, Up, Send, Tick, Restart}
use Rattle.examples_model.specs.Domains.{pair, pair_a}
use Rattle.examples_model.specs.Frames.{settled}
use Rattle.domain_model.specs.Run.{settle_events, world_after}
use Rattle.domain_model.specs.World.{WorldState, first_world}
use Rattle.quiet_domain.specs.Live.{is_same_at}
use Rattle.laws_ledger.specs.Ledger.{Injection}
use Rattle.laws_ledger.specs.Runs.{AreAllowed}
use Rattle.laws_quiet.specs.Quiet.{lsdb_at}

-- the world after events from the start
abbrev pub after : List Event → WorldState
after es = world_after (first_world pair) es

-- the world after a number of rounds
abbrev pub with_rounds : WorldState → ℕ → WorldState
with_rounds w rounds = world_after w (settle_events w rounds)

-- A's CSNP is lost and its LSP is repeated, a second passes, and the link goes down and comes up at both ends.
abbrev pub disturbed : List Event
disturbed = Send 0 1 ∷ Lose 0 1 0 ∷ Again 0 1 0 ∷ Tick 0 ∷ Down 0 1 ∷ Down 1 0 ∷ Take 0 1 0 ∷ Up 0 1 ∷ Up 1 0 ∷ []

-- After two rounds A injects a packet for B, which receives it.
abbrev pub enters : Event
enters = Inject 0 0 B64 (2 ∷ []) 8 0 (0 ∷ 255 ∷ [])

abbrev pub taken : List Event
taken = Take 0 1 0 ∷ []

abbrev pub the_injection : Injection
the_injection = record { router = 0; sd = 0; bsl = B64; ids = 2 ∷ []; ttl = 8; entropy = 0; payload = 0 ∷ 255 ∷ [] }

-- the state of A then
abbrev pub ingress : Control
ingress = slice_index_or (with_rounds (after disturbed) 2).routers 0 (settled pair_a [])

abbrev pub four_rounds : List Event
four_rounds = settle_events (first_world pair) 4

-- The link goes down at A's end alone.
abbrev pub half : List Event
half = Down 0 1 ∷ []

-- After two rounds B restarts, and the CSNP that it sends is lost.
abbrev pub restarted : List Event
restarted = settle_events (first_world pair) 2 ++ (Restart 1 ∷ Send 1 0 ∷ Lose 1 0 0 ∷ [])

-- After two rounds 1,260 seconds pass at A: the Remaining Lifetime of B's LSP ends, and a minute later A has no entry of it.
abbrev pub ended : List Event
ended = settle_events (first_world pair) 2 ++ replicate 1260 (Tick 0)

-- The events are allowed, and so are three rounds after them; then the two LSDBs have different live LSPs of an LSP ID.
pub record IsStuck (es : List Event) (id : LspId) : Type 0 where
  pub allowed : AreAllowed (first_world pair) es
  pub rounds : AreAllowed (after es) (settle_events (after es) 3)
  pub differs : is_same_at (lsdb_at (with_rounds (after es) 3) 0) (lsdb_at (with_rounds (after es) 3) 1) id ≡ false
