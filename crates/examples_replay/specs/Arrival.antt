-- A run of the pair: it settles, and a packet is injected and arrives.
use Rattle.std.specs.Prelude.{ℕ, List, [], ◌∷◌, ◌++◌, codes, slice_index_or}
use Rattle.wire_base.specs.declared.bsl.Bsl.TheVariants.{B64}
use Rattle.wire_base.specs.model.Control.{Control}
use Rattle.replay_text.specs.declared.event.Event.{Event}
use Rattle.replay_text.specs.declared.event.Event.TheVariants.{Inject, Take, Send}
use Rattle.examples_model.specs.Domains.{pair, pair_a}
use Rattle.examples_model.specs.Frames.{settled}
use Rattle.domain_model.specs.Run.{run_of}
use Rattle.laws_ledger.specs.Ledger.{Injection}

-- both routers send, and receive what has arrived
abbrev pub settled_by : List (ℕ × Event)
settled_by = (1, Send 0 1) ∷ (1, Send 1 0) ∷ (1, Take 0 1 0) ∷ (1, Take 0 1 0) ∷ (1, Take 1 0 0) ∷ (1, Take 1 0 0) ∷ []

-- A injects for itself and B, and B receives its copy
abbrev pub enters : ℕ × Event
enters = (2, Inject 0 0 B64 (1 ∷ 2 ∷ []) 8 0 (0 ∷ 255 ∷ []))

abbrev pub taken : List (ℕ × Event)
taken = (3, Take 0 1 0) ∷ []

abbrev pub the_injection : Injection
the_injection = record { router = 0; sd = 0; bsl = B64; ids = 1 ∷ 2 ∷ []; ttl = 8; entropy = 0; payload = 0 ∷ 255 ∷ [] }

-- the state of A then
abbrev pub ingress : Control
ingress = slice_index_or (run_of pair settled_by).world.routers 0 (settled pair_a [])

-- all of its events
abbrev pub whole : List (ℕ × Event)
whole = settled_by ++ enters ∷ taken

-- the same as lines of a schedule
abbrev pub lines : List (List ℕ)
lines = codes "settle 1" ∷ codes "inject A 0 64 1,2 8 0 00ff" ∷ codes "take A B 0" ∷ []
