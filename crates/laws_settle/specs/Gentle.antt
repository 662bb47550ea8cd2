-- Events under which no LSP ends: no router restarts, and no second ends a Remaining Lifetime (ISO/IEC 10589, 7.3.16.3). What is in
-- flight may be lost, repeated and overtaken, and interfaces, labels and sub-domains may change.
use Rattle.std.specs.Prelude.{◌≡◌, List, [], ◌∷◌}
use Rattle.std.specs.List.{AllByRecursion}
use Rattle.replay_text.specs.declared.event.Event.{Event}
use Rattle.replay_text.specs.declared.event.Event.TheVariants.{Inject, Take, Lose, Again, Down, Up, Send, Tick, Restart, Relabel, Leave, Join}
use Rattle.domain_model.specs.Step.{happens}
use Rattle.domain_model.specs.World.{WorldState}
use Rattle.laws_quiet.specs.Quiet.{lsdb_at}

abbrev pub IsGentle : WorldState → Event → Type 0
IsGentle w (Inject a sd bsl ks ttl entropy payload) = Unit {0}
IsGentle w (Take a b i) = Unit {0}
IsGentle w (Lose a b i) = Unit {0}
IsGentle w (Again a b i) = Unit {0}
IsGentle w (Down a b) = Unit {0}
IsGentle w (Up a b) = Unit {0}
IsGentle w (Send a b) = Unit {0}
IsGentle w (Tick a) = AllByRecursion (λ e. e.life ≡ 1 → ⊥) (lsdb_at w a)
IsGentle w (Restart a) = ⊥
IsGentle w (Relabel a sd bsl label) = Unit {0}
IsGentle w (Leave a sd) = Unit {0}
IsGentle w (Join a sd) = Unit {0}

-- each event of a list is gentle in the world that it occurs in
abbrev pub AreGentle : WorldState → List Event → Type 0
AreGentle w [] = Unit {0}
AreGentle w (e ∷ es) = IsGentle w e × AreGentle (happens w e).world es

-- a packet is injected, or a frame is sent, received, lost or repeated
abbrev pub IsTraffic : Event → Type 0
IsTraffic (Inject a sd bsl ks ttl entropy payload) = Unit {0}
IsTraffic (Take a b i) = Unit {0}
IsTraffic (Lose a b i) = Unit {0}
IsTraffic (Again a b i) = Unit {0}
IsTraffic (Down a b) = ⊥
IsTraffic (Up a b) = ⊥
IsTraffic (Send a b) = Unit {0}
IsTraffic (Tick a) = ⊥
IsTraffic (Restart a) = ⊥
IsTraffic (Relabel a sd bsl label) = ⊥
IsTraffic (Leave a sd) = ⊥
IsTraffic (Join a sd) = ⊥
