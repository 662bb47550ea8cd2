-- The pair while B is given other labels, or leaves its sub-domain and joins it again.
use Rattle.std.specs.Prelude.{ℕ, List, [], ◌∷◌, map, replicate, Option, Some, None}
use Rattle.std.specs.List.{filter_map}
use Rattle.wire_base.specs.declared.bsl.Bsl.TheVariants.{B64}
use Rattle.wire_base.specs.declared.conf.RouterConf.{RouterConf}
use Rattle.wire_base.specs.model.Flooding.{first_control}
use Rattle.wire_base.specs.model.Item.{Item, ControlItem, PacketItem}
use Rattle.replay_text.specs.declared.event.Event.TheVariants.{Inject, Relabel, Leave, Join}
use Rattle.replay_text.specs.declared.event.Line.{Line}
use Rattle.replay_text.specs.declared.event.Line.TheVariants.{One, Settle}
use Rattle.examples_model.specs.Domains.{pair, pair_a, pair_b}
use Rattle.domain_model.specs.declared.lines.GotLine.{GotLine}
use Rattle.domain_model.specs.World.{WorldState, first_world}
use Rattle.domain_model.specs.Run.{Progress, schedule_done}

-- A injects the payload 00 for B
abbrev pub for_b : Line
for_b = One (Inject 0 0 B64 (2 ∷ []) 8 0 (0 ∷ []))

-- B's labels begin at 900 in place of 200, and A learns it after a packet was sent
abbrev pub relabels : Progress
relabels = schedule_done pair (Settle 2 ∷ One (Relabel 1 0 B64 900) ∷ for_b ∷ Settle 2 ∷ for_b ∷ Settle 1 ∷ [])

-- B leaves the sub-domain and joins it again
abbrev pub leaves : Progress
leaves = schedule_done pair (Settle 2 ∷ One (Leave 1 0) ∷ for_b ∷ Settle 2 ∷ One (Join 1 0) ∷ Settle 2 ∷ for_b ∷ Settle 1 ∷ [])

-- the BIFT-id of a copy that is sent
abbrev pub bift_in : Item → Option ℕ
bift_in (ControlItem p) = None
bift_in (PacketItem x) = Some x.bift

-- the BIFT-ids of all copies that were sent, in order
abbrev pub bifts : Progress → List ℕ
bifts p = filter_map (λ s. bift_in s.1.item) p.run.sent

-- B delivers the payload of an injection
abbrev pub got_at_b : ℕ → GotLine
got_at_b injection = record { router = 1; injection = injection; id = 2; payload = 0 ∷ [] }

-- a router that was given other labels 1,000 times
abbrev pub worn_b : RouterConf
worn_b = record pair_b { past = replicate 1000 (record { sd = 0; range = record { bsl = B64; max_si = 0; label = 300 } }) }

abbrev pub worn : WorldState
worn = record (first_world pair) { routers = map first_control (pair_a ∷ worn_b ∷ []) }
