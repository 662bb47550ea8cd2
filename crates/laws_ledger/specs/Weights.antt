-- How far copies can still go: each `take` of a copy lowers the weight of the copies of its injection.
use Rattle.std.specs.Prelude.{ℕ, ◌+◌, ◌*◌, ◌==◌, Bool, false, List, [], ◌∷◌, length, slice_get, Option, Some, None, if◌then◌else◌}
use Rattle.wire_base.specs.model.Hop.{distinct, one_if}
use Rattle.wire_base.specs.model.Item.{Item, ControlItem, PacketItem, DataItem, Outer}
use Rattle.replay_text.specs.declared.event.Event.{Event}
use Rattle.replay_text.specs.declared.event.Event.TheVariants.{Take}
use Rattle.domain_model.specs.World.{WorldState, frames_between}
use Rattle.domain_model.specs.Step.{happens}
use Rattle.laws_ledger.specs.Ledger.{Injection, over_all}

-- ---- weights

-- the TTL of a tunnel, 0 without a tunnel
abbrev pub outer_left : Option Outer → ℕ
outer_left None = 0
outer_left (Some o) = o.ttl

-- The weight of a copy: the size of its set times (256 times its TTL plus its outer TTL).
abbrev pub weight : DataItem → ℕ
weight x = length x.ids * (256 * x.ttl + outer_left x.outer)

abbrev pub weight_in : ℕ → Item → ℕ
weight_in n (ControlItem p) = 0
weight_in n (PacketItem x) = if x.number == n then weight x else 0

-- the weights of all copies of injection n in flight
abbrev pub weights : ℕ → List (List (List Item)) → ℕ
weights n flights = over_all (weight_in n) flights

-- the greatest weight of the copies of an injection directly after it: each BFR-id that it names has the TTL, and 255
-- of a tunnel
abbrev pub first_weight : Injection → ℕ
first_weight i = length (distinct i.ids) * (256 * i.ttl + 255)

-- ---- copies

abbrev pub is_of : ℕ → Item → Bool
is_of n (ControlItem p) = false
is_of n (PacketItem x) = x.number == n

-- how many copies of injection n are in flight
abbrev pub copies_in : ℕ → List (List (List Item)) → ℕ
copies_in n flights = over_all (λ x. one_if (is_of n x)) flights

abbrev pub is_one_of : ℕ → Option Item → Bool
is_one_of n None = false
is_one_of n (Some x) = is_of n x

-- whether an event is a `take` of a copy of injection n
abbrev pub takes_copy : WorldState → ℕ → Event → Bool
takes_copy w n (Take a b i) = is_one_of n (slice_get (frames_between w a b) i)
takes_copy w n e = false

-- how many events of a list are
abbrev pub takes_in : ℕ → WorldState → List Event → ℕ
takes_in n w [] = 0
takes_in n w (e ∷ es) = one_if (takes_copy w n e) + takes_in n (happens w e).world es
