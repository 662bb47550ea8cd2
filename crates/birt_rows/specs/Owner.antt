-- The routers with a BFR-id: none, exactly one, or several.
use Rattle.std.specs.Prelude.{ℕ, ◌==◌, ◌||◌, ◌-◌, nat_lt, List, [], ◌∷◌, Option, Some, None, option_and_then, slice_index_or, slice_set, if◌then◌else◌}
use Rattle.wire_base.specs.declared.triple.Triple.{Triple}
use Rattle.wire_base.specs.declared.view.ViewNode.{ViewNode}
use Rattle.wire_base.specs.model.Graph.{place_in}
use Rattle.wire_base.specs.model.Place.{position_in}
use Rattle.birt_rows.specs.declared.owner.Found.{Found}
use Rattle.birt_rows.specs.declared.owner.Found.TheVariants.{Nobody, One, Several}

abbrev pub one_more : Found → ℕ → Found
one_more Nobody node = One node
one_more (One other) node = Several
one_more Several node = Several

abbrev pub only_one : Found → Option ℕ
only_one Nobody = None
only_one (One node) = Some node
only_one Several = None

abbrev pub found_in : List ℕ → Found
found_in [] = Nobody
found_in (x ∷ []) = One x
found_in (x ∷ y ∷ ys) = Several

-- the bit position of a node's BFR-id, where the BFR-id is in the triple's set
abbrev pub node_position : Triple → ViewNode → Option ℕ
node_position t n = option_and_then (λ s. position_in t s.id) (place_in n.subs t.sd)

-- one more router with the BFR-id of a position
abbrev pub counted : List Found → Option ℕ → ℕ → List Found
counted found None node = found
counted found (Some p) node = slice_set found (p - 1) (one_more (slice_index_or found (p - 1) Nobody) node)

abbrev pub owner_among : Found → ℕ → Option ℕ
owner_among found k = if (k == 0) || nat_lt 65535 k then None else only_one found
