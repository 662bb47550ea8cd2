-- Which interfaces of a domain are up.
use Rattle.std.specs.Prelude.{Bool, List, map}
use Rattle.wire_base.specs.model.Control.{Control}
use Rattle.domain_model.specs.World.{WorldState}

-- for each router and each of its interfaces whether it is up
unfoldable pub ups_in : List Control → List (List Bool)
ups_in controls = map (λ c. c.flood.up) controls

abbrev pub ups_of : WorldState → List (List Bool)
ups_of w = ups_in w.routers
