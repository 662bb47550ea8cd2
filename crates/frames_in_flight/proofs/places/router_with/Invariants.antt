use Rattle.std.proofs.Common.{◌≡◌, drop}
use Rattle.wire_base.specs.model.Item.{router_with}
use Rattle.frames_in_flight.proofs.places.router_with.Given as goal

abbrev pub invariant-loop-place : goal.invariant-loop-place
invariant-loop-place l = router_with l.place (drop l.place l.confs) l.prefix ≡ router_with 0 l.confs l.prefix
