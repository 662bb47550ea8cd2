use Rattle.std.proofs.Common.{◌≡◌, ◌+◌, drop}
use Rattle.domain_model.specs.World.{place_of}
use Rattle.frames_in_flight.proofs.places.place_of.Given as goal

abbrev pub invariant-loop-place : goal.invariant-loop-place
invariant-loop-place l = place_of (drop l.place l.confs) l.system + l.place ≡ place_of l.confs l.system
