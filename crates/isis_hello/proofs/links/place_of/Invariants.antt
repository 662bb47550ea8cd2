use Rattle.std.proofs.Common.{◌≡◌, ◌+◌, drop}
use Rattle.isis_hello.specs.Circuits.{place_of}
use Rattle.isis_hello.proofs.links.place_of.Given as goal

abbrev pub invariant-loop-place : goal.invariant-loop-place
invariant-loop-place l = place_of (drop l.place l.confs) l.system + l.place ≡ place_of l.confs l.system
