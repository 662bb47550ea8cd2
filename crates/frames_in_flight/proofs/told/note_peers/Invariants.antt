use Rattle.std.proofs.Common.{◌≡◌}
use Rattle.std.specs.Prelude.{IfSome}
use Rattle.domain_model.specs.World.{peer_place}
use Rattle.frames_in_flight.proofs.SentLaws.{half_noted}
use Rattle.frames_in_flight.proofs.told.note_peers.Given as goal

abbrev pub invariant-frames : goal.invariant-frames
invariant-frames l = record {
  frames : l.frames ≡ half_noted l.fn.confs l.fn.at l.place l.fn.frames;
  last : IfSome l.last (λ p. p.1 ≡ peer_place l.fn.confs l.fn.at p.0);
}
