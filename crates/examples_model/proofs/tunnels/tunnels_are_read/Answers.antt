use Rattle.std.proofs.Common.{[], ◌∷◌, refl, arith}
use Rattle.examples_model.proofs.tunnels.tunnels_are_read.Goals as goal

pub returns-clause-grammar : goal.returns-clause-grammar
returns-clause-grammar c =
    record {
      free = record { service = 0; id = 0; high = 1 };
      checksum = 26525;
      rest = 7 ∷ 7 ∷ [];
      high = omega arith;
      spelled = refl;
      right = refl;
      fits = record { src = refl; dst = refl; ttl = omega arith; size = omega arith };
    }
