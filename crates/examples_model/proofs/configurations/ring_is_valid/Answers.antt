use Rattle.std.proofs.Common.{refl, arith}
use Rattle.examples_model.proofs.Validity.{two_links}
use Rattle.examples_model.proofs.configurations.ring_is_valid.Goals as goal

pub returns : goal.returns
returns c =
    record {
      consistent = record {
        some = omega arith;
        few = omega arith;
        sound = (
          two_links 65 1 100 2 4 _ refl (omega arith) (omega arith) (omega arith) (omega arith) (omega arith) ((refl, tt), (tt, tt)) ((refl, tt), (tt, tt)),
          (
            two_links 66 2 200 1 3 _ refl (omega arith) (omega arith) (omega arith) (omega arith) (omega arith) ((refl, tt), (tt, tt)) ((refl, tt), (tt, tt)),
            (
              two_links 67 3 300 2 4 _ refl (omega arith) (omega arith) (omega arith) (omega arith) (omega arith) ((refl, tt), (tt, tt)) ((refl, tt), (tt, tt)),
              (
                two_links 68 4 400 3 1 _ refl (omega arith) (omega arith) (omega arith) (omega arith) (omega arith) ((refl, tt), (tt, tt)) ((refl, tt), (tt, tt)),
                tt,
              ),
            ),
          ),
        );
        few_kinds = (omega arith, (omega arith, (omega arith, (omega arith, tt))));
        few_rows = (omega arith, (omega arith, (omega arith, (omega arith, tt))));
        names = ((refl, (refl, (refl, tt))), ((refl, (refl, tt)), ((refl, tt), (tt, tt))));
        systems = ((refl, (refl, (refl, tt))), ((refl, (refl, tt)), ((refl, tt), (tt, tt))));
        prefixes = ((refl, (refl, (refl, tt))), ((refl, (refl, tt)), ((refl, tt), (tt, tt))));
        alike = (record { level = refl; area = refl; kinds = refl; table = refl }, (record { level = refl; area = refl; kinds = refl; table = refl }, (record { level = refl; area = refl; kinds = refl; table = refl }, tt)));
        kinds = (record { subs = (tt, tt); rows = tt }, (record { subs = (tt, tt); rows = tt }, (record { subs = (tt, tt); rows = tt }, (record { subs = (tt, tt); rows = tt }, tt))));
        links = (
          record { a = omega arith; b = omega arith; differ = refl },
          (
            record { a = omega arith; b = omega arith; differ = refl },
            (
              record { a = omega arith; b = omega arith; differ = refl },
              (record { a = omega arith; b = omega arith; differ = refl }, tt),
            ),
          ),
        );
        links_once = ((refl, (refl, (refl, tt))), ((refl, (refl, tt)), ((refl, tt), (tt, tt))));
        ends = ((((refl, (refl, refl))), ((refl, (refl, refl)), tt)), ((((refl, (refl, refl))), ((refl, (refl, refl)), tt)), ((((refl, (refl, refl))), ((refl, (refl, refl)), tt)), ((((refl, (refl, refl))), ((refl, (refl, refl)), tt)), tt))));
      };
      unchanged = (record { away = refl; past = refl }, (record { away = refl; past = refl }, (record { away = refl; past = refl }, (record { away = refl; past = refl }, tt))));
    }
