use Rattle.std.proofs.Common.{refl, arith}
use Rattle.examples_model.proofs.Validity.{one_link}
use Rattle.examples_model.proofs.configurations.pair_is_valid.Goals as goal

pub returns : goal.returns
returns c =
    record {
      consistent = record {
        some = omega arith;
        few = omega arith;
        sound = (
          one_link 65 1 100 2 _ refl (omega arith) (omega arith) (omega arith) (omega arith),
          (one_link 66 2 200 1 _ refl (omega arith) (omega arith) (omega arith) (omega arith), tt),
        );
        few_kinds = (omega arith, (omega arith, tt));
        few_rows = (omega arith, (omega arith, tt));
        names = ((refl, tt), (tt, tt));
        systems = ((refl, tt), (tt, tt));
        prefixes = ((refl, tt), (tt, tt));
        alike = (record { level = refl; area = refl; kinds = refl; table = refl }, tt);
        kinds = (record { subs = (tt, tt); rows = tt }, (record { subs = (tt, tt); rows = tt }, tt));
        links = (record { a = omega arith; b = omega arith; differ = refl }, tt);
        links_once = (tt, tt);
        ends = (((refl, (refl, refl)), tt), (((refl, (refl, refl)), tt), tt));
      };
      unchanged = (record { away = refl; past = refl }, (record { away = refl; past = refl }, tt));
    }
