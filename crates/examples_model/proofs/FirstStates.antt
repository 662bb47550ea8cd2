-- The first state of a router keeps what every control state keeps.
use Rattle.std.proofs.Common.{◌≡◌, ℕ, zero, suc, ◌≤◌, Bool, true, false, List, [], ◌∷◌, length, replicate, refl, arith}
use Rattle.std.proofs.lemmas.Bool.{cond-true, and_from, eq-eqb}
use Rattle.std.proofs.lemmas.List.{length-replicate}
use Rattle.std.specs.Str.{bytes_eq}
use Rattle.wire_base.specs.declared.addresses.LspId.{LspId}
use Rattle.wire_base.specs.declared.conf.RouterConf.{RouterConf}
use Rattle.wire_base.specs.model.Configuration.{IsSound}
use Rattle.wire_base.specs.model.Control.{IsControl, IsWithinLinks, same_id, fragment_0}
use Rattle.wire_base.specs.model.Flooding.{first_control, started, new_flood, mark_all}
use Rattle.wire_base.specs.model.OwnLsp.{own_lsp}

all_within : (n : ℕ) → IsWithinLinks (replicate n true) (replicate n true)
all_within zero = tt
all_within (suc n) = (refl, all_within n)

none_within : (up : List Bool) → IsWithinLinks (replicate (length up) false) up
none_within [] = tt
none_within (b ∷ bs) = none_within bs

bytes_self : (xs : List ℕ) → bytes_eq xs xs ≡ true
bytes_self [] = refl
bytes_self (x ∷ xs) = and_from _ _ (eq-eqb x x refl) (bytes_self xs)

pub id_self : (id : LspId) → same_id id id ≡ true
id_self id = and_from _ _ (bytes_self id.system.0) (and_from _ _ (eq-eqb id.pseudonode id.pseudonode refl) (eq-eqb id.fragment id.fragment refl))

first_up : (r : RouterConf) (up : List Bool) → length up ≡ length r.ends → length up ≤ 64 → IsWithinLinks up up → IsControl (started r up)
unfolding started new_flood mark_all own_lsp
first_up r up long few within =
    record {
      flood = record {
        few = few;
        due_up = within;
        rows = (record { srm_up = within; ssn_up = none_within up }, tt);
        in_order = (tt, tt);
      };
      entries = record { few = omega arith; in_order = (tt, tt) };
      own = refl;
      links = long;
      flagged = ((own_lsp r up 1, cond-true _ _ _ (id_self (fragment_0 r.system))), tt);
    }

pub first_state : (r : RouterConf) → IsSound r → IsControl (first_control r)
unfolding first_control
first_state r sound =
    let long : length (replicate (length r.ends) true) ≡ length r.ends = length-replicate (length r.ends) true in
    first_up r (replicate (length r.ends) true) long (omega (arith, sound.few_ends)) (all_within (length r.ends))
