-- The observer's configuration is sound.
use Rattle.std.proofs.Common.{◌≡◌, ℕ, zero, suc, ◌+◌, ◌<◌, ◌≤◌, false, [], ◌∷◌, ◌++◌, map, Result, Ok, Err, IfOk, refl, sym, ap, subst, arith}
use Rattle.std.specs.List.{AllByRecursion, range_with_len}
use Rattle.std.proofs.lemmas.Bool.{ne_eqb}
use Rattle.std.proofs.lemmas.List.FromFn.{map-range_with_len_more}
use Rattle.wire_base.specs.declared.conf.RouterConf.{RouterConf}
use Rattle.wire_base.specs.model.Configuration.{IsSound, same_kind, sub_octets}
use Rattle.wire_base.specs.model.Lists.{AreApart}
use Rattle.topo_mt.specs.Observer.{mpls_kind, mpls_kinds, observer}

fit_from : (a n : ℕ) → a + n ≤ 256 → AllByRecursion (λ k. k.sd < 256) (map mpls_kind (range_with_len a n))
fit_from a zero few = tt
fit_from a (suc n) few = (omega (arith, few), fit_from (a + 1) n (omega (arith, few)))

apart_above : (b a n : ℕ) → b < a → AllByRecursion (λ y. same_kind (mpls_kind b) y ≡ false) (map mpls_kind (range_with_len a n))
apart_above b a zero lt = tt
apart_above b a (suc n) lt = (ne_eqb b a (λ e. omega (arith, e, lt)), apart_above b (a + 1) n (omega (arith, lt)))

apart_from : (a n : ℕ) → AreApart same_kind (map mpls_kind (range_with_len a n))
apart_from a zero = tt
apart_from a (suc n) = (apart_above a (a + 1) n (omega arith), apart_from (a + 1) n)

kinds_fit : (n : ℕ) → n ≤ 256 → AllByRecursion (λ k. k.sd < 256) (mpls_kinds n)
unfolding mpls_kinds
kinds_fit n few = fit_from 0 n (omega (arith, few))

kinds_apart : (n : ℕ) → AreApart same_kind (mpls_kinds n)
unfolding mpls_kinds
kinds_apart n = apart_from 0 n

is_sound : IsSound observer
unfolding observer sub_octets
is_sound =
    record {
      area = record { some = omega arith; few = omega arith; each = (omega arith, tt) };
      name = refl;
      system = record { long = refl; each = (omega arith, (omega arith, (omega arith, (omega arith, (omega arith, (omega arith, tt)))))) };
      prefix = record { octets_are = record { long = refl; each = (omega arith, (omega arith, (omega arith, (omega arith, tt)))) }; first = omega arith; one_router = omega arith };
      few_subs = omega arith;
      subs = tt;
      subdomains = tt;
      few_past = omega arith;
      past = tt;
      labels = tt;
      room = omega arith;
      kinds = kinds_fit 256 (omega arith);
      kinds_once = kinds_apart 256;
      rows = tt;
      triples = tt;
      bifts = tt;
      few_ends = omega arith;
      ends = tt;
      peers = tt;
      peer_macs = tt;
    }

pub observer_sound : (c : RouterConf) → c ≡ observer → IsSound c
observer_sound c same = subst IsSound (sym same) is_sound

pub kinds_more : (n : ℕ) → mpls_kinds (n + 1) ≡ mpls_kinds n ++ mpls_kind n ∷ []
unfolding mpls_kinds
kinds_more n = map-range_with_len_more mpls_kind 0 n n (omega arith)

no_ends : (c : RouterConf) → c ≡ observer → c.ends ≡ []
unfolding observer
no_ends c same = ap (λ (r : RouterConf). r.ends) same

pub made_no_ends : {E : Type 0} (made : Result RouterConf E) → IfOk made (λ c. c ≡ observer) → IfOk made (λ c. c.ends ≡ [])
made_no_ends (Ok c) same = no_ends c same
made_no_ends (Err e) same = tt
