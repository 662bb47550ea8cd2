-- The run of a grown domain keeps all that is promised of runs.
use Rattle.std.proofs.Common.{◌≡◌, ℕ, zero, suc, ◌+◌, ◌<◌, ◌≤◌, ◌^◌, List, [], ◌∷◌, length, map, refl, sym, ap, subst, ◌∙◌, arith}
use Rattle.std.specs.List.{AllByRecursion, range_with_len}
use Rattle.std.proofs.lemmas.List.{length-map}
use Rattle.wire_base.specs.declared.limits.TheConstants.{MOST_ROUTERS}
use Rattle.wire_base.specs.model.Configuration.{DomainConf, IsValid}
use Rattle.replay_text.specs.declared.event.Line.{Line}
use Rattle.command_line.specs.Form.{Form, Grow}
use Rattle.grown_domain.specs.Domain.{grown_domain, grown_routers}
use Rattle.grown_domain.specs.Links.{grown_links}
use Rattle.grown_domain.specs.Routers.{router}
use Rattle.grown_domain.specs.Schedule.{grown_lines, settling, sending}
use Rattle.grown_domain.proofs.GrownDomain.{grown_valid}
use Rattle.domain_model.specs.Run.{schedule_done}
use Rattle.domain_model.proofs.EachLaws.{each_joined, each_mapped, each_weaker}
use Rattle.command_grow.specs.Grow.{grown_run}
use Rattle.laws_replay.specs.Promises.{LineFits, KeepsPromises}

-- numbers in their order have a bound
range_below : (low count high : ℕ) → low + count ≤ high → AllByRecursion (λ k. k < high) (range_with_len low count)
range_below low zero high within = tt
range_below low (suc count) high within = (omega (arith, within), range_below (low + 1) count high (omega (arith, within)))

length-range : (low count : ℕ) → length (range_with_len low count) ≡ count
length-range low zero = refl
length-range low (suc count) = ap suc (length-range (low + 1) count)

routers_are : (n : ℕ) → length (grown_domain n).routers ≡ n
unfolding grown_domain grown_routers
routers_are n = length-map (range_with_len 0 n) (router (grown_links n) n) ∙ length-range 0 n

sending_fits : (n entropy : ℕ) → 3 ≤ n → n ≤ MOST_ROUTERS → entropy < 16 → LineFits n (sending n entropy)
sending_fits n entropy some few within = record {
  place = omega (arith, some);
  sd_fits = omega arith;
  bfr_ids = range_below 1 n (2 ^ 16) (omega (arith, few));
  lives = omega arith;
  ttl_fits = omega arith;
  entropy_fits = omega (arith, within);
  short = omega arith;
}

lines_fit : (n : ℕ) → 3 ≤ n → n ≤ MOST_ROUTERS → AllByRecursion (LineFits n) (grown_lines n)
unfolding grown_lines
lines_fit n some few =
    let sends : AllByRecursion (λ (entropy : ℕ). LineFits n (sending n entropy)) (range_with_len 0 16) =
    each_weaker (λ (entropy : ℕ). entropy < 16) (λ (entropy : ℕ). LineFits n (sending n entropy)) (λ entropy within. sending_fits n entropy some few within) (range_with_len 0 16) (range_below 0 16 16 (omega arith)) in
    (tt, each_joined (LineFits n) (map (sending n) (range_with_len 0 16)) (settling n ∷ []) (each_mapped (LineFits n) (sending n) (range_with_len 0 16) sends) (tt, tt))

pub grown_keeps : ((d : DomainConf) (lines : List Line) → IsValid d → AllByRecursion (LineFits (length d.routers)) lines → KeepsPromises d (schedule_done d lines).run)
    → (n : ℕ) → 3 ≤ n → n ≤ MOST_ROUTERS → KeepsPromises (grown_domain n) (grown_run n).run
grown_keeps law n some few = law (grown_domain n) (grown_lines n) (grown_valid n some few) (subst (λ (count : ℕ). AllByRecursion (LineFits count) (grown_lines n)) (sym (routers_are n)) (lines_fit n some few))

-- where the number is known by two equations
pub grown_from : ((d : DomainConf) (lines : List Line) → IsValid d → AllByRecursion (LineFits (length d.routers)) lines → KeepsPromises d (schedule_done d lines).run)
    → (form : Form) (m n : ℕ) → form ≡ Grow m → 3 ≤ m → m ≤ MOST_ROUTERS → form ≡ Grow n → KeepsPromises (grown_domain n) (grown_run n).run
grown_from law form m n is_m some few is_n =
    let same : m ≡ n = number (sym is_m ∙ is_n) in
    subst (λ (k : ℕ). KeepsPromises (grown_domain k) (grown_run k).run) same (grown_keeps law m some few)
  where
    number : {a b : ℕ} → Grow a ≡ Grow b → a ≡ b
    number e = cc
