-- The premises of what is carried once are met by a run in which three egresses deliver, one of them over a tunnel.
use Rattle.std.proofs.Common.{◌≡◌, inl, inr, ℕ, ◌≤◌, true, List, [], ◌∷◌, length, map, slice_get, fold, refl, sym, ap, ◌∙◌, arith}
use Rattle.std.specs.List.{AllByRecursion}
use Rattle.std.proofs.lemmas.Bool.{leb-true}
use Rattle.wire_base.specs.declared.view.ViewNode.{ViewNode}
use Rattle.wire_base.specs.model.Control.{Control}
use Rattle.wire_base.specs.model.Hop.{has}
use Rattle.wire_base.specs.model.OnFrame.{outer_ttl}
use Rattle.wire_base.specs.model.View.{control_view}
use Rattle.replay_text.specs.declared.event.Event.TheVariants.{Take}
use Rattle.domain_model.specs.World.{WorldState}
use Rattle.domain_model.proofs.EachLaws.{each_got}
use Rattle.laws_ledger.specs.Runs.{AreAllowed, unlined}
use Rattle.laws_ledger.proofs.RunLaws.{nothing_done}
use Rattle.laws_course.specs.Course.{own_node, IsCovered, HasAgreed, IsSteady, IsCarried}
use Rattle.laws_course.proofs.TunnelLaws.{small_fit}
use Rattle.examples_domain.specs.Branch.{branch_a, branch_b, branch_p, branch_c, branch, rest, at_rest, branch_view, begun, the_injection, enters, taken}
use Rattle.examples_domain.proofs.BranchLaws.{rest_true}
use Rattle.domain_model.specs.Run.{goes_on}
use Rattle.examples_domain.proofs.OnLiterals.{views_on_literals, hops_on_literals, runs_on_literals}

-- ---- the view

abbrev ingress : Control
ingress = rest branch_a

view_a : control_view (rest branch_a) ≡ branch_view
unfolding views_on_literals hops_on_literals runs_on_literals
view_a = refl

view_b : control_view (rest branch_b) ≡ branch_view
unfolding views_on_literals hops_on_literals runs_on_literals
view_b = refl

view_p : control_view (rest branch_p) ≡ branch_view
unfolding views_on_literals hops_on_literals runs_on_literals
view_p = refl

view_c : control_view (rest branch_c) ≡ branch_view
unfolding views_on_literals hops_on_literals runs_on_literals
view_c = refl

views_same : AllByRecursion (λ (c : Control). control_view c ≡ control_view ingress) (map rest branch.routers)
views_same = (refl, (view_b ∙ sym view_a, (view_p ∙ sym view_a, (view_c ∙ sym view_a, tt))))

-- where no router's LSDB changed, all agree
agrees : (w : WorldState) → w.routers ≡ map rest branch.routers → HasAgreed w 0 (control_view ingress)
agrees w same = record {
  router = ingress;
  there = ap (λ (cs : List Control). slice_get cs 0) same;
  view = refl;
  agreed = λ b n c at reached. each_got (λ (d : Control). control_view d ≡ control_view ingress) (map rest branch.routers) b c views_same (ap (λ (cs : List Control). slice_get cs b) (sym same) ∙ at);
}

-- ---- the run

-- no event changes an LSDB
stay_1 : (goes_on begun enters).world.routers ≡ map rest branch.routers
unfolding views_on_literals hops_on_literals runs_on_literals
stay_1 = refl

stay_2 : (fold goes_on (goes_on begun enters) ((2, Take 0 1 0) ∷ [])).world.routers ≡ map rest branch.routers
unfolding views_on_literals hops_on_literals runs_on_literals
stay_2 = refl

stay_3 : (fold goes_on (goes_on begun enters) ((2, Take 0 1 0) ∷ (3, Take 0 2 0) ∷ [])).world.routers ≡ map rest branch.routers
unfolding views_on_literals hops_on_literals runs_on_literals
stay_3 = refl

stay_4 : (fold goes_on (goes_on begun enters) taken).world.routers ≡ map rest branch.routers
unfolding views_on_literals hops_on_literals runs_on_literals
stay_4 = refl

steady : IsSteady (goes_on begun enters) 0 (control_view ingress) 1 taken
steady = (
  agrees (goes_on begun enters).world stay_1,
  refl,
  (
    agrees (fold goes_on (goes_on begun enters) ((2, Take 0 1 0) ∷ [])).world stay_2,
    refl,
    (agrees (fold goes_on (goes_on begun enters) ((2, Take 0 1 0) ∷ (3, Take 0 2 0) ∷ [])).world stay_3, refl, agrees (fold goes_on (goes_on begun enters) taken).world stay_4),
  ),
)

allowed : AreAllowed at_rest (unlined (enters ∷ taken))
unfolding views_on_literals hops_on_literals runs_on_literals
allowed = (
  record { place = omega arith; sd_fits = omega arith; bfr_ids = (omega arith, (omega arith, (omega arith, tt))); lives = omega arith; ttl_fits = omega arith; entropy_fits = omega arith; short = leb-true _ _ refl },
  refl,
  ((omega arith, omega arith), refl, ((omega arith, omega arith), refl, ((omega arith, omega arith), refl, tt))),
)

few : length (control_view ingress) ≤ outer_ttl
few = let four = ap (λ (g : List ViewNode). length g) view_a in omega (arith, four)

covered_own : IsCovered branch_a (control_view ingress) (own_node ingress) the_injection 1
unfolding views_on_literals hops_on_literals runs_on_literals
covered_own = record { reachable = inl refl; covers = record { count = 0; is = refl; enough = omega arith; tunnels = small_fit (control_view ingress) _ (own_node ingress) few } }

covered_b : IsCovered branch_a (control_view ingress) (own_node ingress) the_injection 2
unfolding views_on_literals hops_on_literals runs_on_literals
covered_b = record { reachable = inr (1, refl); covers = record { count = 1; is = refl; enough = omega arith; tunnels = small_fit (control_view ingress) _ (own_node ingress) few } }

covered_c : IsCovered branch_a (control_view ingress) (own_node ingress) the_injection 4
unfolding views_on_literals hops_on_literals runs_on_literals
covered_c = record { reachable = inr (3, refl); covers = record { count = 1; is = refl; enough = omega arith; tunnels = small_fit (control_view ingress) _ (own_node ingress) few } }

pub carried : (k : ℕ) → has the_injection.ids k ≡ true → IsCovered branch_a (control_view ingress) (own_node ingress) the_injection k → IsCarried begun enters taken ingress 1 k the_injection
carried k named covered = record {
  truth = rest_true;
  accounts = nothing_done at_rest branch.routers refl refl;
  allowed = allowed;
  enters = refl;
  names = named;
  ingress = refl;
  covered = covered;
  steady = steady;
}

pub carried_own : IsCarried begun enters taken ingress 1 1 the_injection
carried_own = carried 1 refl covered_own

pub carried_b : IsCarried begun enters taken ingress 1 2 the_injection
carried_b = carried 2 refl covered_b

pub carried_c : IsCarried begun enters taken ingress 1 4 the_injection
carried_c = carried 4 refl covered_c
