-- In a run of the pair from its start all that a packet's arrival rests on holds.
use Rattle.std.proofs.Common.{◌≡◌, ◌≤◌, inl, inr, Some, false, List, length, slice_get, fold, refl, sym, ap, ◌∙◌, arith}
use Rattle.std.specs.List.{AllByRecursion}
use Rattle.wire_base.specs.model.Control.{Control}
use Rattle.wire_base.specs.model.OnFrame.{outer_ttl}
use Rattle.wire_base.specs.model.View.{control_view}
use Rattle.examples_model.specs.Domains.{pair}
use Rattle.domain_model.specs.World.{WorldState}
use Rattle.domain_model.proofs.EachLaws.{each_got}
use Rattle.replay_text.specs.declared.event.Event.TheVariants.{Take}
use Rattle.laws_course.specs.Course.{HasAgreed, IsSteady, loses_copy, own_node}
use Rattle.laws_course.proofs.TunnelLaws.{small_fit}
use Rattle.laws_replay.specs.Once.{IsUndisturbed}
use Rattle.examples_replay.specs.Arrival.{settled_by, enters, taken, ingress, the_injection}
use Rattle.domain_model.specs.Run.{goes_on, run_of}
use Rattle.examples_replay.proofs.OnLiterals.{views_on_literals, hops_on_literals, floods_on_literals, runs_on_literals}

-- ---- views

views_same : AllByRecursion (λ (c : Control). control_view c ≡ control_view ingress) (run_of pair settled_by).world.routers
unfolding views_on_literals hops_on_literals floods_on_literals runs_on_literals
views_same = (refl, (refl, tt))

ingress_there : slice_get (run_of pair settled_by).world.routers 0 ≡ Some ingress
unfolding views_on_literals hops_on_literals floods_on_literals runs_on_literals
ingress_there = refl

-- where no router's LSDB changed, all agree
agrees : (w : WorldState) → w.routers ≡ (run_of pair settled_by).world.routers → HasAgreed w 0 (control_view ingress)
agrees w same = record {
  router = ingress;
  there = ap (λ (cs : List Control). slice_get cs 0) same ∙ ingress_there;
  view = refl;
  agreed = λ b n c at reached. each_got (λ (d : Control). control_view d ≡ control_view ingress) (run_of pair settled_by).world.routers b c views_same (ap (λ (cs : List Control). slice_get cs b) (sym same) ∙ at);
}

-- no event after them changes an LSDB
stay_1 : (goes_on (run_of pair settled_by) enters).world.routers ≡ (run_of pair settled_by).world.routers
unfolding views_on_literals hops_on_literals floods_on_literals runs_on_literals
stay_1 = refl

stay_2 : (fold goes_on (goes_on (run_of pair settled_by) enters) taken).world.routers ≡ (run_of pair settled_by).world.routers
unfolding views_on_literals hops_on_literals floods_on_literals runs_on_literals
stay_2 = refl

none_lost : loses_copy (goes_on (run_of pair settled_by) enters).world 1 (Take 0 1 0) ≡ false
none_lost = refl

steady : IsSteady (goes_on (run_of pair settled_by) enters) 0 (control_view ingress) 1 taken
steady = (agrees (goes_on (run_of pair settled_by) enters).world stay_1, none_lost, agrees (fold goes_on (goes_on (run_of pair settled_by) enters) taken).world stay_2)

nodes : length (control_view ingress) ≡ 2
unfolding views_on_literals hops_on_literals floods_on_literals runs_on_literals
nodes = refl

-- two nodes have no long tunnel
few : length (control_view ingress) ≤ outer_ttl
few = omega (arith, nodes)

pub undisturbed_b : IsUndisturbed pair settled_by enters taken ingress 1 2 the_injection
unfolding views_on_literals hops_on_literals floods_on_literals runs_on_literals
undisturbed_b = record {
  enters = refl;
  names = refl;
  ingress = refl;
  reachable = inr (1, refl);
  covers = record { count = 1; is = refl; enough = omega arith; tunnels = small_fit (control_view ingress) _ (own_node ingress) few };
  steady = steady;
}

pub undisturbed_a : IsUndisturbed pair settled_by enters taken ingress 1 1 the_injection
unfolding views_on_literals hops_on_literals floods_on_literals runs_on_literals
undisturbed_a = record {
  enters = refl;
  names = refl;
  ingress = refl;
  reachable = inl refl;
  covers = record { count = 0; is = refl; enough = omega arith; tunnels = small_fit (control_view ingress) _ (own_node ingress) few };
  steady = steady;
}
