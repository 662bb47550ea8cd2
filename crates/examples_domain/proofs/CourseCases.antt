-- Copies that are on their course, and copies that aren't.
use Rattle.std.proofs.Common.{◌≡◌, inl, inr, ℕ, ◌+◌, ◌<◌, ◌≤◌, length, Some, refl, sym, subst, ◌∙◌, arith}
use Rattle.std.proofs.lemmas.Option.{same_Some}
use Rattle.laws_course.specs.Course.{IsOnCourse}
use Rattle.laws_course.proofs.TunnelLaws.{small_fit}
use Rattle.examples_domain.specs.Branch.{branch, branch_a, branch_view, for_c}
use Rattle.wire_base.specs.model.Walk.{dist}
use Rattle.wire_base.specs.model.Graph.{owner, covers, node_bift}
use Rattle.wire_base.specs.model.Tight.{IsTight, tight_from, next_step}
use Rattle.wire_base.specs.model.Supporting.{firsts}
use Rattle.wire_base.specs.model.Choice.{candidates, choice, is_direct}
use Rattle.wire_base.specs.model.HopCount.{hops, tunnel_links}
use Rattle.wire_base.specs.model.OnFrame.{outer_ttl}

nodes : length branch_view ≡ 4
nodes = refl

-- four nodes have no long tunnel
few : length branch_view ≤ outer_ttl
few = omega (arith, nodes)

pub on_enters : IsOnCourse branch.routers branch_a branch_view 0 4 0 2 (for_c 255)
unfolding dist owner covers node_bift tight_from next_step firsts candidates choice is_direct hops tunnel_links
on_enters = record {
  last = 3;
  owns = refl;
  step = record { edge = record { to = 2; metric = 10 }; leaves = (1, omega arith, refl); enters = refl; passes = inr refl; rest = 10; from_there = refl; whole = refl };
  before = 0;
  reached = refl;
  free = inl refl;
  passes = inl refl;
  on = record { before = 10; after = 0; to = refl; on = refl; whole = refl };
  times = 0;
  path = refl;
  covers = record { count = 0; is = refl; enough = omega arith; tunnels = small_fit branch_view _ _ few };
  links = (1, refl, omega arith);
}

pub on_goes_on : IsOnCourse branch.routers branch_a branch_view 0 4 2 3 (for_c 254)
unfolding dist owner covers node_bift tight_from next_step firsts candidates choice is_direct hops tunnel_links
on_goes_on = record {
  last = 3;
  owns = refl;
  step = record { edge = record { to = 3; metric = 10 }; leaves = (1, omega arith, refl); enters = refl; passes = inl refl; rest = 0; from_there = refl; whole = refl };
  before = 10;
  reached = refl;
  free = inr refl;
  passes = inl refl;
  on = record { before = 0; after = 0; to = refl; on = refl; whole = refl };
  times = 0;
  path = refl;
  covers = record { count = 0; is = refl; enough = omega arith; tunnels = small_fit branch_view _ _ few };
  links = (0, refl, omega arith);
}

-- a step away from the owner isn't tight
away : (u v far near : ℕ) → dist branch_view u 3 ≡ Some near → dist branch_view v 3 ≡ Some far → near < far → IsTight branch_view 3 u v → ⊥
away u v far near p q less t =
    let rest = same_Some t.rest far (sym t.from_there ∙ q) in
    let whole = same_Some (t.edge.metric + t.rest) near (sym t.whole ∙ p) in
    omega (arith, rest, whole, less)

owner_is : owner branch_view 0 4 ≡ Some 3
unfolding dist owner covers node_bift tight_from next_step firsts candidates choice is_direct hops tunnel_links
owner_is = refl

distances : (dist branch_view 0 3 ≡ Some 20) × (dist branch_view 1 3 ≡ Some 30) × (dist branch_view 2 3 ≡ Some 10)
unfolding dist owner covers node_bift tight_from next_step firsts candidates choice is_direct hops tunnel_links
distances = (refl, refl, refl)

pub off_aside : IsOnCourse branch.routers branch_a branch_view 0 4 0 1 (for_c 255) → ⊥
off_aside i =
    let last : i.last ≡ 3 = same_Some i.last 3 (sym i.owns ∙ owner_is) in
    away 0 1 30 20 distances.0 distances.1 (omega arith) (subst (λ (d : ℕ). IsTight branch_view d 0 1) last i.step)

pub off_back : IsOnCourse branch.routers branch_a branch_view 0 4 2 0 (for_c 254) → ⊥
off_back i =
    let last : i.last ≡ 3 = same_Some i.last 3 (sym i.owns ∙ owner_is) in
    away 2 0 20 10 distances.2 distances.0 (omega arith) (subst (λ (d : ℕ). IsTight branch_view d 2 0) last i.step)

links_left : tunnel_links branch_view 3 2 ≡ Some 1
unfolding dist owner covers node_bift tight_from next_step firsts candidates choice is_direct hops tunnel_links
links_left = refl

pub off_spent : IsOnCourse branch.routers branch_a branch_view 0 4 0 2 (for_c 1) → ⊥
off_spent i = let one = same_Some i.links.0 1 (sym i.links.1 ∙ links_left) in let few = i.links.2 in omega (arith, one, few)
