use Rattle.std.proofs.Common.{◌≡◌, ◌<◌, ℕ, Bool, true, false, None, Option, List, All, length, get_or, slice_index_or, sym, subst, ◌∙◌, ap, arith}
use Rattle.std.proofs.lemmas.List.{take_all, get_or_default}
use Rattle.wire_base.specs.declared.view.ViewEdge.{ViewEdge}
use Rattle.wire_base.specs.declared.view.ViewNode.{ViewNode}
use Rattle.wire_base.specs.model.Choice.{is_length}
use Rattle.wire_base.specs.model.Graph.{IsEdge, IsGraph, edges_of}
use Rattle.wire_base.specs.model.Walk.{dist}
use Rattle.laws_route.proofs.WalkLemmas.{edges-good}
use Rattle.bier_tunnel.specs.Steps.{IsLedOn}
use Rattle.bier_tunnel.proofs.StepLemmas.{one-led, one-passed, no-steps, steps-are}
use Rattle.bier_tunnel.proofs.first_steps.first_steps.Goals as goal
use Rattle.bier_tunnel.proofs.first_steps.first_steps.Goals.{then-is_shortest+in_ok-steps-2, else-is_shortest}

pub loop-edge-init : goal.loop-edge-init
loop-edge-init c = no-steps c.args.nodes.now c.requires.graph c.args.u c.requires.from c.in_ok-steps.steps.items c.in_ok-steps.ensures.rows c.in_ok-steps.ensures.each

pub returns-clause-each : goal.returns-clause-each
returns-clause-each c =
    steps-are c.args.nodes.now c.requires.graph c.args.u c.requires.from _ c.loop-edge.steps.items
    (take_all c.loop-edge.edge-index c.edges_of-edge-items.result.now c.loop-edge-test.false ∙ c.edges_of-edge-items.ensures)
    c.loop-edge.invariant

-- the edge that is looked at leads to a node
within : (g : List ViewNode) → IsGraph g → (u : ℕ) (es : List ViewEdge) → es ≡ edges_of g u → (i : ℕ) (e : ViewEdge) → i < length es → (get_or es i e).to < length g
within g good u es all i e lt = (subst (λ (l : List ViewEdge). All (λ f. IsEdge (length g) f) l) (sym all) (edges-good g good u) i e lt).names

pub is_shortest-requires : goal.is_shortest-requires
is_shortest-requires c =
    let inside = within c.args.nodes.now c.requires.graph c.args.u c.edges_of-edge-items.result.now c.edges_of-edge-items.ensures c.loop-edge.edge-index (record { to = 0; metric = 0 }) c.loop-edge-test.true in
    record { to = omega (arith, inside, c.requires.dists.rows) }

-- the test of that edge, by the distance
tested : (o : Option ℕ) (d : Option ℕ) (m : ℕ) (b r : Bool) → r ≡ is_length o m → o ≡ d → r ≡ b → is_length d m ≡ b
tested o d m b r is same q = ap (λ (x : Option ℕ). is_length x m) (sym same) ∙ sym is ∙ q

pub loop-edge-preserved : goal.loop-edge-preserved
loop-edge-preserved c =
    let g = c.args.nodes.now in
    let es = c.edges_of-edge-items.result.now in
    let i = c.loop-edge.edge-index in
    let none : ViewEdge = record { to = 0; metric = 0 } in
    let e = get_or es i none in
    let is : e ≡ get_or es i e = get_or_default es i none e c.loop-edge-test.true in
    let inside = within g c.requires.graph c.args.u es c.edges_of-edge-items.ensures i none c.loop-edge-test.true in
    let known = c.requires.dists.each e.to inside in
    elim c.if-is_shortest.branch [
      | then-is_shortest+in_ok-steps-2 w ↦
          let more : IsLedOn g c.args.u e.to c.loop-edge.steps.items w.in_ok-steps-2.steps.items = rw w.as_slice.ensures.value at w.in_ok-steps-2.ensures in
          rw w.steps-is
          (one-led g c.requires.graph c.args.u c.requires.from es c.edges_of-edge-items.ensures i e c.loop-edge-test.true is c.loop-edge.steps.items c.loop-edge.invariant w.in_ok-steps-2.steps.items
          (tested (slice_index_or c.args.dist.now e.to None) (dist g c.args.u e.to) e.metric true c.is_shortest.result c.is_shortest.ensures known w.if-is_shortest.true) more)
      | else-is_shortest w ↦
          rw w.steps-is
          (one-passed g c.requires.graph c.args.u c.requires.from es c.edges_of-edge-items.ensures i e c.loop-edge-test.true is c.loop-edge.steps.items c.loop-edge.invariant
          (tested (slice_index_or c.args.dist.now e.to None) (dist g c.args.u e.to) e.metric false c.is_shortest.result c.is_shortest.ensures known w.if-is_shortest.false))
    ]
