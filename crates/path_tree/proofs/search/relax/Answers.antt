use Rattle.std.proofs.Common.{take, get_or, sym, subst, arith}
use Rattle.std.proofs.lemmas.List.{take_more}
use Rattle.wire_base.specs.declared.view.ViewEdge.{ViewEdge}
use Rattle.path_tree.specs.Search.{Relaxed}
use Rattle.path_tree.proofs.RelaxLemmas.{relaxed-none, relaxed-more}
use Rattle.path_tree.proofs.search.relax.Goals as goal

none : ViewEdge
none = record { to = 0; metric = 0 }

pub loop-edge-init : goal.loop-edge-init
loop-edge-init c = relaxed-none c.args.reached c.args.found.now.items c.args.queue.now

pub improve-requires-clause-within : goal.improve-requires-clause-within
unfolding none
improve-requires-clause-within c =
    let good = c.requires.edges c.loop-edge.edge-index none c.loop-edge-test.true in
    omega (arith, good.names, c.loop-edge.invariant.rows)

pub improve-requires-clause-small : goal.improve-requires-clause-small
unfolding none
improve-requires-clause-small c =
    let good = c.requires.edges c.loop-edge.edge-index none c.loop-edge-test.true in
    omega (arith, good.small, c.requires.small)

pub loop-edge-preserved : goal.loop-edge-preserved
unfolding none
loop-edge-preserved c =
    let e : ViewEdge = get_or c.args.edges.now c.loop-edge.edge-index none in
    let good = c.requires.edges c.loop-edge.edge-index none c.loop-edge-test.true in
    let i = relaxed-more (take c.loop-edge.edge-index c.args.edges.now) c.args.reached c.args.found.now.items c.args.queue.now c.loop-edge.found.items c.loop-edge.queue c.loop-edge.invariant e good.names c.improve.new.found.items c.improve.new.queue c.in_ok-improve.ensures.found c.in_ok-improve.ensures.queue in
    subst (λ es. Relaxed es c.args.reached c.args.found.now.items c.args.queue.now c.improve.new.found.items c.improve.new.queue) (sym (take_more c.args.edges.now c.loop-edge.edge-index none c.loop-edge-test.true)) i
