use Rattle.std.proofs.Common.{◌≡◌, All, length, false, replicate, arith, ap, sym, subst}
use Rattle.wire_base.specs.model.Graph.{IsEdge, edges_of}
use Rattle.wire_base.specs.model.Walk.{may_enter}
use Rattle.path_tree.proofs.SettleLemmas.{IsSettling, starting, taken, turn, all-right}
use Rattle.path_tree.proofs.SkipLemmas.{first-in, first-only, chosen-all, chosen-only, chosen-each}
use Rattle.path_tree.proofs.search.search.Goals as goal

pub loop-length-init : goal.loop-length-init
loop-length-init c f reach =
    let g = c.args.nodes.now in
    let ways = edges_of c.args.nodes.now in
    let v : c.in_ok-settled.settled.items ≡ replicate (length g) false = c.in_ok-settled.ensures.items_if_clones_equal (λ y q. q) in
    subst (λ xs. IsSettling (length g) ways (may_enter g c.args.start) c.args.start f xs c.in_ok-found.found.items c.push.new.self) (sym v)
    (starting (length g) ways (may_enter g c.args.start) c.args.start f reach c.requires.within c.in_ok-found.found.items c.push.new.self c.in_ok-found.ensures.rows c.in_ok-found.ensures.each
    (first-in c.new-queue.result c.push.new.self (0, c.args.start) c.new-queue.ensures c.in_ok-push.ensures)
    (first-only c.new-queue.result c.push.new.self (0, c.args.start) c.new-queue.ensures c.in_ok-push.ensures))

pub next_waiting-requires : goal.next_waiting-requires
next_waiting-requires c =
    let i = c.loop-length.invariant c.requires.reach.0 c.requires.reach.1 in
    record { within = λ entry m. (let e = i.entries entry m in omega (arith, e.0, i.marked, ap length c.as_slice.ensures.value)) }

pub ways_on-requires : goal.ways_on-requires
ways_on-requires c =
    let near =
    taken (length c.args.nodes.now) (edges_of c.args.nodes.now) (may_enter c.args.nodes.now c.args.start) c.args.start c.requires.reach.0 c.requires.reach.1 c.loop-length.settled.items c.loop-length.found.items c.loop-length.queue (c.loop-length.invariant c.requires.reach.0 c.requires.reach.1) c.in-Some.length c.in-Some.node c.next_waiting.new.queue
    (rw c.as_slice.ensures.value at c.in-Some.ensures.some) in
    record { within = near.within }

pub relax-requires-clause-edges : goal.relax-requires-clause-edges
relax-requires-clause-edges c =
    let near =
    taken (length c.args.nodes.now) (edges_of c.args.nodes.now) (may_enter c.args.nodes.now c.args.start) c.args.start c.requires.reach.0 c.requires.reach.1 c.loop-length.settled.items c.loop-length.found.items c.loop-length.queue (c.loop-length.invariant c.requires.reach.0 c.requires.reach.1) c.in-Some.length c.in-Some.node c.next_waiting.new.queue
    (rw c.as_slice.ensures.value at c.in-Some.ensures.some) in
    let i = c.loop-length.invariant c.requires.reach.0 c.requires.reach.1 in
    let good : All (λ e. IsEdge (length c.args.nodes.now) e) (edges_of c.args.nodes.now c.in-Some.node) = c.requires.edges c.in-Some.node in
    subst (λ n. All (λ e. IsEdge n e) c.ways_on.result.now) (sym i.rows)
    (chosen-each (λ e. IsEdge (length c.args.nodes.now) e) (may_enter c.args.nodes.now c.args.start c.in-Some.node) c.ways_on.result.now (edges_of c.args.nodes.now c.in-Some.node) c.ways_on.ensures good)

pub relax-requires-clause-small : goal.relax-requires-clause-small
relax-requires-clause-small c =
    let near =
    taken (length c.args.nodes.now) (edges_of c.args.nodes.now) (may_enter c.args.nodes.now c.args.start) c.args.start c.requires.reach.0 c.requires.reach.1 c.loop-length.settled.items c.loop-length.found.items c.loop-length.queue (c.loop-length.invariant c.requires.reach.0 c.requires.reach.1) c.in-Some.length c.in-Some.node c.next_waiting.new.queue
    (rw c.as_slice.ensures.value at c.in-Some.ensures.some) in
    near.small

pub loop-length-preserved : goal.loop-length-preserved
loop-length-preserved c f reach =
    let g = c.args.nodes.now in
    let ways = edges_of c.args.nodes.now in
    let b = may_enter g c.args.start c.in-Some.node in
    turn (length g) ways (may_enter g c.args.start) c.args.start f reach c.loop-length.settled.items c.loop-length.found.items c.loop-length.queue (c.loop-length.invariant f reach) c.in-Some.length c.in-Some.node c.next_waiting.new.queue
    (rw c.as_slice.ensures.value at c.in-Some.ensures.some)
    c.ways_on.result.now
    (chosen-all b c.ways_on.result.now (ways c.in-Some.node) c.ways_on.ensures)
    (chosen-only b c.ways_on.result.now (ways c.in-Some.node) c.ways_on.ensures)
    c.relax.new.found.items c.relax.new.queue c.in_ok-relax.ensures

pub returns-clause-rows : goal.returns-clause-rows
returns-clause-rows c = (c.loop-length.invariant c.requires.reach.0 c.requires.reach.1).rows

pub returns-clause-found : goal.returns-clause-found
returns-clause-found c f reach x within =
    all-right (length c.args.nodes.now) (edges_of c.args.nodes.now) (may_enter c.args.nodes.now c.args.start) c.args.start f reach c.loop-length.settled.items c.loop-length.found.items c.loop-length.queue (c.loop-length.invariant f reach)
    (rw c.as_slice.ensures.value at c.in_default.ensures.none) x within
