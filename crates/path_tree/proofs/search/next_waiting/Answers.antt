use Rattle.std.proofs.Common.{true, false, ◌∙◌}
use Rattle.path_tree.proofs.SkipLemmas.{within-same, popped-in, popped-shorter, skipped-more, takes-next}
use Rattle.path_tree.proofs.search.next_waiting.Goals as goal

pub bounds-settled-node : goal.bounds-settled-node
bounds-settled-node c =
    c.requires.within (c.in-Some.length, c.in-Some.node) (popped-in c.args.settled.now c.args.queue.now c.loop-length.queue (c.in-Some.length, c.in-Some.node) c.pop.new.self c.loop-length.invariant c.in-Some.ensures.some)

pub returns-then-not-settled-node-clause-some : goal.returns-then-not-settled-node-clause-some
returns-then-not-settled-node-clause-some c =
    takes-next c.args.settled.now c.args.queue.now c.loop-length.queue (c.in-Some.length, c.in-Some.node) c.pop.new.self c.loop-length.invariant c.in-Some.ensures.some (within-same c.args.settled.now c.in-Some.node true false (c.requires.within (c.in-Some.length, c.in-Some.node) (popped-in c.args.settled.now c.args.queue.now c.loop-length.queue (c.in-Some.length, c.in-Some.node) c.pop.new.self c.loop-length.invariant c.in-Some.ensures.some)) ∙ c.if-not-settled-node.true) c.in-Some.ensures.least

pub loop-length-smaller : goal.loop-length-smaller
loop-length-smaller c =
    popped-shorter c.args.settled.now c.args.queue.now c.loop-length.queue (c.in-Some.length, c.in-Some.node) c.pop.new.self c.loop-length.invariant c.in-Some.ensures.some

pub loop-length-preserved : goal.loop-length-preserved
loop-length-preserved c =
    skipped-more c.args.settled.now c.args.queue.now c.loop-length.queue (c.in-Some.length, c.in-Some.node) c.pop.new.self c.loop-length.invariant c.in-Some.ensures.some (within-same c.args.settled.now c.in-Some.node true false (c.requires.within (c.in-Some.length, c.in-Some.node) (popped-in c.args.settled.now c.args.queue.now c.loop-length.queue (c.in-Some.length, c.in-Some.node) c.pop.new.self c.loop-length.invariant c.in-Some.ensures.some)) ∙ c.if-not-settled-node.false)
