use Rattle.std.proofs.Common.{◌≡◌, ◌<◌, ◌+◌, ◌-◌, ◌*◌, ◌∙◌, List, [], ap, sym, arith, length, option_map, slice_index_or}
use Rattle.std.proofs.lemmas.List.{get_or_default}
use Rattle.std.specs.Vec.{vec_len}
use Rattle.bift_table.specs.declared.neighbour.Neighbour.{Neighbour}
use Rattle.bift_table.specs.Bift.{table_of}
use Rattle.bift_table.specs.Neighbours.{union_from}
use Rattle.bift_table.proofs.BiftLaws.{length-table, router_at-stored, stored-within}
use Rattle.bift_table.proofs.NeighbourLaws.{IsDrawn, drawn-start, drawn-next, drawn-all, drawn-masks, drawn-numbers, drawn-order, routed-all}
use Rattle.bift_table.proofs.build.draw.Given as given
use Rattle.bift_table.proofs.build.draw.Goals as goal

pub loop-place-init : goal.loop-place-init
loop-place-init g c = rw (c.new.ensures.items, c.in_ok-with_capacity.ensures.items) (drawn-start (table_of c.args.lists.now c.args.class))

pub loop-place-preserved : goal.loop-place-preserved
loop-place-preserved g c =
    let before = c.loop-place.drawn in
    let after = c.push.new.self in
    let lists = c.args.lists.now in
    let stored = c.stored-stored.result.now in
    let rest = length lists - length stored in
    let lt : c.loop-place.place < length stored = omega (arith, c.loop-place-test.true) in
    let row = c.at.result.now in
    let at : row ≡ slice_index_or stored c.loop-place.place row = c.at.ensures ∙ get_or_default stored c.loop-place.place [] row lt in
    let to = c.member_at.ensures ∙ router_at-stored lists stored c.args.class rest c.loop-place.place (c.loop-place.place + 1) row c.stored-stored.ensures lt at (omega arith) in
    drawn-next (table_of lists c.args.class) c.loop-place.place (c.loop-place.place + 1) before.neighbours.items after.neighbours.items before.numbers.items after.numbers.items (option_map (λ f. f.now) c.member_at.result)
    (omega arith) (omega (arith, lt, stored-within lists stored rest c.stored-stored.ensures, length-table lists c.args.class)) to c.in_ok-push.ensures.neighbours c.in_ok-push.ensures.numbers c.loop-place.invariant

all : (g : given.Over) (c : goal.After-routed_by-routed g) → IsDrawn (table_of c.args.lists.now c.args.class) (64 * g.row.W) c.loop-place.drawn.neighbours.items c.resize.new.self.items
all g c =
    let lists = c.args.lists.now in
    let stored = c.stored-stored.result.now in
    let long : vec_len c.loop-place.drawn.numbers ≡ length c.loop-place.drawn.numbers.items = omega (arith, c.loop-place.drawn.numbers.ok) in
    let filled = rw long at c.in_ok-resize.ensures.items in
    drawn-all lists stored c.args.class (length lists - length stored) c.loop-place.place (64 * g.row.W) c.loop-place.drawn.neighbours.items c.loop-place.drawn.numbers.items c.resize.new.self.items
    c.stored-stored.ensures (omega (arith, c.loop-place-test.false, c.loop-place.auto.place-end)) (sym c.requires.lists) filled c.loop-place.invariant

pub returns-clause-masks : goal.returns-clause-masks
returns-clause-masks g c = drawn-masks c.args.lists.now c.args.class (64 * g.row.W) c.loop-place.drawn.neighbours.items (sym c.requires.lists) (all g c).masks

pub returns-clause-numbers : goal.returns-clause-numbers
returns-clause-numbers g c = drawn-numbers c.args.lists.now c.args.class (64 * g.row.W) c.loop-place.drawn.neighbours.items c.resize.new.self.items (sym c.requires.lists) (all g c).numbers_are

pub returns-clause-routers : goal.returns-clause-routers
returns-clause-routers g c = drawn-order c.args.lists.now c.args.class (64 * g.row.W) c.loop-place.drawn.neighbours.items (sym c.requires.lists) (all g c).order

pub returns-clause-routed : goal.returns-clause-routed
returns-clause-routed g c =
    let table = table_of c.args.lists.now c.args.class in
    let d = all g c in
    c.routed_by-routed.ensures ∙ ap (λ (l : List (Neighbour g.row.W)). union_from [] l) c.as_slice.ensures.value
    ∙ routed-all table (64 * g.row.W) c.loop-place.drawn.neighbours.items (omega (arith, length-table c.args.lists.now c.args.class, c.requires.lists)) (drawn-masks c.args.lists.now c.args.class (64 * g.row.W) c.loop-place.drawn.neighbours.items (sym c.requires.lists) d.masks) d.known
