use Rattle.std.proofs.Common.{◌<◌, length, sym, subst}
use Rattle.wire_base.specs.model.Walk.{dist}
use Rattle.path_tree.specs.Ways.{AreDistsFrom}
use Rattle.laws_route.proofs.WalkLemmas.{edges-good}
use Rattle.path_tree.proofs.ReachLemmas.{reach-from, dists-from, walks-from}
use Rattle.path_tree.proofs.distances.distances_from.Goals as goal

pub search-requires-clause-edges : goal.search-requires-clause-edges
search-requires-clause-edges c x = edges-good c.as_slice.result.now c.as_slice.ensures.graph x

pub search-requires-clause-reach : goal.search-requires-clause-reach
search-requires-clause-reach c =
    let g = c.as_slice.result.now in
    let node : c.args.u < length g = rw c.as_slice.ensures.nodes c.requires.node in
    (λ x. dist g c.args.u x, reach-from g c.as_slice.ensures.graph c.args.u node)

pub returns-clause-walks : goal.returns-clause-walks
returns-clause-walks c =
    let g = c.as_slice.result.now in
    let node : c.args.u < length g = rw c.as_slice.ensures.nodes c.requires.node in
    let found = dists-from g c.as_slice.ensures.graph c.args.u node c.in_ok-found.found.items c.in_ok-found.ensures.rows c.in_ok-found.ensures.found in
    rw (← c.as_slice.ensures.nodes)
    (λ d within. walks-from g c.args.u c.from_vec.result node (subst (AreDistsFrom g c.args.u) (sym c.from_vec.ensures) found) d within)

pub returns-clause-dists : goal.returns-clause-dists
returns-clause-dists c =
    let g = c.as_slice.result.now in
    let node : c.args.u < length g = rw c.as_slice.ensures.nodes c.requires.node in
    let found = dists-from g c.as_slice.ensures.graph c.args.u node c.in_ok-found.found.items c.in_ok-found.ensures.rows c.in_ok-found.ensures.found in
    rw (← c.as_slice.ensures.nodes) (subst (AreDistsFrom g c.args.u) (sym c.from_vec.ensures) found)
