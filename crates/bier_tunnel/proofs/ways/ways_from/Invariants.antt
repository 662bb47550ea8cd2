use Rattle.std.proofs.Common.{◌≡◌, ◌++◌, None, drop, slice_index_or}
use Rattle.bier_tunnel.specs.Ways.{ways_from}
use Rattle.bier_tunnel.proofs.ways.ways_from.Given as goal

-- the ways so far, and those to the nodes from here on, are all
abbrev pub invariant-loop-place : goal.invariant-loop-place
invariant-loop-place l =
    l.ways ++ ways_from l.ends l.nodes (λ x. slice_index_or l.steps x None) l.place (drop l.place l.nodes)
    ≡ ways_from l.ends l.nodes (λ x. slice_index_or l.steps x None) 0 l.nodes
