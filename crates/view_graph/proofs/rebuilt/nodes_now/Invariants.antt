use Rattle.std.proofs.Common.{◌≡◌, map, take}
use Rattle.std.specs.List.{AllByRecursion}
use Rattle.view_graph.specs.Renewal.{IsMade, said_now}
use Rattle.view_graph.proofs.rebuilt.nodes_now.Given as goal

abbrev pub invariant-places : goal.invariant-places
invariant-places l = record {
  made : AllByRecursion (IsMade (said_now l.conf l.up l.store.entries) l.nodes) l.anew.items;
  places : map (λ n. n.place) l.anew.items ≡ take l.at l.places;
}
