use Rattle.std.proofs.Common.{◌≡◌, ℕ, true, false, take}
use Rattle.view_graph.specs.Edges.{leads_to}
use Rattle.view_graph.specs.Renewal.{Stays, has}
use Rattle.view_graph.proofs.changes.add_ends.Given as goal

abbrev pub invariant-edges : goal.invariant-edges
invariant-edges l = record {
  stays : Stays l.fn.places.items l.places.items;
  ends : (i : ℕ) → leads_to i (take l.edge-index l.edges) ≡ true → has l.places.items i ≡ false → leads_to i l.others ≡ true;
}
