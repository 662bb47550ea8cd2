use Rattle.std.proofs.Common.{◌-◌, ◌≤◌, length}
use Rattle.lsp_store.specs.Places.{place_in}
use Rattle.lsp_store.proofs.places.place_of.Given as goal

-- the place lies between both ends
abbrev pub invariant-halves : goal.invariant-halves
invariant-halves g l = record {
  low : l.low ≤ place_in (g.T.LspIds.ids l.items) l.id;
  high : place_in (g.T.LspIds.ids l.items) l.id ≤ l.high;
  within : l.high ≤ length (g.T.LspIds.ids l.items);
}

abbrev pub decreases-halves : goal.decreases-halves
decreases-halves g l = l.high - l.low
