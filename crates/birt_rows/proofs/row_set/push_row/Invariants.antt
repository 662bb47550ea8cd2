use Rattle.std.proofs.Common.{◌≡◌, ◌++◌, ◌∷◌, [], filter, map, take}
use Rattle.birt_rows.specs.Rows.{beyond}
use Rattle.birt_rows.proofs.row_set.push_row.Given as goal

abbrev pub invariant-loop-entry : goal.invariant-loop-entry
invariant-loop-entry l = l.stored ≡ l.fn.stored ++ map (λ e. e.first) (filter (beyond l.d) (take l.entry-index l.entries)) ∷ []
