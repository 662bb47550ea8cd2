use Rattle.std.proofs.Common.{◌≡◌, false, List, ◌++◌, take}
use Rattle.view_graph.specs.Owners.{AreAlone, AreOwners, Prefix, prefixes_at}
use Rattle.view_graph.proofs.owners.add_prefixes.Given as goal

abbrev pub invariant-subs : goal.invariant-subs
invariant-subs l = record {
  owners : (xs : List Prefix) → AreOwners xs l.fn.owners → AreOwners (xs ++ prefixes_at l.system (take l.sub-index l.subs)) l.owners;
  alone : l.is_any ≡ false → AreAlone l.fn.owners → AreAlone l.owners;
}
