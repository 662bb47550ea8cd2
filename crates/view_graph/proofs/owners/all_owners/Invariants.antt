use Rattle.std.proofs.Common.{◌≡◌, false, take}
use Rattle.view_graph.specs.Owners.{AreAlone, AreOwners, prefixes_of}
use Rattle.view_graph.proofs.owners.all_owners.Given as goal

abbrev pub invariant-claims : goal.invariant-claims
invariant-claims l = record {
  owners : AreOwners (prefixes_of (take l.claim-index l.claims)) l.owners;
  alone : l.is_any ≡ false → AreAlone l.owners;
}
