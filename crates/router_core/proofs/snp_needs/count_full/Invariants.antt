use Rattle.std.proofs.Common.{◌≡◌, ◌≤◌, [], take}
use Rattle.std.specs.List.{fold}
use Rattle.router_core.specs.SnpNeeds.{looked}
use Rattle.router_core.proofs.snp_needs.count_full.Given as goal

abbrev pub invariant-loop-s : goal.invariant-loop-s
invariant-loop-s l = record {
  so : l.look ≡ fold (looked l.store.entries) (record { added = []; full = 0 }) (take l.s-index l.rows);
  few : l.look.full ≤ l.s-index;
}
