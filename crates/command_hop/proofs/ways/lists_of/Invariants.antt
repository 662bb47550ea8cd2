use Rattle.std.proofs.Common.{◌≡◌, ◌+◌, ◌<◌, ◌≤◌, ℕ, [], length}
use Rattle.std.specs.Prelude.{slice_index_or}
use Rattle.command_hop.specs.Ways.{IsListed}
use Rattle.command_hop.proofs.ways.lists_of.Given as goal

abbrev pub invariant-positions : goal.invariant-positions
invariant-positions l = record {
  few : length l.names ≤ l.q;
  count : length l.lists ≡ l.q;
  listed : (k : ℕ) → k < l.q → IsListed l.rows l.names (k + 1) (slice_index_or l.lists k []);
}
