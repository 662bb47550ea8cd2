use Rattle.std.proofs.Common.{◌≡◌, ◌++◌, ◌-◌, true, false, IfSome, drop, length, slice_get, slice_index_or}
use Rattle.std.specs.List.{flat_map}
use Rattle.router_core.specs.Sending.{row_frames}
use Rattle.router_core.proofs.sending.push_lsps.Given as goal

-- what was appended and what follows is all; and the row at the place has the flag, where there is one
abbrev pub invariant-rows : goal.invariant-rows
invariant-rows l = record {
  done : l.out ++ flat_map (row_frames l.conf l.store.entries l.link) (drop l.place l.flood.flood.rows) ≡ l.fn.out ++ flat_map (row_frames l.conf l.store.entries l.link) l.flood.flood.rows;
  flagged : IfSome (slice_get l.flood.flood.rows l.place) (λ row. slice_index_or row.srm l.link false ≡ true);
}

abbrev pub decreases-rows : goal.decreases-rows
decreases-rows l = length l.flood.flood.rows - l.place
