use Rattle.std.proofs.Common.{◌≡◌, ◌+◌, ◌*◌, ◌/◌, ◌++◌, length}
use Rattle.router_core.specs.Sending.{listing}
use Rattle.router_core.proofs.framing.append_rows.Given as goal

-- the TLVs so far and those that follow are all
abbrev pub invariant-cuts : goal.invariant-cuts
invariant-cuts l = record {
  text : l.tlvs ++ listing l.rest ≡ l.fn.tlvs ++ listing l.rows;
  long : length l.tlvs + (16 * length l.rest + 2 * ((length l.rest + 14) / 15)) ≡ length l.fn.tlvs + (16 * length l.rows + 2 * ((length l.rows + 14) / 15));
}

abbrev pub decreases-cuts : goal.decreases-cuts
decreases-cuts l = length l.rest
