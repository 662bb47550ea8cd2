use Rattle.std.proofs.Common.{◌≡◌, ◌≤◌, length}
use Rattle.std.specs.Prelude.{count_by}
use Rattle.wire_base.specs.model.BierInfo.{parts_of, no_parts}
use Rattle.bier_subtlv.specs.Views.{parts_view}
use Rattle.bier_subtlv.proofs.reader.all_parts.Given as goal

abbrev pub invariant-parts : goal.invariant-parts
invariant-parts l = record { same : parts_of (parts_view l.parts) l.walk ≡ parts_of no_parts l.fn.bytes; room : length l.parts.ranges.items ≤ count_by (λ b. b) l.parts.seen }

abbrev pub decreases-parts : goal.decreases-parts
decreases-parts l = length l.walk
