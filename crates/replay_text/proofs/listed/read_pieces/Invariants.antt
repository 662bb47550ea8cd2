use Rattle.std.proofs.Common.{◌≡◌, ℕ, length}
use Rattle.std.specs.Prelude.{option_map}
use Rattle.std.specs.Ordering.{nat_cmp}
use Rattle.std.specs.BTreeSet.{contains}
use Rattle.wire_base.specs.model.Hop.{distinct, has}
use Rattle.replay_text.specs.Pieces.{pieces}
use Rattle.replay_text.specs.Arguments.{numbers_to}
use Rattle.replay_text.proofs.EachOnce.{listed_after}
use Rattle.replay_text.proofs.listed.read_pieces.Given as goal

abbrev pub invariant-pieces : goal.invariant-pieces
invariant-pieces l =
    ((k : ℕ) → contains nat_cmp l.seen k ≡ has l.ids k)
    × (option_map (listed_after l.ids) (numbers_to 65535 (pieces 44 l.rest)) ≡ option_map distinct (numbers_to 65535 (pieces 44 l.text)))

abbrev pub decreases-pieces : goal.decreases-pieces
decreases-pieces l = length l.rest
