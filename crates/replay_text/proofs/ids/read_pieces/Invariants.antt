use Rattle.std.proofs.Common.{◌≡◌, ◌*◌, length}
use Rattle.replay_text.specs.Pieces.{pieces}
use Rattle.replay_text.specs.Ids.{ids_after}
use Rattle.replay_text.proofs.ids.read_pieces.Given as goal

abbrev pub invariant-pieces : goal.invariant-pieces
invariant-pieces g l = ids_after (64 * g.row.W) l.set (pieces 44 l.rest) ≡ ids_after (64 * g.row.W) l.initial.set (pieces 44 l.text)

abbrev pub decreases-pieces : goal.decreases-pieces
decreases-pieces g l = length l.rest
