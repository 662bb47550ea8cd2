use Rattle.std.proofs.Common.{◌≡◌, ◌∙◌, refl, sym, Some}
use Rattle.replay_text.specs.Arguments.{number_to}
use Rattle.replay_text.proofs.EachOnce.{listed_first, listed_step}
use Rattle.replay_text.proofs.listed.read_pieces.Goals as goal

pub pieces-init : goal.pieces-init
pieces-init c = (λ k. rw (c.new-ids.ensures, c.new-seen.ensures.empty) refl, rw c.new-ids.ensures (listed_first _))

pub pieces-preserved : goal.pieces-preserved
pieces-preserved c =
    let good : number_to 65535 c.cut.result.0.now ≡ Some c.in_ok-id.id = sym c.number_to.ensures.value ∙ c.in_ok-id.ensures.ok_part in
    let last = rw c.in-Some.is at c.cut.ensures.pieces in (
      c.in_ok-add_new.ensures.same,
      listed_step 65535 c.in_ok-id.id c.pieces.ids c.add_new.new.ids c.pieces.rest.now c.cut.result.0.now _ _ c.in_ok-add_new.ensures.added last good c.pieces.invariant.1,
    )
