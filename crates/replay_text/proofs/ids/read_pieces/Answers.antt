use Rattle.std.proofs.Common.{◌≡◌, ◌*◌, ℕ, ap, sym, ◌∙◌, Some, None}
use Rattle.replay_text.specs.Ids.{id_of}
use Rattle.replay_text.proofs.IdLists.{ids_fail, ids_step, ids_done}
use Rattle.replay_text.proofs.ids.read_pieces.Goals as goal

pub returns-in_err-id : goal.returns-in_err-id
returns-in_err-id g c =
    let first = c.in_err-id.ensures.value in
    let bad : id_of (64 * g.row.W) first.piece ≡ None = ap (λ (n : ℕ). id_of n first.piece) (sym c.width-bound.ensures.value) ∙ first.is in
    rw c.from_residual.ensures (ids_fail (64 * g.row.W) c.pieces.set c.pieces.rest.now first.piece _ _ first.split bad c.pieces.invariant)

pub returns-in-None : goal.returns-in-None
returns-in-None g c =
    let first = c.in_ok-id.ensures.value in
    let good : id_of (64 * g.row.W) first.piece ≡ Some c.in_ok-id.id = ap (λ (n : ℕ). id_of n first.piece) (sym c.width-bound.ensures.value) ∙ first.is in
    let last = rw c.in-None.is at first.split in
    ids_done (64 * g.row.W) c.set.new.self _ (ids_step (64 * g.row.W) c.in_ok-id.id c.pieces.set c.set.new.self c.pieces.rest.now first.piece _ _ c.set.ensures last good c.pieces.invariant)

pub pieces-preserved : goal.pieces-preserved
pieces-preserved g c =
    let first = c.in_ok-id.ensures.value in
    let good : id_of (64 * g.row.W) first.piece ≡ Some c.in_ok-id.id = ap (λ (n : ℕ). id_of n first.piece) (sym c.width-bound.ensures.value) ∙ first.is in
    let more = rw c.in-Some.is at first.split in
    ids_step (64 * g.row.W) c.in_ok-id.id c.pieces.set c.set.new.self c.pieces.rest.now first.piece _ _ c.set.ensures more good c.pieces.invariant
