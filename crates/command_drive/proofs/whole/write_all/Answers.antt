use Rattle.std.proofs.Common.{◌∙◌, arith}
use Rattle.command_drive.proofs.Written.{wrote_more}
use Rattle.command_drive.proofs.whole.write_all.Goals as goal

pub pieces-preserved : goal.pieces-preserved
pieces-preserved g c = (
  wrote_more _ _ _ c.pieces.done c.in_ok-count.count c.args.text.now c.pieces.invariant.0 c.in_ok-count.ensures.bytes,
  c.in_ok-count.ensures.cause.succeeded ∙ c.pieces.invariant.1,
  c.in_ok-count.ensures.nothing.other (omega arith) ∙ c.pieces.invariant.2,
  omega (arith, c.in_ok-count.ensures.bound),
)
