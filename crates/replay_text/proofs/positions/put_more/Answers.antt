use Rattle.std.proofs.Common.{◌++◌, ◌∷◌, []}
use Rattle.replay_text.proofs.Walked.{written_more, left_more, front_written, on_err}
use Rattle.replay_text.proofs.positions.put_more.Goals as goal

pub positions-preserved : goal.positions-preserved
positions-preserved g c =
    let done = c.positions.invariant.0 in (
      done ++ c.in-Some.position ∷ [],
      written_more c.args.out.now c.args.block.now c.positions.out c.positions.block c.make_room.new.out c.make_room.new.self c.listed.new.self done c.in-Some.position c.positions.invariant.1 c.in_ok-make_room.ensures.same c.listed.ensures.text,
      left_more c.args.set.now done c.positions.set c.take_first.new.self c.in-Some.position c.positions.invariant.2 c.in-Some.ensures.taken,
      λ text was. c.make_room.ensures.front text (c.positions.invariant.3 text was),
    )

pub returns-in_err-make_room-clause-err : goal.returns-in_err-make_room-clause-err
returns-in_err-make_room-clause-err g c =
    let done = c.positions.invariant.0 in
    on_err c.from_residual.result (front_written c.args.out.now c.args.block.now c.positions.out c.positions.block c.make_room.new.out c.make_room.new.self done c.positions.set c.args.set.now c.positions.invariant.1 c.in_err-make_room.ensures.err c.positions.invariant.2)
