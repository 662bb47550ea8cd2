use Rattle.std.proofs.Common.{◌++◌, ◌∷◌, [], arith}
use Rattle.replay_text.specs.Places.{left}
use Rattle.replay_text.proofs.Walked.{written_more, left_more, front_written, on_err}
use Rattle.replay_text.proofs.positions.put_places.Goals as goal

pub positions-preserved : goal.positions-preserved
positions-preserved c =
    let done = c.positions.invariant.0 in
    let octets = c.args.octets.now in (
      done ++ c.in-Some.position ∷ [],
      written_more c.args.out.now c.args.block.now c.positions.out c.positions.block c.make_room.new.out c.make_room.new.self c.listed.new.self done c.in-Some.position c.positions.invariant.1 c.in_ok-make_room.ensures.same c.listed.ensures.text,
      left_more (left octets c.args.start.from) done (left octets c.positions.place.from) (left octets c.next_position.new.place.from) c.in-Some.position c.positions.invariant.2 c.in-Some.ensures.next,
      λ text was. c.make_room.ensures.front text (c.positions.invariant.3 text was),
      c.next_position.ensures.place,
    )

pub returns-in_err-make_room-clause-err : goal.returns-in_err-make_room-clause-err
returns-in_err-make_room-clause-err c =
    let done = c.positions.invariant.0 in
    let octets = c.args.octets.now in
    on_err c.from_residual.result (front_written c.args.out.now c.args.block.now c.positions.out c.positions.block c.make_room.new.out c.make_room.new.self done (left octets c.positions.place.from) (left octets c.args.start.from) c.positions.invariant.1 c.in_err-make_room.ensures.err c.positions.invariant.2)

pub positions-smaller : goal.positions-smaller
positions-smaller c = omega (arith, c.in-Some.ensures.on, c.next_position.ensures.place.high, c.next_position.ensures.place.few)
