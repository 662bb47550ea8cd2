use Rattle.std.proofs.Common.{◌++◌, ◌∙◌}
use Rattle.bier_bits.proofs.Places.{from-zero}
use Rattle.replay_text.specs.Ids.{ids_text}
use Rattle.replay_text.proofs.Walked.{set_written, front_empty, front_of_set, on_err}
use Rattle.replay_text.proofs.positions.put_set.Goals as goal

pub returns-clause-ok : goal.returns-clause-ok
returns-clause-ok g c =
    let set = c.args.set.now in
    let more = c.take_first.new.self in
    set_written c.put_more.result c.args.out.now c.args.block.now c.make_room.new.out c.make_room.new.self c.few.new.self c.put_more.new.out c.put_more.new.block set more c.in-Some.first (from-zero set ∙ c.in-Some.ensures.taken) c.in_ok-make_room.ensures.same c.few.ensures.text c.put_more.ensures.ok

pub returns-clause-front : goal.returns-clause-front
returns-clause-front g c = λ text was. c.put_more.ensures.front text (c.make_room.ensures.front text was)

pub returns-in_err-make_room-clause-err : goal.returns-in_err-make_room-clause-err
returns-in_err-make_room-clause-err g c =
    on_err c.from_residual.result (front_empty c.args.out.now c.args.block.now c.make_room.new.out c.make_room.new.self (ids_text c.args.set.now) c.in_err-make_room.ensures.err)

pub returns-clause-err : goal.returns-clause-err
returns-clause-err g c =
    let set = c.args.set.now in
    let more = c.take_first.new.self in
    front_of_set c.put_more.result c.args.out.now c.args.block.now c.make_room.new.out c.make_room.new.self c.few.new.self (c.put_more.new.out ++ c.put_more.new.block) set more c.in-Some.first (from-zero set ∙ c.in-Some.ensures.taken) c.in_ok-make_room.ensures.same c.few.ensures.text c.put_more.ensures.err
