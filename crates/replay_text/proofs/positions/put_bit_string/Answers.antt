use Rattle.std.proofs.Common.{◌++◌, [], sym, ap}
use Rattle.wire_base.specs.model.BitSet.{set_of, first_member}
use Rattle.replay_text.specs.Places.{left}
use Rattle.replay_text.proofs.PlaceLaws.{all_left}
use Rattle.replay_text.proofs.Walked.{none_written, set_written, front_of_set}
use Rattle.replay_text.proofs.positions.put_bit_string.Goals as goal

pub returns-in_default-clause-ok : goal.returns-in_default-clause-ok
returns-in_default-clause-ok c =
    let octets = c.args.octets.now in
    let none = all_left octets c.new-place.result.from [] c.new-place.ensures.start c.in_default.ensures.next in
    none_written c.args.out.now c.args.block.now c.make_room.new.out c.make_room.new.self c.push.new.self (set_of octets) (sym (ap first_member none)) c.in_ok-make_room.ensures.same c.push.ensures.text

pub returns-clause-ok : goal.returns-clause-ok
returns-clause-ok c =
    let octets = c.args.octets.now in
    let more = left octets c.next_position.new.place.from in
    let first = all_left octets c.new-place.result.from _ c.new-place.ensures.start c.in-Some.ensures.next in
    set_written c.put_places.result c.args.out.now c.args.block.now c.make_room.new.out c.make_room.new.self c.few.new.self c.put_places.new.out c.put_places.new.block (set_of octets) more c.in-Some.first first c.in_ok-make_room.ensures.same c.few.ensures.text c.put_places.ensures.ok

pub returns-clause-err : goal.returns-clause-err
returns-clause-err c =
    let octets = c.args.octets.now in
    let more = left octets c.next_position.new.place.from in
    let first = all_left octets c.new-place.result.from _ c.new-place.ensures.start c.in-Some.ensures.next in
    front_of_set c.put_places.result c.args.out.now c.args.block.now c.make_room.new.out c.make_room.new.self c.few.new.self (c.put_places.new.out ++ c.put_places.new.block) (set_of octets) more c.in-Some.first first c.in_ok-make_room.ensures.same c.few.ensures.text c.put_places.ensures.err
