use Rattle.std.proofs.Common.{◌++◌, ◌∙◌, ap, List, ℕ}
use Rattle.std.specs.Fmt.{decimal}
use Rattle.wire_base.specs.model.BitSet.{set_of}
use Rattle.wire_base.specs.model.Place.{bits_of}
use Rattle.bier_head.specs.Views.{header_in}
use Rattle.replay_text.specs.Ids.{ids_text}
use Rattle.command_headers.specs.Sight as sight
use Rattle.command_headers.proofs.Lines.{all_appended_if, line_put}
use Rattle.command_headers.proofs.line.push_seen.Goals as goal

pub returns : goal.returns
returns c =
    let h = header_in c.args.bytes.now c.args.header.now in
    let written = c.in_ok-put_bit_string.ensures.ok ∙ ap (λ (l : List ℕ). c.args.out.now ++ (c.put_front.new.line ++ ids_text (set_of l))) c.bit_string.ensures in
    let whole = all_appended_if c.make_room_for.result c.make_room_for.new.out c.make_room_for.new.self c.make_room.new.out c.push.new.self c.make_room_for.ensures.same c.make_room_for.ensures.room in
    line_put c.make_room_for.result c.args.out.now c.put_bit_string.new.out c.put_front.new.line c.put_bit_string.new.block c.make_room.new.out c.make_room.new.self c.push.new.self c.make_room_for.new.out
    (decimal c.args.number) (sight.kind_text c.args.kind) (sight.three_text h.bift h.ttl (bits_of h.bsl)) (sight.three_text h.entropy h.proto h.bfir) (ids_text h.positions)
    c.put_front.ensures written c.in_ok-make_room.ensures.same c.push.ensures.text whole
