use Rattle.std.proofs.Common.{length}
use Rattle.domain_handshake.proofs.Steps.{follows_refused, follows_so, is_full, is_room}
use Rattle.domain_handshake.proofs.hand_world.HandWorld.follow.Goals as goal

pub returns-then-not-has_room-clause-does : goal.returns-then-not-has_room-clause-does
returns-then-not-has_room-clause-does c =
    follows_refused c.args.line c.args.self.now _ c.args.out.changes c.args.texts.now
    (is_full c.has_room.result c.args.self.now.replay.world.events c.len.result (length c.args.out.changes) c.has_room.ensures c.len.ensures c.if-not-has_room.true)

pub returns-clause-does : goal.returns-clause-does
returns-clause-does c =
    follows_so c.args.line c.args.self.now _ c.args.out.changes c.args.texts.now c.do_changes.new.self c.write.new.texts c.do_changes.new.texts c.do_changes.result
    (is_room c.has_room.result c.args.self.now.replay.world.events c.len.result (length c.args.out.changes) c.has_room.ensures c.len.ensures c.if-not-has_room.false)
    c.as_slice.result.now c.as_slice-2.result.now c.as_slice.ensures c.as_slice-2.ensures
    c.in_ok-write.ensures.report c.in_ok-write.ensures.frames c.do_changes.ensures.does
