use Rattle.std.proofs.Common.{arith}
use Rattle.std.specs.Prelude.{Result, Ok, Err, OnOk}
use Rattle.command_drive.proofs.LineSteps.{kept_whole, kept_front}
use Rattle.command_drive.proofs.line_reader.unread.keep.Goals as goal

on_ok : {X E : Type 0} (P Q : Type 0) (result : Result X E) → (P → Q) → OnOk result P → OnOk result Q
on_ok P Q (Ok x) f p = f p
on_ok P Q (Err e) f p = tt

pub returns-then-part-room-clause-ok : goal.returns-then-part-room-clause-ok
returns-then-part-room-clause-ok c = on_ok _ _ c.append.result (λ grown. kept_whole c.args.line.now c.args.part.now _ _ (omega (arith, c.len-room.ensures)) c.if-part-room.true grown) c.append.ensures.ok

pub returns-else-part-room-clause-ok : goal.returns-else-part-room-clause-ok
returns-else-part-room-clause-ok c = on_ok _ _ c.append-else-part-room.result (λ grown. kept_front c.args.line.now c.args.part.now _ _ (omega (arith, c.len-room.ensures)) grown) c.append-else-part-room.ensures.ok
