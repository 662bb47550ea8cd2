use Rattle.std.proofs.Common.{refl}
use Rattle.pcapng_frames.proofs.WriteLaws.{no_interface, next_interface}
use Rattle.pcapng_frames.proofs.write.append_head.Goals as goal

pub loop-done-init : goal.loop-done-init
loop-done-init c = no_interface c.args.out.now c.append.new.self c.in_ok-append.ensures.ok

pub loop-done-preserved : goal.loop-done-preserved
loop-done-preserved c = next_interface c.loop-done.done _ c.args.out.now c.loop-done.out c.append-in-loop-done.new.self refl c.loop-done.invariant c.in_ok-append-2.ensures.ok
