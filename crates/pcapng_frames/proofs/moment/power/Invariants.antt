use Rattle.std.proofs.Common.{◌≡◌, ◌^◌}
use Rattle.pcapng_frames.proofs.moment.power.Given as goal

abbrev pub invariant-loop-done : goal.invariant-loop-done
invariant-loop-done l = l.product ≡ l.base ^ l.done
