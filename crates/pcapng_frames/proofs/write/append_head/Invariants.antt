use Rattle.std.proofs.Common.{◌≡◌, ◌++◌}
use Rattle.pcapng_frames.specs.Written.{written_section, written_interfaces}
use Rattle.pcapng_frames.proofs.write.append_head.Given as goal

abbrev pub invariant-loop-done : goal.invariant-loop-done
invariant-loop-done l = l.out ≡ l.fn.out ++ (written_section ++ written_interfaces l.done)
