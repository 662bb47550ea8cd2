use Rattle.std.proofs.Common.{◌≡◌, length}
use Rattle.pcapng_frames.specs.Times.{resolution_of}
use Rattle.pcapng_frames.proofs.interface.resolution_in.Given as goal

abbrev pub invariant-options : goal.invariant-options
invariant-options l = resolution_of l.order l.rest ≡ resolution_of l.order l.fn.options

abbrev pub decreases-options : goal.decreases-options
decreases-options l = length l.rest
