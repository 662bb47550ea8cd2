use Rattle.std.proofs.Common.{◌-◌, length}
use Rattle.frames_in_flight.proofs.sent.+send_from.Given as goal

abbrev pub decreases-send_from : goal.decreases-send_from
decreases-send_from l = length l.sent.now - l.place
