use Rattle.std.proofs.Common.{◌-◌, suc, vec_len}
use Rattle.isis_pdu.proofs.known.note_at.Given as goal

abbrev pub decreases-places : goal.decreases-places
decreases-places l = suc l.place - vec_len l.last
