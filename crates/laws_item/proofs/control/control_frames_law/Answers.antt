use Rattle.laws_item.proofs.ControlFrames.{isis_carries, sendable_reads, control_taken}
use Rattle.laws_item.proofs.control.control_frames_law.Goals as goal

pub returns-clause-read : goal.returns-clause-read
returns-clause-read c = sendable_reads

pub returns-clause-carried : goal.returns-clause-carried
returns-clause-carried c = isis_carries

pub returns-clause-taken : goal.returns-clause-taken
returns-clause-taken c = control_taken
