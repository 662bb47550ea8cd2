use Rattle.std.proofs.Common.{◌≡◌, take}
use Rattle.frame_list.proofs.list.FrameList.gather.Given as goal

-- the first frames stand in the new list
abbrev pub invariant-frames : goal.invariant-frames
invariant-frames g l = l.left ≡ take l.i l.fn.self
