use Rattle.std.proofs.Common.{◌≡◌, ◌≤◌, ◌+◌, ◌-◌, ◌++◌, map, take, length, vec_len, vec_capacity}
use Rattle.frame_list.specs.Spans.{moved}
use Rattle.frame_list.proofs.spans.put_behind.Given as goal

-- the first spans stand behind the others
abbrev pub invariant-spans : goal.invariant-spans
invariant-spans g l = record {
  spans : l.list.items ≡ l.fn.list.items ++ map (moved l.fn.note l.fn.start) (take l.i l.fn.others);
  room : vec_len l.list + (length l.fn.others - l.i) ≤ vec_capacity l.list;
}
