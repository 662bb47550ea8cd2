use Rattle.std.proofs.Common.{◌≡◌, ◌*◌, ◌-◌, length, drop}
use Rattle.wire_base.specs.model.Labels.{below, stack_at}
use Rattle.link_frame.specs.Stacks.{entries}
use Rattle.link_frame.proofs.labels.stack_of.Given as goal

-- the entries read so far, with those of the stack at the rest, are those of the stack at the start
abbrev pub invariant-entry : goal.invariant-entry
invariant-entry l = record {
  rest : l.rest ≡ drop (4 * length l.labels.items) l.bytes;
  read : below (entries l.labels.items) (stack_at (8 - length l.labels.items) l.rest) ≡ stack_at 8 l.bytes;
}

abbrev pub decreases-entry : goal.decreases-entry
decreases-entry l = 8 - length l.labels.items
