use Rattle.std.proofs.Common.{arith}
use Rattle.link_frame.proofs.Stacks.{found_from, only_from, whole_from}
use Rattle.link_frame.proofs.labels.read_stack.Goals as goal

pub returns-clause-found : goal.returns-clause-found
returns-clause-found c = found_from c.args.bytes.now c.stack_of.result (λ k. omega (arith, c.type_inv.bytes k)) c.stack_of.ensures.exact

pub returns-clause-only : goal.returns-clause-only
returns-clause-only c = only_from c.args.bytes.now c.stack_of.result c.stack_of.ensures.exact

pub returns-clause-whole : goal.returns-clause-whole
returns-clause-whole c = whole_from c.args.bytes.now c.stack_of.result (λ k. omega (arith, c.type_inv.bytes k)) c.stack_of.ensures.exact
