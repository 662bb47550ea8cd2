use Rattle.std.proofs.Common.{arith}
use Rattle.link_frame.proofs.Frames.{found_from, only_from}
use Rattle.link_frame.proofs.frame.classify.Goals as goal

pub returns-clause-found : goal.returns-clause-found
returns-clause-found c = found_from c.args.frame.now c.class_of.result (λ k. omega (arith, c.type_inv.frame k)) c.class_of.ensures.exact

pub returns-clause-only : goal.returns-clause-only
returns-clause-only c = only_from c.args.frame.now c.class_of.result c.class_of.ensures.exact
