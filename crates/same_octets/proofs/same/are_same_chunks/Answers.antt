use Rattle.std.proofs.Common.{◌-◌, length, arith}
use Rattle.same_octets.proofs.SameLaws.{same_more, same_whole}
use Rattle.same_octets.proofs.same.are_same_chunks.Goals as goal

pub chunks-preserved : goal.chunks-preserved
chunks-preserved c = same_more c.args.a.now c.args.b.now c.chunks.at 32 c.chunks.invariant (c.are_same_at.ensures.equal c.if-not-are_same_at.false)

pub returns-clause-equal : goal.returns-clause-equal
returns-clause-equal c = λ is. same_whole c.args.a.now c.args.b.now c.chunks.at (length c.args.a.now - 32) 32 c.requires.same (omega (arith, c.requires.long)) c.chunks-test.false c.chunks.invariant (c.are_same_at-2.ensures.equal is)
