use Rattle.std.proofs.Common.{ℕ, eqb, ap}
use Rattle.std.proofs.lemmas.Bool.{eqb-true}
use Rattle.same_octets.proofs.SameLaws.{alike_chunk, same_chunk}
use Rattle.same_octets.proofs.same.are_same_at.Goals as goal

pub returns-clause-equal : goal.returns-clause-equal
returns-clause-equal c = λ is. same_chunk c.args.a.now c.args.b.now c.args.at c.requires.a c.requires.b (eqb-true _ 0 is)

pub returns-clause-only : goal.returns-clause-only
returns-clause-only c = λ same. ap (λ (n : ℕ). eqb n 0) (alike_chunk c.args.a.now c.args.b.now c.args.at c.requires.a c.requires.b same)
