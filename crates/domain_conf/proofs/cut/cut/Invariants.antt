use Rattle.std.proofs.Common.{◌≡◌, eqb, false, take, All}
use Rattle.domain_conf.proofs.cut.cut.Given as goal

-- none of the octets so far is the one to stop at
abbrev pub invariant-loop-i : goal.invariant-loop-i
invariant-loop-i l = All (λ x. eqb x l.stop ≡ false) (take l.i l.text)
