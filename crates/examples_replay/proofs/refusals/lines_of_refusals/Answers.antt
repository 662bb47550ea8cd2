use Rattle.std.proofs.Common.{refl}
use Rattle.std.specs.Fmt.{digits}
use Rattle.examples_replay.proofs.refusals.lines_of_refusals.Goals as goal

pub returns-clause-hex : goal.returns-clause-hex
unfolding digits
returns-clause-hex c = refl

pub returns-clause-long : goal.returns-clause-long
unfolding digits
returns-clause-long c = refl

pub returns-clause-edge : goal.returns-clause-edge
unfolding digits
returns-clause-edge c = refl

pub returns-clause-pdu : goal.returns-clause-pdu
unfolding digits
returns-clause-pdu c = refl

pub returns-clause-ip : goal.returns-clause-ip
unfolding digits
returns-clause-ip c = refl
