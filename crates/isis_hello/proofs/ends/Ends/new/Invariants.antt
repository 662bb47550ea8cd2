use Rattle.std.proofs.Common.{◌≡◌, take}
use Rattle.isis_hello.specs.Circuits.{fresh_circuits}
use Rattle.isis_hello.proofs.ends.Ends.new.Given as goal

abbrev pub invariant-loop-conf : goal.invariant-loop-conf
invariant-loop-conf l = l.routers.items ≡ fresh_circuits (take l.conf-index l.confs)
