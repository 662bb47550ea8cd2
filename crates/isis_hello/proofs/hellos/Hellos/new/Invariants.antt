use Rattle.std.proofs.Common.{◌≡◌, take}
use Rattle.isis_hello.specs.Circuits.{no_hellos}
use Rattle.isis_hello.proofs.hellos.Hellos.new.Given as goal

abbrev pub invariant-loop-conf : goal.invariant-loop-conf
invariant-loop-conf l = l.routers.items ≡ no_hellos (take l.conf-index l.confs)
