use Rattle.std.proofs.Common.{◌∙◌, List, sym, ap, take}
use Rattle.isis_hello.specs.declared.hello.Hello.{Hello}
use Rattle.isis_hello.specs.Circuits.{hello_count}
use Rattle.isis_hello.proofs.MadeLemmas.{none_counted}
use Rattle.isis_hello.proofs.hellos.Hellos.new.Goals as goal

pub invariant_of-result : goal.invariant_of-result
invariant_of-result c = sym (ap (λ (f : List (List (List Hello))). hello_count f) c.loop-conf.invariant ∙ none_counted (take c.loop-conf.conf-index c.args.confs.now))
