use Rattle.std.proofs.Common.{◌∙◌, ◌++◌, ◌∷◌, [], List, sym, ap, arith}
use Rattle.isis_hello.specs.declared.hello.Hello.{Hello}
use Rattle.isis_hello.proofs.MadeLemmas.{one_more}
use Rattle.isis_hello.proofs.hellos.Queues.new.Goals as goal

pub loop-end-preserved : goal.loop-end-preserved
loop-end-preserved c =
    c.in_ok-push.ensures.items ∙ ap (λ (q : List Hello). c.loop-end.queues.items ++ q ∷ []) c.new.ensures
    ∙ ap (λ (qs : List (List Hello)). qs ++ [] ∷ []) c.loop-end.invariant ∙ sym (one_more [] c.args.ends.now c.loop-end._end-index (omega arith))
