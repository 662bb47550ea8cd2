use Rattle.std.proofs.Common.{◌∙◌, ◌++◌, ◌∷◌, [], List, sym, ap, arith}
use Rattle.isis_hello.specs.declared.adjacency.Circuit.{Circuit}
use Rattle.isis_hello.specs.Circuits.{fresh}
use Rattle.isis_hello.proofs.MadeLemmas.{one_more}
use Rattle.live_stream.proofs.adjacencies.Adjacencies.new.Goals as goal

pub loop-end-preserved : goal.loop-end-preserved
loop-end-preserved c =
    c.in_ok-push.ensures.items
    ∙ ap (λ (xs : List Circuit). xs ++ fresh ∷ []) c.loop-end.invariant ∙ sym (one_more fresh c.args.ends.now c.loop-end._end-index (omega arith))
