use Rattle.std.proofs.Common.{List, ℕ, Some, ap, sym, subst, ◌∙◌}
use Rattle.std.proofs.lemmas.Result.{on_ok_weaker}
use Rattle.wire_base.specs.model.BitSet.{IsWithin}
use Rattle.wire_base.specs.model.OnFrame.{one_drop}
use Rattle.bier_forward.specs.Hops.{after}
use Rattle.bier_forward.proofs.JoinLaws.{notes}
use Rattle.bier_forward.proofs.outcome.drop_set.Goals as goal

pub returns-clause-dropped : goal.returns-clause-dropped
returns-clause-dropped g c =
    let is = ap (λ (ps : List ℕ). after c.args.effects.now (one_drop c.args.cause (Some (record { triple = c.args.triple; positions = ps })))) c.from_set-bits.ensures.positions in
    on_ok_weaker c.note.result (λ e. e ∙ notes _ _ ∙ is) c.note.ensures.ok

pub returns-clause-ordered : goal.returns-clause-ordered
returns-clause-ordered g c = subst (λ n. IsWithin 0 n c.args.set.now) (sym c.requires.bits) c.width-width.ensures.ordered
