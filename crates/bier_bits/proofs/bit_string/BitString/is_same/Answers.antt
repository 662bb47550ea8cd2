use Rattle.std.proofs.Common.{◌≡◌, ◌∙◌, ◌==◌, ℕ, true, List, length, ap, sym, subst}
use Rattle.std.proofs.lemmas.Bool.{true≢false}
use Rattle.wire_base.specs.model.BitSet.{difference}
use Rattle.bier_bits.proofs.SameLaws.{same_sets, none_lacks}
use Rattle.bier_bits.proofs.bit_string.BitString.is_same.Goals as goal

pub returns-then-is_empty-clause-same : goal.returns-then-is_empty-clause-same
returns-then-is_empty-clause-same g c = λ both.
    same_sets _ c.args.self.now c.args.other.now c.width.ensures.ordered c.width-2.ensures.ordered
    (sym (ap (λ (zs : List ℕ). length zs == 0) c.and_not.ensures) ∙ sym c.is_empty.ensures ∙ c.if-is_empty.true)
    (sym (ap (λ (zs : List ℕ). length zs == 0) c.and_not-then-is_empty.ensures) ∙ sym c.is_empty-then-is_empty.ensures ∙ both)

pub returns-then-is_empty-clause-differ : goal.returns-then-is_empty-clause-differ
returns-then-is_empty-clause-differ g c = λ differs same.
    let none = subst (λ (ys : List ℕ). (length (difference ys c.args.self.now) == 0) ≡ true) same (none_lacks _ c.args.self.now c.width.ensures.ordered) in
    absurd (true≢false (sym none ∙ sym (ap (λ (zs : List ℕ). length zs == 0) c.and_not-then-is_empty.ensures) ∙ sym c.is_empty-then-is_empty.ensures ∙ differs))

pub returns-else-is_empty-clause-differ : goal.returns-else-is_empty-clause-differ
returns-else-is_empty-clause-differ g c = λ differs same.
    let none = subst (λ (ys : List ℕ). (length (difference c.args.self.now ys) == 0) ≡ true) same (none_lacks _ c.args.self.now c.width.ensures.ordered) in
    absurd (true≢false (sym none ∙ sym (ap (λ (zs : List ℕ). length zs == 0) c.and_not.ensures) ∙ sym c.is_empty.ensures ∙ c.if-is_empty.false))
