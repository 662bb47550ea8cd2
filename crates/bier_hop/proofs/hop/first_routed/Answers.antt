use Rattle.std.proofs.Common.{rules, List, ℕ, ◌∙◌, ◌*◌, ap, sym, subst}
use Rattle.std.specs.Prelude.{IfSome}
use Rattle.wire_base.specs.model.BitSet.{first_member, intersection, IsWithin}
use Rattle.bier_bits.specs.Sets.{AreApartBelow}
use Rattle.bift_table.specs.Bift.{routed_of}
use Rattle.bier_hop.proofs.NextLaws.{IsFirstRouted, first-routed}
use Rattle.bier_hop.proofs.hop.first_routed.Goals as goal
use Rattle.bier_hop.proofs.hop.first_routed.Given.{Over}

pub first_shared_from-requires : goal.first_shared_from-requires
first_shared_from-requires g c = (search rules, (c.requires.width, (c.requires.from.0, (c.requires.from.1, subst (λ l. AreApartBelow c.args.from c.args.rest.now l) (sym c.routed.ensures.value) c.requires.from.2))))

found : (g : Over) (c : goal.After-first_shared_from g) → IsFirstRouted (64 * g.row.W) (routed_of c.args.table.now) c.first_shared_from.result
found g c = first-routed (64 * g.row.W) (routed_of c.args.table.now) c.args.rest.now c.first_shared_from.result
    (subst (λ l. IsWithin 0 (64 * g.row.W) l) c.routed.ensures.value c.routed.ensures.ordered)
    (c.first_shared_from.ensures.first ∙ ap (λ (l : List ℕ). first_member (intersection c.args.rest.now l)) c.routed.ensures.value)

pub returns-clause-low : goal.returns-clause-low
returns-clause-low g c = (found g c).low

pub returns-clause-high : goal.returns-clause-high
returns-clause-high g c = (found g c).high

pub returns-clause-routed : goal.returns-clause-routed
returns-clause-routed g c = (found g c).routed

pub returns-clause-apart : goal.returns-clause-apart
returns-clause-apart g c = subst (λ l. IfSome c.first_shared_from.result (λ p. AreApartBelow p c.args.rest.now l)) c.routed.ensures.value c.first_shared_from.ensures.apart
