use Rattle.std.proofs.Common.{rules, ◌∙◌, ap, sym, subst}
use Rattle.wire_base.specs.model.BitSet.{difference}
use Rattle.bier_bits.specs.Sets.{AreApartBelow}
use Rattle.bier_hop.proofs.NextLaws.{difference-shared, apart-mask}
use Rattle.bier_hop.proofs.hop.copy_toward.Goals as goal

pub cut_from_into-requires : goal.cut_from_into-requires
cut_from_into-requires g c = (search rules, (c.requires.width, (c.requires.low, (c.requires.high, subst (λ l. AreApartBelow c.args.bp c.args.rest.now l) (sym c.in_ok-row.ensures.row.1) (apart-mask c.args.context.now.table.now c.in_ok-row.row.to.now c.args.bp c.args.rest.now c.requires.apart)))))

pub returns-clause-rest : goal.returns-clause-rest
returns-clause-rest g c = c.cut_from_into.ensures.left ∙ sym (difference-shared c.args.rest.now c.in_ok-row.row.mask.now) ∙ ap (difference c.args.rest.now) (sym c.cut_from_into.ensures.taken)
