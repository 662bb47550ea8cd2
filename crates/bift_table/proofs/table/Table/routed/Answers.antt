use Rattle.std.proofs.Common.{sym, ◌∙◌, ap, subst, ◌*◌}
use Rattle.wire_base.specs.model.BitSet.{has_member, IsWithin}
use Rattle.bift_table.specs.Bift.{routed_of}
use Rattle.bift_table.specs.Neighbours.{table_in}
use Rattle.bift_table.proofs.BiftLaws.{routed-union, within-routed}
use Rattle.bift_table.proofs.NeighbourLaws.{length-in}
use Rattle.bift_table.proofs.table.Table.routed.Goals as goal

pub returns-clause-ordered : goal.returns-clause-ordered
returns-clause-ordered g c =
    let size = 64 * g.row.W in
    let ns = c.self.inside.neighbours.items in
    let numbers = c.self.inside.numbers.items in
    subst (λ positions. IsWithin 0 size positions) (sym c.self.invariant.routed) (within-routed (table_in ns numbers) size (length-in ns numbers ∙ c.self.invariant.long))

pub returns-clause-union : goal.returns-clause-union
returns-clause-union g c p =
    let is = c.self.invariant.routed ∙ ap routed_of c.self.view_is in
    let u = routed-union c.args.self.now p in
    (λ q. u.0 (sym (ap (has_member p) is) ∙ q), λ x. ap (has_member p) is ∙ u.1 x)
