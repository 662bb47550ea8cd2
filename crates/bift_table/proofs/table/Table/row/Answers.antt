use Rattle.std.proofs.Common.{◌≡◌, ◌*◌, ℕ, List, None, Option, is_some, length, arith, get_or, sym, ◌∙◌, ap}
use Rattle.std.specs.List.{slice_get}
use Rattle.std.proofs.lemmas.Bool.{ltb-true, ltb-false}
use Rattle.wire_base.specs.declared.view.First.{First}
use Rattle.wire_base.specs.model.BitSet.{intersection}
use Rattle.bift_table.specs.declared.neighbour.Neighbour.{Neighbour}
use Rattle.bift_table.specs.Bift.{router_at, mask_of, routers_of}
use Rattle.bift_table.proofs.BiftLaws.{has-routed, masks-disjoint}
use Rattle.bift_table.proofs.NeighbourLaws.{IsRow, row-none, row-past, row-some}
use Rattle.bift_table.proofs.table.Table.row.Goals as goal
use Rattle.bift_table.proofs.table.Table.row.Given.{Over}

none : (g : Over) (c : goal.After-from_residual g) → router_at c.args.self.now c.args.bp ≡ None
none g c = row-none (64 * g.row.W) c.self.inside.neighbours.items c.self.inside.numbers.items c.args.self.now c.args.bp c.from.result c.index.result.now c.self.view_is c.self.invariant.long c.requires.low c.requires.high c.from.ensures c.index.ensures c.in_err-number.was

past : (g : Over) (c : goal.After-from_residual-in_err-neighbour g) → router_at c.args.self.now c.args.bp ≡ None
past g c = row-past (64 * g.row.W) c.self.inside.neighbours.items c.self.inside.numbers.items c.args.self.now c.args.bp c.from.result c.in_ok-number.number c.index.result.now c.self.view_is c.self.invariant.long c.requires.low c.requires.high c.from.ensures c.index.ensures c.in_ok-number.was (omega (arith, ltb-false c.from-2.result (length c.deref.result.now) (sym c.in_err-neighbour.ensures.lookup.0), c.from-2.ensures, ap length c.deref.ensures.value))

found : (g : Over) (c : goal.In_ok-neighbour g) → IsRow c.self.inside.neighbours.items c.args.self.now c.args.bp c.in_ok-number.number c.in_ok-neighbour.neighbour.now
found g c = row-some (64 * g.row.W) c.self.inside.neighbours.items c.self.inside.numbers.items c.args.self.now c.args.bp c.from.result c.in_ok-number.number c.index.result.now c.in_ok-neighbour.neighbour.now c.self.view_is c.self.invariant.masks c.self.invariant.long c.requires.low c.requires.high c.from.ensures c.index.ensures c.in_ok-number.was (omega (arith, ltb-true c.from-2.result (length c.deref.result.now) (sym c.in_ok-neighbour.ensures.lookup.0), c.from-2.ensures, ap length c.deref.ensures.value))
    (c.in_ok-neighbour.ensures.lookup.1 ∙ ap (λ (l : List (Neighbour g.row.W)). get_or l c.from-2.result c.in_ok-neighbour.neighbour.now) c.deref.ensures.value ∙ ap (λ (k : ℕ). get_or c.self.inside.neighbours.items k c.in_ok-neighbour.neighbour.now) c.from-2.ensures)

pub returns-in_err-number-clause-row : goal.returns-in_err-number-clause-row
returns-in_err-number-clause-row g c = rw c.from_residual.ensures (none g c)

pub returns-in_err-number-clause-routed : goal.returns-in_err-number-clause-routed
returns-in_err-number-clause-routed g c = rw c.from_residual.ensures (sym (has-routed c.args.self.now c.args.bp ∙ ap (λ (o : Option First). is_some o) (none g c)))

pub returns-in_err-neighbour-clause-row : goal.returns-in_err-neighbour-clause-row
returns-in_err-neighbour-clause-row g c = rw c.from_residual-in_err-neighbour.ensures (past g c)

pub returns-in_err-neighbour-clause-routed : goal.returns-in_err-neighbour-clause-routed
returns-in_err-neighbour-clause-routed g c = rw c.from_residual-in_err-neighbour.ensures (sym (has-routed c.args.self.now c.args.bp ∙ ap (λ (o : Option First). is_some o) (past g c)))

pub returns-clause-row : goal.returns-clause-row
returns-clause-row g c = let r = found g c in (r.to, r.mask)

pub returns-clause-routed : goal.returns-clause-routed
returns-clause-routed g c = sym (has-routed c.args.self.now c.args.bp ∙ ap (λ (o : Option First). is_some o) (found g c).to)

pub returns-clause-number : goal.returns-clause-number
returns-clause-number g c = ap (λ (l : List First). slice_get l c.in_ok-number.number) (sym (ap routers_of c.self.view_is) ∙ sym c.self.invariant.order ∙ c.self.invariant.listed) ∙ (found g c).number

pub returns-clause-has : goal.returns-clause-has
returns-clause-has g c = (found g c).has

pub returns-clause-disjoint : goal.returns-clause-disjoint
returns-clause-disjoint g c other differs = ap (λ mask. intersection mask (mask_of c.args.self.now other)) (found g c).mask ∙ masks-disjoint c.args.self.now c.in_ok-neighbour.neighbour.now.to other differs
