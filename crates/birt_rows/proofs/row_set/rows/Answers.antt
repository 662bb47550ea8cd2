use Rattle.std.proofs.Common.{ℕ, Bool, ◌≡◌, ◌<◌, ◌+◌, ◌-◌, List, Option, slice_index_or, length, arith, sym, ap, subst, ◌∙◌}
use Rattle.std.specs.List.{AllByRecursion}
use Rattle.wire_base.specs.declared.view.First.{First}
use Rattle.wire_base.specs.model.Graph.{IsGraph, covers_at, owner}
use Rattle.wire_base.specs.model.Place.{bits_of, id_at}
use Rattle.laws_route.proofs.OwnerLemmas.{owner-is}
use Rattle.birt_rows.specs.declared.owner.Found.TheVariants.{Nobody}
use Rattle.birt_rows.specs.Owner.{owner_among}
use Rattle.birt_rows.specs.Rows.{row_of_owner}
use Rattle.birt_rows.proofs.OwnerLemmas.{owner-among}
use Rattle.birt_rows.specs.Descent.{ComesNearer}
use Rattle.birt_rows.proofs.DescentLaws.{row-comes}
use Rattle.birt_rows.proofs.RowLemmas.{row-is}
use Rattle.birt_rows.proofs.row_set.rows.Goals as goal

pub returns-clause-rows : goal.returns-clause-rows
returns-clause-rows c p above within =
    let g = c.as_slice-nodes.result.now in
    let t = c.args.t in
    let c-at : ℕ → Bool = covers_at c.args.conf.now.kinds c.args.conf.now.table t g in
    let covers = c.in_ok-covers.covers.items in
    let seen = c.in_ok-seen.seen.items in
    let node : c.args.u < length g = rw c.as_slice-nodes.ensures.nodes c.requires.node in
    let marked = rw c.as_slice-2.ensures.value at c.in_ok-seen.ensures.each in
    let are = rw (c.as_slice-ends.ensures, c.as_slice-4.ensures.value, c.as_slice-5.ensures.value) at c.in_ok-found.ensures in
    let low : p - 1 < bits_of t.bsl = omega arith in
    let here = rw (c.as_slice-6.ensures.value, c.as_slice-7.ensures.value, c.as_slice-8.ensures.value) at (c.in_ok-bits.ensures.rows (p - 1) low) in
    let back : (p - 1) + 1 ≡ p = omega arith in
    let who = owner-among g t.sd (id_at t p) (slice_index_or c.in_ok-owners.owners.items (p - 1) Nobody) (c.in_ok-owners.ensures.each p above within) in
    rw (← c.as_slice-nodes.ensures.nodes)
    (here
    ∙ ap (λ (n : ℕ). row_of_owner c.in_ok-found.found.items covers c.args.u (owner_among (slice_index_or c.in_ok-owners.owners.items (p - 1) Nobody) (id_at t n))) back
    ∙ ap (λ (o : Option ℕ). row_of_owner c.in_ok-found.found.items covers c.args.u o) who
    ∙ row-is c.args.conf.now.ends g c.as_slice-nodes.ensures.graph c-at c.args.u node seen covers c.in_ok-covers.ensures.each marked c.in_ok-found.found.items are (owner g t.sd (id_at t p)) (λ d q. (owner-is g t.sd (id_at t p) d q).within))

pub returns-clause-descent : goal.returns-clause-descent
returns-clause-descent c p above within =
    let graph : IsGraph c.args.v.now.nodes = subst IsGraph c.as_slice-nodes.ensures.nodes c.as_slice-nodes.ensures.graph in
    subst (λ (row : List First). AllByRecursion (ComesNearer c.args.conf.now c.args.v.now.nodes c.args.t c.args.u p) row) (sym (returns-clause-rows c p above within))
    (row-comes c.args.conf.now c.args.v.now.nodes graph c.args.t c.args.u c.requires.node p)
