use Rattle.std.proofs.Common.{List, ap, ◌∙◌}
use Rattle.wire_base.specs.model.View.{Claim, with_known}
use Rattle.view_graph.specs.Places.{place_before}
use Rattle.view_graph.proofs.ListLaws.{inserted}
use Rattle.view_graph.proofs.claims.claims_of.Goals as goal

pub returns : goal.returns
returns c =
    c.in_ok-insert.ensures.items
    ∙ inserted c.args.conf.now c.args.up.now c.args.store.now.entries c.in_ok-claims.claims.items c.in_ok-own.own c.in_ok-own-2.own c.place_of-place.result c.in_ok-claims.ensures c.in_ok-own.ensures
    (c.in_ok-own-2.ensures ∙ ap (λ k. with_known k c.in_ok-own.own) c.as_slice.ensures)
    (c.place_of-place.ensures.place ∙ ap (λ (l : List Claim). place_before c.own.inside.system l) c.as_slice-2.ensures.value ∙ ap (λ (x : Claim). place_before x.system c.in_ok-claims.claims.items) c.own.view_is)
