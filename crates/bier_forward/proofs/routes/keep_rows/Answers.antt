use Rattle.std.proofs.Common.{List, IfSome, slice_get, sym, subst}
use Rattle.std.specs.List.{AllByRecursion}
use Rattle.bier_forward.specs.declared.routes.TripleRows.{TripleRows}
use Rattle.bier_forward.specs.Kept.{HasRows, IsKeptRows}
use Rattle.bier_forward.proofs.routes.keep_rows.Goals as goal

pub returns-in-Some-clause-rows : goal.returns-in-Some-clause-rows
returns-in-Some-clause-rows c =
    let r = c.args.conf.now in
    let g = c.args.view.now.nodes in
    let all = subst (λ (ks : List TripleRows). AllByRecursion (IsKeptRows r g) ks) (sym c.as_slice.ensures.value) c.requires.kept in
    subst (λ (ks : List TripleRows). IfSome (slice_get ks c.in-Some.place) (λ k. HasRows r g c.args.triple k.rows.bits)) c.as_slice.ensures.value (c.in-Some.ensures.rows r g all)
