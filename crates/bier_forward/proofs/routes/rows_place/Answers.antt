use Rattle.std.proofs.Common.{ap, sym, ◌∙◌}
use Rattle.wire_base.specs.model.Place.{same_triple}
use Rattle.bier_forward.specs.declared.routes.TripleRows.{TripleRows}
use Rattle.bier_forward.proofs.KeptLaws.{at-rows}
use Rattle.bier_forward.proofs.routes.rows_place.Goals as goal

pub returns-then-is_same-clause-rows : goal.returns-then-is_same-clause-rows
returns-then-is_same-clause-rows c r g all =
    let same = ap (λ (k : TripleRows). same_triple k.triple c.args.triple) c.index-rows-place.is ∙ sym c.is_same.ensures ∙ c.if-is_same.true in
    at-rows r g c.args.triple c.args.rows.now c.loop-place.place c.index-rows-place.result c.loop-place-test.true (sym c.index-rows-place.is) same all
