use Rattle.std.proofs.Common.{◌%◌, ap, sym, ◌∙◌}
use Rattle.bier_forward.proofs.KeptLaws.{at-table}
use Rattle.bier_forward.proofs.routes.table_place.Goals as goal

pub returns-then-class-number-clause-table : goal.returns-then-class-number-clause-table
returns-then-class-number-clause-table c r g all =
    let k = c.index-tables-place in
    at-table r g c.args.triple c.args.class c.args.tables.now c.loop-place.place k.result c.loop-place-test.true (sym k.is) c.requires.class (sym c.is_same.ensures ∙ c.if-is_same.true) (ap (λ n. c.args.class % n) (sym c.number.ensures.value) ∙ c.if-class-number.true) all
