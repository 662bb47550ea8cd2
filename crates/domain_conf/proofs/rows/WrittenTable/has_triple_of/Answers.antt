use Rattle.std.proofs.Common.{List, ap, ◌∙◌}
use Rattle.std.specs.List.{list_any}
use Rattle.wire_base.specs.declared.conf.TableRow.{TableRow}
use Rattle.wire_base.specs.model.Configuration.{same_row}
use Rattle.domain_conf.specs.TableIndex.{has_key, key_of}
use Rattle.domain_conf.specs.declared.rows.TripleKey.{TripleKey}
use Rattle.domain_conf.proofs.rows.WrittenTable.has_triple_of.Goals as goal

pub returns : goal.returns
returns c =
    c.contains.ensures
    ∙ (ap (λ (key : TripleKey). has_key c.self.inside.triples key) c.key_of.ensures
    ∙ (c.self.invariant.triples_are (key_of c.args.row.triple)
    ∙ ap (λ (rows : List TableRow). list_any (same_row c.args.row) rows) c.self.view_is))
