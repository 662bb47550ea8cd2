use Rattle.std.proofs.Common.{List, ◌++◌, ap, ◌∙◌}
use Rattle.wire_base.specs.declared.triple.Summary.{Summary}
use Rattle.wire_base.specs.model.Tlv.{rows_of}
use Rattle.isis_flood.proofs.ListLaws.{listed_few}
use Rattle.isis_flood.proofs.entries.listed.Goals as goal

pub returns-clause-few : goal.returns-clause-few
returns-clause-few c = listed_few c.append_listed.new.rows c.args.tlvs.now (c.in_ok-append_listed.ensures.ok ∙ ap (λ (rows : List Summary). rows ++ rows_of c.args.tlvs.now) c.new-rows.ensures)
