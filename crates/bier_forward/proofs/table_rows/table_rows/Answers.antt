use Rattle.bier_forward.proofs.TableLaws.{rows-without-node}
use Rattle.bier_forward.proofs.table_rows.table_rows.Goals as goal

pub returns-in-None-clause-rows : goal.returns-in-None-clause-rows
returns-in-None-clause-rows c =
    let none = rw c.as_slice.ensures.nodes at c.in-None.ensures in
    rows-without-node c.args.conf.now c.args.view.now.nodes c.args.triple c.bits.result c.no_rows.result.bits none c.no_rows.ensures
