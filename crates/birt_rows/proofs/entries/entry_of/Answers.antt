use Rattle.std.proofs.Common.{true, ◌∙◌}
use Rattle.std.proofs.Math.ListN.{length-set}
use Rattle.birt_rows.proofs.RowLemmas.{entry-leads}
use Rattle.birt_rows.proofs.entries.entry_of.Goals as goal

pub returns : goal.returns
returns c =
    record {
      names = c.first_of-first.ensures;
      long = length-set c.in_ok-beyond.beyond.items c.args.node true ∙ c.in_ok-beyond.ensures.rows;
      leads = entry-leads c.args.nodes.now c.args.u c.args.node c.args.none.now c.in_ok-beyond.beyond.items c.requires.stops c.in_ok-beyond.ensures.rows c.requires.within c.in_ok-beyond.ensures.each;
    }
