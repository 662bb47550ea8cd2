use Rattle.std.proofs.Common.{Some, sym, ◌∙◌}
use Rattle.bier_hop.specs.declared.out.Out.TheVariants.{Dropped}
use Rattle.bier_hop.proofs.NextLaws.{all-left, drop-none, drop-some}
use Rattle.bier_hop.proofs.hop.drop_all.Goals as goal

pub returns-then-is_empty-clause-drop : goal.returns-then-is_empty-clause-drop
returns-then-is_empty-clause-drop g c = drop-none c.args.rest.now c.args.why (sym c.is_empty.ensures ∙ c.if-is_empty.true)

pub returns-clause-drop : goal.returns-clause-drop
returns-clause-drop g c = drop-some c.args.rest.now c.swap.new.y c.args.why (sym c.is_empty.ensures ∙ c.if-is_empty.false) c.swap.ensures.y_after

pub returns-clause-rest : goal.returns-clause-rest
returns-clause-rest g c = all-left {w = g.row.W} c.args.rest.now c.clear.new.self c.args.why (Some (Dropped c.swap.new.y c.args.why)) c.clear.ensures (returns-clause-drop g c)
