use Rattle.std.proofs.Common.{sym, ◌∙◌}
use Rattle.view_graph.proofs.NumberLaws.{number_place}
use Rattle.view_graph.proofs.edges.find.Goals as goal

pub returns-then-is_number_at : goal.returns-then-is_number_at
returns-then-is_number_at c = λ s is. number_place c.args.keys.now c.args.claims.now c.guess_of-guess.result c.args.key s c.requires.keys c.requires.order (sym c.is_number_at.ensures ∙ c.if-is_number_at.true) is
