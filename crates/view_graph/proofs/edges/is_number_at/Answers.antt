use Rattle.std.proofs.Common.{◌≤◌, length, sym, ◌∙◌, arith}
use Rattle.std.proofs.lemmas.Bool.{le-ltb}
use Rattle.view_graph.proofs.NumberLaws.{number_read, number_past}
use Rattle.view_graph.proofs.edges.is_number_at.Goals as goal

pub returns-then-place-keys : goal.returns-then-place-keys
returns-then-place-keys c = number_read c.args.keys.now c.args.place c.args.key c.if-place-keys.true

pub returns-else-place-keys : goal.returns-else-place-keys
returns-else-place-keys c =
    let past : length c.args.keys.now ≤ c.args.place = omega (arith, c.if-place-keys.false) in
    le-ltb c.args.place (length c.args.keys.now) past ∙ sym (number_past c.args.keys.now c.args.place c.args.key past)
