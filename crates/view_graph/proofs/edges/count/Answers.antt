use Rattle.std.proofs.Common.{refl, sym, ◌∙◌, arith}
use Rattle.view_graph.specs.Edges.{IsKey}
use Rattle.view_graph.proofs.EdgeLaws.{stands_within, count_put, count_not}
use Rattle.view_graph.proofs.NumberLaws.{number_stands}
use Rattle.view_graph.proofs.edges.count.Goals as goal

pub overflow_cast-place : goal.overflow_cast-place
overflow_cast-place c =
    let is : IsKey c.system_key-key.result c.link.inside.neighbour = record { number = c.system_key-key.ensures.key; octets = c.system_key-key.ensures.octets } in
    let stands = number_stands c.args.keys.now c.args.claims.now c.find-place.result c.system_key-key.result c.link.inside.neighbour c.requires.keys is in
    omega (arith, stands_within c.args.claims.now c.find-place.result c.link.inside.neighbour (sym stands ∙ sym c.is_number_at.ensures ∙ c.if-not-is_number_at.false), c.requires.few)

pub returns-then-not-is_number_at : goal.returns-then-not-is_number_at
returns-then-not-is_number_at c = λ links before.
    let is : IsKey c.system_key-key.result c.link.inside.neighbour = record { number = c.system_key-key.ensures.key; octets = c.system_key-key.ensures.octets } in
    let stands = number_stands c.args.keys.now c.args.claims.now c.find-place.result c.system_key-key.result c.link.inside.neighbour c.requires.keys is in
    count_not links (record { neighbour = c.link.inside.neighbour; metric = c.link.inside.metric }) c.args.link.now c.args.claims.now c.find-place.result c.args.edges.now c.link.view_is c.requires.order (c.find-place.ensures c.link.inside.neighbour is) (sym stands ∙ sym c.is_number_at.ensures ∙ c.if-not-is_number_at.true) before

pub returns : goal.returns
returns c = λ links before.
    let is : IsKey c.system_key-key.result c.link.inside.neighbour = record { number = c.system_key-key.ensures.key; octets = c.system_key-key.ensures.octets } in
    let stands = number_stands c.args.keys.now c.args.claims.now c.find-place.result c.system_key-key.result c.link.inside.neighbour c.requires.keys is in
    count_put links (record { neighbour = c.link.inside.neighbour; metric = c.link.inside.metric }) c.args.link.now c.args.claims.now c.find-place.result c.link.inside.metric c.args.edges.now c.put_edge.new.edges c.link.view_is c.requires.order (c.find-place.ensures c.link.inside.neighbour is) (sym stands ∙ sym c.is_number_at.ensures ∙ c.if-not-is_number_at.false) refl before c.in_ok-put_edge.ensures
