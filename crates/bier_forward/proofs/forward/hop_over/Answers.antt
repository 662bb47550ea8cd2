use Rattle.std.proofs.Common.{rules, refl, ap, subst, ◌∙◌}
use Rattle.std.proofs.lemmas.Result.{on_ok_weaker}
use Rattle.wire_base.specs.model.Graph.{IsGraph}
use Rattle.wire_base.specs.model.OnFrame.{class_of}
use Rattle.bier_forward.specs.Hops.{after}
use Rattle.bier_forward.proofs.HopLaws.{over-is}
use Rattle.bier_forward.proofs.TableLaws.{table-next}
use Rattle.bier_forward.proofs.forward.hop_over.Goals as goal

pub give_all-requires : goal.give_all-requires
give_all-requires g c =
    let graph = subst IsGraph c.as_slice-graph.ensures.nodes c.as_slice-graph.ensures.graph in
    let leads = c.requires.leads in
    let next = table-next c.args.conf.now c.args.view.now.nodes c.args.packet.now.triple (class_of c.args.packet.now) leads.rows c.args.table.now graph c.requires.ends leads.are.lists leads.are.each leads.picks in
    (search rules, (search rules, (c.requires.width, (c.requires.sound, (c.requires.ends, (c.requires.short, (c.requires.ttl, (c.requires.bits, (next, c.requires.built)))))))))

pub returns-clause-effects : goal.returns-clause-effects
returns-clause-effects g c =
    let graph = subst IsGraph c.as_slice-graph.ensures.nodes c.as_slice-graph.ensures.graph in
    let leads = c.requires.leads in
    let is = over-is c.args.conf.now c.args.view.now.nodes c.args.packet.now c.args.ttl (class_of c.args.packet.now) leads.rows c.args.table.now c.set-set.result _ graph
    c.requires.ends refl c.requires.bits leads.are.each leads.picks c.set-set.ensures c.width-width.ensures.ordered in
    on_ok_weaker c.give_all.result (λ e. e ∙ ap (after c.args.effects.now) is) c.give_all.ensures.effects
