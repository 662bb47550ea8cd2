use Rattle.std.proofs.Common.{List, IfSome, get_or, sym, subst, ◌≡◌, arith, ◌∙◌}
use Rattle.std.specs.List.{AllByRecursion}
use Rattle.std.proofs.lemmas.List.{take_all}
use Rattle.view_graph.specs.declared.patch.NewNode.{NewNode}
use Rattle.view_graph.specs.Renewal.{IsMade, said_now}
use Rattle.view_graph.proofs.ListLaws.{all_push, map_at}
use Rattle.view_graph.proofs.rebuilt.nodes_now.Goals as goal

pub places-preserved : goal.places-preserved
places-preserved c = record {
  made = subst (λ (l : List NewNode). AllByRecursion (IsMade (said_now c.args.conf.now c.args.up.now c.args.store.now.entries) c.args.nodes.now) l) (sym c.in_ok-push-in-Some.ensures.items)
      (all_push (IsMade (said_now c.args.conf.now c.args.up.now c.args.store.now.entries) c.args.nodes.now) c.places.anew.items c.in-Some.new c.places.invariant.made (subst (λ o. IfSome o (IsMade (said_now c.args.conf.now c.args.up.now c.args.store.now.entries) c.args.nodes.now)) c.in-Some.is c.in_ok-new.ensures.made));
  places = map_at (λ (n : NewNode). n.place) c.args.places.now c.places.at 0 c.in-Some.new c.places.anew.items c.push.new.self.items c.places-test.true c.places.invariant.places c.in_ok-push-in-Some.ensures.items (subst (λ o. IfSome o (λ (n : NewNode). n.place ≡ get_or c.args.places.now c.places.at 0)) c.in-Some.is c.in_ok-new.ensures.place);
}

pub returns-clause-made : goal.returns-clause-made
returns-clause-made c = c.places.invariant.made

pub returns-clause-places : goal.returns-clause-places
returns-clause-places c = c.places.invariant.places ∙ take_all c.places.at c.args.places.now (omega (arith, c.places-test.false))
