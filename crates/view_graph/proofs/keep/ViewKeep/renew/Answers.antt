use Rattle.std.proofs.Common.{◌≡◌, ◌↔◌, ◌∷◌, not, false, List, Vec, Global, Decides, Option, IfSome, refl, sym, ap, subst, ◌∙◌}
use Rattle.std.specs.List.{AllByRecursion}
use Rattle.wire_base.specs.declared.view.ViewNode.{ViewNode}
use Rattle.wire_base.specs.model.View.{nodes_of}
use Rattle.view_graph.specs.declared.patch.NewNode.{NewNode}
use Rattle.view_graph.specs.Edges.{AreInOrder}
use Rattle.view_graph.specs.Keep.{Keep}
use Rattle.view_graph.specs.Renewal.{IsAt, IsPatch, put_all, said_now, node_claims}
use Rattle.view_graph.proofs.AnewLaws.{turned_answer}
use Rattle.view_graph.proofs.PatchLaws.{seats_order}
use Rattle.view_graph.proofs.RenewalLaws.{base_now, claims_now, kept_now, nodes_now, turned_now}
use Rattle.view_graph.proofs.ViewLaws.{made_graph}
use Rattle.view_graph.proofs.keep.ViewKeep.renew.Goals as goal

pub patch_of-requires-clause-order : goal.patch_of-requires-clause-order
patch_of-requires-clause-order c = subst (λ (ns : List ViewNode). AreInOrder (node_claims ns)) (sym c.as_slice.ensures.nodes) (seats_order c.self.invariant.claims c.self.inside.view.nodes c.self.invariant.made c.self.invariant.in_order)

pub turn-requires-clause-within : goal.turn-requires-clause-within
turn-requires-clause-within c =
    let base = base_now c.args.self.now c.args.conf.now c.args.up.now c.args.store.now.entries c.self.inside.system c.self.inside.kinds c.self.inside.others.claims c.self.inside.is_whole c.self.inside.view.nodes c.args.changed.now c.self.view_is c.requires.system c.requires.kinds c.requires.unchanged c.len-entries.ensures.database.in_order c.if-not-self.false c.self.invariant in
    let patch = subst (λ (o : Option (Vec NewNode Global)). IfSome o (λ v. IsPatch (said_now c.args.conf.now c.args.up.now c.args.store.now.entries) c.as_slice.result.now (c.args.conf.now.system ∷ c.args.changed.now) v.items)) c.in-Some.is c.in_ok-patch.ensures in
    let turned = turned_now c.args.conf.now c.args.up.now c.args.store.now.entries c.self.invariant.claims c.self.inside.view.nodes c.as_slice.result.now (c.args.conf.now.system ∷ c.args.changed.now) c.in-Some.anew.items base c.as_slice.ensures.nodes patch in
    turned.within

pub turn-requires-clause-graph : goal.turn-requires-clause-graph
turn-requires-clause-graph c =
    let base = base_now c.args.self.now c.args.conf.now c.args.up.now c.args.store.now.entries c.self.inside.system c.self.inside.kinds c.self.inside.others.claims c.self.inside.is_whole c.self.inside.view.nodes c.args.changed.now c.self.view_is c.requires.system c.requires.kinds c.requires.unchanged c.len-entries.ensures.database.in_order c.if-not-self.false c.self.invariant in
    let patch = subst (λ (o : Option (Vec NewNode Global)). IfSome o (λ v. IsPatch (said_now c.args.conf.now c.args.up.now c.args.store.now.entries) c.as_slice.result.now (c.args.conf.now.system ∷ c.args.changed.now) v.items)) c.in-Some.is c.in_ok-patch.ensures in
    let turned = turned_now c.args.conf.now c.args.up.now c.args.store.now.entries c.self.invariant.claims c.self.inside.view.nodes c.as_slice.result.now (c.args.conf.now.system ∷ c.args.changed.now) c.in-Some.anew.items base c.as_slice.ensures.nodes patch in
    made_graph c.args.conf.now c.args.up.now c.args.store.now.entries (claims_now c.args.conf.now c.args.up.now c.args.store.now.entries) (put_all c.in-Some.anew.items c.self.inside.view.nodes) c.requires.sound c.len-entries.ensures.database refl turned.turned

pub invariant_of-self : goal.invariant_of-self
invariant_of-self c = rw (c.turn.ensures.shared c.if-not-turn.true) c.self.invariant

pub invariant_of-self-2 : goal.invariant_of-self-2
invariant_of-self-2 c =
    let base = base_now c.args.self.now c.args.conf.now c.args.up.now c.args.store.now.entries c.self.inside.system c.self.inside.kinds c.self.inside.others.claims c.self.inside.is_whole c.self.inside.view.nodes c.args.changed.now c.self.view_is c.requires.system c.requires.kinds c.requires.unchanged c.len-entries.ensures.database.in_order c.if-not-self.false c.self.invariant in
    let patch = subst (λ (o : Option (Vec NewNode Global)). IfSome o (λ v. IsPatch (said_now c.args.conf.now c.args.up.now c.args.store.now.entries) c.as_slice.result.now (c.args.conf.now.system ∷ c.args.changed.now) v.items)) c.in-Some.is c.in_ok-patch.ensures in
    kept_now c.args.conf.now c.args.up.now c.args.store.now.entries c.self.inside.system c.heard-self-inside.result.claims c.self.inside.is_whole c.self.invariant.claims c.self.inside.view.nodes c.as_slice.result.now c.turn.new.self.nodes (c.args.conf.now.system ∷ c.args.changed.now) c.in-Some.anew.items base c.as_slice.ensures.nodes patch c.len-entries.ensures.database
    (ap (λ (k : Keep). k.system) c.self.view_is ∙ sym c.requires.system) c.heard-self-inside.ensures (c.turn.ensures.turned c.if-not-turn.false)

pub returns-clause-exact : goal.returns-clause-exact
returns-clause-exact c =
    let base = base_now c.args.self.now c.args.conf.now c.args.up.now c.args.store.now.entries c.self.inside.system c.self.inside.kinds c.self.inside.others.claims c.self.inside.is_whole c.self.inside.view.nodes c.args.changed.now c.self.view_is c.requires.system c.requires.kinds c.requires.unchanged c.len-entries.ensures.database.in_order c.if-not-self.false c.self.invariant in
    let patch = subst (λ (o : Option (Vec NewNode Global)). IfSome o (λ v. IsPatch (said_now c.args.conf.now c.args.up.now c.args.store.now.entries) c.as_slice.result.now (c.args.conf.now.system ∷ c.args.changed.now) v.items)) c.in-Some.is c.in_ok-patch.ensures in
    let turned = turned_now c.args.conf.now c.args.up.now c.args.store.now.entries c.self.invariant.claims c.self.inside.view.nodes c.as_slice.result.now (c.args.conf.now.system ∷ c.args.changed.now) c.in-Some.anew.items base c.as_slice.ensures.nodes patch in
    nodes_now c.args.conf.now c.args.up.now c.args.store.now.entries c.turn.new.self.nodes (c.turn.ensures.turned c.if-not-turn.false ∙ turned.turned)

pub returns-clause-answer : goal.returns-clause-answer
returns-clause-answer c =
    let base = base_now c.args.self.now c.args.conf.now c.args.up.now c.args.store.now.entries c.self.inside.system c.self.inside.kinds c.self.inside.others.claims c.self.inside.is_whole c.self.inside.view.nodes c.args.changed.now c.self.view_is c.requires.system c.requires.kinds c.requires.unchanged c.len-entries.ensures.database.in_order c.if-not-self.false c.self.invariant in
    let patch = subst (λ (o : Option (Vec NewNode Global)). IfSome o (λ v. IsPatch (said_now c.args.conf.now c.args.up.now c.args.store.now.entries) c.as_slice.result.now (c.args.conf.now.system ∷ c.args.changed.now) v.items)) c.in-Some.is c.in_ok-patch.ensures in
    let turned = turned_now c.args.conf.now c.args.up.now c.args.store.now.entries c.self.invariant.claims c.self.inside.view.nodes c.as_slice.result.now (c.args.conf.now.system ∷ c.args.changed.now) c.in-Some.anew.items base c.as_slice.ensures.nodes patch in
    let seen = subst (λ (ns : List ViewNode). Decides c.are_present-are_same.result (AllByRecursion (IsAt ns) c.as_slice-3.result.now)) c.as_slice-2.ensures.nodes c.are_present-are_same.ensures in
    let decided = subst (λ (ns : List NewNode). Decides c.are_present-are_same.result (AllByRecursion (IsAt c.self.inside.view.nodes) ns)) c.as_slice-3.ensures.value seen in
    subst (λ (ns : List ViewNode). (not c.are_present-are_same.result ≡ false) ↔ (c.turn.new.self.nodes ≡ ns)) (ap (λ (k : Keep). k.nodes) c.self.view_is)
    (turned_answer c.self.inside.view.nodes (nodes_of (claims_now c.args.conf.now c.args.up.now c.args.store.now.entries)) c.turn.new.self.nodes c.in-Some.anew.items c.are_present-are_same.result turned decided (c.turn.ensures.turned c.if-not-turn.false))
