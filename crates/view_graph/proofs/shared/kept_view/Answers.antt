use Rattle.std.proofs.Common.{◌≡◌, Bool, false, List, map, refl, sym, subst, ◌∙◌}
use mathlib.Core.Bool.{false≢true}
use Rattle.wire_base.specs.declared.conf.RouterConf.{RouterConf}
use Rattle.wire_base.specs.declared.entry.Entry.{Entry}
use Rattle.wire_base.specs.declared.view.ViewNode.{ViewNode}
use Rattle.wire_base.specs.model.View.{claims_of, nodes_of, with_known}
use Rattle.view_graph.specs.Keep.{AreNodesOf, heard}
use Rattle.view_graph.proofs.SeenLaws.{made_kept}
use Rattle.view_graph.proofs.shared.kept_view.Goals as goal

-- a shared topology is not said to be whole
shared_made : (conf : RouterConf) (up : List Bool) (es : List Entry) (nodes : List ViewNode) → nodes ≡ nodes_of (map (with_known conf.kinds) (claims_of conf up es)) → AreNodesOf (map (with_known conf.kinds) (claims_of conf up es)) nodes false
shared_made conf up es nodes made = record { made = made; whole = λ h. absurd (false≢true h) }

pub returns-then-branch-clause-made : goal.returns-then-branch-clause-made
returns-then-branch-clause-made c = shared_made c.args.conf.now c.args.up.now c.args.store.now.entries c.shared.result.nodes (c.shared.ensures ∙ c.in_ok-shared.ensures)

pub returns-then-branch-clause-kept : goal.returns-then-branch-clause-kept
returns-then-branch-clause-kept c =
    let conf = c.args.conf.now in
    made_kept conf c.args.up.now c.args.store.now.entries (heard conf.system conf.kinds c.args.store.now.entries) c.shared.result.nodes false c.len-entries.ensures.database
    (shared_made conf c.args.up.now c.args.store.now.entries c.shared.result.nodes (c.shared.ensures ∙ c.in_ok-shared.ensures)) refl

pub returns-clause-kept : goal.returns-clause-kept
returns-clause-kept c =
    let conf = c.args.conf.now in
    let made = subst (λ (nodes : List ViewNode). AreNodesOf (map (with_known conf.kinds) (claims_of conf c.args.up.now c.args.store.now.entries)) nodes c.in_ok-view.is_whole) (sym c.own.ensures) c.in_ok-view.ensures in
    made_kept conf c.args.up.now c.args.store.now.entries (heard conf.system conf.kinds c.args.store.now.entries) c.own.result.nodes c.in_ok-view.is_whole c.len-entries.ensures.database made refl
