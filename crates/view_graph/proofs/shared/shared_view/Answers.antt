use Rattle.std.proofs.Common.{List, ap, sym, ◌∙◌}
use Rattle.wire_base.specs.declared.conf.SubKind.{SubKind}
use Rattle.wire_base.specs.model.View.{nodes_of}
use Rattle.lsp_store.specs.Topologies.{seen_claims}
use Rattle.view_graph.proofs.SeenLaws.{claims_seen}
use Rattle.view_graph.proofs.shared.shared_view.Goals as goal

pub returns-in-Some : goal.returns-in-Some
returns-in-Some c =
    let same = claims_seen c.args.conf.now c.args.up.now c.args.store.now.entries c.len-entries.ensures.database.in_order c.requires.own in
    let known = rw c.in-Some.is at c.in_ok-known.ensures in
    known ∙ ap nodes_of (ap (λ (kinds : List SubKind). seen_claims kinds c.args.store.now.entries) c.as_slice.ensures ∙ sym same)

pub note_view-requires : goal.note_view-requires
note_view-requires c =
    let same = claims_seen c.args.conf.now c.args.up.now c.args.store.now.entries c.len-entries.ensures.database.in_order c.requires.own in
    rw c.in_ok-shared.ensures.ok (c.in_ok-view.ensures.made ∙ ap nodes_of same)
