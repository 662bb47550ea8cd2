use Rattle.std.proofs.Common.{ap, sym, ◌∙◌}
use Rattle.wire_base.specs.model.View.{nodes_of}
use Rattle.lsp_store.proofs.SeenLaws.{claims_alike}
use Rattle.lsp_store.proofs.topologies.Noted.known.Goals as goal

pub returns-then-are_alike : goal.returns-then-are_alike
returns-then-are_alike c =
    let kinds = sym c.as_slice.ensures ∙ c.are_same_kinds.ensures c.if-are_same_kinds.true in
    let entries = rw c.as_slice-then-are_same_kinds.ensures.value at c.are_alike.ensures c.if-are_alike.true in
    let same = claims_alike c.args.kinds.now c.self.inside.kinds c.args.list.now.entries c.self.inside.entries.items kinds entries in
    rw c.in_ok-clone.ensures.cases (c.self.invariant ∙ ap nodes_of same)
