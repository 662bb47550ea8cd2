use Rattle.std.proofs.Common.{sym, ap, ◌∙◌, arith}
use Rattle.wire_base.specs.model.Control.{ids_of}
use Rattle.lsp_store.specs.Places.{place_in}
use Rattle.view_graph.proofs.FragmentLaws.{begins_at}
use Rattle.view_graph.proofs.HeardLaws.{said_away, said_found, said_past}
use Rattle.view_graph.proofs.heard.said_in.Goals as goal

pub returns-then-place-count : goal.returns-then-place-count
returns-then-place-count c = said_past c.args.kinds.now c.args.store.now.entries c.args.system.now c.place_of-place.result (c.place_of-place.ensures ∙ ap (place_in (ids_of c.args.store.now.entries)) c.fragment_0.ensures) (omega (arith, c.if-place-count.true, c.len-count.ensures.len))

pub returns-then-not-is_first_of : goal.returns-then-not-is_first_of
returns-then-not-is_first_of c =
    said_away c.args.kinds.now c.args.store.now.entries c.args.system.now c.place_of-place.result c.at-entry.result.now c.len-count.ensures.database.in_order (c.place_of-place.ensures ∙ ap (place_in (ids_of c.args.store.now.entries)) c.fragment_0.ensures) c.at-entry.ensures (sym c.is_first_of.ensures ∙ c.if-not-is_first_of.true)

pub claim_of-requires-clause-begins : goal.claim_of-requires-clause-begins
claim_of-requires-clause-begins c = begins_at c.args.store.now.entries c.place_of-place.result c.at-entry.result.now c.at-entry.ensures

pub returns : goal.returns
returns c =
    said_found c.args.kinds.now c.args.store.now.entries c.args.system.now c.place_of-place.result c.at-entry.result.now c.in_ok-claim.claim c.in_ok-known.known c.len-count.ensures.database.in_order (c.place_of-place.ensures ∙ ap (place_in (ids_of c.args.store.now.entries)) c.fragment_0.ensures)
    c.at-entry.ensures (sym c.is_first_of.ensures ∙ c.if-not-is_first_of.false) c.in_ok-claim.ensures c.in_ok-known.ensures
