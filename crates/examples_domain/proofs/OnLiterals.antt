-- What a proof unfolds to compute at a domain and events that are written out.
use Rattle.std.specs.Prelude.{⊤}
use Rattle.wire_base.specs.model.View.{view_of, claims_of}
use Rattle.wire_base.specs.model.OwnLsp.{own_lsp, own_content}
use Rattle.wire_base.specs.model.Tlv.{entries_of, entries_within, reach_at, prefix_at}
use Rattle.wire_base.specs.model.BierInfo.{info_at, parts_within, take_part, any_overlap}
use Rattle.wire_base.specs.model.Hop.{hop}
use Rattle.wire_base.specs.model.Walk.{dist}
use Rattle.wire_base.specs.model.Graph.{owner, covers, node_bift}
use Rattle.wire_base.specs.model.Tight.{tight_from, next_step}
use Rattle.wire_base.specs.model.Supporting.{firsts}
use Rattle.wire_base.specs.model.Choice.{candidates, choice, is_direct}
use Rattle.wire_base.specs.model.HopCount.{hops, tunnel_links}
use Rattle.wire_base.specs.model.Item.{ingress_header}
use Rattle.wire_base.specs.model.Ingress.{packets_for, edge_fault}
use Rattle.domain_model.specs.World.{in_flight, ids_in_flight}
use Rattle.domain_model.specs.Step.{happens}
use Rattle.domain_model.specs.Faults.{event_fault}
use Rattle.domain_model.specs.Moves.{outcomes_at, hop_made_at, inject_made}
use Rattle.domain_model.specs.Run.{goes_on}
use Rattle.laws_ledger.specs.Ledger.{over_all}

-- the views of control states
unfoldable pub views_on_literals : ⊤
unfolding view_of claims_of own_lsp own_content entries_of entries_within reach_at prefix_at info_at parts_within take_part any_overlap
views_on_literals = tt

-- hops, routes and what enters
unfoldable pub hops_on_literals : ⊤
unfolding hop dist owner covers node_bift tight_from next_step firsts candidates choice is_direct hops tunnel_links ingress_header packets_for edge_fault
hops_on_literals = tt

-- events, runs and what is on the way
unfoldable pub runs_on_literals : ⊤
unfolding in_flight ids_in_flight happens event_fault outcomes_at hop_made_at inject_made goes_on over_all
runs_on_literals = tt
