-- What a proof unfolds to compute flooding at events that are written out.
use Rattle.std.specs.Prelude.{⊤}
use Rattle.wire_base.specs.model.BierInfo.{any_overlap, info_at, parts_within, take_part}
use Rattle.wire_base.specs.model.Checksum.{check_sum}
use Rattle.wire_base.specs.model.Choice.{candidates, choice, is_direct}
use Rattle.wire_base.specs.model.Flooding.{aged_all, end_down, end_up, first_control, forget, id_after, link_down, link_up, mark_all, new_flood, on_csnp, on_list, on_listed, on_lsp, on_pdu, on_psnp, reissue, reissue_unless_spent, restart, send, send_of, sent_on, started, tick}
use Rattle.wire_base.specs.model.Graph.{covers, node_bift, owner}
use Rattle.wire_base.specs.model.Hop.{hop}
use Rattle.wire_base.specs.model.HopCount.{hops, tunnel_links}
use Rattle.wire_base.specs.model.Ingress.{edge_fault, packets_for}
use Rattle.wire_base.specs.model.Item.{ingress_header}
use Rattle.wire_base.specs.model.OwnLsp.{own_content, own_lsp}
use Rattle.wire_base.specs.model.Pdu.{blocks_within, row_tlvs}
use Rattle.wire_base.specs.model.Supporting.{firsts}
use Rattle.wire_base.specs.model.Tight.{next_step, tight_from}
use Rattle.wire_base.specs.model.Tlv.{entries_of, entries_within, prefix_at, reach_at, row_at}
use Rattle.wire_base.specs.model.View.{claims_of, view_of}
use Rattle.wire_base.specs.model.Walk.{dist}
use Rattle.domain_model.specs.Faults.{event_fault}
use Rattle.domain_model.specs.Moves.{hop_made_at, inject_made, outcomes_at}
use Rattle.domain_model.specs.Run.{directions, round_events, settle_events}
use Rattle.domain_model.specs.Step.{happens}
use Rattle.domain_model.specs.World.{first_world, in_flight}
use Rattle.laws_ledger.specs.Ledger.{over_all}

unfoldable pub floods_on_literals : ⊤
unfolding check_sum aged_all end_down end_up first_control forget id_after link_down link_up mark_all new_flood on_csnp on_list on_listed on_lsp on_pdu on_psnp reissue reissue_unless_spent restart send send_of sent_on started tick own_content own_lsp blocks_within row_tlvs entries_of entries_within row_at
floods_on_literals = tt

unfoldable pub runs_on_literals : ⊤
unfolding event_fault directions round_events settle_events happens first_world in_flight
runs_on_literals = tt

-- hops, routes and what enters
unfoldable pub hops_on_literals : ⊤
unfolding view_of claims_of reach_at prefix_at info_at parts_within take_part any_overlap hop dist owner covers node_bift tight_from next_step firsts candidates choice is_direct hops tunnel_links ingress_header packets_for edge_fault outcomes_at hop_made_at inject_made over_all
hops_on_literals = tt
