-- What a proof unfolds to compute at a domain and events that are written out.
use Rattle.std.specs.Prelude.{⊤}
use Rattle.wire_base.specs.model.View.{view_of, claims_of}
use Rattle.wire_base.specs.model.OwnLsp.{own_lsp, own_content}
use Rattle.wire_base.specs.model.Tlv.{entries_of, entries_within, reach_at, prefix_at, row_at}
use Rattle.wire_base.specs.model.BierInfo.{info_at, parts_within, take_part, any_overlap}
use Rattle.wire_base.specs.model.Hop.{hop}
use Rattle.wire_base.specs.model.Walk.{dist}
use Rattle.wire_base.specs.model.Graph.{owner, covers, node_bift}
use Rattle.wire_base.specs.model.Tight.{tight_from, next_step}
use Rattle.wire_base.specs.model.Supporting.{firsts}
use Rattle.wire_base.specs.model.Choice.{candidates, choice, is_direct}
use Rattle.wire_base.specs.model.HopCount.{hops, tunnel_links}
use Rattle.wire_base.specs.model.Item.{ingress_header, frame_of}
use Rattle.wire_base.specs.model.Ingress.{packets_for, edge_fault}
use Rattle.wire_base.specs.model.Flooding.{first_control, started, new_flood, mark_all, forget, send, send_of, sent_on, on_pdu, on_lsp, on_csnp, on_psnp, on_list, on_listed, reissue, reissue_unless_spent, end_up, end_down, link_up, link_down, tick, aged_all, id_after, restart}
use Rattle.wire_base.specs.model.Checksum.{check_sum}
use Rattle.wire_base.specs.model.Pdu.{row_tlvs, blocks_within}
use Rattle.domain_model.specs.World.{first_world, in_flight, ids_in_flight}
use Rattle.domain_model.specs.Step.{happens}
use Rattle.domain_model.specs.Faults.{event_fault}
use Rattle.domain_model.specs.Moves.{outcomes_at, hop_made_at, inject_made}
use Rattle.domain_model.specs.Run.{directions, round_events, settle_events, first_run, goes_on, does, line_done, lines_done, schedule_done, run_of}
use Rattle.laws_ledger.specs.Ledger.{over_all}
use Rattle.replay_text.specs.Schedule.{router_named, link_named, frame_named, event_line, schedule_words, schedule_line}
use Rattle.replay_text.specs.Pieces.{words_of}
use Rattle.replay_text.specs.Tokens.{number_of}
use Rattle.domain_replay.specs.Texts.{events_text, capture_text, run_text, report_text, lines_reach, schedule_reaches}
use Rattle.replay_report.specs.Captures.{frame_record, capture_front}
use Rattle.std.specs.Fmt.{digits}
use Rattle.hex.specs.Hex.{decode_pairs}
use Rattle.replay_text.specs.Arguments.{listed_ids, numbers_to, payload_of}
use Rattle.replay_text.specs.Ids.{id_of}
use Rattle.replay_text.specs.Schedule.{settle_line, inject_event}

-- the views of control states
unfoldable pub views_on_literals : ⊤
unfolding view_of claims_of own_lsp own_content entries_of entries_within reach_at prefix_at info_at parts_within take_part any_overlap
views_on_literals = tt

-- hops, routes and what enters
unfoldable pub hops_on_literals : ⊤
unfolding hop dist owner covers node_bift tight_from next_step firsts candidates choice is_direct hops tunnel_links ingress_header packets_for edge_fault
hops_on_literals = tt

-- flooding
unfoldable pub floods_on_literals : ⊤
unfolding first_control started new_flood mark_all forget send send_of sent_on on_pdu on_lsp on_csnp on_psnp on_list on_listed reissue reissue_unless_spent end_up end_down link_up link_down tick aged_all id_after restart check_sum row_tlvs blocks_within row_at
floods_on_literals = tt

-- events, runs and what is on the way
unfoldable pub runs_on_literals : ⊤
unfolding first_world in_flight ids_in_flight happens event_fault outcomes_at hop_made_at inject_made directions round_events settle_events first_run goes_on does line_done lines_done schedule_done run_of over_all
runs_on_literals = tt

-- the lines of a schedule, and both texts
unfoldable pub texts_on_literals : ⊤
unfolding router_named link_named frame_named event_line schedule_words schedule_line words_of number_of events_text capture_text run_text report_text lines_reach schedule_reaches frame_record capture_front frame_of digits
texts_on_literals = tt

-- the arguments of lines
unfoldable pub lines_on_literals : ⊤
unfolding settle_line inject_event listed_ids numbers_to id_of payload_of decode_pairs
lines_on_literals = tt
