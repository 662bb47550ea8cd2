use Rattle.laws_item.proofs.PacketFrames.{item_header_reads, ids_again, packet_taken, tunnel_back, onward, copy_arrives}
use Rattle.wire_base.specs.model.Item.{item_tunnel}
use Rattle.laws_item.proofs.packet.packet_frames_law.Goals as goal

pub returns-clause-read : goal.returns-clause-read
returns-clause-read c = item_header_reads

pub returns-clause-ids : goal.returns-clause-ids
returns-clause-ids c = ids_again

pub returns-clause-tunnel : goal.returns-clause-tunnel
returns-clause-tunnel c = λ x o fits. tunnel_back (item_tunnel x o) fits

pub returns-clause-onward : goal.returns-clause-onward
returns-clause-onward c = onward

pub returns-clause-taken : goal.returns-clause-taken
returns-clause-taken c = copy_arrives

pub returns-clause-hopped : goal.returns-clause-hopped
returns-clause-hopped c = packet_taken
