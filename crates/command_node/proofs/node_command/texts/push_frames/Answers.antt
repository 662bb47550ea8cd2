use Rattle.command_node.proofs.NodeSteps.{frames_more, fits_at}
use Rattle.command_node.proofs.node_command.texts.push_frames.Goals as goal

pub write_cap_record-requires : goal.write_cap_record-requires
write_cap_record-requires c = fits_at c.args.sent.now c.frames.i c.octets_at.result.now c.requires c.octets_at.ensures

pub frames-preserved : goal.frames-preserved
frames-preserved c =
    frames_more c.args.sec c.args.usec c.args.sent.now c.frames.i c.octets_at.result.now c.args.out.now c.frames.out c.write_cap_record.new.out
    c.octets_at.ensures c.frames.invariant c.in_ok-write_cap_record.ensures.ok
