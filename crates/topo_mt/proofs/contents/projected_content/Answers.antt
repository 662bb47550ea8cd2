use Rattle.topo_mt.specs.MultiTopology.{projected_content}
use Rattle.isis_tlv.specs.Views.{item}
use Rattle.topo_mt.proofs.ContentLaws.{all_left, at_end, at_fault, one_less}
use Rattle.topo_mt.proofs.contents.projected_content.Goals as goal

pub tlvs-init : goal.tlvs-init
tlvs-init c = rw (c.new-out.ensures, c.new-walk.ensures) (all_left c.args.mt c.args.content.now)

pub tlvs-preserved : goal.tlvs-preserved
tlvs-preserved c =
    let e = rw c.in-Ok-Some.field-0-is at c.in-Ok-Some.ensures.exact in
    one_less c.args.mt c.tlvs.walk c.next.new.self (item c.in-Ok-Some.tlv) c.tlvs.out c.push_projected.new.out (projected_content c.args.mt c.args.content.now) e c.in_ok-push_projected-in-Ok-Some.ensures c.tlvs.invariant

pub returns-in-Err : goal.returns-in-Err
returns-in-Err c = at_fault c.args.mt c.tlvs.walk c.in-Err.field-0 c.tlvs.out (projected_content c.args.mt c.args.content.now) c.in-Err.ensures.exact.0 c.tlvs.invariant

pub returns-in-Ok-None : goal.returns-in-Ok-None
returns-in-Ok-None c =
    let e = rw c.in-Ok-None.field-0-is at c.in-Ok-None.ensures.exact in
    at_end c.args.mt c.tlvs.walk c.tlvs.out (projected_content c.args.mt c.args.content.now) e.0 c.tlvs.invariant
