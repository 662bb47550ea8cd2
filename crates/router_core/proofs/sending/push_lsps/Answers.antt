use Rattle.std.proofs.Common.{◌+◌, ◌<◌, ◌≤◌, length, arith}
use Rattle.router_core.proofs.IdleLaws.{idle-sent}
use Rattle.router_core.proofs.MergeLaws.{landed, to_send, sent_first, sent_step, sent_end}
use Rattle.router_core.proofs.sending.push_lsps.Goals as goal

pub returns-then-not-may_send : goal.returns-then-not-may_send
returns-then-not-may_send c = idle-sent c.args.conf.now c.args.flood.now.flood.rows c.args.link c.args.store.now.entries c.args.out.now (c.may_send.ensures c.if-not-may_send.true)

pub rows-init : goal.rows-init
rows-init c = record {
  done = sent_first c.args.store.now.entries c.args.flood.now.flood.rows c.args.link c.args.conf.now c.next_sent-place.result c.args.out.now c.next_sent-place.ensures;
  flagged = landed (to_send c.args.store.now.entries c.args.flood.now.flood.rows c.args.link) c.args.flood.now.flood.rows 0 c.next_sent-place.result c.next_sent-place.ensures;
}

pub rows-preserved : goal.rows-preserved
rows-preserved c = record {
  done = sent_step c.args.store.now.entries c.args.flood.now.flood.rows c.args.link c.args.conf.now c.id_at.result c.rows.place c.next_sent-place-in-rows.result c.rows.out c.push_found.new.out _ (let lt : c.rows.place < length c.args.flood.now.flood.rows = omega (arith, c.rows-test.true, c.rows-count.ensures) in lt) c.rows.invariant.flagged c.id_at.ensures c.in_ok-push_found.ensures c.next_sent-place-in-rows.ensures c.rows.invariant.done;
  flagged = landed (to_send c.args.store.now.entries c.args.flood.now.flood.rows c.args.link) c.args.flood.now.flood.rows (c.rows.place + 1) c.next_sent-place-in-rows.result c.next_sent-place-in-rows.ensures;
}

pub returns : goal.returns
returns c =
    sent_end c.args.store.now.entries c.args.flood.now.flood.rows c.args.link c.len-order.ensures.database.in_order c.requires.order c.requires.flagged c.args.conf.now c.rows.place c.args.out.now c.rows.out
    (let le : length c.args.flood.now.flood.rows ≤ c.rows.place = omega (arith, c.rows-test.false, c.rows-count.ensures) in le) c.rows.invariant.done
