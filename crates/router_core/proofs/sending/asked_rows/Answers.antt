use Rattle.std.proofs.Common.{◌+◌, ◌<◌, ◌≤◌, List, length, map, sym, ap, ◌∙◌, arith}
use Rattle.wire_base.specs.declared.entry.Entry.{Entry}
use Rattle.wire_base.specs.model.Control.{summary_of}
use Rattle.wire_base.specs.model.Tlv.{row}
use Rattle.router_core.proofs.IdleLaws.{idle-asked}
use Rattle.router_core.proofs.MergeLaws.{landed, to_ask, asked_first, asked_step, asked_end}
use Rattle.router_core.proofs.sending.asked_rows.Goals as goal

pub returns-then-not-may_ask : goal.returns-then-not-may_ask
returns-then-not-may_ask c = c.requires.empty ∙ sym (ap (λ (es : List Entry). map row (map summary_of es)) (idle-asked c.args.flood.now.flood.rows c.args.link c.args.store.now.entries (c.may_ask.ensures c.if-not-may_ask.true)))

pub rows-init : goal.rows-init
rows-init c = record {
  done = asked_first c.args.store.now.entries c.args.flood.now.flood.rows c.args.link c.next_asked-place.result c.args.memory.items c.next_asked-place.ensures;
  flagged = landed (to_ask c.args.store.now.entries c.args.flood.now.flood.rows c.args.link) c.args.flood.now.flood.rows 0 c.next_asked-place.result c.next_asked-place.ensures;
}

pub rows-preserved : goal.rows-preserved
rows-preserved c = record {
  done = asked_step c.args.store.now.entries c.args.flood.now.flood.rows c.args.link c.id_at.result c.rows.place c.next_asked-place-in-rows.result c.rows.rows.items c.push_row.new.rows.items _ (let lt : c.rows.place < length c.args.flood.now.flood.rows = omega (arith, c.rows-test.true, c.rows-count.ensures) in lt) c.rows.invariant.flagged c.id_at.ensures c.in_ok-push_row.ensures c.next_asked-place-in-rows.ensures c.rows.invariant.done;
  flagged = landed (to_ask c.args.store.now.entries c.args.flood.now.flood.rows c.args.link) c.args.flood.now.flood.rows (c.rows.place + 1) c.next_asked-place-in-rows.result c.next_asked-place-in-rows.ensures;
}

pub returns : goal.returns
returns c =
    asked_end c.args.store.now.entries c.args.flood.now.flood.rows c.args.link c.len-order.ensures.database.in_order c.requires.order c.requires.flagged c.rows.place c.args.memory.items c.rows.rows.items c.requires.empty
    (let le : length c.args.flood.now.flood.rows ≤ c.rows.place = omega (arith, c.rows-test.false, c.rows-count.ensures) in le) c.rows.invariant.done
