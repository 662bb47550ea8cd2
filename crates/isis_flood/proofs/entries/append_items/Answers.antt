use Rattle.isis_flood.proofs.ListLaws.{front_kept, front_through, after_error}
use Rattle.isis_flood.proofs.entries.append_items.Goals as goal

pub returns-in_err-append_item-clause-err : goal.returns-in_err-append_item-clause-err
returns-in_err-append_item-clause-err c =
    after_error c.from_residual.result (front_through c.args.rows.now c.loop-tlv.rows c.append_item.new.rows (front_kept c.args.rows.now c.loop-tlv.rows _ _ c.loop-tlv.invariant.so_far c.loop-tlv.invariant.grown) c.in_err-append_item.ensures.err)
