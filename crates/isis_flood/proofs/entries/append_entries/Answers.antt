use Rattle.std.proofs.Common.{List, take, length, ap, ◌∙◌}
use Rattle.wire_base.specs.declared.triple.Summary.{Summary}
use Rattle.isis_flood.proofs.ListLaws.{front_kept, after_error}
use Rattle.isis_flood.proofs.entries.append_entries.Goals as goal

pub returns-in_err-push-clause-err : goal.returns-in_err-push-clause-err
returns-in_err-push-clause-err c = after_error c.from_residual.result (ap (λ (rows : List Summary). take (length c.args.rows.now) rows) c.in_err-push.ensures.err ∙ front_kept c.args.rows.now c.loop-entry.rows _ _ c.loop-entry.invariant.so_far c.loop-entry.invariant.grown)
