use Rattle.std.proofs.Common.{◌∙◌, ◌++◌, List, ap, slice_index_or, false}
use Rattle.wire_base.specs.declared.effects.Sent.{Sent}
use Rattle.wire_base.specs.model.Flooding.{due_csnps}
use Rattle.wire_base.specs.model.OnFrame.{frames_of}
use Rattle.laws_router.specs.State.{control_of}
use Rattle.router_core.proofs.SendLaws.{due_is}
use Rattle.router_core.proofs.sending.due_frames.Goals as goal

pub returns-clause-due : goal.returns-clause-due
returns-clause-due c =
    λ spent.
    due_is c.args.conf.now c.args.flood.now.flood c.args.store.now.entries spent c.args.link c.push_due.new.out c.push_lsps.new.out c.into_sent.result _
    (c.in_ok-push_due.ensures ∙ ap (λ (l : List Sent). l ++ frames_of c.args.conf.now c.args.link (due_csnps (control_of c.args.conf.now c.args.flood.now.flood c.args.store.now.entries false) (slice_index_or c.args.flood.now.flood.due c.args.link false))) c.in_memory-out.ensures)
    c.in_ok-push_lsps.ensures (c.as_slice.ensures.value ∙ c.in_ok-rows.ensures) (c.into_sent.ensures.sent ∙ c.in_ok-push_psnps.ensures)
