-- A capture that isn't too long, without a gap that is too long, is done to its end.
use Rattle.std.proofs.Common.{◌≡◌, ℕ, Bool, true, List, take, Option, None, Some, refl, sym, ap, ap₂, subst, ◌∙◌}
use Rattle.std.proofs.lemmas.Bool.{le-leb}
use Rattle.std.proofs.lemmas.List.{take_all}
use Rattle.wire_base.specs.declared.conf.RouterConf.{RouterConf}
use Rattle.wire_base.specs.declared.limits.TheConstants.{CAPTURE_LIMIT}
use Rattle.wire_base.specs.declared.status.Status.TheVariants.{Done}
use Rattle.pcapng_frames.specs.declared.packet.NgRecord.{NgRecord}
use Rattle.command_node.specs.declared.node_command.tally.Tally.{Tally}
use Rattle.command_drive.specs.CaptureReading.{any_unread, any_fed, any_drained, any_fault, any_end}
use Rattle.command_drive.specs.Captures.{within_limit}
use Rattle.command_drive.specs.declared.capture_reader.RecordFault.{RecordFault}
use Rattle.command_drive.proofs.CaptureLaws.{ended_well, records_are}
use Rattle.command_node.specs.NodeRun.{first_node, records_reach, node_end, ending, node_answer_of, node_answer, HasNoGap, IsReplayable}
use Rattle.command_node.proofs.NodeLaws.{all_done}

ends_done : (t : Tally) (met ended : Option RecordFault) → met ≡ None → ended ≡ None → (node_end true t met ended).0 ≡ Done
ends_done t None None met-is ended-is = refl
ends_done t (Some why) ended met-is ended-is = absurd cc
ends_done t None (Some why) met-is ended-is = absurd cc

pub node_done : (r : RouterConf) (input : List ℕ) → IsReplayable input → (node_answer r input).status ≡ Done
unfolding node_answer within_limit
node_done r input is =
    let all : take CAPTURE_LIMIT input ≡ input = take_all CAPTURE_LIMIT input is.short in
    let again = records_are input is.records is.capture in
    let read = any_drained (any_fed any_unread input) in
    let reached = records_reach (first_node r) read.0 in
    let records : read.0 ≡ is.records = ap (λ (c : List NgRecord × Option RecordFault). c.0) again in
    let end : any_end read.1 ≡ None = ap (λ (c : List NgRecord × Option RecordFault). c.1) again in
    let steady : reached.gap ≡ None = all_done (first_node r) read.0 (subst (λ (rs : List NgRecord). HasNoGap None rs) (sym records) is.steady) in
    ap₂ (λ (b : Bool) (l : List ℕ). (node_answer_of b r (any_drained (any_fed any_unread l))).status) (le-leb _ CAPTURE_LIMIT is.short) all
    ∙ ap (λ (gap : Option (ℕ × ℕ)). (ending true read.1 reached.node.tally gap).0) steady
    ∙ ends_done reached.node.tally (any_fault read.1) (any_end read.1) (ended_well read.1 end) end
