use Rattle.std.proofs.Common.{◌≡◌, ◌∙◌, ◌+◌, ◌++◌, List, ℕ, suc, take, ap, append_assoc, arith}
use Rattle.replay_report.specs.Captures.{frame_record, wire_records}
use Rattle.replay_report.proofs.RecordLaws.{one_more}
use Rattle.replay_report.proofs.capture.push_each.Goals as goal

pub loop-i-preserved : goal.loop-i-preserved
loop-i-preserved c =
    let next : suc c.loop-i.i ≡ c.loop-i.i + 1 = omega arith in
    let a = c.args in
    let records : ℕ → List ℕ = λ n. wire_records a.recording a.routers.now a.line (take n a.frames.now) in
    let more = frame_record a.recording c.interface_at-interface.result a.line c.octets_at.result.now in
    c.in_ok-push_frame.ensures.ok
    ∙ ap (λ (l : List ℕ). l ++ more) c.loop-i.invariant
    ∙ append_assoc a.out.now (records c.loop-i.i) more
    ∙ ap (λ (l : List ℕ). a.out.now ++ l) (one_more a.recording a.routers.now a.line a.frames.now c.loop-i.i c.sender-from.result c.receiver_at-to.result c.interface_at-interface.result c.octets_at.result.now
    c.sender-from.ensures c.receiver_at-to.ensures c.octets_at.ensures c.interface_at-interface.ensures ∙ ap records next)
