use Rattle.std.proofs.Common.{ℕ, List, ◌++◌, Result, refl, ap, subst, ◌∙◌}
use Rattle.wire_base.specs.declared.faults.EdgeFault.{EdgeFault}
use Rattle.run_texts.specs.declared.texts.Texts.{Texts}
use Rattle.domain_replay.specs.Lines.{cover_text}
use Rattle.command_check.specs.Turning.{Covers}
use Rattle.command_check.proofs.Beginning.{answer_begins, covered_begins}
use Rattle.command_check.proofs.checking.Checking.tell_cover.Goals as goal

pub returns-in_ok-push_cover-in-Ok : goal.returns-in_ok-push_cover-in-Ok
returns-in_ok-push_cover-in-Ok c = λ cover covers.
    let r = c.args.self.now.replaying in
    let texts = c.args.texts.now in
    let after : Texts = record { frames = texts.frames; report = c.push_cover.new.out } in
    let text = cover_text r.line c.in-Ok.ids in
    covered_begins r.line r.replay cover c.in-Ok.ids text texts after (subst (λ (r : Result (List ℕ) EdgeFault). Covers cover r) c.in-Ok.is covers)
    (answer_begins r.line r.replay text texts after (c.in_ok-push_cover-in-Ok.ensures.ok ∙ ap (λ (ids : List ℕ). texts.report ++ cover_text r.line ids) c.as_slice.ensures) refl) refl
