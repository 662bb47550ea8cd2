use Rattle.std.proofs.Common.{ℕ, ◌++◌, refl, ap, ◌∙◌}
use Rattle.domain_model.specs.declared.fault.EventFault.TheVariants.{Edge}
use Rattle.domain_replay.specs.Lines.{event_refused_text}
use Rattle.command_check.proofs.Beginning.{uncovered_begins}
use Rattle.command_check.proofs.checking.Checking.refuse_cover.Goals as goal

pub returns : goal.returns
returns c = λ cover rejects.
    let r = c.args.self.now.replaying in
    let texts = c.args.texts.now in
    uncovered_begins r.line r.replay cover c.args.why texts (record { frames = texts.frames; report = c.push_event_refused.new.out }) c.in_ok-known.ensures rejects
    (c.in_ok-push_event_refused.ensures.ok ∙ ap (λ (n : ℕ). texts.report ++ event_refused_text n (Edge c.args.why)) c.from-line.ensures) refl
