use Rattle.std.proofs.Common.{List, ◌++◌, refl, ap₂, ◌∙◌}
use Rattle.wire_base.specs.declared.conf.RouterConf.{RouterConf}
use Rattle.quiet_domain.specs.declared.answer.Quiet.{Quiet}
use Rattle.domain_core.specs.Quiet.{quiet_of}
use Rattle.domain_replay.specs.Lines.{quiet_text}
use Rattle.command_check.proofs.Beginning.{answer_begins}
use Rattle.command_check.proofs.checking.Checking.tell_quiet.Goals as goal

pub returns : goal.returns
returns c =
    let r = c.args.self.now.replaying in
    let w = r.replay.world in
    let texts = c.args.texts.now in
    answer_begins r.line r.replay (quiet_text w.domain.routers r.line (quiet_of w)) texts (record { frames = texts.frames; report = c.push_quiet.new.out })
    (c.in_ok-push_quiet.ensures.ok ∙ ap₂ (λ (rs : List RouterConf) (q : Quiet). texts.report ++ quiet_text rs r.line q) c.routers.ensures c.quiet-quiet.ensures.value) refl
