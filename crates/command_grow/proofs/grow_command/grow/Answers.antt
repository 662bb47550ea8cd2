use Rattle.std.proofs.Common.{ℕ, List, refl}
use Rattle.wire_base.specs.declared.status.Status.TheVariants.{InputRefused}
use Rattle.command_drive.proofs.Reported.{reports_by}
use Rattle.command_grow.specs.Grow.{grow_answer}
use Rattle.command_grow.proofs.GrowLaws.{answer_met}
use Rattle.command_grow.proofs.grow_command.grow.Goals as goal

pub returns : goal.returns
returns g c =
    let s = c.in-Ok.growing in
    let e = c.in-Ok.ensures in
    let answers : List ℕ → _ = λ octets. grow_answer c.args.n in
    let met = answer_met c.args.n s.n s.line c.new-lines.result.given s.replay c.new-texts.result.report c.new-texts.result.frames c.requires.some c.new-texts.ensures.report c.new-texts.ensures.frames e.n e.line c.new-lines.ensures e.replay in
    reports_by _ _ g.R.Sink InputRefused _ answers answers c.drive-status.result (record {}) c.drive-status.new.input c.new-frames.result c.drive-status.new.frames c.args.report.now c.drive-status.new.report (λ octets. met) (λ octets failed. met) refl refl c.drive-status.ensures
