use Rattle.std.proofs.Common.{◌++◌, [], false, refl, ap, sym, ◌∙◌}
use Rattle.wire_base.specs.declared.limits.TheConstants.{TEXT_LIMIT}
use Rattle.wire_base.specs.declared.status.Status.TheVariants.{InputRefused}
use Rattle.command_drive.specs.Answer.{Verdict}
use Rattle.command_drive.specs.Reading.{Ends, Fails}
use Rattle.command_drive.specs.Lines.{lines_read}
use Rattle.command_drive.proofs.Meanings.{means_first}
use Rattle.command_drive.proofs.Reported.{reports_by, reports_none}
use Rattle.command_hop.specs.HopText.{hop_answer, hop_cut}
use Rattle.command_hop.specs.Owed.{nothing_reached, owed}
use Rattle.command_hop.proofs.Steps.{means_whole, means_front}
use Rattle.command_hop.proofs.hop.run_hop.Goals as goal

pub returns-in_default : goal.returns-in_default
returns-in_default g c = reports_none g.S.Source g.R.Sink InputRefused hop_answer hop_cut c.args.input.now c.args.report.now

pub returns : goal.returns
returns g c =
    let means = means_first (lines_read (c.in-Ok.lines.front ++ c.in-Ok.lines.unread) c.in-Ok.lines.room c.in-Ok.lines.over) (lines_read [] TEXT_LIMIT false) (owed c.new-hop.result) (owed nothing_reached) c.new-texts.result c.new-texts.ensures.report c.new-texts.ensures.frames
    c.in-Ok.ensures.fresh (ap owed c.new-hop.ensures) in
    reports_by g.S.Source _ g.R.Sink InputRefused _ hop_answer hop_cut c.drive.result c.args.input.now c.drive.new.input c.new-frames.result c.drive.new.frames c.args.report.now c.drive.new.report
    (λ octets. means Ends octets ∙ means_whole octets)
    (λ octets failed. means Fails octets ∙ means_front octets (sym (ap (λ (v : Verdict). v.status) (means Fails octets)) ∙ failed))
    refl refl c.drive.ensures
