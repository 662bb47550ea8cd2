use Rattle.std.proofs.Common.{◌∙◌, [], false, refl, ap, sym}
use Rattle.wire_base.specs.declared.limits.TheConstants.{CAPTURE_LIMIT}
use Rattle.wire_base.specs.declared.status.Status.TheVariants.{CaptureRefused}
use Rattle.command_drive.specs.CaptureReading.{any_unread}
use Rattle.command_drive.specs.Answer.{Verdict}
use Rattle.command_drive.specs.Reading.{Ends, Fails}
use Rattle.command_drive.specs.Records.{records_read}
use Rattle.command_drive.proofs.Meanings.{means_first}
use Rattle.command_drive.proofs.Reported.{reports_by, reports_none}
use Rattle.command_topo.specs.declared.query.Query.{Query}
use Rattle.command_topo.specs.TopoText.{topo_answer, topo_cut}
use Rattle.command_topo.specs.Owed.{owed}
use Rattle.command_topo.proofs.Steps.{means_whole, means_front}
use Rattle.command_topo.proofs.topo.run_topo.Goals as goal

pub returns-in_default : goal.returns-in_default
returns-in_default g c =
    let q : Query = record { level = c.args.level; mt = c.args.mt; from = c.args.from } in
    reports_none g.S.Source g.R.Sink CaptureRefused (topo_answer q) (topo_cut q) c.args.input.now c.args.report.now

pub returns : goal.returns
returns g c =
    let q : Query = record { level = c.args.level; mt = c.args.mt; from = c.args.from } in
    let means = means_first (records_read c.in-Ok.records.reader c.in-Ok.records.room c.in-Ok.records.over) (records_read any_unread CAPTURE_LIMIT false) (owed q 0 c.new-store.result.entries) (owed q 0 []) c.new-texts.result c.new-texts.ensures.report c.new-texts.ensures.frames c.in-Ok.ensures.fresh (ap (owed q 0) c.new-store.ensures) in
    reports_by g.S.Source _ g.R.Sink CaptureRefused _ (topo_answer q) (topo_cut q) c.drive.result c.args.input.now c.drive.new.input c.new-frames.result c.drive.new.frames c.args.report.now c.drive.new.report
    (λ octets. means Ends octets ∙ means_whole q octets)
    (λ octets failed. means Fails octets ∙ means_front q octets (sym (ap (λ (v : Verdict). v.status) (means Fails octets)) ∙ failed))
    refl refl c.drive.ensures
