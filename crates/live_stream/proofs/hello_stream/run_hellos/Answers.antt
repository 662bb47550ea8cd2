use Rattle.std.proofs.Common.{slice_get, ap, ◌∙◌}
use Rattle.wire_base.specs.declared.status.Status.TheVariants.{CaptureRefused}
use Rattle.command_drive.specs.Reading.{Ends, Fails}
use Rattle.command_drive.proofs.Meanings.{drives_as}
use Rattle.command_drive.proofs.Untouched.{drives_none}
use Rattle.live_stream.specs.Events.{Seat}
use Rattle.live_stream.specs.HelloRun.{hello_means}
use Rattle.live_stream.proofs.HelloRecords.{means_so}
use Rattle.command_node.proofs.NodeRecords.{any_conf, starts_as}
use Rattle.live_stream.proofs.hello_stream.run_hellos.Goals as goal

pub returns-in_default : goal.returns-in_default
returns-in_default g c = any_conf (slice_get c.args.domain.routers c.args.router) _ (λ conf. drives_none g.S.Source g.C.Sink g.R.Sink CaptureRefused (hello_means (record { domain = c.args.domain; place = c.args.router }) conf) c.args.input.now c.args.frames.now c.args.report.now)

pub returns-in_default-start : goal.returns-in_default-start
returns-in_default-start g c = any_conf (slice_get c.args.domain.routers c.args.router) _ (λ conf. drives_none g.S.Source g.C.Sink g.R.Sink CaptureRefused (hello_means (record { domain = c.args.domain; place = c.args.router }) conf) c.args.input.now c.args.frames.now c.args.report.now)

pub returns : goal.returns
returns g c =
    let live = c.in-Ok-start.hellos in
    let conf = live.greeter.conf in
    let seat : Seat = record { domain = c.args.domain; place = c.args.router } in
    let means = means_so live.seat conf live.greeter c.trade.new.self c.trade.new.texts c.new-texts.result _ c.in-Ok.ensures.fresh c.in-Ok-start.ensures.fresh c.trade.ensures.greeter c.trade.ensures.frames c.trade.ensures.report c.new-texts.ensures.frames c.new-texts.ensures.report in
    starts_as (slice_get c.args.domain.routers c.args.router) conf _ c.in-Ok-start.ensures.at
    (drives_as g.S.Source g.C.Sink g.R.Sink CaptureRefused _ (hello_means seat conf) c.drive.result c.args.input.now c.drive.new.input c.args.frames.now c.drive.new.frames c.args.report.now c.drive.new.report
    (λ octets. means Ends octets ∙ ap (λ (s : Seat). hello_means s conf Ends octets) c.in-Ok-start.ensures.seat)
    (λ octets failed. means Fails octets ∙ ap (λ (s : Seat). hello_means s conf Fails octets) c.in-Ok-start.ensures.seat) c.drive.ensures)
