use Rattle.std.proofs.Common.{ap, ◌∙◌, arith}
use Rattle.live_stream.specs.HelloOwed.{bare}
use Rattle.live_stream.specs.HelloRun.{Greeter, hello_done}
use Rattle.live_stream.proofs.HelloLaws.{done_counts}
use Rattle.live_stream.proofs.HelloRecords.{told_record}
use Rattle.live_stream.proofs.hello_stream.LiveHellosCommandNgRecord.item.Goals as goal

pub returns-clause-did : goal.returns-clause-did
returns-clause-did c =
    told_record c.args.self.now.seat c.args.self.now.greeter c.trade-2.new.self c.args.item.now c.args.texts.now c.trade-2.new.texts c.take.new.self
    (c.in_ok-take.ensures ∙ ap (λ (n : Greeter). hello_done c.args.self.now.seat n c.args.item.now) c.trade.ensures.greeter) c.trade-2.ensures.frames c.trade-2.ensures.report (ap bare c.trade-2.ensures.greeter)

pub returns-clause-room : goal.returns-clause-room
returns-clause-room c =
    let records = λ (n : Greeter). n.records in
    omega (arith, ap records c.trade-2.ensures.greeter, ap records c.in_ok-take.ensures, done_counts c.args.self.now.seat c.trade.new.self c.args.item.now, ap records c.trade.ensures.greeter)
