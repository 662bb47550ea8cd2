use Rattle.std.proofs.Common.{◌≡◌}
use Rattle.live_stream.specs.HelloRun.{Greeter}
use Rattle.live_stream.proofs.HelloLaws.{sent_so}
use Rattle.live_stream.proofs.greeter.Greeter.send.Goals as goal

pub returns : goal.returns
returns c =
    let inside : Greeter = record { conf = c.self.inside.conf; circuits = c.self.inside.circuits; records = c.self.inside.records; frames = c.self.inside.frames; report = c.self.inside.report } in
    let same : c.as_slice-2.result.now ≡ c.in_ok-frame.frame = cc in
    sent_so c.push_record.result inside c.args.self.now c.args.captured.now c.args.link c.in-Some.end c.get-circuit.result c.as_slice-event.result.now c.in_ok-frame.frame c.as_slice-2.result.now c.push_record.new.out
    (cc) c.get-circuit.ensures c.as_slice-event.ensures c.in_ok-frame.ensures same c.push_record.ensures c.self.view_is
