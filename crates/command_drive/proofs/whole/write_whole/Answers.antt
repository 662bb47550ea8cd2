use Rattle.command_drive.proofs.Written.{whole_front, on_err}
use Rattle.command_drive.proofs.whole.write_whole.Goals as goal

pub returns-clause-front : goal.returns-clause-front
returns-clause-front g c = on_err c.finish.result _ (whole_front (g.R.Sink.written c.args.sink.now) (g.R.Sink.written c.write_all.new.sink) (g.R.Sink.written c.finish.new.self) c.args.text.now c.in_ok-write_all.ensures.written c.finish.ensures.bytes)
