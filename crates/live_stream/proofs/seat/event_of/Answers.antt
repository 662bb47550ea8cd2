use Rattle.replay_text.specs.Schedule.{schedule_line}
use Rattle.live_stream.proofs.HappenLaws.{event_read}
use Rattle.live_stream.proofs.seat.event_of.Goals as goal

pub returns-clause-read : goal.returns-clause-read
returns-clause-read c = event_read c.read_line.result (schedule_line c.args.text.now c.args.names.now) c.one_event.result c.read_line.ensures.value c.one_event.ensures.value c.one_event.ensures.known
