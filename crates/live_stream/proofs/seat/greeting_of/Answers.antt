use Rattle.replay_text.specs.Hand.{hand_line}
use Rattle.live_stream.proofs.HappenLaws.{greeting_read}
use Rattle.live_stream.proofs.seat.greeting_of.Goals as goal

pub returns : goal.returns
returns c = greeting_read c.read_hand_line.result (hand_line c.args.text.now c.args.names.now) c.one_greeting.result c.read_hand_line.ensures.value c.one_greeting.ensures.value c.one_greeting.ensures.known
