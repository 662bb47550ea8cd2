use Rattle.std.proofs.Common.{◌-◌, length, arith}
use Rattle.replay_text.proofs.PlaceLaws.{first_place}
use Rattle.replay_text.proofs.place.Place.new.Goals as goal

pub returns-clause-place : goal.returns-clause-place
returns-clause-place c = first_place c.args.octets.now (length c.args.octets.now - 8) c.word_at.result c.requires.words c.requires.few (omega (arith, c.requires.some)) c.word_at.ensures
