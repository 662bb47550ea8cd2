use Rattle.domain_replay.proofs.TellingLaws.{line_told}
use Rattle.domain_replay.proofs.laws.each_line_is_told.Goals as goal

pub returns : goal.returns
returns _ d line r said is there = line_told d line r said is there
