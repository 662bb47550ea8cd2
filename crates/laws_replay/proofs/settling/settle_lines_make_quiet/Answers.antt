use Rattle.laws_replay.proofs.SettleLines.{line_settles, line_idles}
use Rattle.laws_replay.proofs.settling.settle_lines_make_quiet.Goals as goal

pub returns-clause-quiet : goal.returns-clause-quiet
returns-clause-quiet _ d before text rounds valid reads settling = line_settles d valid before text rounds reads settling

pub returns-clause-idle : goal.returns-clause-idle
returns-clause-idle _ d before text rounds valid reads settling more = line_idles d valid before text rounds reads settling more
