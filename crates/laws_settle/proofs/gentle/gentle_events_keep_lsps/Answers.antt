use Rattle.std.proofs.Common.{sym, subst}
use Rattle.domain_model.specs.World.{first_world}
use Rattle.laws_settle.specs.Fresh.{IsFresh}
use Rattle.laws_settle.proofs.RunLaws.{run_first, run_on}
use Rattle.laws_settle.proofs.gentle.gentle_events_keep_lsps.Goals as goal

pub returns : goal.returns
returns _ d es w valid allowed gentle is = subst IsFresh (sym is) (run_on es (first_world d) (run_first d valid) allowed gentle).fresh
