use Rattle.laws_router.proofs.ChangeLaws.{relabel_later, leave_later, join_later}
use Rattle.laws_router.proofs.changes.changes_keep_members.Goals as goal

pub returns : goal.returns
returns c = record { relabel = relabel_later; leave = leave_later; join = join_later }
