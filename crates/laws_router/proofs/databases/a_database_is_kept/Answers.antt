use Rattle.laws_router.proofs.StateLaws.{up_kept, down_kept, sent_kept, issue_kept, new_kept, all_aged}
use Rattle.laws_router.proofs.databases.a_database_is_kept.Goals as goal

pub returns-clause-new : goal.returns-clause-new
returns-clause-new _ own up few = new_kept own up few

pub returns-clause-up : goal.returns-clause-up
returns-clause-up _ own up spent f es link k within = up_kept own up spent f es link k within

pub returns-clause-down : goal.returns-clause-down
returns-clause-down _ own up spent f es link k = down_kept own up spent f es link k

pub returns-clause-sent : goal.returns-clause-sent
returns-clause-sent _ own up spent f es link k = sent_kept own up spent f es link k

pub returns-clause-issued : goal.returns-clause-issued
returns-clause-issued _ own up spent now f es e k is short live = issue_kept own up spent now f es e k is short live

pub returns-clause-second : goal.returns-clause-second
returns-clause-second _ own up spent f es k = all_aged own up spent f es k
