use Rattle.laws_course.proofs.LawLaws.{begun, gone_on}
use Rattle.laws_course.proofs.steps.copies_stay_on_course.Goals as goal

pub returns-clause-first : goal.returns-clause-first
returns-clause-first _ w e c n k i h = (begun w e c n k i h).0

pub returns-clause-first_drops : goal.returns-clause-first_drops
returns-clause-first_drops _ w e c n k i h = (begun w e c n k i h).1

pub returns-clause-later : goal.returns-clause-later
returns-clause-later _ w e s c n k h = (gone_on w e s c n k h).0

pub returns-clause-later_drops : goal.returns-clause-later_drops
returns-clause-later_drops _ w e s c n k h = (gone_on w e s c n k h).1
