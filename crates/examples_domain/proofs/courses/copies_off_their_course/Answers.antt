use Rattle.examples_domain.proofs.CourseCases.{off_aside, off_back, off_spent}
use Rattle.examples_domain.proofs.courses.copies_off_their_course.Goals as goal

pub returns-clause-aside : goal.returns-clause-aside
returns-clause-aside _ i = off_aside i

pub returns-clause-back : goal.returns-clause-back
returns-clause-back _ i = off_back i

pub returns-clause-spent : goal.returns-clause-spent
returns-clause-spent _ i = off_spent i
