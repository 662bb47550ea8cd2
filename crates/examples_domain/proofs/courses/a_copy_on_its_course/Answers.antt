use Rattle.examples_domain.proofs.CourseCases.{on_enters, on_goes_on}
use Rattle.examples_domain.proofs.courses.a_copy_on_its_course.Goals as goal

pub returns-clause-enters : goal.returns-clause-enters
returns-clause-enters _ = on_enters

pub returns-clause-goes_on : goal.returns-clause-goes_on
returns-clause-goes_on _ = on_goes_on
