use Rattle.laws_course.proofs.WayLaws.{copy_sent}
use Rattle.laws_course.proofs.ways.chosen_copies_are_sent.Goals as goal

pub returns : goal.returns
returns _ w a c x y k ks ttl truth at goes = copy_sent w truth a c at x y k goes ks ttl
