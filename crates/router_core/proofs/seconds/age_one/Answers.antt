use Rattle.router_core.proofs.AgingLaws.{one_is}
use Rattle.router_core.proofs.seconds.age_one.Goals as goal

pub returns-clause-one : goal.returns-clause-one
returns-clause-one c =
    one_is c.args.store.now.entries c.age_at-answer.new.self.entries c.args.place c.next_place.result c.args.flood.now.flood c.flag_aged.new.flood.flood c.age_at-answer.result c.at.result.now
    c.at.ensures c.age_at-answer.ensures.second c.flag_aged.ensures.flags c.next_place.ensures
