use Rattle.std.proofs.Common.{◌<◌, ◌≡◌, ◌+◌, ◌-◌, suc, length, arith}
use Rattle.router_core.proofs.AgingLaws.{older_step, step_long, older_first, older_last}
use Rattle.router_core.proofs.seconds.age_all.Goals as goal

pub entries-init : goal.entries-init
entries-init c = record { older = older_first c.args.store.now.entries c.args.flood.now.flood; within = omega arith; spare = omega arith; room = omega arith }

pub entries-smaller : goal.entries-smaller
entries-smaller c =
    let lt : c.entries.place < length c.entries.store.entries = omega arith in
    let long : length c.age_one-place.new.store.entries ≡ c.age_one-place.result + (length c.entries.store.entries - suc c.entries.place) =
    step_long c.entries.store.entries c.age_one-place.new.store.entries c.entries.place c.age_one-place.result c.entries.flood.flood c.age_one-place.new.flood.flood lt c.age_one-place.ensures.one in
    omega arith

pub entries-preserved : goal.entries-preserved
entries-preserved c =
    let lt : c.entries.place < length c.entries.store.entries = omega arith in
    let long : length c.age_one-place.new.store.entries ≡ c.age_one-place.result + (length c.entries.store.entries - suc c.entries.place) =
    step_long c.entries.store.entries c.age_one-place.new.store.entries c.entries.place c.age_one-place.result c.entries.flood.flood c.age_one-place.new.flood.flood lt c.age_one-place.ensures.one in
    record {
      older = older_step c.entries.store.entries c.age_one-place.new.store.entries c.entries.place c.age_one-place.result c.entries.flood.flood c.age_one-place.new.flood.flood lt c.age_one-place.ensures.one c.args.store.now.entries c.args.flood.now.flood c.entries.invariant.older;
      within = omega arith;
      spare = omega arith;
      room = omega arith;
    }

pub returns-clause-flood : goal.returns-clause-flood
returns-clause-flood c = (older_last c.args.store.now.entries c.entries.store.entries c.args.flood.now.flood c.entries.flood.flood c.entries.place c.entries.invariant.older (omega arith)).0

pub returns-clause-entries : goal.returns-clause-entries
returns-clause-entries c = (older_last c.args.store.now.entries c.entries.store.entries c.args.flood.now.flood c.entries.flood.flood c.entries.place c.entries.invariant.older (omega arith)).1
