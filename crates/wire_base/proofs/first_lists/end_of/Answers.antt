use Rattle.std.proofs.Common.{rules, ◌≡◌, ◌+◌, slice_index_or}
use Rattle.wire_base.proofs.FirstListLaws.{next_within, start_before}
use Rattle.wire_base.proofs.first_lists.end_of.Goals as goal

pub returns-in-Some-clause-order : goal.returns-in-Some-clause-order
returns-in-Some-clause-order c =
    let next : c.in-Some.next.now ≡ slice_index_or c.args.starts.now (c.args.place + 1) c.args.count = search rules in
    rw next (start_before c.args.starts.now c.args.count c.args.place c.requires.starts c.requires.place)

pub returns-in-Some-clause-within : goal.returns-in-Some-clause-within
returns-in-Some-clause-within c =
    let next : c.in-Some.next.now ≡ slice_index_or c.args.starts.now (c.args.place + 1) c.args.count = search rules in
    rw next (next_within c.args.starts.now c.args.count (c.args.place + 1) c.requires.starts)

pub returns-in-None-clause-order : goal.returns-in-None-clause-order
returns-in-None-clause-order c =
    let next : c.args.count ≡ slice_index_or c.args.starts.now (c.args.place + 1) c.args.count = search rules in
    rw next (start_before c.args.starts.now c.args.count c.args.place c.requires.starts c.requires.place)
