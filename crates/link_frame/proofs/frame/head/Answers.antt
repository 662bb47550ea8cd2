use Rattle.std.proofs.Common.{rules, ◌≡◌, length}
use Rattle.link_frame.proofs.Frames.{head_is}
use Rattle.link_frame.proofs.frame.head.Goals as goal

pub returns-clause-items : goal.returns-clause-items
returns-clause-items c =
    let six_to : length c.args.to.0 ≡ 6 = search rules in
    let six_from : length c.args.from.0 ≡ 6 = search rules in
    head_is c.args.to.0 c.args.from.0 c.to_be_bytes.result c.args.number six_to six_from c.to_be_bytes.ensures
