use Rattle.std.proofs.Common.{◌∙◌, arith}
use Rattle.laws_format.proofs.ChecksumLaws.{check_found, check_only, check_sum_is, check_octets}
use Rattle.isis_pdu.proofs.checksum.checksum_at.Goals as goal

pub returns-clause-check : goal.returns-clause-check
returns-clause-check c =
    let found = check_found c.args.bytes.now c.args.at c.requires.within c.requires.first_zero c.requires.second_zero in
    check_octets c.args.bytes.now c.args.at c.pair_at.result c.pair_at.ensures found

pub returns-clause-only : goal.returns-clause-only
returns-clause-only c = λ pair is.
    let o = check_only c.args.bytes.now c.args.at pair c.requires.within c.requires.first_zero c.requires.second_zero is in
    let e = c.pair_at.ensures ∙ check_sum_is c.args.bytes.now c.args.at in
    omega (arith, e, o.0, o.1)
