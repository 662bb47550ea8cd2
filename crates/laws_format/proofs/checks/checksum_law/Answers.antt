use Rattle.laws_format.proofs.ChecksumLaws.{check_found, check_one, right_from, right_test}
use Rattle.laws_format.proofs.checks.checksum_law.Goals as goal

pub returns-clause-there_is : goal.returns-clause-there_is
returns-clause-there_is c = check_found

pub returns-clause-one : goal.returns-clause-one
returns-clause-one c = check_one

pub returns-clause-test : goal.returns-clause-test
returns-clause-test c = right_from

pub returns-clause-tested : goal.returns-clause-tested
returns-clause-tested c = right_test
