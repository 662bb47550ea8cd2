use Rattle.wire_base.specs.model.Tlv.{reach, reach_at}
use Rattle.std.proofs.Common.{[]}
use Rattle.laws_format.proofs.FieldLaws.{spelled_once}
use Rattle.laws_format.proofs.TlvLaws.{reach_again, reach_takes}
use Rattle.laws_format.proofs.entries.reach_law.Goals as goal

pub returns-clause-again : goal.returns-clause-again
returns-clause-again c = reach_again

pub returns-clause-read : goal.returns-clause-read
returns-clause-read c = λ octets x rest fits e. let t = reach_takes octets (x, rest) fits e in (t.1, t.0.parts)

pub returns-clause-one : goal.returns-clause-one
returns-clause-one c = λ a b fa fb e. spelled_once reach_at (reach a) (reach b) a b (reach_again a [] fa) (reach_again b [] fb) e
