use Rattle.wire_base.specs.model.Tlv.{prefix, prefix_at}
use Rattle.std.proofs.Common.{[]}
use Rattle.laws_format.proofs.FieldLaws.{spelled_once}
use Rattle.laws_format.proofs.TlvLaws.{prefix_again, prefix_takes}
use Rattle.laws_format.proofs.entries.prefix_law.Goals as goal

pub returns-clause-again : goal.returns-clause-again
returns-clause-again c = prefix_again

pub returns-clause-read : goal.returns-clause-read
returns-clause-read c = λ octets x rest fits e. let t = prefix_takes octets (x, rest) fits e in (t.1, t.0.parts)

pub returns-clause-one : goal.returns-clause-one
returns-clause-one c = λ a b fa fb e. spelled_once prefix_at (prefix a) (prefix b) a b (prefix_again a [] fa) (prefix_again b [] fb) e
