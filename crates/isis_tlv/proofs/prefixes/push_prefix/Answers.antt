use Rattle.std.proofs.lemmas.Result.{on_ok_weaker}
use Rattle.wire_base.specs.model.Tlv.{prefix, prefix_at}
use Rattle.laws_format.proofs.FieldLaws.{read_again}
use Rattle.laws_format.proofs.TlvLaws.{prefix_again}
use Rattle.isis_tlv.specs.Views.{prefix_of}
use Rattle.isis_tlv.proofs.prefixes.push_prefix.Goals as goal

pub returns-clause-again : goal.returns-clause-again
returns-clause-again c = on_ok_weaker c.append_prefix.result (read_again prefix_at c.args.out.now (prefix (prefix_of c.args.p.now)) c.append_prefix.new.out (prefix_of c.args.p.now) (λ rest. prefix_again (prefix_of c.args.p.now) rest c.append_prefix.ensures.fits)) c.append_prefix.ensures.ok
