use Rattle.std.proofs.lemmas.Result.{on_ok_weaker}
use Rattle.wire_base.specs.model.Tlv.{reach, reach_at}
use Rattle.laws_format.proofs.FieldLaws.{read_again}
use Rattle.laws_format.proofs.TlvLaws.{reach_again}
use Rattle.isis_tlv.specs.Views.{reach_of}
use Rattle.isis_tlv.proofs.reaches.push_reach.Goals as goal

pub returns-clause-again : goal.returns-clause-again
returns-clause-again c = on_ok_weaker c.append_reach.result (read_again reach_at c.args.out.now (reach (reach_of c.args.r.now)) c.append_reach.new.out (reach_of c.args.r.now) (λ rest. reach_again (reach_of c.args.r.now) rest c.append_reach.ensures.fits)) c.append_reach.ensures.ok
