use Rattle.std.proofs.lemmas.Result.{on_ok_weaker}
use Rattle.laws_format.proofs.TlvLaws.{tlv_pushed}
use Rattle.isis_tlv.proofs.walk.push_tlv.Goals as goal

pub returns-clause-again : goal.returns-clause-again
returns-clause-again c = on_ok_weaker c.append_tlv.result (tlv_pushed c.args.out.now c.append_tlv.new.out (record { code = c.args.code; value = c.args.value.now })) c.append_tlv.ensures.ok
