use Rattle.std.proofs.lemmas.Result.{on_ok_weaker}
use Rattle.wire_base.specs.model.BierInfo.{info_tlv, own_of}
use Rattle.laws_format.proofs.TlvLaws.{tlv_pushed}
use Rattle.laws_format.proofs.InfoLaws.{info_again}
use Rattle.bier_subtlv.proofs.writer.push_info.Goals as goal

pub returns-clause-again : goal.returns-clause-again
returns-clause-again c = on_ok_weaker c.append_info.result (tlv_pushed c.args.out.now c.append_info.new.out (info_tlv (own_of c.args.s.now))) c.append_info.ensures.ok

pub returns-clause-value : goal.returns-clause-value
returns-clause-value c = info_again (own_of c.args.s.now) c.requires
