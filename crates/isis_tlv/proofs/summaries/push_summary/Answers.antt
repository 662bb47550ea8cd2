use Rattle.std.proofs.lemmas.Result.{on_ok_weaker}
use Rattle.wire_base.specs.model.Tlv.{row, row_at}
use Rattle.laws_format.proofs.FieldLaws.{read_again}
use Rattle.laws_format.proofs.TlvLaws.{row_again}
use Rattle.isis_tlv.proofs.summaries.push_summary.Goals as goal

pub returns-clause-again : goal.returns-clause-again
returns-clause-again c = on_ok_weaker c.append_summary.result (read_again row_at c.args.out.now (row c.args.s.now) c.append_summary.new.out c.args.s.now (λ rest. row_again c.args.s.now rest c.append_summary.ensures.fits)) c.append_summary.ensures.ok
