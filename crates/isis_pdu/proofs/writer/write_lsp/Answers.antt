use Rattle.std.proofs.Common.{arith}
use Rattle.isis_pdu.specs.Views.{head_of}
use Rattle.isis_pdu.proofs.WriteLemmas.{lsp_read_again}
use Rattle.isis_pdu.proofs.writer.write_lsp.Goals as goal

pub returns-clause-again : goal.returns-clause-again
returns-clause-again c = λ live tlvs.
    let few = c.requires in
    lsp_read_again c.args.level (head_of c.args.head.now) c.args.tlvs.now c.lsp_octets.result c.lsp_octets.ensures.spelled (record { head_fits = c.lsp_octets.ensures.fits; size = omega (arith, few); live = live; tlvs_are = tlvs })
