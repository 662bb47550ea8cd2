use Rattle.std.proofs.Common.{◌<◌, length, arith}
use Rattle.isis_pdu.proofs.WriteLemmas.{cut_text, cut_fits, cut_end, front_more}
use Rattle.isis_pdu.proofs.writer.append_rows.Goals as goal

pub cuts-preserved : goal.cuts-preserved
cuts-preserved c =
    let rest = c.cuts.rest.now in
    let n = c.min.result in
    let some : 0 < length rest = grind arith in
    let added = rw c.split_at.ensures.front at c.in_ok-append_block.ensures.ok in
    let front = rw c.split_at.ensures.front at c.in_ok-append_block.ensures.fits in
    record {
      text = rw c.split_at.ensures.back (cut_text c.cuts.out c.append_block.new.out _ rest n some c.min.ensures c.cuts.invariant.text added);
      front = rw added (front_more _ c.cuts.out _ c.cuts.invariant.front);
      fits = λ back. c.cuts.invariant.fits (cut_fits rest n front (rw c.split_at.ensures.back at back));
    }

pub returns-clause-ok : goal.returns-clause-ok
returns-clause-ok c = cut_end c.cuts.out _ c.cuts.rest.now (grind arith) c.cuts.invariant.text
