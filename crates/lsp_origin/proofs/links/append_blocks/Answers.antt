use Rattle.std.proofs.Common.{length, arith, ◌<◌}
use Rattle.wire_base.specs.model.Configuration.{IsEnd}
use Rattle.laws_format.proofs.ContentLaws.{cut_text, each_dropped}
use Rattle.lsp_origin.proofs.links.append_blocks.Goals as goal

pub cuts-preserved : goal.cuts-preserved
cuts-preserved c =
    let rest = c.cuts.rest.now in
    let n = c.min.result in
    let some : 0 < length rest = grind arith in
    let added = rw c.split_at.ensures.front at c.in_ok-append_block.ensures in
    record {
      text = rw c.split_at.ensures.back (cut_text c.cuts.out c.append_block.new.out _ rest n some c.min.ensures c.cuts.invariant.text added);
      ends = rw c.split_at.ensures.back (each_dropped IsEnd n rest c.cuts.invariant.ends);
    }
