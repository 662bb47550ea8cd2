use Rattle.std.proofs.Common.{◌≡◌, ◌*◌, ◌++◌, ◌∷◌, length, take}
use Rattle.std.specs.List.{flat_map, AllByRecursion}
use Rattle.wire_base.specs.model.Tlv.{SummaryFits, row}
use Rattle.isis_pdu.proofs.writer.append_block.Given as goal

abbrev pub invariant-loop-s : goal.invariant-loop-s
invariant-loop-s l = record {
  text : l.out ≡ l.fn.out ++ (9 ∷ 16 * length l.entries ∷ flat_map row (take l.s-index l.entries));
  fits : AllByRecursion SummaryFits (take l.s-index l.entries);
}
