use Rattle.std.proofs.Common.{◌≡◌, ◌+◌, ◌*◌, ◌∷◌, ◌++◌, take}
use Rattle.std.specs.List.{flat_map}
use Rattle.arrayvec.specs.ArrayVec.{array_vec_len}
use Rattle.byteorder.specs.Endian.{big_bytes}
use Rattle.wire_base.specs.model.BierInfo.{range}
use Rattle.bier_subtlv.proofs.writer.info_octets.Given as goal

abbrev pub invariant-loop-r : goal.invariant-loop-r
invariant-loop-r l = record {
  items : l.value.items ≡ (0 ∷ 0 ∷ l.s.sd ∷ big_bytes 2 l.s.id) ++ flat_map range (take l.r-index l.r-items);
  len : array_vec_len l.value ≡ 5 + 6 * l.r-index;
}
