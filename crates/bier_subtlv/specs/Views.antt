-- The models of this crate's types.
use Rattle.std.specs.Prelude.{◌≡◌, Result, Ok, Err}
use Rattle.wire_base.specs.declared.faults.InfoFault.{InfoFault}
use Rattle.wire_base.specs.model.BierInfo.{Parts}
use Rattle.wire_base.specs.model.BierInfo.{Info as InfoItem}
use Rattle.bier_subtlv.specs.declared.reader.Info.{Info}
use Rattle.bier_subtlv.specs.declared.reader.PartsSoFar.{PartsSoFar}

abbrev pub info_of : Info → InfoItem
info_of i = record { sd = i.sd; id = i.id; ranges = i.ranges.items }

abbrev pub parts_view : PartsSoFar → Parts
parts_view p = record { seen = p.seen; ranges = p.ranges.items }

-- a step that returns Ok leaves the result of parsing
abbrev pub Becomes : Result (Unit {0}) InfoFault → Parts → Result Parts InfoFault → Type 0
Becomes (Ok u) new read = read ≡ Ok new
Becomes (Err e) new read = read ≡ Err e
