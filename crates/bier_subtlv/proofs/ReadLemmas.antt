-- What is read is in the grammar.
use Rattle.std.proofs.Common.{ℕ, ◌≤◌, List, length, Result, Ok, Err}
use Rattle.std.specs.Prelude.{IfOk}
use Rattle.wire_base.specs.declared.faults.InfoFault.{InfoFault}
use Rattle.wire_base.specs.model.Fields.{Gives, AreOctets}
use Rattle.wire_base.specs.model.BierInfo.{InfoFits, IsInfo, info_at}
use Rattle.laws_format.proofs.InfoLaws.{info_found, info_fits}
use Rattle.bier_subtlv.specs.declared.reader.Info.{Info}
use Rattle.bier_subtlv.specs.Views.{info_of}

pub read_found : (value : List ℕ) (r : Result Info InfoFault) → AreOctets value → Gives info_of r (info_at value) → IfOk r (λ i. IsInfo value (info_of i))
read_found value (Ok i) fits given = info_found value (info_of i) fits given
read_found value (Err e) fits given = tt

pub read_fits : (value : List ℕ) (r : Result Info InfoFault) → AreOctets value → Gives info_of r (info_at value) → IfOk r (λ i. length i.ranges.items ≤ 7) → IfOk r (λ i. InfoFits (info_of i))
read_fits value (Ok i) fits given few = info_fits value (info_of i) fits few (info_found value (info_of i) fits given)
read_fits value (Err e) fits given few = tt
