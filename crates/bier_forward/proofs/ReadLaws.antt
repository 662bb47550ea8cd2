-- What a header that was read says of the octets.
use Rattle.std.proofs.Common.{◌≡◌, ◌≤◌, ℕ, List, length, Bool, true, false, nat_lt, Result, Ok, Err, refl, if◌then◌else◌}
use Rattle.std.proofs.lemmas.Bool.{ltb-false}
use Rattle.wire_base.specs.declared.bsl.Bsl.{Bsl}
use Rattle.wire_base.specs.declared.conf.Kind.{Kind}
use Rattle.wire_base.specs.declared.faults.HeadFault.{HeadFault}
use Rattle.wire_base.specs.declared.faults.HeadFault.TheVariants.{Short}
use Rattle.wire_base.specs.model.BierHeader.{BierHeader, header_at, header_length}

unless_short : (b : Bool) (r : Result BierHeader HeadFault) (h : BierHeader) → (if b then Err Short else r) ≡ Ok h → b ≡ false
unless_short true r h e = cc
unless_short false r h e = refl

pub long_enough : (kind : Kind) (bsl : Bsl) (octets : List ℕ) (h : BierHeader) → header_at kind bsl octets ≡ Ok h → header_length bsl ≤ length octets
unfolding header_at
long_enough kind bsl octets h e = ltb-false _ _ (unless_short (nat_lt (length octets) (header_length bsl)) _ h e)
