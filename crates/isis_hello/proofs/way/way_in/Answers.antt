use Rattle.std.proofs.Common.{List, ℕ, Option, None, Result, sym, ap, ◌∙◌}
use Rattle.wire_base.specs.model.Tlv.{tlvs_of}
use Rattle.isis_tlv.specs.Views.{item}
use Rattle.isis_hello.specs.declared.fault.HelloFault.{HelloFault}
use Rattle.isis_hello.specs.declared.way.ThreeWay.{ThreeWay}
use Rattle.isis_hello.specs.Hello.{way_in}
use Rattle.isis_hello.proofs.WayLemmas.{way_with, way_fault, way_end, way_next}
use Rattle.isis_hello.proofs.way.way_in.Goals as goal

pub entries-init : goal.entries-init
unfolding way_in way_with
entries-init c = ap (λ (l : List ℕ). way_with None (tlvs_of l)) c.new-walk.ensures

pub returns-in-Err : goal.returns-in-Err
returns-in-Err c = sym (way_fault c.entries.found c.entries.walk c.in-Err.field-0 c.in-Err.ensures.exact.0) ∙ c.entries.invariant

pub returns-in-Ok-None : goal.returns-in-Ok-None
returns-in-Ok-None c =
    let e = rw c.in-Ok-None.field-0-is at c.in-Ok-None.ensures.exact in
    c.unwrap_or.ensures ∙ sym (way_end c.entries.found c.entries.walk e.0) ∙ c.entries.invariant

pub entries-preserved : goal.entries-preserved
entries-preserved c =
    let e = rw c.in-Ok-Some.field-0-is at c.in-Ok-Some.ensures.exact in
    ap (λ (f : Option (Result ThreeWay HelloFault)). way_with f (tlvs_of c.next.new.self)) c.found_with-found.ensures
    ∙ sym (way_next c.entries.found c.entries.walk (item c.in-Ok-Some.tlv) c.next.new.self e) ∙ c.entries.invariant
