-- The TLVs of a topology, TLV by TLV.
use Rattle.std.proofs.Common.{◌≡◌, ℕ, List, [], ◌++◌, Some, None, Ok, Err, refl, sym, ap, ◌∙◌, append_assoc, append-nil}
use Rattle.std.specs.List.{flat_map}
use Rattle.std.proofs.lemmas.List.Concat.{flat_map-append}
use Rattle.wire_base.specs.declared.faults.TlvFault.{TlvFault}
use Rattle.wire_base.specs.model.Tlv.{Tlv, tlv, tlv_at, tlvs_before}
use Rattle.laws_format.proofs.TlvListLaws.{before_step, before_end, before_fault}
use Rattle.topo_mt.specs.MultiTopology.{projected_content, projected_tlv}

-- what those TLVs say of the topology
abbrev said : ℕ → List Tlv → List ℕ
said mt ts = flat_map tlv (flat_map (projected_tlv mt) ts)

pub all_left : (mt : ℕ) (content : List ℕ) → [] ++ said mt (tlvs_before content) ≡ projected_content mt content
unfolding projected_content
all_left mt content = refl

pub one_less : (mt : ℕ) (octets rest : List ℕ) (t : Tlv) (out now all : List ℕ) → tlv_at octets ≡ Ok (Some (t, rest)) → now ≡ out ++ flat_map tlv (projected_tlv mt t) → out ++ said mt (tlvs_before octets) ≡ all → now ++ said mt (tlvs_before rest) ≡ all
one_less mt octets rest t out now all at is before =
    ap (λ (l : List ℕ). l ++ said mt (tlvs_before rest)) is
    ∙ append_assoc out (flat_map tlv (projected_tlv mt t)) (said mt (tlvs_before rest))
    ∙ ap (λ (l : List ℕ). out ++ l) (sym (flat_map-append tlv (projected_tlv mt t) (flat_map (projected_tlv mt) (tlvs_before rest))))
    ∙ ap (λ (ts : List Tlv). out ++ said mt ts) (sym (before_step octets t rest at))
    ∙ before

none_left : (mt : ℕ) (octets out all : List ℕ) → tlvs_before octets ≡ [] → out ++ said mt (tlvs_before octets) ≡ all → out ≡ all
none_left mt octets out all none before = sym (append-nil out) ∙ ap (λ (ts : List Tlv). out ++ said mt ts) (sym none) ∙ before

pub at_end : (mt : ℕ) (octets out all : List ℕ) → tlv_at octets ≡ Ok None → out ++ said mt (tlvs_before octets) ≡ all → out ≡ all
at_end mt octets out all at before = none_left mt octets out all (before_end octets at) before

pub at_fault : (mt : ℕ) (octets : List ℕ) (f : TlvFault) (out all : List ℕ) → tlv_at octets ≡ Err f → out ++ said mt (tlvs_before octets) ≡ all → out ≡ all
at_fault mt octets f out all at before = none_left mt octets out all (before_fault octets f at) before
