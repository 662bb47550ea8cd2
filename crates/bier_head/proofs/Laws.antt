-- The laws of headers, of a header as it is held.
use Rattle.std.proofs.Common.{◌≡◌, ℕ, List, ◌++◌, take, Result, Ok, Err, IfOk, subst, ap, ◌∙◌, sym}
use Rattle.wire_base.specs.declared.bsl.Bsl.{Bsl}
use Rattle.wire_base.specs.declared.conf.Kind.{Kind}
use Rattle.wire_base.specs.declared.conf.Kind.TheVariants.{Mpls}
use Rattle.wire_base.specs.declared.faults.HeadFault.{HeadFault}
use Rattle.wire_base.specs.model.Fields.{Gives, AreOctets}
use Rattle.wire_base.specs.model.Place.{bits_of, code_of}
use Rattle.wire_base.specs.model.BitSet.{IsWithin}
use Rattle.wire_base.specs.model.BierHeader.{BierHeader, FieldsFit, IsHeader, header_length, header_octets, header_at, coded_header_at}
use Rattle.wire_base.proofs.HeaderLaws.{header_takes, coded_header_takes, header_again, coded_header_again, header_octets-injective}
use Rattle.bier_bits.specs.Any.{bsl_of, positions_of}
use Rattle.bier_head.specs.declared.header.Header.{Header}
use Rattle.bier_head.specs.Views.{header_of}

-- what read_header gives is spelled so, with that length
pub read_found : (r : Result Header HeadFault) (kind : Kind) (bsl : Bsl) (octets : List ℕ) → AreOctets octets → Gives header_of r (header_at kind bsl octets)
    → IfOk r (λ h. IsHeader (header_of h) × (take (header_length bsl) octets ≡ header_octets (header_of h)))
read_found (Ok h) kind bsl octets fits e = let t = header_takes kind bsl octets (header_of h) fits e in (t.0, t.1)
read_found (Err d) kind bsl octets fits e = tt

pub read_length : (r : Result Header HeadFault) (kind : Kind) (bsl : Bsl) (octets : List ℕ) → AreOctets octets → Gives header_of r (header_at kind bsl octets) → IfOk r (λ h. bsl_of h.bits ≡ bsl)
read_length (Ok h) kind bsl octets fits e = let t = header_takes kind bsl octets (header_of h) fits e in t.2
read_length (Err d) kind bsl octets fits e = tt

-- and it gives each header that stands at the front
pub read_only : (r : Result Header HeadFault) (kind : Kind) (bsl : Bsl) (octets : List ℕ) → Gives header_of r (header_at kind bsl octets)
    → (h : BierHeader) (rest : List ℕ) → IsHeader h → h.bsl ≡ bsl → (kind ≡ Mpls → h.nibble ≡ 5) → octets ≡ header_octets h ++ rest → Gives header_of r (Ok h)
read_only r kind bsl octets gives h rest is same five e =
    subst (Gives header_of r) (ap (header_at kind bsl) e ∙ subst (λ (b : Bsl). header_at kind b (header_octets h ++ rest) ≡ Ok h) same (header_again kind h rest is five)) gives

-- the same of read_by_field
pub coded_found : (r : Result Header HeadFault) (kind : Kind) (octets : List ℕ) → AreOctets octets → Gives header_of r (coded_header_at kind octets)
    → IfOk r (λ h. IsHeader (header_of h) × (take (header_length (bsl_of h.bits)) octets ≡ header_octets (header_of h)))
coded_found (Ok h) kind octets fits e = let t = coded_header_takes kind octets (header_of h) fits e in (t.0, t.1)
coded_found (Err d) kind octets fits e = tt

pub coded_code : (r : Result Header HeadFault) (kind : Kind) (octets : List ℕ) → AreOctets octets → Gives header_of r (coded_header_at kind octets) → IfOk r (λ h. code_of (bsl_of h.bits) ≡ h.bsl_code)
coded_code (Ok h) kind octets fits e = let t = coded_header_takes kind octets (header_of h) fits e in t.2
coded_code (Err d) kind octets fits e = tt

pub coded_only : (r : Result Header HeadFault) (kind : Kind) (octets : List ℕ) → Gives header_of r (coded_header_at kind octets)
    → (h : BierHeader) (rest : List ℕ) → IsHeader h → code_of h.bsl ≡ h.bsl_code → (kind ≡ Mpls → h.nibble ≡ 5) → octets ≡ header_octets h ++ rest → Gives header_of r (Ok h)
coded_only r kind octets gives h rest is code five e = subst (Gives header_of r) (ap (coded_header_at kind) e ∙ coded_header_again kind h rest is five code) gives

-- what was written
pub held : (h : Header) → FieldsFit (header_of h) → IsWithin 0 (bits_of (bsl_of h.bits)) (positions_of h.bits) → IsHeader (header_of h)
held h fits within = record { fields = fits; positions = within }

pub written_again : (h : Header) (out : List ℕ) → IsHeader (header_of h) → out ≡ header_octets (header_of h)
    → (kind : Kind) (rest : List ℕ) → (kind ≡ Mpls → h.nibble ≡ 5) → header_at kind (bsl_of h.bits) (out ++ rest) ≡ Ok (header_of h)
written_again h out is e kind rest five = ap (λ (l : List ℕ). header_at kind (bsl_of h.bits) (l ++ rest)) e ∙ header_again kind (header_of h) rest is five

pub written_coded : (h : Header) (out : List ℕ) → IsHeader (header_of h) → out ≡ header_octets (header_of h)
    → (kind : Kind) (rest : List ℕ) → (kind ≡ Mpls → h.nibble ≡ 5) → code_of (bsl_of h.bits) ≡ h.bsl_code → coded_header_at kind (out ++ rest) ≡ Ok (header_of h)
written_coded h out is e kind rest five code = ap (λ (l : List ℕ). coded_header_at kind (l ++ rest)) e ∙ coded_header_again kind (header_of h) rest is five code

pub written_only : (h : Header) (out : List ℕ) → IsHeader (header_of h) → out ≡ header_octets (header_of h) → (other : BierHeader) → IsHeader other → out ≡ header_octets other → other ≡ header_of h
written_only h out is e other is_other same = header_octets-injective other (header_of h) is_other is (sym same ∙ e)
