-- What is read is an entry, and an entry is read.
use Rattle.std.proofs.Common.{◌≡◌, ℕ, List, [], ◌++◌, drop, Option, Some, None, ◌↔◌, Result, Ok, Err, refl, sym, ap, ◌∙◌}
use Rattle.std.specs.Prelude.{IfOk, IfErr, IfSome, IsOkAnd, IsSomeAnd, IsErr}
use Rattle.wire_base.specs.declared.faults.TlvFault.{TlvFault}
use Rattle.wire_base.specs.declared.faults.TlvFault.TheVariants.{Overrun}
use Rattle.wire_base.specs.model.Fields.{Gives, AreOctets}
use Rattle.wire_base.specs.model.Tlv.{tlv, tlv_at, IsOverrun, ReachFits, reach, reach_at, PrefixFits, prefix, prefix_at}
use Rattle.wire_base.specs.model.Tlv.{Tlv as Item}
use Rattle.wire_base.specs.model.Tlv.{Reach as ReachItem}
use Rattle.wire_base.specs.model.Tlv.{Prefix as PrefixItem}
use Rattle.laws_format.proofs.FieldLaws.{IsRest, rest_of, ok_is}
use Rattle.laws_format.proofs.TlvLaws.{reach_takes, reach_again, prefix_takes, prefix_again, tlv_parts, some_is, tlv_again, tlv_end, tlv_overruns, overrun_of, only_overrun, Tlv-is, Tlv-err}
use Rattle.isis_tlv.specs.declared.reaches.Reach.{Reach}
use Rattle.isis_tlv.specs.declared.prefixes.PrefixEntry.{PrefixEntry}
use Rattle.isis_tlv.specs.declared.walk.Tlv.{Tlv}
use Rattle.isis_tlv.specs.Views.{reach_of, prefix_of, item, Walks}

pub reach_rest : (octets : List ℕ) (v : ReachItem) (rest : List ℕ) → AreOctets octets → reach_at octets ≡ Ok (v, rest) → IsRest octets rest
reach_rest octets v rest fits e = rest_of octets (reach v) rest (reach_takes octets (v, rest) fits e).0.parts

pub reach_found : (octets : List ℕ) (r : Result (Reach × ℕ) TlvFault) → AreOctets octets → Gives (λ x. (reach_of x.0, drop x.1 octets)) r (reach_at octets)
    → IfOk r (λ x. ReachFits (reach_of x.0) × (octets ≡ reach (reach_of x.0) ++ drop x.1 octets))
reach_found octets (Ok x) fits given = let t = reach_takes octets (reach_of x.0, drop x.1 octets) fits given in (t.1, t.0.parts)
reach_found octets (Err e) fits given = tt

pub reach_only : (octets : List ℕ) (v : ReachItem) (rest : List ℕ) → ReachFits v → octets ≡ reach v ++ rest → reach_at octets ≡ Ok (v, rest)
reach_only octets v rest fits e = ap reach_at e ∙ reach_again v rest fits

pub prefix_rest : (octets : List ℕ) (v : PrefixItem) (rest : List ℕ) → AreOctets octets → prefix_at octets ≡ Ok (v, rest) → IsRest octets rest
prefix_rest octets v rest fits e = rest_of octets (prefix v) rest (prefix_takes octets (v, rest) fits e).0.parts

pub prefix_found : (octets : List ℕ) (r : Result (PrefixEntry × ℕ) TlvFault) → AreOctets octets → Gives (λ x. (prefix_of x.0, drop x.1 octets)) r (prefix_at octets)
    → IfOk r (λ x. PrefixFits (prefix_of x.0) × (octets ≡ prefix (prefix_of x.0) ++ drop x.1 octets))
prefix_found octets (Ok x) fits given = let t = prefix_takes octets (prefix_of x.0, drop x.1 octets) fits given in (t.1, t.0.parts)
prefix_found octets (Err e) fits given = tt

pub prefix_only : (octets : List ℕ) (v : PrefixItem) (rest : List ℕ) → PrefixFits v → octets ≡ prefix v ++ rest → prefix_at octets ≡ Ok (v, rest)
prefix_only octets v rest fits e = ap prefix_at e ∙ prefix_again v rest fits

-- ---- a step of a walk

pub step_found : (old : List ℕ) (r : Result (Option Tlv) TlvFault) (new : List ℕ) → Walks old r new → IfOk r (λ o. IfSome o (λ t. old ≡ tlv (item t) ++ new))
step_found old (Ok (Some t)) new h = tlv_parts old (item t) new h
step_found old (Ok None) new h = tt
step_found old (Err e) new h = tt

pub step_only : (old : List ℕ) (r : Result (Option Tlv) TlvFault) (new : List ℕ) (t : Item) (rest : List ℕ) → Walks old r new → old ≡ tlv t ++ rest → IsOkAnd r (λ o. IsSomeAnd o (λ x. (item x ≡ t) × (new ≡ rest)))
step_only old (Ok (Some x)) new t rest h e =
    let both : Tlv-is (Some (item x, new)) ≡ Tlv-is (Some (t, rest)) = sym h ∙ ap tlv_at e ∙ tlv_again t rest in
    let pair : Some (item x, new) ≡ Some (t, rest) = ok_is {E = TlvFault} _ _ both in
    let same = some_is _ _ pair in
    (ap (λ (p : Item × List ℕ). p.0) same, ap (λ (p : Item × List ℕ). p.1) same)
step_only old (Ok None) new t rest h e =
    let both : Tlv-is None ≡ Tlv-is (Some (t, rest)) = sym h.0 ∙ ap tlv_at e ∙ tlv_again t rest in
    absurd cc
step_only old (Err f) new t rest h e =
    let both : Tlv-err f ≡ Tlv-is (Some (t, rest)) = sym h.0 ∙ ap tlv_at e ∙ tlv_again t rest in
    absurd cc

pub step_end : (old : List ℕ) (r : Result (Option Tlv) TlvFault) (new : List ℕ) → Walks old r new → (r ≡ Ok None) ↔ (old ≡ [])
step_end old (Ok (Some x)) new h = ((λ e. absurd cc), (λ e. let both : Tlv-is (Some (item x, new)) ≡ Tlv-is None = sym h ∙ ap tlv_at e in absurd cc))
step_end old (Ok None) new h = ((λ e. tlv_end old h.0), (λ e. refl))
step_end old (Err f) new h = ((λ e. absurd cc), (λ e. let both : Tlv-err f ≡ Tlv-is None = sym h.0 ∙ ap tlv_at e in absurd cc))

pub step_overrun : (old : List ℕ) (r : Result (Option Tlv) TlvFault) (new : List ℕ) → Walks old r new → IsErr r ↔ IsOverrun old
step_overrun old (Ok (Some x)) new h = ((λ e. absurd cc), (λ e. let both : Tlv-is (Some (item x, new)) ≡ Tlv-err Overrun = sym h ∙ tlv_overruns old e in absurd cc))
step_overrun old (Ok None) new h = ((λ e. absurd cc), (λ e. let both : Tlv-is None ≡ Tlv-err Overrun = sym h.0 ∙ tlv_overruns old e in absurd cc))
step_overrun old (Err f) new h = ((λ e. overrun_of old f h.0), (λ e. refl))

pub step_fault : (old : List ℕ) (r : Result (Option Tlv) TlvFault) (new : List ℕ) → Walks old r new → IfErr r (λ e. e ≡ Overrun)
step_fault old (Ok (Some x)) new h = tt
step_fault old (Ok None) new h = tt
step_fault old (Err f) new h = only_overrun old f h.0
