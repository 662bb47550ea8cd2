-- A topology depends on an LSDB only by what topologies read of its entries.
use Rattle.std.proofs.Common.{◌≡◌, ◌==◌, ◌&&◌, ◌++◌, nat_lt, Bool, true, false, if◌then◌else◌, List, [], ◌∷◌, map, filter, refl, sym, ap, ◌∙◌}
use Rattle.std.specs.List.{flat_map}
use Rattle.wire_base.specs.declared.addresses.SystemId.{SystemId}
use Rattle.wire_base.specs.declared.conf.SubKind.{SubKind}
use Rattle.wire_base.specs.declared.entry.Entry.{Entry}
use Rattle.wire_base.specs.model.Control.{same_system}
use Rattle.wire_base.specs.model.Tlv.{Tlv, tlvs_before}
use Rattle.wire_base.specs.model.View.{Claim, claim_of, is_overload_flag, is_part_of, links_in, subs_in, tlvs_of, with_known}
use Rattle.lsp_store.specs.Topologies.{as_read, is_first, seen_claims}

live_read : (is_live : Bool) → nat_lt 0 (if is_live then 1 else 0) ≡ is_live
live_read true = refl
live_read false = refl

part_read : (s : SystemId) (e : Entry) → is_part_of s (as_read e) ≡ is_part_of s e
part_read s e = ap (λ b. same_system e.id.system s && ((e.id.pseudonode == 0) && b)) (live_read (nat_lt 0 e.life))

first_read : (e : Entry) → is_first (as_read e) ≡ is_first e
first_read e = ap (λ b. (e.id.pseudonode == 0) && ((e.id.fragment == 0) && b)) (live_read (nat_lt 0 e.life))

-- to choose by what is read, and to read what is chosen
chosen_read : (f : Entry → Bool) → ((e : Entry) → f (as_read e) ≡ f e) → (es : List Entry) → filter f (map as_read es) ≡ map as_read (filter f es)
chosen_read f reads [] = refl
chosen_read f reads (e ∷ es) = by (f e) refl (chosen_read f reads es)
  where
    by : (b : Bool) → f e ≡ b → filter f (map as_read es) ≡ map as_read (filter f es) → filter f (map as_read (e ∷ es)) ≡ map as_read (filter f (e ∷ es))
    by true h more = rw (reads e ∙ h, h) (ap (λ (l : List Entry). as_read e ∷ l) more)
    by false h more = rw (reads e ∙ h, h) more

tlvs_kept : (es : List Entry) → flat_map (λ (e : Entry). tlvs_before e.content) (map as_read es) ≡ flat_map (λ (e : Entry). tlvs_before e.content) es
tlvs_kept [] = refl
tlvs_kept (e ∷ es) = ap (λ (l : List Tlv). tlvs_before e.content ++ l) (tlvs_kept es)

tlvs_read : (s : SystemId) (es : List Entry) → tlvs_of (map as_read es) s ≡ tlvs_of es s
tlvs_read s es = ap (λ (l : List Entry). flat_map (λ (e : Entry). tlvs_before e.content) l) (chosen_read (is_part_of s) (part_read s) es) ∙ tlvs_kept (filter (is_part_of s) es)

claim_read : (es : List Entry) (e : Entry) → claim_of (map as_read es) (as_read e) ≡ claim_of es e
claim_read es e = ap (λ (ts : List Tlv). record { system = e.id.system; overload = is_overload_flag e.flags; links = flat_map links_in ts; subs = flat_map subs_in ts }) (tlvs_read e.id.system es)

claims_read : (all es : List Entry) → map (claim_of (map as_read all)) (map as_read es) ≡ map (claim_of all) es
claims_read all [] = refl
claims_read all (e ∷ es) = ap (λ (c : Claim). c ∷ map (claim_of (map as_read all)) (map as_read es)) (claim_read all e) ∙ ap (λ (cs : List Claim). claim_of all e ∷ cs) (claims_read all es)

seen_read : (kinds : List SubKind) (es : List Entry) → seen_claims kinds (map as_read es) ≡ seen_claims kinds es
unfolding seen_claims
seen_read kinds es = ap (λ (l : List Entry). map (with_known kinds) (map (claim_of (map as_read es)) l)) (chosen_read is_first first_read es) ∙ ap (map (with_known kinds)) (claims_read es (filter is_first es))

-- two LSDBs that are read alike make the same topology
pub claims_alike : (kinds known_kinds : List SubKind) (es known : List Entry) → known_kinds ≡ kinds → map as_read known ≡ map as_read es → seen_claims known_kinds known ≡ seen_claims kinds es
claims_alike kinds known_kinds es known k h = ap (λ (ts : List SubKind). seen_claims ts known) k ∙ sym (seen_read kinds known) ∙ ap (seen_claims kinds) h ∙ seen_read kinds es
