-- An entry that is put into an LSDB leaves what each other system says.
use Rattle.std.proofs.Common.{◌≡◌, ◌==◌, ◌&&◌, ◌||◌, nat_lt, Bool, true, false, if◌then◌else◌, List, [], ◌∷◌, map, filter, slice_get, refl, sym, ap, ◌∙◌}
use mathlib.Core.Bool.{false≢true}
use Rattle.std.specs.declared.cmp.Ordering.{Ordering}
use Rattle.std.specs.declared.cmp.Ordering.TheVariants.{Less, Equal, Greater}
use Rattle.std.specs.Ordering.{nat_cmp, ordering_then, is_eq, match_ordering}
use Rattle.std.specs.List.{flat_map}
use Rattle.wire_base.specs.declared.addresses.LspId.{LspId}
use Rattle.wire_base.specs.declared.addresses.SystemId.{SystemId}
use Rattle.wire_base.specs.declared.conf.SubKind.{SubKind}
use Rattle.wire_base.specs.declared.entry.Entry.{Entry}
use Rattle.wire_base.specs.model.Control.{same_system, system_order, id_order, put_entry}
use Rattle.wire_base.specs.model.Tlv.{Tlv, tlvs_before}
use Rattle.wire_base.specs.model.View.{Claim, is_part_of, tlvs_of, claim_of, is_overload_flag, links_in, subs_in, with_known}
use Rattle.view_graph.specs.Keep.{Keep, IsUnchanged, heard, is_first_of, is_named, said_by, said_in}
use Rattle.view_graph.proofs.FragmentLaws.{same_is}
use Rattle.view_graph.proofs.GraphLaws.{and_both}
use Rattle.view_graph.proofs.HeardLaws.{said_heard}
use Rattle.view_graph.proofs.SystemLaws.{tie_is_same}

same_ids : (a b : LspId) → id_order a b ≡ Equal → a.system ≡ b.system
same_ids a b h = by (system_order a.system b.system) refl h
  where
    by : (o : Ordering) → system_order a.system b.system ≡ o → id_order a b ≡ Equal → a.system ≡ b.system
    by Less e k = absurd (false≢true (ap is_eq (sym (ap (λ o. ordering_then o (ordering_then (nat_cmp a.pseudonode b.pseudonode) (nat_cmp a.fragment b.fragment))) e) ∙ k)))
    by Equal e k = same_is a.system b.system (sym (tie_is_same a.system b.system) ∙ ap is_eq e)
    by Greater e k = absurd (false≢true (ap is_eq (sym (ap (λ o. ordering_then o (ordering_then (nat_cmp a.pseudonode b.pseudonode) (nat_cmp a.fragment b.fragment))) e) ∙ k)))

filter_put : (p : Entry → Bool) (e : Entry) (es : List Entry) → ((x : Entry) → x.id.system ≡ e.id.system → p x ≡ false) → filter p (put_entry e es) ≡ filter p es
filter_put p e [] h = let here = h e refl in rw here refl
filter_put p e (x ∷ xs) h = by (id_order e.id x.id) refl (filter_put p e xs h)
  where
    by : (o : Ordering) → id_order e.id x.id ≡ o → filter p (put_entry e xs) ≡ filter p xs → filter p (match_ordering o (e ∷ x ∷ xs) (e ∷ xs) (x ∷ put_entry e xs)) ≡ filter p (x ∷ xs)
    by Less k more = let here = h e refl in rw here refl
    by Equal k more = let here = h e refl in let there = h x (sym (same_ids e.id x.id k)) in rw (here, there) refl
    by Greater k more = ap (λ (l : List Entry). if p x then x ∷ l else l) more

claim_by : Entry → List Tlv → Claim
claim_by e ts = record { system = e.id.system; overload = is_overload_flag e.flags; links = flat_map links_in ts; subs = flat_map subs_in ts }

claims_same : (s : SystemId) (all now : List Entry) → tlvs_of now s ≡ tlvs_of all s → (es : List Entry) → map (claim_of now) (filter (is_first_of s) es) ≡ map (claim_of all) (filter (is_first_of s) es)
unfolding claim_by
claims_same s all now same [] = refl
claims_same s all now same (x ∷ xs) = by (is_first_of s x) refl (claims_same s all now same xs)
  where
    by : (b : Bool) → is_first_of s x ≡ b → map (claim_of now) (filter (is_first_of s) xs) ≡ map (claim_of all) (filter (is_first_of s) xs) → map (claim_of now) (filter (is_first_of s) (x ∷ xs)) ≡ map (claim_of all) (filter (is_first_of s) (x ∷ xs))
    by true h more =
        let at : x.id.system ≡ s = same_is x.id.system s (and_both _ _ h).0 in
        let here : claim_of now x ≡ claim_of all x = ap (claim_by x) (ap (tlvs_of now) at ∙ same ∙ sym (ap (tlvs_of all) at)) in
        rw h (ap (λ (c : Claim). c ∷ map (claim_of now) (filter (is_first_of s) xs)) here ∙ ap (λ (cs : List Claim). claim_of all x ∷ cs) more)
    by false h more = rw h more

said_put : (kinds : List SubKind) (e : Entry) (es : List Entry) (s : SystemId) → same_system e.id.system s ≡ false → said_in kinds (put_entry e es) s ≡ said_in kinds es s
unfolding said_in
said_put kinds e es s apart =
    ap (λ (l : List Entry). slice_get (map (with_known kinds) (map (claim_of (put_entry e es)) l)) 0) (filter_put (is_first_of s) e es first)
    ∙ ap (λ (l : List Claim). slice_get (map (with_known kinds) l) 0) (claims_same s es (put_entry e es) (ap (flat_map (λ (x : Entry). tlvs_before x.content)) (filter_put (is_part_of s) e es part)) es)
  where
    first : (x : Entry) → x.id.system ≡ e.id.system → is_first_of s x ≡ false
    first x h = ap (λ (t : SystemId). same_system t s && ((x.id.pseudonode == 0) && ((x.id.fragment == 0) && nat_lt 0 x.life))) h ∙ ap (λ b. b && ((x.id.pseudonode == 0) && ((x.id.fragment == 0) && nat_lt 0 x.life))) apart

    part : (x : Entry) → x.id.system ≡ e.id.system → is_part_of s x ≡ false
    part x h = ap (λ (t : SystemId). same_system t s && ((x.id.pseudonode == 0) && nat_lt 0 x.life)) h ∙ ap (λ b. b && ((x.id.pseudonode == 0) && nat_lt 0 x.life)) apart

-- what a kept view holds of systems that are not named
pub others_same : (k : Keep) (own : SystemId) (kinds : List SubKind) (before after : List Entry) (changed : List SystemId) → k.system ≡ own → k.kinds ≡ kinds → k.others ≡ heard own kinds before → ((s : SystemId) → is_named changed s ≡ false → said_in kinds after s ≡ said_in kinds before s) → IsUnchanged k changed after
others_same k own kinds before after changed system_is kinds_are others same s apart away =
    let other : same_system s own ≡ false = ap (same_system s) (sym system_is) ∙ apart in
    ap (λ (cs : List Claim). said_by cs s) others ∙ said_heard kinds before own s other ∙ sym (same s away) ∙ ap (λ (ts : List SubKind). said_in ts after s) (sym kinds_are) ∙ sym (said_heard k.kinds after k.system s apart)

unnamed : (a b : Bool) → (a || b) ≡ false → (a ≡ false) × (b ≡ false)
unnamed true b h = absurd (false≢true (sym h))
unnamed false b h = (refl, h)

pub one_put : (kinds : List SubKind) (e : Entry) (before after : List Entry) → after ≡ put_entry e before → (s : SystemId) → is_named (e.id.system ∷ []) s ≡ false → said_in kinds after s ≡ said_in kinds before s
one_put kinds e before after put s away = ap (λ (l : List Entry). said_in kinds l s) put ∙ said_put kinds e before s (unnamed (same_system e.id.system s) false away).0

pub two_put : (kinds : List SubKind) (e f : Entry) (before between after : List Entry) → between ≡ put_entry e before → after ≡ put_entry f between → (s : SystemId) → is_named (e.id.system ∷ f.id.system ∷ []) s ≡ false → said_in kinds after s ≡ said_in kinds before s
two_put kinds e f before between after first second s away =
    let both = unnamed (same_system e.id.system s) (same_system f.id.system s || false) away in
    one_put kinds f between after second s both.1 ∙ ap (λ (l : List Entry). said_in kinds l s) first ∙ said_put kinds e before s both.0
