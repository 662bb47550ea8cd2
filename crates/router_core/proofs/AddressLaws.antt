-- The BFR-prefixes of a topology have at most four octets each.
use Rattle.std.proofs.Common.{◌≡◌, ℕ, zero, suc, ◌-◌, ◌≤◌, ◌==◌, nat_lt, not, Bool, true, false, List, [], ◌∷◌, ◌++◌, length, map, filter, take, replicate, slice_get, option_map, option_and_then, Option, Some, None, IfSome, IfOk, Result, Ok, Err, if◌then◌else◌, refl, arith}
use Rattle.std.proofs.lemmas.Bool.{ltb-false}
use Rattle.std.proofs.lemmas.List.{length-append, length-replicate, length-take}
use Rattle.std.specs.List.{AllByRecursion, flat_map, filter_map, cons_option}
use Rattle.std.specs.Ordering.{is_lt}
use Rattle.wire_base.specs.declared.addresses.Ipv4.{Ipv4}
use Rattle.wire_base.specs.declared.codepoints.TheConstants.{SUB_TLV_BIER_INFO, TLV_EXTENDED_IP_REACH}
use Rattle.wire_base.specs.declared.conf.RouterConf.{RouterConf}
use Rattle.wire_base.specs.declared.conf.SubKind.{SubKind}
use Rattle.wire_base.specs.declared.entry.Entry.{Entry}
use Rattle.wire_base.specs.declared.faults.InfoFault.{InfoFault}
use Rattle.wire_base.specs.declared.faults.TlvFault.{TlvFault}
use Rattle.wire_base.specs.declared.faults.TlvFault.TheVariants.{EntryShort, PrefixLen}
use Rattle.wire_base.specs.declared.view.ViewNode.{ViewNode}
use Rattle.wire_base.specs.declared.view.ViewSub.{ViewSub}
use Rattle.wire_base.specs.model.BierInfo.{Info, info_at, any_overlap}
use Rattle.wire_base.specs.model.Control.{Control, system_order}
use Rattle.wire_base.specs.model.Fields.{◌>>=◌, octet_at, octets_at, number_at}
use Rattle.wire_base.specs.model.Graph.{place_in}
use Rattle.wire_base.specs.model.OnFrame.{prefix_of}
use Rattle.wire_base.specs.model.OwnLsp.{info_of}
use Rattle.wire_base.specs.model.Tlv.{Tlv, Prefix, prefix_at, prefix_bits, prefix_octets, has_subs, padded, bits_at, subs_if_at, then_entries, entries_within, entries_of, tlvs_before}
use Rattle.wire_base.specs.model.View.{Claim, sub_of, accepted, sub_at, subs_of, subs_in, tlvs_of, claim_of, own_claim, put_claim, claims_of, all_ranges, unless_overlap, first_each, with_known, node_of, view_of, control_view, is_other}

-- ---- facts of each element

pub if_both : {A : Type 0} (P : A → Type 0) (b : Bool) (x y : A) → P x → P y → P (if b then x else y)
if_both P true x y first second = first
if_both P false x y first second = second

pub all_joined : {X : Type 0} (P : X → Type 0) (xs ys : List X) → AllByRecursion P xs → AllByRecursion P ys → AllByRecursion P (xs ++ ys)
all_joined P [] ys all more = more
all_joined P (x ∷ xs) ys all more = (all.0, all_joined P xs ys all.1 more)

pub all_got : {X : Type 0} (P : X → Type 0) (xs : List X) (i : ℕ) → AllByRecursion P xs → IfSome (slice_get xs i) P
all_got P [] i all = tt
all_got P (x ∷ xs) zero all = all.0
all_got P (x ∷ xs) (suc i) all = all_got P xs i all.1

-- each that is made has the property
pub all_made : {X Y : Type 0} (P : Y → Type 0) (f : X → Y) → ((x : X) → P (f x)) → (xs : List X) → AllByRecursion P (map f xs)
all_made P f each [] = tt
all_made P f each (x ∷ xs) = (each x, all_made P f each xs)

all_mapped : {X Y : Type 0} (P : X → Type 0) (Q : Y → Type 0) (f : X → Y) → ((x : X) → P x → Q (f x)) → (xs : List X) → AllByRecursion P xs → AllByRecursion Q (map f xs)
all_mapped P Q f each [] all = tt
all_mapped P Q f each (x ∷ xs) all = (each x all.0, all_mapped P Q f each xs all.1)

all_filtered : {X : Type 0} (P : X → Type 0) (test : X → Bool) (xs : List X) → AllByRecursion P xs → AllByRecursion P (filter test xs)
all_filtered P test [] all = tt
all_filtered P test (x ∷ xs) all =
    let rest = all_filtered P test xs all.1 in if_both (AllByRecursion P) (test x) (x ∷ filter test xs) (filter test xs) (all.0, rest) rest

all_given : {X Y : Type 0} (P : Y → Type 0) (f : X → Option Y) → ((x : X) → IfSome (f x) P) → (xs : List X) → AllByRecursion P (filter_map f xs)
all_given P f each [] = tt
all_given {X} {Y} P f each (x ∷ xs) = by (f x) (each x) (all_given P f each xs)
  where
    by : (o : Option Y) → IfSome o P → AllByRecursion P (filter_map f xs) → AllByRecursion P (cons_option o (filter_map f xs))
    by None h rest = rest
    by (Some y) h rest = (h, rest)

all_flat : {X Y : Type 0} (P : Y → Type 0) (f : X → List Y) → ((x : X) → AllByRecursion P (f x)) → (xs : List X) → AllByRecursion P (flat_map f xs)
all_flat P f each [] = tt
all_flat P f each (x ∷ xs) = all_joined P (f x) (flat_map f xs) (each x) (all_flat P f each xs)

pub all_flat_of : {X Y : Type 0} (P : X → Type 0) (Q : Y → Type 0) (f : X → List Y) → ((x : X) → P x → AllByRecursion Q (f x)) → (xs : List X) → AllByRecursion P xs → AllByRecursion Q (flat_map f xs)
all_flat_of P Q f each [] all = tt
all_flat_of P Q f each (x ∷ xs) all = all_joined Q (f x) (flat_map f xs) (each x all.0) (all_flat_of P Q f each xs all.1)

pub some_mapped : {X Y : Type 0} (P : X → Type 0) (Q : Y → Type 0) (f : X → Y) → ((x : X) → P x → Q (f x)) → (o : Option X) → IfSome o P → IfSome (option_map f o) Q
some_mapped P Q f each None h = tt
some_mapped P Q f each (Some x) h = each x h

pub some_then : {X Y : Type 0} (P : X → Type 0) (Q : Y → Type 0) (f : X → Option Y) → ((x : X) → P x → IfSome (f x) Q) → (o : Option X) → IfSome o P → IfSome (option_and_then f o) Q
some_then P Q f each None h = tt
some_then P Q f each (Some x) h = each x h

-- ---- what was read

-- what was read has the property
pub record Reads {A E : Type 0} (P : A → Type 0) (r : Result A E) : Type 0 where
  pub holds : IfOk r P

pub good : {A E : Type 0} {P : A → Type 0} {x : A} → P x → Reads {E = E} P (Ok x)
good h = record { holds = h }

pub refused : {A E : Type 0} {P : A → Type 0} {e : E} → Reads {A = A} P (Err e)
refused = record { holds = tt }

pub either : {A E : Type 0} {P : A → Type 0} (b : Bool) {x y : Result A E} → Reads P x → Reads P y → Reads P (if b then x else y)
either true first second = first
either false first second = second

pub unless : {A E : Type 0} {P : A → Type 0} (b : Bool) (e : E) {y : Result A E} → Reads P y → Reads P (if b then Err e else y)
unless true e second = refused
unless false e second = second

-- one value is read after another
pub then_read : {E A B : Type 0} (P : A → Type 0) (Q : B → Type 0) (r : Result A E) (f : A → Result B E) → Reads P r → ((x : A) → P x → Reads Q (f x)) → Reads Q (r >>= f)
then_read P Q (Ok x) f h each = each x h.holds
then_read P Q (Err e) f h each = refused

-- one value is read after any other
pub after : {E A B : Type 0} (Q : B → Type 0) (r : Result A E) (f : A → Result B E) → ((x : A) → Reads Q (f x)) → Reads Q (r >>= f)
after Q (Ok x) f each = each x
after Q (Err e) f each = refused

-- at most as many octets as were to be read
pub octets_few : {E : Type 0} (fault : E) (n : ℕ) (octets : List ℕ) → Reads (λ x. length x.0 ≤ n) (octets_at fault n octets)
octets_few fault n octets = let few : length (take n octets) ≤ n = omega (arith, length-take n octets) in unless (nat_lt (length octets) n) fault (good few)

-- ---- the prefixes that systems advertise

abbrev IsFour : Prefix × List ℕ → Type 0
IsFour x = length x.0.octets ≤ 4

bits_few : (control : ℕ) → Reads (λ bits. bits ≤ 32) (bits_at control)
bits_few control = by (nat_lt 32 (prefix_bits control)) refl
  where
    by : (b : Bool) → nat_lt 32 (prefix_bits control) ≡ b → Reads (λ bits. bits ≤ 32) (if b then Err PrefixLen else Ok (prefix_bits control))
    by true is = refused
    by false is = good (ltb-false 32 (prefix_bits control) is)

padded_four : (bare : List ℕ) (bits : ℕ) → bits ≤ 32 → length bare ≤ prefix_octets bits → length (padded bare) ≤ 4
padded_four bare bits low few =
    let none : ℕ = 0 in omega (arith, length-append bare (replicate (4 - length bare) none), length-replicate (4 - length bare) none, low, few)

prefix_four : (octets : List ℕ) → Reads IsFour (prefix_at octets)
unfolding prefix_at
prefix_four octets =
    after IsFour (number_at EntryShort 4 octets) _ (λ metric. after IsFour (octet_at EntryShort metric.1) _ (λ control.
    then_read (λ bits. bits ≤ 32) IsFour (bits_at control.0) _ (bits_few control.0) (λ bits low.
    then_read (λ bare. length bare.0 ≤ prefix_octets bits) IsFour (octets_at EntryShort (prefix_octets bits) control.1) _ (octets_few EntryShort (prefix_octets bits) control.1) (λ bare few.
    after IsFour (subs_if_at (has_subs control.0) bare.1) _ (λ subs. good (padded_four bare.0 bits low few))))))

prefixes_within : (n : ℕ) (octets : List ℕ) → AllByRecursion (λ p. length p.octets ≤ 4) (entries_within prefix_at n octets)
unfolding entries_within
prefixes_within zero octets = tt
prefixes_within (suc n) octets = by (prefix_at octets) (prefix_four octets) (prefixes_within n)
  where
    by : (r : Result (Prefix × List ℕ) TlvFault) → Reads IsFour r → ((rest : List ℕ) → AllByRecursion (λ p. length p.octets ≤ 4) (entries_within prefix_at n rest))
        → AllByRecursion (λ p. length p.octets ≤ 4) (then_entries r (entries_within prefix_at n))
    by (Ok x) four more = (four.holds, more x.1)
    by (Err e) four more = tt

prefixes_four : (octets : List ℕ) → AllByRecursion (λ p. length p.octets ≤ 4) (entries_of prefix_at octets)
unfolding entries_of
prefixes_four octets = prefixes_within (length octets) octets

-- ---- the memberships of sub-domains

abbrev HasAddress : ViewSub → Type 0
HasAddress s = length s.prefix.0 ≤ 4

abbrev HaveAddresses : List ViewSub → Type 0
HaveAddresses subs = AllByRecursion HasAddress subs

subs_have : (p : Prefix) → length p.octets ≤ 4 → HaveAddresses (subs_of p)
subs_have p four =
    if_both HaveAddresses (prefix_bits p.control == 32) (filter_map (sub_at p.octets) (tlvs_before p.subs)) [] (all_given HasAddress (sub_at p.octets) each (tlvs_before p.subs)) tt
  where
    read : (r : Result Info InfoFault) → IfSome (accepted p.octets r) HasAddress
    read (Ok i) = four
    read (Err fault) = tt

    each : (t : Tlv) → IfSome (sub_at p.octets t) HasAddress
    each t = if_both (λ o. IfSome o HasAddress) (t.code == SUB_TLV_BIER_INFO) (accepted p.octets (info_at t.value)) None (read (info_at t.value)) tt

tlv_has : (t : Tlv) → HaveAddresses (subs_in t)
tlv_has t =
    if_both HaveAddresses (t.code == TLV_EXTENDED_IP_REACH) (flat_map subs_of (entries_of prefix_at t.value)) []
    (all_flat_of (λ p. length p.octets ≤ 4) HasAddress subs_of subs_have (entries_of prefix_at t.value) (prefixes_four t.value)) tt

-- ---- the topology

abbrev OfClaim : Claim → Type 0
OfClaim c = HaveAddresses c.subs

put_have : (c : Claim) (cs : List Claim) → OfClaim c → AllByRecursion OfClaim cs → AllByRecursion OfClaim (put_claim c cs)
put_have c [] h all = (h, tt)
put_have c (x ∷ cs) h all =
    if_both (AllByRecursion OfClaim) (is_lt (system_order c.system x.system)) (c ∷ x ∷ cs) (x ∷ put_claim c cs) (h, all) (all.0, put_have c cs h all.1)

claims_have : (r : RouterConf) (up : List Bool) (entries : List Entry) → length r.prefix.0 ≤ 4 → AllByRecursion OfClaim (claims_of r up entries)
unfolding claims_of
claims_have r up entries four =
    put_have (own_claim r up) (map (claim_of entries) (filter (is_other r.system) entries))
    (all_made HasAddress (λ s. sub_of r.prefix.0 (info_of r.kinds s)) (λ s. four) r.subs)
    (all_made OfClaim (claim_of entries) (λ e. all_flat HasAddress subs_in tlv_has (tlvs_of entries e.id.system)) (filter (is_other r.system) entries))

first_have : (subs : List ViewSub) → HaveAddresses subs → HaveAddresses (first_each subs)
first_have [] all = tt
first_have (s ∷ subs) all = (all.0, all_filtered HasAddress (λ x. not (x.sd == s.sd)) (first_each subs) (first_have subs all.1))

known_have : (kinds : List SubKind) (c : Claim) → OfClaim c → OfClaim (with_known kinds c)
known_have kinds c all =
    let kept = unless_overlap c.subs in
    first_have _ (all_filtered HasAddress _ kept (if_both HaveAddresses (any_overlap (all_ranges c.subs)) [] c.subs tt all))

abbrev OfNode : ViewNode → Type 0
OfNode n = HaveAddresses n.subs

view_has : (r : RouterConf) (up : List Bool) (entries : List Entry) → length r.prefix.0 ≤ 4 → AllByRecursion OfNode (view_of r up entries)
unfolding view_of
view_has r up entries four =
    let claims = map (with_known r.kinds) (claims_of r up entries) in
    all_mapped OfClaim OfNode (node_of claims) (λ c all. all_filtered HasAddress _ c.subs all) claims
    (all_mapped OfClaim OfClaim (with_known r.kinds) (known_have r.kinds) (claims_of r up entries) (claims_have r up entries four))

abbrev pub IsAddress : Ipv4 → Type 0
IsAddress a = length a.0 ≤ 4

pub prefix_is : (c : Control) (sd x : ℕ) → length c.conf.prefix.0 ≤ 4 → IfSome (prefix_of (control_view c) sd x) IsAddress
prefix_is c sd x four =
    some_then OfNode IsAddress (λ n. option_map (λ s. s.prefix) (place_in n.subs sd))
    (λ n all. some_mapped HasAddress IsAddress (λ s. s.prefix) (λ s h. h) (place_in n.subs sd) (found n.subs all))
    (slice_get (control_view c) x) (all_got OfNode (control_view c) x (view_has c.conf c.flood.up c.entries four))
  where
    found : (subs : List ViewSub) → HaveAddresses subs → IfSome (place_in subs sd) HasAddress
    found [] all = tt
    found (s ∷ subs) all = if_both (λ o. IfSome o HasAddress) (s.sd == sd) (Some s) (place_in subs sd) all.0 (found subs all.1)
