-- Where the prefixes ascend from system to system, no two systems have one.
use mathlib.Core.Bool.{false≢true}
use Rattle.std.proofs.Common.{◌≡◌, ℕ, zero, suc, ◌+◌, ◌<◌, ◌≤◌, ◌||◌, nat_lt, max, not, Bool, true, false, List, [], ◌∷◌, Option, Some, slice_get, refl, sym, ap, ◌∙◌, arith}
use Rattle.std.specs.BTreeMap.{BTreeMap}
use Rattle.std.specs.List.{list_any}
use Rattle.std.specs.Str.{bytes_eq}
use Rattle.std.proofs.lemmas.Bool.{ltb-false}
use Rattle.std.proofs.lemmas.Slice.Eq.{bytes_eq-Decides}
use Rattle.laws_format.proofs.TlvLaws.{some_is}
use Rattle.wire_base.specs.declared.addresses.Ipv4.{Ipv4}
use Rattle.wire_base.specs.declared.addresses.SystemId.{SystemId}
use Rattle.wire_base.specs.declared.view.ViewSub.{ViewSub}
use Rattle.wire_base.specs.model.Control.{same_system}
use Rattle.wire_base.specs.model.View.{Claim, has_prefix, is_shared}
use Rattle.view_graph.specs.Owners.{AreAlone, AreTold, are_above, do_ascend, is_several, owner_at, prefix_number, top_of}
use Rattle.view_graph.proofs.GraphLaws.{and_both, not_true}
use Rattle.view_graph.proofs.OwnerLaws.{alone_subs_none, and_false, none_several}

number_same : (q p : Ipv4) → bytes_eq q.0 p.0 ≡ true → prefix_number q ≡ prefix_number p
number_same q p e = let same : q ≡ p = rw ((bytes_eq-Decides q.0 p.0).0 e) refl in ap prefix_number same

top_rises : (low : ℕ) (subs : List ViewSub) → low ≤ top_of low subs
top_rises low [] = omega arith
top_rises low (s ∷ ss) = omega (arith, top_rises (max low (prefix_number s.prefix + 1)) ss)

below_top : (low : ℕ) (subs : List ViewSub) (p : Ipv4) → has_prefix p subs ≡ true → prefix_number p < top_of low subs
below_top low [] p has = absurd (false≢true has)
below_top low (s ∷ ss) p has = by (bytes_eq s.prefix.0 p.0) refl has (λ h. below_top (max low (prefix_number s.prefix + 1)) ss p h)
  where
    by : (b : Bool) → bytes_eq s.prefix.0 p.0 ≡ b → (b || has_prefix p ss) ≡ true → (has_prefix p ss ≡ true → prefix_number p < top_of (max low (prefix_number s.prefix + 1)) ss) → prefix_number p < top_of low (s ∷ ss)
    by true e h more = omega (arith, number_same s.prefix p e, top_rises (max low (prefix_number s.prefix + 1)) ss)
    by false e h more = more h

not_below : (low : ℕ) (subs : List ViewSub) (p : Ipv4) → are_above low subs ≡ true → has_prefix p subs ≡ true → low ≤ prefix_number p
not_below low [] p above has = absurd (false≢true has)
not_below low (s ∷ ss) p above has =
    let both = and_both (not (nat_lt (prefix_number s.prefix) low)) (are_above low ss) above in
    by (bytes_eq s.prefix.0 p.0) refl has both.0 (λ h. not_below low ss p both.1 h)
  where
    at_least : (m n : ℕ) → not (nat_lt m n) ≡ true → n ≤ m
    at_least m n h = ltb-false m n (not_true (nat_lt m n) h)

    by : (b : Bool) → bytes_eq s.prefix.0 p.0 ≡ b → (b || has_prefix p ss) ≡ true → not (nat_lt (prefix_number s.prefix) low) ≡ true → (has_prefix p ss ≡ true → low ≤ prefix_number p) → low ≤ prefix_number p
    by true e h first more = omega (arith, number_same s.prefix p e, at_least (prefix_number s.prefix) low first)
    by false e h first more = more h

prefix_above : (low : ℕ) (cs : List Claim) (i : ℕ) (c : Claim) (p : Ipv4) → do_ascend low cs ≡ true → slice_get cs i ≡ Some c → has_prefix p c.subs ≡ true → low ≤ prefix_number p
prefix_above low [] i c p asc at has = absurd cc
prefix_above low (d ∷ ds) zero c p asc at has =
    let both = and_both (are_above low d.subs) (do_ascend (top_of low d.subs) ds) asc in
    not_below low d.subs p both.0 (ap (λ (x : Claim). has_prefix p x.subs) (some_is d c at) ∙ has)
prefix_above low (d ∷ ds) (suc i) c p asc at has =
    let both = and_both (are_above low d.subs) (do_ascend (top_of low d.subs) ds) asc in
    omega (arith, top_rises low d.subs, prefix_above (top_of low d.subs) ds i c p both.1 at has)

-- no system from here on has a lower prefix
none_later : (low : ℕ) (cs : List Claim) (s : SystemId) (p : Ipv4) → do_ascend low cs ≡ true → prefix_number p < low → is_shared cs s p ≡ false
none_later low [] s p asc lt = refl
none_later low (d ∷ ds) s p asc lt =
    let both = and_both (are_above low d.subs) (do_ascend (top_of low d.subs) ds) asc in
    by (has_prefix p d.subs) refl both.0 (none_later (top_of low d.subs) ds s p both.1 (omega (arith, lt, top_rises low d.subs)))
  where
    by : (b : Bool) → has_prefix p d.subs ≡ b → are_above low d.subs ≡ true → is_shared ds s p ≡ false → is_shared (d ∷ ds) s p ≡ false
    by true e above more = absurd (omega (arith, lt, not_below low d.subs p above e))
    by false e above more = rw (e, and_false (not (same_system d.system s))) more

-- no other system has a prefix of one of them
none_shares : (low : ℕ) (cs : List Claim) (i : ℕ) (c : Claim) (p : Ipv4) → do_ascend low cs ≡ true → slice_get cs i ≡ Some c → has_prefix p c.subs ≡ true → is_shared cs c.system p ≡ false
none_shares low [] i c p asc at has = absurd cc
none_shares low (d ∷ ds) zero c p asc at has =
    let both = and_both (are_above low d.subs) (do_ascend (top_of low d.subs) ds) asc in
    let same = some_is d c at in
    let own : same_system d.system c.system ≡ true = (bytes_eq-Decides d.system.0 c.system.0).1 (ap (λ (x : Claim). x.system.0) same) in
    rw own (none_later (top_of low d.subs) ds c.system p both.1 (below_top low d.subs p (ap (λ (x : Claim). has_prefix p x.subs) same ∙ has)))
none_shares low (d ∷ ds) (suc i) c p asc at has =
    let both = and_both (are_above low d.subs) (do_ascend (top_of low d.subs) ds) asc in
    by (has_prefix p d.subs) refl (prefix_above (top_of low d.subs) ds i c p both.1 at has) (none_shares (top_of low d.subs) ds i c p both.1 at has)
  where
    by : (b : Bool) → has_prefix p d.subs ≡ b → top_of low d.subs ≤ prefix_number p → is_shared ds c.system p ≡ false → is_shared (d ∷ ds) c.system p ≡ false
    by true e above more = absurd (omega (arith, above, below_top low d.subs p e))
    by false e above more = rw (e, and_false (not (same_system d.system c.system))) more

-- so each system keeps all its places
pub ascent_told : (claims : List Claim) (owners : BTreeMap Ipv4 (Option SystemId)) → do_ascend 0 claims ≡ true → AreAlone owners → AreTold claims owners
ascent_told claims owners asc alone i c at =
    sym (none_several (λ (s : ViewSub). is_several (owner_at owners s.prefix)) c.subs (alone_subs_none owners c.subs alone))
    ∙ none_several (λ (s : ViewSub). is_shared claims c.system s.prefix) c.subs (go c.subs (λ p h. h))
  where
    go : (subs : List ViewSub) → ((p : Ipv4) → has_prefix p subs ≡ true → has_prefix p c.subs ≡ true) → list_any (λ (s : ViewSub). is_shared claims c.system s.prefix) subs ≡ false
    go [] within = refl
    go (s ∷ ss) within =
        let here : has_prefix s.prefix (s ∷ ss) ≡ true = ap (λ b. b || has_prefix s.prefix ss) ((bytes_eq-Decides s.prefix.0 s.prefix.0).1 refl) in
        rw (none_shares 0 claims i c s.prefix asc at (within s.prefix here)) (go ss (λ p h. within p (later (bytes_eq s.prefix.0 p.0) (has_prefix p ss) h)))
      where
        later : (a b : Bool) → b ≡ true → (a || b) ≡ true
        later true b h = refl
        later false b h = h
