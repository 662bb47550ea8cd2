-- The order of identifiers is total, and equal ones alone are tied.
use mathlib.Core.Bool.{false≢true}
use Rattle.std.proofs.Common.{◌≡◌, ℕ, true, false, List, refl, sym, ap, ◌∙◌}
use Rattle.std.specs.declared.cmp.Ordering.{Ordering}
use Rattle.std.specs.declared.cmp.Ordering.TheVariants.{Less, Equal, Greater}
use Rattle.std.specs.Ordering.{nat_cmp, ordering_reverse, ordering_then, is_eq, is_lt, is_gt}
use Rattle.std.specs.Cmp.{IsTotalOrder, tied_then, unsigned_tied}
use Rattle.std.proofs.lemmas.Cmp.{nat_list_cmp_total, nat_cmp_total, on_total, then_total}
use Rattle.std.proofs.lemmas.Map.Text.{is_eq-slice_cmp}
use Rattle.std.proofs.lemmas.Map.Lookups.{exact_bytes, exact_unsigned}
use Rattle.wire_base.specs.declared.addresses.SystemId.{SystemId}
use Rattle.wire_base.specs.declared.addresses.LspId.{LspId}
use Rattle.wire_base.specs.model.Control.{same_id, system_order, id_order, is_below}

pub system_total : IsTotalOrder system_order
system_total = on_total (λ (s : SystemId). s.0) nat_list_cmp_total

pub id_total : IsTotalOrder id_order
id_total =
    then_total (on_total (λ (i : LspId). i.system) system_total)
    (then_total (on_total (λ (i : LspId). i.pseudonode) nat_cmp_total) (on_total (λ (i : LspId). i.fragment) nat_cmp_total))

pub tie_is_same : (a b : LspId) → is_eq (id_order a b) ≡ same_id a b
tie_is_same a b =
    rw (← tied_then (system_order a.system b.system) _, ← tied_then (nat_cmp a.pseudonode b.pseudonode) (nat_cmp a.fragment b.fragment), is_eq-slice_cmp a.system.0 b.system.0, unsigned_tied a.pseudonode b.pseudonode, unsigned_tied a.fragment b.fragment) refl

pub gt_is : (o : Ordering) → is_gt o ≡ true → o ≡ Greater
gt_is Less h = absurd (false≢true h)
gt_is Equal h = absurd (false≢true h)
gt_is Greater h = refl

pub lt_is : (o : Ordering) → is_lt o ≡ true → o ≡ Less
lt_is Less h = refl
lt_is Equal h = absurd (false≢true h)
lt_is Greater h = absurd (false≢true h)

-- above is below turned round
pub below_from_above : (a b : LspId) → is_gt (id_order a b) ≡ true → is_below b a ≡ true
below_from_above a b h = ap is_lt (id_total.antisymm b a ∙ ap ordering_reverse (gt_is (id_order a b) h))

pub above_from_below : (a b : LspId) → is_below b a ≡ true → is_gt (id_order a b) ≡ true
above_from_below a b h = ap is_gt (id_total.antisymm a b ∙ ap ordering_reverse (lt_is (id_order b a) h))

pub below_trans : (a b c : LspId) → is_below a b ≡ true → is_below b c ≡ true → is_below a c ≡ true
below_trans a b c h k = ap is_lt (id_total.trans a b c (lt_is _ h) (lt_is _ k))

-- what is above a second identifier is above each that is below that
pub above_trans : (a b c : LspId) → is_gt (id_order a b) ≡ true → is_below c b ≡ true → is_gt (id_order a c) ≡ true
above_trans a b c h k = above_from_below a c (below_trans c b a k (below_from_above a b h))

-- an identifier below another isn't that one
pub below_differs : (a b : LspId) → is_below a b ≡ true → same_id a b ≡ false
below_differs a b h = sym (tie_is_same a b) ∙ ap is_eq (lt_is (id_order a b) h)

pub above_differs : (a b : LspId) → is_gt (id_order a b) ≡ true → same_id a b ≡ false
above_differs a b h = sym (tie_is_same a b) ∙ ap is_eq (gt_is (id_order a b) h)

pub same_turned : (a b : LspId) → same_id a b ≡ same_id b a
same_turned a b = sym (tie_is_same a b) ∙ ap is_eq (id_total.antisymm a b) ∙ reversed (id_order b a) ∙ tie_is_same b a
  where
    reversed : (o : Ordering) → is_eq (ordering_reverse o) ≡ is_eq o
    reversed Less = refl
    reversed Equal = refl
    reversed Greater = refl

pub eq_is : (o : Ordering) → is_eq o ≡ true → o ≡ Equal
eq_is Less h = absurd (false≢true h)
eq_is Equal h = refl
eq_is Greater h = absurd (false≢true h)

-- equal identifiers alone are tied
tied_is : (p q : Ordering) → ordering_then p q ≡ Equal → (p ≡ Equal) × (q ≡ Equal)
tied_is Less q h = absurd (false≢true (ap is_eq h))
tied_is Equal q h = (refl, h)
tied_is Greater q h = absurd (false≢true (ap is_eq h))

pub same_from_tie : (a b : LspId) → id_order a b ≡ Equal → a ≡ b
same_from_tie a b h =
    let outer = tied_is (system_order a.system b.system) (ordering_then (nat_cmp a.pseudonode b.pseudonode) (nat_cmp a.fragment b.fragment)) h in
    let inner = tied_is (nat_cmp a.pseudonode b.pseudonode) (nat_cmp a.fragment b.fragment) outer.1 in
    ap (λ (s : List ℕ). record { system = record { 0 = s }; pseudonode = a.pseudonode; fragment = a.fragment }) (exact_bytes a.system.0 b.system.0 outer.0)
    ∙ ap (λ (p : ℕ). record { system = b.system; pseudonode = p; fragment = a.fragment }) (exact_unsigned a.pseudonode b.pseudonode inner.0)
    ∙ ap (λ (f : ℕ). record { system = b.system; pseudonode = b.pseudonode; fragment = f }) (exact_unsigned a.fragment b.fragment inner.1)

pub same_is : (a b : LspId) → same_id a b ≡ true → a ≡ b
same_is a b h = same_from_tie a b (eq_is (id_order a b) (tie_is_same a b ∙ h))
