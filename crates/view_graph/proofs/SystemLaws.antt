-- The order of systems is total, and equal ones alone are tied.
use Rattle.std.proofs.Common.{◌≡◌, true, false, refl, sym, ap, ◌∙◌}
use Rattle.std.specs.declared.cmp.Ordering.{Ordering}
use Rattle.std.specs.declared.cmp.Ordering.TheVariants.{Less, Equal, Greater}
use Rattle.std.specs.Ordering.{ordering_reverse, is_eq, is_lt, is_gt}
use Rattle.std.proofs.lemmas.Map.Text.{is_eq-slice_cmp}
use Rattle.wire_base.specs.declared.addresses.SystemId.{SystemId}
use Rattle.wire_base.specs.model.Control.{same_system, system_order}
use Rattle.wire_base.proofs.OrderLaws.{system_total, gt_is, lt_is, eq_is}
use Rattle.view_graph.specs.Edges.{is_before}

pub tie_is_same : (a b : SystemId) → is_eq (system_order a b) ≡ same_system a b
tie_is_same a b = is_eq-slice_cmp a.0 b.0

-- above is below turned round
pub before_from_above : (a b : SystemId) → is_gt (system_order a b) ≡ true → is_before b a ≡ true
before_from_above a b h = ap is_lt (system_total.antisymm b a ∙ ap ordering_reverse (gt_is (system_order a b) h))

pub above_from_before : (a b : SystemId) → is_before b a ≡ true → is_gt (system_order a b) ≡ true
above_from_before a b h = ap is_gt (system_total.antisymm a b ∙ ap ordering_reverse (lt_is (system_order b a) h))

pub before_trans : (a b c : SystemId) → is_before a b ≡ true → is_before b c ≡ true → is_before a c ≡ true
before_trans a b c h k = ap is_lt (system_total.trans a b c (lt_is _ h) (lt_is _ k))

-- what is above a second system is above each that is below that
pub above_trans : (a b c : SystemId) → is_gt (system_order a b) ≡ true → is_before c b ≡ true → is_gt (system_order a c) ≡ true
above_trans a b c h k = above_from_before a c (before_trans c b a k (before_from_above a b h))

-- a system below another isn't that one
pub before_differs : (a b : SystemId) → is_before a b ≡ true → same_system a b ≡ false
before_differs a b h = sym (tie_is_same a b) ∙ ap is_eq (lt_is (system_order a b) h)

pub above_differs : (a b : SystemId) → is_gt (system_order a b) ≡ true → same_system a b ≡ false
above_differs a b h = sym (tie_is_same a b) ∙ ap is_eq (gt_is (system_order a b) h)

pub same_turned : (a b : SystemId) → same_system a b ≡ same_system b a
same_turned a b = sym (tie_is_same a b) ∙ ap is_eq (system_total.antisymm a b) ∙ reversed (system_order b a) ∙ tie_is_same b a
  where
    reversed : (o : Ordering) → is_eq (ordering_reverse o) ≡ is_eq o
    reversed Less = refl
    reversed Equal = refl
    reversed Greater = refl

-- what is above a system is above each that is the same
pub same_before : (a b c : SystemId) → same_system a b ≡ true → is_before b c ≡ true → is_before a c ≡ true
same_before a b c h k = ap is_lt (system_total.congr a b c (eq_is _ (tie_is_same a b ∙ h))) ∙ k

pub above_turned : (a b : SystemId) → is_gt (system_order b a) ≡ is_before a b
above_turned a b = sym (ap is_lt (system_total.antisymm a b) ∙ reversed (system_order b a))
  where
    reversed : (o : Ordering) → is_lt (ordering_reverse o) ≡ is_gt o
    reversed Less = refl
    reversed Equal = refl
    reversed Greater = refl
