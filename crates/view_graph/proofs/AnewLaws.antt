-- Nodes made anew, in the place of the present ones; and where a claim stands.
use mathlib.Core.Bool.{true≢false}
use Rattle.std.proofs.Common.{◌≡◌, ℕ, zero, suc, ◌<◌, ◌==◌, ◌||◌, ◌↔◌, not, Bool, true, false, List, [], ◌∷◌, length, length-set, set, Some, None, is_some, slice_get, Decides, refl, sym, ap, subst, ◌∙◌, arith}
use Rattle.std.specs.declared.cmp.Ordering.{Ordering}
use Rattle.std.specs.declared.cmp.Ordering.TheVariants.{Less, Equal, Greater}
use Rattle.std.specs.Ordering.{is_eq, is_gt, match_ordering}
use Rattle.std.specs.List.{list_any, AllByRecursion}
use Rattle.std.proofs.lemmas.Bool.{eqb-true, eq-eqb}
use Rattle.std.proofs.lemmas.Option.{get_or_from_slice_get, slice_get_within}
use Rattle.std.proofs.lemmas.Slice.Eq.{bytes_eq-Decides}
use Rattle.laws_format.proofs.TlvLaws.{some_is}
use Rattle.wire_base.specs.declared.addresses.SystemId.{SystemId}
use Rattle.wire_base.specs.declared.view.ViewNode.{ViewNode}
use Rattle.wire_base.specs.model.Control.{same_system, system_order}
use Rattle.wire_base.specs.model.View.{Claim, Link, metric_to}
use Rattle.view_graph.specs.declared.patch.NewNode.{NewNode}
use Rattle.view_graph.specs.Edges.{is_before, AreInOrder, place_in}
use Rattle.view_graph.specs.Renewal.{AreTurning, IsAt, is_made, put_all}
use Rattle.view_graph.proofs.EdgeLaws.{all_read}
use Rattle.wire_base.proofs.OrderLaws.{gt_is}
use Rattle.view_graph.proofs.SystemLaws.{above_from_before, tie_is_same}

-- ---- lists by their elements

none_some : {X : Type 0} (x : X) → None ≡ Some x → ⊥
none_some x e = absurd cc

pub same_by_get : {X : Type 0} (xs ys : List X) → ((i : ℕ) → slice_get xs i ≡ slice_get ys i) → xs ≡ ys
same_by_get [] [] h = refl
same_by_get [] (y ∷ ys) h = absurd (none_some y (h 0))
same_by_get (x ∷ xs) [] h = absurd (none_some x (sym (h 0)))
same_by_get {X} (x ∷ xs) (y ∷ ys) h = ap (λ (z : X). z ∷ xs) (some_is x y (h 0)) ∙ ap (λ (zs : List X). y ∷ zs) (same_by_get xs ys (λ i. h (suc i)))

set_same : {X : Type 0} (xs : List X) (i : ℕ) (x : X) → slice_get xs i ≡ Some x → set xs i x ≡ xs
set_same [] i x h = refl
set_same {X} (y ∷ ys) zero x h = ap (λ (z : X). z ∷ ys) (sym (some_is y x h))
set_same {X} (y ∷ ys) (suc i) x h = ap (λ (zs : List X). y ∷ zs) (set_same ys i x h)

pub get_set : {X : Type 0} (xs : List X) (i : ℕ) (x : X) → i < length xs → slice_get (set xs i x) i ≡ Some x
get_set [] i x lt = absurd (omega (arith, lt))
get_set (y ∷ ys) zero x lt = refl
get_set (y ∷ ys) (suc i) x lt = get_set ys i x (omega (arith, lt))

pub get_other : {X : Type 0} (xs : List X) (i j : ℕ) (x : X) → (j ≡ i → ⊥) → slice_get (set xs i x) j ≡ slice_get xs j
get_other [] i j x h = refl
get_other (y ∷ ys) zero zero x h = absurd (h refl)
get_other (y ∷ ys) zero (suc j) x h = refl
get_other (y ∷ ys) (suc i) zero x h = refl
get_other (y ∷ ys) (suc i) (suc j) x h = get_other ys i j x (λ e. h (ap suc e))

-- ---- putting them

pub put_turns : (target nodes : List ViewNode) (ns : List NewNode) → length nodes ≡ length target → AllByRecursion (IsAt target) ns → ((i : ℕ) → is_made ns i ≡ false → slice_get nodes i ≡ slice_get target i) → put_all ns nodes ≡ target
put_turns target nodes [] long right elsewhere = same_by_get nodes target (λ i. elsewhere i refl)
put_turns target nodes (n ∷ ns) long right elsewhere = put_turns target (set nodes n.place n.node) ns (length-set nodes n.place n.node ∙ long) right.1 (λ i h. by i h (n.place == i) refl)
  where
    by : (i : ℕ) → is_made ns i ≡ false → (b : Bool) → (n.place == i) ≡ b → slice_get (set nodes n.place n.node) i ≡ slice_get target i
    by i h true e =
        subst (λ j. slice_get (set nodes n.place n.node) j ≡ slice_get target j) (eqb-true n.place i e)
        (get_set nodes n.place n.node (omega (arith, long, slice_get_within target n.place n.node right.0)) ∙ sym right.0)
    by i h false e = get_other nodes n.place i n.node (λ q. true≢false (sym (eq-eqb n.place i (sym q)) ∙ e)) ∙ elsewhere i (ap (λ b. b || is_made ns i) e ∙ h)

put_present : (nodes : List ViewNode) (ns : List NewNode) → AllByRecursion (IsAt nodes) ns → put_all ns nodes ≡ nodes
put_present nodes [] all = refl
put_present nodes (n ∷ ns) all = ap (put_all ns) (set_same nodes n.place n.node all.0) ∙ put_present nodes ns all.1

-- whether the nodes are other ones afterwards
pub turned_answer : (nodes target now : List ViewNode) (anew : List NewNode) (same : Bool) → AreTurning nodes target anew → Decides same (AllByRecursion (IsAt nodes) anew) → now ≡ put_all anew nodes → (not same ≡ false) ↔ (now ≡ nodes)
turned_answer nodes target now anew same turning decided is = (λ h. is ∙ put_present nodes anew (decided.0 (kept same h)), λ e. lost same (decided.1 (subst (λ (ns : List ViewNode). AllByRecursion (IsAt ns) anew) (sym turning.turned ∙ sym is ∙ e) turning.right)))
  where
    kept : (b : Bool) → not b ≡ false → b ≡ true
    kept true h = refl
    kept false h = absurd (true≢false h)

    lost : (b : Bool) → b ≡ true → not b ≡ false
    lost b h = ap not h

-- ---- the place of a claim

pub place_self : (cs : List Claim) (i : ℕ) (x : Claim) → AreInOrder cs → slice_get cs i ≡ Some x → place_in x.system cs ≡ i
place_self [] i x asc at = absurd cc
place_self (d ∷ ds) zero x asc at = subst (λ (z : Claim). place_in z.system (d ∷ ds) ≡ 0) (some_is d x at) (by (system_order d.system d.system) (tie_is_same d.system d.system ∙ (bytes_eq-Decides d.system.0 d.system.0).1 refl))
  where
    by : (o : Ordering) → is_eq o ≡ true → match_ordering o 0 0 (suc (place_in d.system ds)) ≡ 0
    by Less h = refl
    by Equal h = refl
    by Greater h = absurd (true≢false (sym h))
place_self (d ∷ ds) (suc i) x asc at =
    let lt : i < length ds = slice_get_within ds i x at in
    let above : is_gt (system_order x.system d.system) ≡ true = above_from_before x.system d.system (all_read (λ t. is_before d.system t ≡ true) ds i x asc.0 lt (sym (get_or_from_slice_get ds i x x at))) in
    ap (λ o. match_ordering o 0 0 (suc (place_in x.system ds))) (gt_is (system_order x.system d.system) above) ∙ ap suc (place_self ds i x asc.1 at)

-- ---- links

pub lists_any : (links : List Link) (s : SystemId) → list_any (λ l. same_system l.neighbour s) links ≡ is_some (metric_to links s)
lists_any [] s = refl
lists_any (l ∷ ls) s = by (same_system l.neighbour s) refl (lists_any ls s)
  where
    by : (b : Bool) → same_system l.neighbour s ≡ b → list_any (λ x. same_system x.neighbour s) ls ≡ is_some (metric_to ls s) → list_any (λ x. same_system x.neighbour s) (l ∷ ls) ≡ is_some (metric_to (l ∷ ls) s)
    by true e more = rw e refl
    by false e more = rw e more
