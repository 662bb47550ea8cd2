-- The router of a row that a class selects is the choice.
use Rattle.std.proofs.Common.{◌≡◌, ℕ, zero, suc, ◌+◌, ◌<◌, ◌%◌, inl, inr, true, false, if◌then◌else◌, List, [], ◌∷◌, length, map, slice_get, Option, Some, None, option_map, option_and_then, unwrap_or, refl, ap, subst, ◌∙◌, arith}
use Rattle.std.specs.Prelude.{AllPairs, Contains}
use Rattle.std.specs.List.{filter_map}
use Rattle.std.proofs.lemmas.List.{length-map}
use Rattle.std.proofs.lemmas.Option.{get_or_from_slice_get, same_Some, slice_get_cases, slice_get_within, slice_get-map}
use Rattle.std.proofs.lemmas.Slice.Eq.{bytes_eq-Decides}
use Rattle.wire_base.specs.declared.conf.End.{End}
use Rattle.wire_base.specs.declared.conf.SubKind.{SubKind}
use Rattle.wire_base.specs.declared.conf.TableRow.{TableRow}
use Rattle.wire_base.specs.declared.triple.Triple.{Triple}
use Rattle.wire_base.specs.declared.view.First.{First}
use Rattle.wire_base.specs.declared.view.ViewNode.{ViewNode}
use Rattle.wire_base.specs.model.Choice.{choice, choose, end_toward, first_at, is_direct, member, row, toward}
use Rattle.wire_base.specs.model.Control.{same_system}
use Rattle.wire_base.specs.model.Graph.{IsBefore, IsGraph, covers_at, owner}
use Rattle.wire_base.specs.model.Place.{id_at}
use Rattle.laws_route.proofs.ChoiceLemmas.{candidate-within, candidates-are}
use Rattle.laws_route.proofs.GraphLemmas.{before-differs}
use Rattle.laws_route.proofs.TightLemmas.{Contains-cons}
use Rattle.quiet_domain.specs.Way.{node_of}

-- ---- the node of a system

-- each node is the first of its system
node_found : (g : List ViewNode) → AllPairs (λ a b. IsBefore a.system b.system) g → (x : ℕ) (n : ViewNode) → slice_get g x ≡ Some n → node_of g n.system ≡ Some x
node_found [] order x n at = cc
node_found (m ∷ g) order zero n at =
    let b : same_system m.system n.system ≡ true = (bytes_eq-Decides m.system.0 n.system.0).1 (ap (λ (k : ViewNode). k.system.0) (same_Some m n at)) in
    rw b refl
node_found (m ∷ g) order (suc x) n at =
    let within : x < length g = slice_get_within g x n at in
    let first : IsBefore m.system n.system = subst (λ (k : ViewNode). IsBefore m.system k.system) (get_or_from_slice_get g x n n at) (order 0 (suc x) n (omega arith) (omega (arith, within))) in
    let b : same_system m.system n.system ≡ false = before-differs m.system n.system first in
    rw b (ap (option_map (λ y. y + 1)) (node_found g (λ i j d less high. order (suc i) (suc j) d (omega (arith, less)) (omega (arith, high))) x n at) ∙ ap (λ (y : ℕ). Some y) (omega arith))

-- ---- the row

-- where each element has a value, those values are the list's
filtered_as_mapped : {X Y : Type 0} (h : X → Option Y) (f : X → Y) (xs : List X) → ((x : X) → Contains xs x → h x ≡ Some (f x)) → filter_map h xs ≡ map f xs
filtered_as_mapped h f [] each = refl
filtered_as_mapped {X} {Y} h f (x ∷ xs) each =
    rw (each x (0, omega arith, refl)) (ap (λ (ys : List Y). f x ∷ ys) (filtered_as_mapped h f xs (λ z c. each z (Contains-cons x xs z c))))

module _ (ends : List End) (g : List ViewNode) (good : IsGraph g) (kinds : List SubKind) (table : List TableRow) (t : Triple) (class u : ℕ) (node : u < length g) where
  -- the router at a node
  router : ℕ → First
  router x = unwrap_or (first_at ends g u x) (record { system = record { 0 = [] }; direct = None })

  record IsNamed (x : ℕ) : Type 0 where
    named : first_at ends g u x ≡ Some (router x)
    found : node_of g (router x).system ≡ Some x

  named_at : (x : ℕ) → x < length g → IsNamed x
  unfolding router
  named_at x within =
      elim ((slice_get_cases g x).1) [
        | inl s ↦
            let is : first_at ends g u x ≡ Some (record { system = s.0.system; direct = if is_direct g u x then end_toward ends s.0.system else None }) = rw s.2 refl in
            record { named = rw is refl; found = rw is (node_found g good.in_order x s.0 s.2) }
        | inr p ↦ absurd (omega (arith, within, p.0))
      ]

  -- the candidates of an owner are nodes
  toward_within : (o : Option ℕ) (x : ℕ) → Contains (toward g (covers_at kinds table t g) u o) x → x < length g
  toward_within None x c = absurd (let k = c.1 in omega arith)
  toward_within (Some d) x c = candidate-within g good (covers_at kinds table t g) d u x (candidates-are g good (covers_at kinds table t g) d u x node c)

  chosen_is : (k : ℕ) → member (toward g (covers_at kinds table t g) u (owner g t.sd k)) class ≡ choose g kinds table t class u k
  unfolding choice
  chosen_is k = by (owner g t.sd k)
    where
      by : (o : Option ℕ) → member (toward g (covers_at kinds table t g) u o) class ≡ option_and_then (λ d. choice g (covers_at kinds table t g) d class u) o
      by None = refl
      by (Some d) = refl

  at_index : (xs : List ℕ) → slice_get xs (class % length xs) ≡ member xs class
  at_index [] = refl
  at_index (x ∷ xs) = refl

  -- the router of the row that the class selects is at the node of the choice
  pub selected_is : (p : ℕ) → option_and_then (λ f. node_of g f.system) (slice_get (row kinds table ends g t u p) (class % length (row kinds table ends g t u p))) ≡ choose g kinds table t class u (id_at t p)
  selected_is p = ap (λ (fs : List First). option_and_then (λ f. node_of g f.system) (slice_get fs (class % length fs))) mapped
      ∙ ap (λ (n : ℕ). option_and_then (λ f. node_of g f.system) (slice_get (map router xs) (class % n))) (length-map xs router)
      ∙ ap (option_and_then (λ f. node_of g f.system)) (slice_get-map router xs (class % length xs))
      ∙ by (slice_get xs (class % length xs)) refl
      ∙ at_index xs
      ∙ chosen_is (id_at t p)
    where
      xs : List ℕ
      xs = toward g (covers_at kinds table t g) u (owner g t.sd (id_at t p))

      mapped : row kinds table ends g t u p ≡ map router xs
      mapped = filtered_as_mapped (first_at ends g u) router xs (λ x c. (named_at x (toward_within (owner g t.sd (id_at t p)) x c)).named)

      by : (o : Option ℕ) → slice_get xs (class % length xs) ≡ o → option_and_then (λ f. node_of g f.system) (option_map router o) ≡ o
      by None e = refl
      by (Some x) e =
          let there : Contains xs x = (class % length xs, slice_get_within xs (class % length xs) x e, get_or_from_slice_get xs (class % length xs) x x e) in
          (named_at x (toward_within (owner g t.sd (id_at t p)) x there)).found

  -- the same for a row that was read
  pub chosen : (p k : ℕ) (fs : List First) (o : Option First) → fs ≡ row kinds table ends g t u p → id_at t p ≡ k → o ≡ slice_get fs (class % length fs) → option_and_then (λ f. node_of g f.system) o ≡ choose g kinds table t class u k
  chosen p k fs o is id at =
      ap (option_and_then (λ f. node_of g f.system)) at
      ∙ ap (λ (gs : List First). option_and_then (λ f. node_of g f.system) (slice_get gs (class % length gs))) is
      ∙ selected_is p
      ∙ ap (choose g kinds table t class u) id
