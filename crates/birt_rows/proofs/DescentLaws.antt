-- The routers of a row come nearer to the owner.
use Rattle.std.proofs.Common.{◌≡◌, ℕ, ◌<◌, inl, inr, Bool, List, [], ◌∷◌, length, Option, Some, None, option_map, if◌then◌else◌, Contains, refl, sym, ap, ◌∙◌, arith}
use Rattle.std.specs.List.{AllByRecursion, cons_option, filter_map}
use Rattle.std.proofs.lemmas.Bool.Decides.{eqb_tells}
use Rattle.std.proofs.lemmas.Option.{slice_get_cases}
use Rattle.wire_base.specs.declared.conf.End.{End}
use Rattle.wire_base.specs.declared.conf.RouterConf.{RouterConf}
use Rattle.wire_base.specs.declared.triple.Triple.{Triple}
use Rattle.wire_base.specs.declared.view.First.{First}
use Rattle.wire_base.specs.declared.view.ViewNode.{ViewNode}
use Rattle.wire_base.specs.model.Choice.{candidates, end_toward, first_at, is_direct, row, toward}
use Rattle.wire_base.specs.model.Graph.{IsGraph, covers_at, has_id_at, owner}
use Rattle.wire_base.specs.model.Place.{id_at}
use Rattle.laws_route.proofs.ChoiceLemmas.{candidate-nearer, candidate-within, candidates-are, candidates-some, choice-follows}
use Rattle.laws_route.proofs.HopCountLemmas.{hops-at}
use Rattle.laws_route.proofs.OwnerLemmas.{owner-is}
use Rattle.laws_route.proofs.TightLemmas.{Contains-cons}
use Rattle.laws_route.proofs.WalkLemmas.{Contains-cases}
use Rattle.birt_rows.specs.Descent.{ComesNearer}

all-mapped : {X Y : Type 0} (P : Y → Type 0) (h : X → Option Y) (xs : List X) → ((x : X) (y : Y) → Contains xs x → h x ≡ Some y → P y) → AllByRecursion P (filter_map h xs)
all-mapped P h [] each = tt
all-mapped {X} {Y} P h (x ∷ xs) each = by (h x) refl (all-mapped P h xs (λ z y c. each z y (Contains-cons x xs z c)))
  where
    by : (o : Option Y) → h x ≡ o → AllByRecursion P (filter_map h xs) → AllByRecursion P (filter_map h (x ∷ xs))
    by None q rest = rw q rest
    by (Some y) q rest = rw q (each x y (0, omega arith, refl) q, rest)

-- what a mapped element gives stands in the list
mapped-there : {X Y : Type 0} (h : X → Option Y) (xs : List X) (x : X) (y : Y) → Contains xs x → h x ≡ Some y → filter_map h xs ≡ [] → ⊥
mapped-there h [] x y c q empty = absurd (let k = c.1 in omega arith)
mapped-there {X} {Y} h (z ∷ zs) x y c q empty = by (h z) refl empty (λ t. mapped-there h zs x y t q)
  where
    by : (o : Option Y) → h z ≡ o → cons_option o (filter_map h zs) ≡ [] → (Contains zs x → filter_map h zs ≡ [] → ⊥) → ⊥
    by None e p rest =
        elim (Contains-cases z zs x c) [
          | inl s ↦ (let w : None ≡ Some y = sym e ∙ ap h s ∙ q in cc)
          | inr t ↦ rest t p
        ]
    by (Some w) e p rest = cc

-- each node of a view is named
named : (ends : List End) (g : List ViewNode) (u x : ℕ) → x < length g → (f : First) × (first_at ends g u x ≡ Some f)
named ends g u x within =
    elim ((slice_get_cases g x).1) [
      | inl s ↦ (record { system = s.0.system; direct = if is_direct g u x then end_toward ends s.0.system else None }, ap (option_map (λ (n : ViewNode). record { system = n.system; direct = if is_direct g u x then end_toward ends n.system else None })) s.2)
      | inr p ↦ absurd (omega (arith, within, p.0))
    ]

module _ (r : RouterConf) (g : List ViewNode) (good : IsGraph g) (t : Triple) (u : ℕ) (node : u < length g) (p : ℕ) where
  abbrev c : ℕ → Bool
  c = covers_at r.kinds r.table t g

  toward-are : (o : Option ℕ) → owner g t.sd (id_at t p) ≡ o → AllByRecursion (ComesNearer r g t u p) (filter_map (first_at r.ends g u) (toward g c u o))
  toward-are None q = tt
  toward-are (Some d) q = all-mapped (ComesNearer r g t u p) (first_at r.ends g u) (candidates g c d u) each
    where
      each : (x : ℕ) (f : First) → Contains (candidates g c d u) x → first_at r.ends g u x ≡ Some f → ComesNearer r g t u p f
      each x f there is =
          let k = candidates-are g good c d u x node there in
          let near = candidate-nearer g good c d u x k in
          let within = candidate-within g good c d u x k in
          record {
            x = x;
            is = is;
            within = within;
            owner = d;
            owns = q;
            nearer = near;
            goes_on = λ ends empty. elim (eqb_tells x d) [
              | inl s ↦ s.1
              | inr s ↦
                  let more = candidates-some g good c d x near.near within k.ends s.1 near.to in
                  let y = candidates-are g good c d x more.0 within more.1 in
                  let name = named ends g x more.0 (candidate-within g good c d x more.0 y) in
                  absurd (mapped-there (first_at ends g x) (candidates g c d x) more.0 name.0 more.1 name.1 (sym (ap (λ (o : Option ℕ). filter_map (first_at ends g x) (toward g c x o)) q) ∙ empty))
            ];
            arrives = λ class. (
                let o = owner-is g t.sd (id_at t p) d q in
                let f = choice-follows g good c d class (has_id_at g t.sd (id_at t p)) o.alone u near.far node k.ends near.from in
                (f.0, hops-at g r.kinds r.table t class (id_at t p) u d q ∙ f.1, f.2));
          }

  pub row-comes : AllByRecursion (ComesNearer r g t u p) (row r.kinds r.table r.ends g t u p)
  row-comes = toward-are (owner g t.sd (id_at t p)) refl
