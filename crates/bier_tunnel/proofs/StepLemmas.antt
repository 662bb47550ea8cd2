-- The first steps that a walk along the shortest walks from a router finds are the tight steps of least system.
use Rattle.std.proofs.Common.{◌≡◌, ℕ, zero, suc, ◌+◌, ◌<◌, ◌⊎◌, inl, inr, Bool, true, false, cond, List, [], ◌∷◌, ◌++◌, length, take, get_or, slice_index_or, slice_set, is_some, Option, Some, None, Result, Ok, Err, IfOk, Contains, ◌↔◌, refl, ap, arith, sym, ◌∙◌, subst, append-nil}
use Rattle.std.proofs.lemmas.Option.{same_Some}
use Rattle.std.proofs.lemmas.Bool.{cases_Bool, cases_lt}
use Rattle.std.proofs.lemmas.Bool.Decides.{eqb_tells}
use Rattle.std.proofs.lemmas.List.{get_or_default, get_or_past, get_or-set_same, get_or-set_other, get_or-take, length-take}
use Rattle.wire_base.specs.declared.view.ViewEdge.{ViewEdge}
use Rattle.wire_base.specs.declared.view.ViewNode.{ViewNode}
use Rattle.wire_base.specs.model.Choice.{is_length}
use Rattle.wire_base.specs.model.Graph.{edges_of, is_overloaded, IsGraph}
use Rattle.wire_base.specs.model.Tight.{IsTight, head, is_tight, makes_up, next_step, tight_from, tight_list}
use Rattle.wire_base.specs.model.Walk.{dist, may_enter}
use Rattle.laws_route.specs.OnWay.{IsOnWay}
use Rattle.laws_route.proofs.WalkLemmas.{enter-cases, may-enter-end, may-enter-free}
use Rattle.laws_route.proofs.DescentLemmas.{dist-end, edge-within}
use Rattle.laws_route.proofs.TightLemmas.{Contains-pick, Contains-picked, both, both-true, made-up, makes-up, tight_list-more}
use Rattle.path_tree.specs.Forward.{ForwardWay, nowhere}
use Rattle.path_tree.proofs.ForwardLemmas.{forward-from-tight, forward-within, on-way, way-on, way-same}
use Rattle.bier_tunnel.specs.Steps.{IsLedOn, LeadsOn, filled, has_step}

-- ---- the head of a list

head-keep : (xs ys : List ℕ) (v : ℕ) → head xs ≡ Some v → head (xs ++ ys) ≡ Some v
head-keep [] ys v q = cc
head-keep (x ∷ xs) ys v q = q

head-none : (xs ys : List ℕ) → head xs ≡ None → head (xs ++ ys) ≡ head ys
head-none [] ys q = refl
head-none (x ∷ xs) ys q = cc

head-in : (xs : List ℕ) (v : ℕ) → head xs ≡ Some v → Contains xs v
head-in [] v q = cc
head-in (x ∷ xs) v q = (0, omega arith, same_Some x v q)

not-empty : (xs : List ℕ) (v : ℕ) → Contains xs v → head xs ≡ None → ⊥
not-empty [] v (k, l, e) q = omega arith
not-empty (x ∷ xs) v h q = cc

Contains-taken : {X : Type 0} (xs : List X) (i : ℕ) (x : X) → Contains (take i xs) x → Contains xs x
Contains-taken xs i x (k, l, q) =
    let short : k < i = omega (arith, length-take i xs) in
    (k, omega (arith, length-take i xs), sym (get_or-take i xs k x short) ∙ q)

-- ---- an edge's metric and a distance

pub length-is : (o : Option ℕ) (m : ℕ) → is_length o m ≡ true → o ≡ Some m
length-is None m q = cc
length-is (Some n) m q = elim (eqb_tells n m) [ inl h ↦ ap Some h.1 | inr h ↦ absurd cc ]

pub length-not : (o : Option ℕ) (m : ℕ) → is_length o m ≡ false → o ≡ Some m → ⊥
length-not None m q e = cc
length-not (Some n) m q e = elim (eqb_tells n m) [ inl h ↦ cc | inr h ↦ h.1 (same_Some n m e) ]

-- ---- ways

-- a way over nodes at which a search doesn't stop is one of a search that stops nowhere
way-free : (g : List ViewNode) (u : ℕ) (c : ℕ → Bool) (k y x : ℕ) → ForwardWay g u c k y x → ForwardWay g u nowhere k y x
way-free g u c zero y x w = w
way-free g u c (suc k) y x w = (w.0, w.1, refl, way-free g u c k w.0 x w.3)

way-append : (g : List ViewNode) (u k j y z x : ℕ) → ForwardWay g u nowhere k y z → ForwardWay g u nowhere j z x → (m : ℕ) × ForwardWay g u nowhere m y x
way-append g u zero j y z x w v = (suc j, (z, w, refl, v))
way-append g u (suc k) j y z x w v = let r = way-append g u k j w.0 z x w.3 v in (suc r.0, (w.0, w.1, w.2, r.1))

leads-append : (g : List ViewNode) (u j y z x : ℕ) → LeadsOn g u nowhere y z → ForwardWay g u nowhere j z x → LeadsOn g u nowhere y x
leads-append g u j y z x (inl same) v = inr (j, subst (λ (s : ℕ). ForwardWay g u nowhere j s x) same v)
leads-append g u j y z x (inr w) v = inr (way-append g u w.0 j y z x w.1 v)

leads-free : (g : List ViewNode) (u : ℕ) (c : ℕ → Bool) (y x : ℕ) → LeadsOn g u c y x → LeadsOn g u nowhere y x
leads-free g u c y x (inl same) = inl same
leads-free g u c y x (inr w) = inr (w.0, way-free g u c w.0 y x w.1)

-- a way leads past a node at which the search stops
record IsPast (g : List ViewNode) (u : ℕ) (c : ℕ → Bool) (x : ℕ) : Type 0 where
  at : ℕ
  within : at < length g
  stops : c at ≡ true
  steps : ℕ
  way : ForwardWay g u nowhere steps at x

-- ---- the steps over some of the edges

-- where the tight steps toward x over these edges lead
abbrev pub toward : List ViewNode → ℕ → List ViewEdge → ℕ → List ℕ
toward g u es x = tight_list g x (λ y. dist g y x) u es

-- the first of them for each node
pub record AreSteps (g : List ViewNode) (u : ℕ) (es : List ViewEdge) (steps : List (Option ℕ)) : Type 0 where
  pub rows : length steps ≡ length g
  pub each : (x : ℕ) → x < length g → slice_index_or steps x None ≡ head (toward g u es x)

module _ (g : List ViewNode) (good : IsGraph g) (u : ℕ) (node : u < length g) where
  -- a way stops nowhere, or leads past such a node
  cut : (c : ℕ → Bool) (k y x : ℕ) → ForwardWay g u nowhere k y x → ((m : ℕ) × ForwardWay g u c m y x) ⊎ IsPast g u c x
  cut c zero y x w = inl (0, w)
  cut c (suc k) y x w =
      elim (cases_Bool (c w.0)) [
        | inl q ↦ inr (record { at = w.0; within = forward-within g good u y w.0 w.1; stops = q; steps = k; way = w.3 })
        | inr q ↦
            elim (cut c k w.0 x w.3) [
              | inl v ↦ inl (suc v.0, (w.0, w.1, q, v.1))
              | inr p ↦ inr p
            ]
      ]

  -- an edge whose step is tight toward x is a shortest walk, and leads on to x
  tight-leads : (x : ℕ) (e : ViewEdge) → Contains (edges_of g u) e → is_tight g x (λ y. dist g y x) u e ≡ true → (dist g u e.to ≡ Some e.metric) × LeadsOn g u nowhere e.to x
  tight-leads x e there q =
      let b = both (may_enter g x e.to) (makes_up e.metric (dist g e.to x) (dist g u x)) q in
      let m = made-up e.metric (dist g e.to x) (dist g u x) b.1 in
      let t : IsTight g x u e.to = record { edge = e; leaves = there; enters = refl; passes = enter-cases g x e.to b.0; rest = m.0; from_there = m.1; whole = m.2 } in
      let w : IsOnWay g u u x = record { before = 0; after = e.metric + m.0; to = dist-end g u; on = m.2; whole = m.2 ∙ ap Some (omega arith) } in
      let f = forward-from-tight g good u node x u e.to w (inl refl) t in
      let after : f.1.after ≡ m.0 = same_Some f.1.after m.0 (sym f.1.on ∙ m.1) in
      let sum : f.1.before + f.1.after ≡ e.metric + m.0 = same_Some (f.1.before + f.1.after) (e.metric + m.0) (sym f.1.whole ∙ m.2) in
      let within : e.to < length g = (edge-within g good u e there).names in (
        f.1.to ∙ ap Some (omega (arith, after, sum)),
        elim (eqb_tells e.to x) [
          | inl h ↦ inl (sym h.1)
          | inr h ↦ inr (way-on g good u node (suc m.0) x e.to m.0 within f.1 (inr (free h.1 f.2)) h.1 m.1 (omega arith))
        ],
      )
    where
      free : (e.to ≡ x → ⊥) → (e.to ≡ x) ⊎ (is_overloaded g e.to ≡ false) → is_overloaded g e.to ≡ false
      free other (inl h) = absurd (other h)
      free other (inr h) = h

  -- and an edge that is a shortest walk and leads on to x is tight toward x
  leads-tight : (x : ℕ) (e : ViewEdge) → Contains (edges_of g u) e → dist g u e.to ≡ Some e.metric → LeadsOn g u nowhere e.to x → is_tight g x (λ y. dist g y x) u e ≡ true
  leads-tight x e there d (inl same) =
      both-true (may_enter g x e.to) (makes_up e.metric (dist g e.to x) (dist g u x)) (may-enter-end g x e.to (sym same))
      (makes-up e.metric 0 (dist g e.to x) (dist g u x) (ap (dist g e.to) same ∙ dist-end g e.to) (ap (dist g u) same ∙ d ∙ ap Some (omega arith)))
  leads-tight x e there d (inr w) =
      let r = on-way g good u node w.0 e.to x w.1 in
      let before : r.0.before ≡ e.metric = same_Some r.0.before e.metric (sym r.0.to ∙ d) in
      both-true (may_enter g x e.to) (makes_up e.metric (dist g e.to x) (dist g u x)) (may-enter-free g x e.to (free r.1))
      (makes-up e.metric r.0.after (dist g e.to x) (dist g u x) r.0.on (r.0.whole ∙ ap (λ (n : ℕ). Some (n + r.0.after)) before))
    where
      free : (e.to ≡ u) ⊎ (is_overloaded g e.to ≡ false) → is_overloaded g e.to ≡ false
      free (inl h) =
          let nothing : e.metric ≡ 0 = same_Some e.metric 0 (sym d ∙ ap (dist g u) h ∙ dist-end g u) in
          absurd (omega (arith, nothing, (edge-within g good u e there).positive))
      free (inr h) = h

  -- where an edge of these leads on to a node, the node has a step
  has-one : (es : List ViewEdge) → ((e : ViewEdge) → Contains es e → Contains (edges_of g u) e) → (z x j v : ℕ) → head (toward g u es z) ≡ Some v → ForwardWay g u nowhere j z x → head (toward g u es x) ≡ None → ⊥
  has-one es inside z x j v h w q =
      let p = Contains-picked (λ e. e.to) (is_tight g z (λ y. dist g y z) u) es v (head-in (toward g u es z) v h) in
      let t = tight-leads z p.item (inside p.item p.there) p.passes in
      let on = leads-tight x p.item (inside p.item p.there) t.0 (leads-append g u j p.item.to z x t.1 w) in
      not-empty (toward g u es x) p.item.to (Contains-pick (λ e. e.to) (is_tight g x (λ y. dist g y x) u) es p.item p.there on) q

  module _ (es : List ViewEdge) (inside : (e : ViewEdge) → Contains es e → Contains (edges_of g u) e) (more : List ViewEdge) (e : ViewEdge) (there : Contains (edges_of g u) e)
      (adds : (x : ℕ) (b : Bool) → b ≡ is_tight g x (λ y. dist g y x) u e → toward g u more x ≡ toward g u es x ++ cond b (e.to ∷ []) []) where
    -- an edge that is no shortest walk is tight toward no node
    pub passed : (steps : List (Option ℕ)) → AreSteps g u es steps → (dist g u e.to ≡ Some e.metric → ⊥) → AreSteps g u more steps
    passed steps are longer = record { rows = are.rows; each = λ x within. are.each x within ∙ ap head (same x) }
      where
        same : (x : ℕ) → toward g u es x ≡ toward g u more x
        same x =
            elim (cases_Bool (is_tight g x (λ y. dist g y x) u e)) [
              | inl q ↦ absurd (longer (tight-leads x e there q).0)
              | inr q ↦ sym (adds x false (sym q) ∙ append-nil (toward g u es x))
            ]

    -- one that is becomes the step of all to which it leads on
    pub led : (old new : List (Option ℕ)) → AreSteps g u es old → dist g u e.to ≡ Some e.metric → IsLedOn g u e.to old new → AreSteps g u more new
    led old new are d l = record { rows = l.rows; each = λ x within. at x within (slice_index_or old x None) refl }
      where
        empty : (x : ℕ) → x < length g → slice_index_or old x None ≡ None → head (toward g u es x) ≡ None
        empty x within q = sym (are.each x within) ∙ q

        some : (o : Option ℕ) → is_some o ≡ true → (v : ℕ) × (o ≡ Some v)
        some None q = cc
        some (Some v) q = (v, refl)

        reached : (x : ℕ) → x < length g → slice_index_or old x None ≡ None → LeadsOn g u nowhere e.to x → LeadsOn g u (has_step old) e.to x
        reached x within q (inl same) = inl same
        reached x within q (inr w) =
            elim (cut (has_step old) w.0 e.to x w.1) [
              | inl v ↦ inr v
              | inr p ↦
                  let v = some (slice_index_or old p.at None) p.stops in
                  absurd (has-one es inside p.at x p.steps v.0 (sym (are.each p.at p.within) ∙ v.1) p.way (empty x within q))
            ]

        none-new : (x : ℕ) → x < length g → slice_index_or old x None ≡ None → is_tight g x (λ y. dist g y x) u e ≡ false → (o : Option ℕ) → slice_index_or new x None ≡ o → o ≡ None
        none-new x within q not_so None h = refl
        none-new x within q not_so (Some v) h =
            let k = l.only x v within q h in
            let t = leads-tight x e there d (leads-free g u (has_step old) e.to x k.1) in
            absurd (let z : true ≡ false = sym t ∙ not_so in cc)

        at : (x : ℕ) → x < length g → (o : Option ℕ) → slice_index_or old x None ≡ o → slice_index_or new x None ≡ head (toward g u more x)
        at x within (Some v) q =
            l.kept x v within q
            ∙ sym (ap head (adds x (is_tight g x (λ y. dist g y x) u e) refl) ∙ head-keep (toward g u es x) (cond (is_tight g x (λ y. dist g y x) u e) (e.to ∷ []) []) v (sym (are.each x within) ∙ q))
        at x within None q =
            elim (cases_Bool (is_tight g x (λ y. dist g y x) u e)) [
              | inl t ↦
                  l.led x within q (reached x within q (tight-leads x e there t).1)
                  ∙ sym (ap head (adds x true (sym t)) ∙ head-none (toward g u es x) (e.to ∷ []) (empty x within q))
              | inr t ↦
                  none-new x within q t (slice_index_or new x None) refl
                  ∙ sym (ap head (adds x false (sym t) ∙ append-nil (toward g u es x)) ∙ empty x within q)
            ]

  -- one edge more of the router's edges
  module _ (es : List ViewEdge) (all : es ≡ edges_of g u) (i : ℕ) (e : ViewEdge) (lt : i < length es) (is : e ≡ get_or es i e) (old : List (Option ℕ)) (are : AreSteps g u (take i es) old) where
    adds : (x : ℕ) (b : Bool) → b ≡ is_tight g x (λ y. dist g y x) u e → toward g u (take (i + 1) es) x ≡ toward g u (take i es) x ++ cond b (e.to ∷ []) []
    adds x b q = tight_list-more g x (λ y. dist g y x) u es i e b lt is q

    inside : (f : ViewEdge) → Contains (take i es) f → Contains (edges_of g u) f
    inside f h = subst (λ (l : List ViewEdge). Contains l f) all (Contains-taken es i f h)

    there : Contains (edges_of g u) e
    there = subst (λ (l : List ViewEdge). Contains l e) all (i, lt, sym is)

    pub one-passed : is_length (dist g u e.to) e.metric ≡ false → AreSteps g u (take (i + 1) es) old
    one-passed longer = passed (take i es) inside (take (i + 1) es) e there adds old are (length-not (dist g u e.to) e.metric longer)

    pub one-led : (new : List (Option ℕ)) → is_length (dist g u e.to) e.metric ≡ true → IsLedOn g u e.to old new → AreSteps g u (take (i + 1) es) new
    one-led new shortest l = led (take i es) inside (take (i + 1) es) e there adds old new are (length-is (dist g u e.to) e.metric shortest) l

  -- over all edges these are the tight steps of least system
  pub steps-are : (es : List ViewEdge) (steps : List (Option ℕ)) → es ≡ edges_of g u → AreSteps g u es steps → (x : ℕ) → x < length g → slice_index_or steps x None ≡ next_step g x u
  unfolding next_step tight_from
  steps-are es steps same are x within = are.each x within ∙ ap (λ (l : List ViewEdge). head (tight_list g x (λ y. dist g y x) u l)) same

  pub no-steps : (steps : List (Option ℕ)) → length steps ≡ length g → ((x : ℕ) → x < length g → slice_index_or steps x None ≡ None) → AreSteps g u [] steps
  no-steps steps rows none = record { rows = rows; each = none }

-- ---- one search

module _ (g : List ViewNode) (u first : ℕ) (old : List (Option ℕ)) (known seen beyond : List Bool) (inside : first < length g) (rows : length old ≡ length g)
    (known-rows : length known ≡ length old) (known-each : (x : ℕ) → x < length old → slice_index_or known x false ≡ is_some (slice_index_or old x None)) (seen-rows : length seen ≡ length g)
    (seen-each : (x : ℕ) → x < length g → ((slice_index_or seen x true ≡ true) ↔ ((k : ℕ) × ForwardWay g u (λ x. slice_index_or known x false) k first x)))
    (beyond-is : beyond ≡ slice_set seen first true) where
  stops : (z : ℕ) → slice_index_or known z false ≡ has_step old z
  stops z =
      elim (cases_lt z (length old)) [
        | inl h ↦ known-each z h
        | inr h ↦ get_or_past known z false (omega arith) ∙ sym (ap is_some (get_or_past old z None h))
      ]

  leads : (x : ℕ) → x < length g → slice_index_or beyond x false ≡ true → LeadsOn g u (has_step old) first x
  leads x within q =
      elim (eqb_tells x first) [
        | inl h ↦ inl h.1
        | inr h ↦
            let set : slice_index_or (slice_set seen first true) x false ≡ true = ap (λ (l : List Bool). slice_index_or l x false) (sym beyond-is) ∙ q in
            let was : slice_index_or seen x true ≡ true = get_or_default seen x true false (omega (arith, seen-rows)) ∙ sym (get_or-set_other seen first x true false h.1) ∙ set in
            let w = (seen-each x within).0 was in
            inr (w.0, way-same g u (λ x. slice_index_or known x false) (has_step old) stops w.0 first x w.1)
      ]

  lies-first : (x : ℕ) → x ≡ first → slice_index_or beyond x false ≡ true
  lies-first x e =
      ap (λ (l : List Bool). slice_index_or l x false) beyond-is ∙ ap (λ (y : ℕ). slice_index_or (slice_set seen first true) y false) e ∙ get_or-set_same seen first true false (omega (arith, seen-rows))

  lies : (x : ℕ) → x < length g → LeadsOn g u (has_step old) first x → slice_index_or beyond x false ≡ true
  lies x within (inl e) = lies-first x e
  lies x within (inr w) =
      elim (eqb_tells x first) [
        | inl h ↦ lies-first x h.1
        | inr h ↦
            let was = (seen-each x within).1 (w.0, way-same g u (has_step old) (λ x. slice_index_or known x false) (λ z. sym (stops z)) w.0 first x w.1) in
            ap (λ (l : List Bool). slice_index_or l x false) beyond-is ∙ get_or-set_other seen first x true false h.1 ∙ get_or_default seen x false true (omega (arith, seen-rows)) ∙ was
      ]

  pub led-on : (new : List (Option ℕ)) → length new ≡ length old → ((x : ℕ) → x < length old → slice_index_or new x None ≡ filled first (slice_index_or beyond x false) (slice_index_or old x None)) → IsLedOn g u first old new
  led-on new new-rows each = record { rows = new-rows ∙ rows; kept = kept; led = led; only = only }
    where
      at : (x : ℕ) → x < length g → slice_index_or new x None ≡ filled first (slice_index_or beyond x false) (slice_index_or old x None)
      at x within = each x (omega (arith, rows))

      kept : (x v : ℕ) → x < length g → slice_index_or old x None ≡ Some v → slice_index_or new x None ≡ Some v
      kept x v within q = at x within ∙ ap (filled first (slice_index_or beyond x false)) q

      led : (x : ℕ) → x < length g → slice_index_or old x None ≡ None → LeadsOn g u (has_step old) first x → slice_index_or new x None ≡ Some first
      led x within q on = at x within ∙ ap (filled first (slice_index_or beyond x false)) q ∙ ap (λ (b : Bool). filled first b None) (lies x within on)

      only : (x v : ℕ) → x < length g → slice_index_or old x None ≡ None → slice_index_or new x None ≡ Some v → (v ≡ first) × LeadsOn g u (has_step old) first x
      only x v within q h =
          let is : filled first (slice_index_or beyond x false) None ≡ Some v = sym (at x within ∙ ap (filled first (slice_index_or beyond x false)) q) ∙ h in
          elim (cases_Bool (slice_index_or beyond x false)) [
            | inl b ↦ (same_Some v first (sym (sym (ap (λ (b : Bool). filled first b None) b) ∙ is)), leads x within b)
            | inr b ↦ absurd (let e : ◌≡◌ {A = Option ℕ} None (Some v) = sym (ap (λ (b : Bool). filled first b None) b) ∙ is in cc)
          ]

-- two facts of what a call gave, where it gave something
pub both-ok : {X E : Type 0} (P Q R : X → Type 0) (r : Result X E) → ((x : X) → P x → Q x → R x) → IfOk r P → IfOk r Q → IfOk r R
both-ok P Q R (Ok x) f p q = f x p q
both-ok P Q R (Err e) f p q = tt
