-- The search along the steps away from a router finds what they lead to.
use Rattle.std.proofs.Common.{◌≡◌, ℕ, zero, suc, ◌+◌, ◌<◌, ◌≤◌, Bool, true, false, not, cond, List, [], ◌∷◌, ◌++◌, length, Option, refl, ap, arith, sym, ◌∙◌, ◌⊎◌, inl, inr, Contains, subst, slice_index_or, slice_set, count_by, if◌then◌else◌, append-nil, replicate, length-append}
use Rattle.std.proofs.lemmas.List.{length-replicate, get_or-replicate, get_or_past, get_or-set_same, get_or-set_other}
use Rattle.std.proofs.lemmas.List.Elements.{Contains-append_left, Contains-append_right, Contains-append_cases, Contains-push}
use Rattle.std.proofs.lemmas.List.Sums.{sum_by-set}
use Rattle.std.proofs.Math.ListN.{length-set}
use Rattle.std.proofs.lemmas.Bool.{cases_Bool, cases_lt}
use Rattle.std.proofs.lemmas.Bool.Decides.{eqb_tells}
use Rattle.wire_base.specs.declared.view.ViewEdge.{ViewEdge}
use Rattle.wire_base.specs.declared.view.ViewNode.{ViewNode}
use Rattle.wire_base.specs.model.Graph.{edges_of, IsGraph}
use Rattle.wire_base.specs.model.Walk.{dist}
use Rattle.laws_route.proofs.WalkLemmas.{Contains-cases}
use Rattle.laws_route.proofs.TightLemmas.{Contains-cons}
use Rattle.path_tree.specs.Forward.{IsForward, ForwardWay, is_forward, Search, visit, look, look_along}
use Rattle.path_tree.proofs.ForwardLemmas.{forward-within, step-from, step-has}

-- what is past the end counts as seen
pub mark-here : (xs : List Bool) (z : ℕ) → slice_index_or (slice_set xs z true) z true ≡ true
mark-here xs z =
    elim (cases_lt z (length xs)) [
      | inl h ↦ get_or-set_same xs z true true h
      | inr h ↦ get_or_past (slice_set xs z true) z true (omega (arith, length-set xs z true))
    ]

mark-kept : (xs : List Bool) (z x : ℕ) → slice_index_or xs x true ≡ true → slice_index_or (slice_set xs z true) x true ≡ true
mark-kept xs z x q =
    elim (eqb_tells x z) [
      | inl t ↦ rw t.1 (mark-here xs z)
      | inr t ↦ get_or-set_other xs z x true true t.1 ∙ q
    ]

pub mark-new : (xs : List Bool) (z x : ℕ) → slice_index_or (slice_set xs z true) x true ≡ true → (x ≡ z) ⊎ (slice_index_or xs x true ≡ true)
mark-new xs z x q =
    elim (eqb_tells x z) [
      | inl t ↦ inl t.1
      | inr t ↦ inr (sym (get_or-set_other xs z x true true t.1) ∙ q)
    ]

way-more : (g : List ViewNode) (c : ℕ → Bool) (from k u y x : ℕ) → ForwardWay g from c k u y → c y ≡ false → IsForward g from y x → ForwardWay g from c (suc k) u x
way-more g c from zero u y x w h t = (y, w, h, t)
way-more g c from (suc k) u y x w h t = (w.0, w.1, w.2, way-more g c from k w.0 y x w.3 h t)

module _ (g : List ViewNode) (c : ℕ → Bool) (from u : ℕ) where
  -- the search may go on from y
  abbrev pub Opens : Search → ℕ → Type 0
  Opens s y = (y ≡ u) ⊎ ((slice_index_or s.seen y true ≡ true) × (c y ≡ false))

  -- each tight step from y was seen
  abbrev pub Closed : Search → ℕ → Type 0
  Closed s y = (z : ℕ) → IsForward g from y z → slice_index_or s.seen z true ≡ true

  -- what the search keeps, but for the nodes that it is busy with
  pub record IsSearch (Busy : ℕ → Type 0) (s : Search) : Type 0 where
    pub long : length s.seen ≡ length g
    pub reached : (x : ℕ) → x < length g → slice_index_or s.seen x true ≡ true → (k : ℕ) × ForwardWay g from c k u x
    pub within : (y : ℕ) → Contains s.work y → y < length g
    pub opens : (y : ℕ) → Contains s.work y → Opens s y
    pub closed : (y : ℕ) → y < length g → Opens s y → Contains s.work y ⊎ (Closed s y ⊎ Busy y)

  -- the node that is looked around from has a way from u
  abbrev pub Base : ℕ → Type 0
  Base y = (y ≡ u) ⊎ (((k : ℕ) × ForwardWay g from c k u y) × (c y ≡ false))

module _ (g : List ViewNode) (good : IsGraph g) (c : ℕ → Bool) (from u : ℕ) (node : u < length g) (f : ℕ → Option ℕ) (dists : (x : ℕ) → x < length g → f x ≡ dist g from x) where
  on : (y z : ℕ) → Base g c from u y → IsForward g from y z → (k : ℕ) × ForwardWay g from c k u z
  on y z (inl e) t = (0, subst (λ w. IsForward g from w z) e t)
  on y z (inr b) t = (suc b.0.0, way-more g c from b.0.0 u y z b.0.1 b.1 t)

  -- the search after the mark, with more work or none
  module _ (s : Search) (z : ℕ) (inside : z < length s.seen) (more : List ℕ) where
    marked : Search
    marked = record { seen = slice_set s.seen z true; work = s.work ++ more }

    opens-kept : (w : ℕ) → Opens g c from u s w → Opens g c from u marked w
    unfolding marked
    opens-kept w o = elim o [ inl e ↦ inl e | inr p ↦ inr (mark-kept s.seen z w p.0, p.1) ]

    opens-new : (w : ℕ) → Opens g c from u marked w → ((w ≡ z) × (c w ≡ false)) ⊎ Opens g c from u s w
    unfolding marked
    opens-new w o =
        elim o [
          | inl e ↦ inr (inl e)
          | inr p ↦ elim (mark-new s.seen z w p.0) [ inl e ↦ inl (e, p.1) | inr r ↦ inr (inr (r, p.1)) ]
        ]

    closed-kept : (w : ℕ) → Closed g c from u s w → Closed g c from u marked w
    unfolding marked
    closed-kept w k x t = mark-kept s.seen z x (k x t)

    marked-search : (Busy : ℕ → Type 0) (y : ℕ) → Base g c from u y → IsForward g from y z → IsSearch g c from u Busy s
        → ((w : ℕ) → Contains more w → w ≡ z) → (c z ≡ false → Contains more z) → ((w : ℕ) → Contains more w → c w ≡ false) → IsSearch g c from u Busy marked
    unfolding marked
    marked-search Busy y base t i only has free =
        record {
          long = length-set s.seen z true ∙ i.long;
          reached = λ x l q. elim (mark-new s.seen z x q) [ inl e ↦ subst (λ w. (k : ℕ) × ForwardWay g from c k u w) (sym e) (on y z base t) | inr r ↦ i.reached x l r ];
          within =
              λ w m.
              elim (Contains-append_cases s.work more w m) [
                | inl a ↦ i.within w a
                | inr b ↦ let e = only w b in omega (arith, e, inside, i.long)
              ];
          opens =
              λ w m.
              elim (Contains-append_cases s.work more w m) [
                | inl a ↦ opens-kept w (i.opens w a)
                | inr b ↦ let e = only w b in inr (rw e (mark-here s.seen z), free w b)
              ];
          closed =
              λ w l o.
              elim (opens-new w o) [
                | inl p ↦ inl (Contains-append_right s.work more w (subst (λ v. Contains more v) (sym p.0) (has (ap c (sym p.0) ∙ p.1))))
                | inr q ↦
                    elim (i.closed w l q) [
                      | inl m ↦ inl (Contains-append_left s.work more w m)
                      | inr r ↦ inr (elim r [ inl k ↦ inl (closed-kept w k) | inr b ↦ inr b ])
                    ]
              ];
        }

  nothing : (w : ℕ) → Contains {X = ℕ} [] w → ⊥
  nothing w (k, l, q) = omega arith

  one : (z w : ℕ) → Contains (z ∷ []) w → w ≡ z
  one z w m = elim (Contains-cases z [] w m) [ inl e ↦ sym e | inr n ↦ absurd (nothing w n) ]

  -- a visit of a node that a tight step leads to
  mark : (Busy : ℕ → Type 0) (s : Search) (y z : ℕ) → Base g c from u y → IsForward g from y z → IsSearch g c from u Busy s → (b : Bool) → c z ≡ b → IsSearch g c from u Busy (record { seen = slice_set s.seen z true; work = if b then s.work else s.work ++ z ∷ [] })
  unfolding marked
  mark Busy s y z base t i true h =
      let inside : z < length s.seen = omega (arith, forward-within g good from y z t, i.long) in
      let r = marked-search s z inside [] Busy y base t i (λ w m. absurd (nothing w m)) (λ q. (let n : true ≡ false = sym h ∙ q in cc)) (λ w m. absurd (nothing w m)) in
      rw append-nil at r
  mark Busy s y z base t i false h =
      let inside : z < length s.seen = omega (arith, forward-within g good from y z t, i.long) in
      marked-search s z inside (z ∷ []) Busy y base t i (one z) (λ q. (0, omega arith, refl)) (λ w m. ap c (one z w m) ∙ h)

  pub visited : (Busy : ℕ → Type 0) (s : Search) (y z : ℕ) → Base g c from u y → IsForward g from y z → IsSearch g c from u Busy s → IsSearch g c from u Busy (visit c s z)
  visited Busy s y z base t i =
      elim (cases_Bool (slice_index_or s.seen z true)) [
        | inl q ↦ rw q i
        | inr q ↦ rw q (mark Busy s y z base t i (c z) refl)
      ]

  looked : (Busy : ℕ → Type 0) (s : Search) (y : ℕ) (e : ViewEdge) → y < length g → Base g c from u y → Contains (edges_of g y) e → IsSearch g c from u Busy s → IsSearch g c from u Busy (look c (is_forward g from f y) s e)
  looked Busy s y e within base there i =
      elim (cases_Bool (is_forward g from f y e)) [
        | inl q ↦ rw q (visited Busy s y e.to base (step-from g good from f dists y within e there q) i)
        | inr q ↦ rw q i
      ]

  looked-along : (Busy : ℕ → Type 0) (y : ℕ) (es : List ViewEdge) (s : Search) → y < length g → Base g c from u y → ((e : ViewEdge) → Contains es e → Contains (edges_of g y) e) → IsSearch g c from u Busy s → IsSearch g c from u Busy (look_along c (is_forward g from f y) s es)
  looked-along Busy y [] s within base there i = i
  looked-along Busy y (e ∷ es) s within base there i =
      looked-along Busy y es (look c (is_forward g from f y) s e) within base (λ x m. there x (Contains-cons e es x m)) (looked Busy s y e within base (there e (0, omega arith, refl)) i)

  -- what was seen stays seen
  visit-kept : (s : Search) (z x : ℕ) → slice_index_or s.seen x true ≡ true → slice_index_or (visit c s z).seen x true ≡ true
  visit-kept s z x q = elim (cases_Bool (slice_index_or s.seen z true)) [ inl t ↦ rw t q | inr t ↦ rw t (mark-kept s.seen z x q) ]

  visit-sees : (s : Search) (z : ℕ) → slice_index_or (visit c s z).seen z true ≡ true
  visit-sees s z = elim (cases_Bool (slice_index_or s.seen z true)) [ inl t ↦ rw t t | inr t ↦ rw t (mark-here s.seen z) ]

  look-kept : (y : ℕ) (s : Search) (e : ViewEdge) (x : ℕ) → slice_index_or s.seen x true ≡ true → slice_index_or (look c (is_forward g from f y) s e).seen x true ≡ true
  look-kept y s e x q = elim (cases_Bool (is_forward g from f y e)) [ inl t ↦ rw t (visit-kept s e.to x q) | inr t ↦ rw t q ]

  along-kept : (y : ℕ) (es : List ViewEdge) (s : Search) (x : ℕ) → slice_index_or s.seen x true ≡ true → slice_index_or (look_along c (is_forward g from f y) s es).seen x true ≡ true
  along-kept y [] s x q = q
  along-kept y (e ∷ es) s x q = along-kept y es (look c (is_forward g from f y) s e) x (look-kept y s e x q)

  along-sees : (y : ℕ) (es : List ViewEdge) (s : Search) (e : ViewEdge) → Contains es e → is_forward g from f y e ≡ true → slice_index_or (look_along c (is_forward g from f y) s es).seen e.to true ≡ true
  along-sees y [] s e m t = absurd (let k = m.1 in omega arith)
  along-sees y (x ∷ es) s e m t =
      elim (Contains-cases x es e m) [
        | inl q ↦
            let h : is_forward g from f y x ≡ true = ap (is_forward g from f y) q ∙ t in
            let r : slice_index_or (look c (is_forward g from f y) s x).seen x.to true ≡ true = rw h (visit-sees s x.to) in
            along-kept y es (look c (is_forward g from f y) s x) e.to (ap (λ z. slice_index_or (look c (is_forward g from f y) s x).seen z true) (ap (λ z. z.to) (sym q)) ∙ r)
        | inr n ↦ along-sees y es (look c (is_forward g from f y) s x) e n t
      ]

  -- one turn of the search: y is taken from the work and looked around from
  pub turn : (seen : List Bool) (work : List ℕ) (y : ℕ) → IsSearch g c from u (λ _. ⊥) (record { seen = seen; work = work ++ y ∷ [] }) → IsSearch g c from u (λ _. ⊥) (look_along c (is_forward g from f y) (record { seen = seen; work = work }) (edges_of g y))
  turn seen work y i =
      let last = Contains-push work y in
      let within = i.within y last in
      let base : Base g c from u y = base-of y within (i.opens y last) in
      let busy : IsSearch g c from u (λ w. w ≡ y) (record { seen = seen; work = work }) =
      record {
        long = i.long;
        reached = i.reached;
        within = λ w m. i.within w (Contains-append_left work (y ∷ []) w m);
        opens = λ w m. i.opens w (Contains-append_left work (y ∷ []) w m);
        closed =
            λ w l o.
            elim (i.closed w l o) [
              | inl m ↦ elim (Contains-append_cases work (y ∷ []) w m) [ inl a ↦ inl a | inr b ↦ inr (inr (one y w b)) ]
              | inr r ↦ inr (elim r [ inl k ↦ inl k | inr n ↦ absurd n ])
            ];
      } in
      let s = look_along c (is_forward g from f y) (record { seen = seen; work = work }) (edges_of g y) in
      let j = looked-along (λ w. w ≡ y) y (edges_of g y) (record { seen = seen; work = work }) within base (λ e m. m) busy in
      record {
        long = j.long;
        reached = j.reached;
        within = j.within;
        opens = j.opens;
        closed =
            λ w l o.
            elim (j.closed w l o) [
              | inl m ↦ inl m
              | inr r ↦ inr (inl (elim r [ inl k ↦ k | inr e ↦ (λ z t. done within z (subst (λ v. IsForward g from v z) e t)) ]))
            ];
      }
    where
      base-of : (y : ℕ) → y < length g → Opens g c from u (record { seen = seen; work = work ++ y ∷ [] }) y → Base g c from u y
      base-of y l (inl e) = inl e
      base-of y l (inr p) = inr (i.reached y l p.0, p.1)

      done : y < length g → (z : ℕ) → IsForward g from y z → slice_index_or (look_along c (is_forward g from f y) (record { seen = seen; work = work }) (edges_of g y)).seen z true ≡ true
      done within z t =
          let p = step-has g good from f dists y z within t in
          rw p.gives at (along-sees y (edges_of g y) (record { seen = seen; work = work }) p.item p.there p.passes)

  -- at the end each node on a way was seen
  closed-there : (s : Search) → IsSearch g c from u (λ _. ⊥) s → s.work ≡ [] → (y : ℕ) → y < length g → Opens g c from u s y → Closed g c from u s y
  closed-there s i empty y within o =
      elim (i.closed y within o) [
        | inl m ↦ absurd (nothing y (subst (λ ws. Contains ws y) empty m))
        | inr r ↦ elim r [ inl closed ↦ closed | inr n ↦ absurd n ]
      ]

  pub seen-way : (s : Search) → IsSearch g c from u (λ _. ⊥) s → s.work ≡ [] → (k y x : ℕ) → y < length g → Opens g c from u s y → ForwardWay g from c k y x → slice_index_or s.seen x true ≡ true
  seen-way s i empty zero y x within o w = closed-there s i empty y within o x w
  seen-way s i empty (suc k) y x within o w =
      let z = closed-there s i empty y within o w.0 w.1 in
      seen-way s i empty k w.0 x (forward-within g good from y w.0 w.1) (inr (z, w.2)) w.3

  -- at the start
  pub start : (n : ℕ) → n ≡ length g → IsSearch g c from u (λ _. ⊥) (record { seen = replicate n false; work = u ∷ [] })
  start n e =
      record {
        long = length-replicate n false ∙ e;
        reached = λ x l q. (let z : false ≡ true = sym (get_or-replicate n x false true (omega arith)) ∙ q in cc);
        within = λ w m. (let z = one u w m in omega (arith, node));
        opens = λ w m. inl (one u w m);
        closed =
            λ w l o.
            elim o [
              | inl q ↦ inl (0, omega arith, sym q)
              | inr p ↦ let z : false ≡ true = sym (get_or-replicate n w false true (omega arith)) ∙ p.0 in cc
            ];
      }

-- how many turns are left at most
abbrev pub budget : List Bool → List ℕ → ℕ
budget seen work = count_by not seen + length work

mark-budget : (seen : List Bool) (work : List ℕ) (z : ℕ) (b : Bool) → slice_index_or seen z true ≡ false → budget (slice_set seen z true) (if b then work else work ++ z ∷ []) ≤ budget seen work
mark-budget seen work z b t =
    let inside : z < length seen = elim (cases_lt z (length seen)) [ inl h ↦ h | inr h ↦ (let q : true ≡ false = sym (get_or_past seen z true h) ∙ t in cc) ] in
    let fewer : count_by not (slice_set seen z true) + 1 ≡ count_by not seen + 0 = rw t at (sum_by-set (λ x. cond (not x) 1 0) seen z true true inside) in
    omega (arith, fewer, more b)
  where
    more : (b : Bool) → length (if b then work else work ++ z ∷ []) ≤ length work + 1
    more true = omega arith
    more false = omega (arith, length-append work (z ∷ []))

visit-budget : (c : ℕ → Bool) (s : Search) (z : ℕ) → budget (visit c s z).seen (visit c s z).work ≤ budget s.seen s.work
visit-budget c s z =
    elim (cases_Bool (slice_index_or s.seen z true)) [
      | inl t ↦ rw t (omega arith)
      | inr t ↦ rw t (mark-budget s.seen s.work z (c z) t)
    ]

pub along-budget : (c : ℕ → Bool) (test : ViewEdge → Bool) (es : List ViewEdge) (s : Search) → budget (look_along c test s es).seen (look_along c test s es).work ≤ budget s.seen s.work
along-budget c test [] s = omega arith
along-budget c test (e ∷ es) s =
    let step : budget (look c test s e).seen (look c test s e).work ≤ budget s.seen s.work =
    elim (cases_Bool (test e)) [ inl t ↦ rw t (visit-budget c s e.to) | inr t ↦ rw t (omega arith) ] in
    omega (arith, step, along-budget c test es (look c test s e))
