-- What follows for tight steps.
use Rattle.std.proofs.Common.{◌≡◌, ℕ, zero, suc, ◌+◌, ◌-◌, ◌<◌, ◌≤◌, Bool, true, false, List, [], ◌∷◌, length, Option, Some, None, refl, ap, arith, sym, ◌∙◌, ◌⊎◌, inl, inr, Contains}
use Rattle.std.proofs.lemmas.Option.{same_Some}
use Rattle.std.proofs.lemmas.List.Elements.{All-contains}
use Rattle.wire_base.specs.declared.view.ViewEdge.{ViewEdge}
use Rattle.wire_base.specs.declared.view.ViewNode.{ViewNode}
use Rattle.wire_base.specs.model.Graph.{edges_of, is_overloaded, IsEdge, IsGraph}
use Rattle.wire_base.specs.model.Walk.{Leads, cost, dist}
use Rattle.wire_base.specs.model.Tight.{IsTight}
use Rattle.wire_base.specs.model.Supporting.{TightWay, IsFirst}
use Rattle.laws_route.specs.Nearer.{Nearer}
use Rattle.laws_route.specs.Bounds.{IsAtMost}
use Rattle.laws_route.proofs.WalkLemmas.{edges-good, best-route, best-least, best-end}
use Rattle.laws_route.proofs.ShortenLemmas.{shortened}

AtMost-some : (o : Option ℕ) (n : ℕ) → IsAtMost o n → (m : ℕ) × (o ≡ Some m) × (m ≤ n)
AtMost-some None n h = absurd h
AtMost-some (Some m) n h = (m, refl, h)

-- a walk of any length is no shorter than the distance
pub dist-least : (g : List ViewNode) → IsGraph g → (u d : ℕ) → u < length g → (es : List ViewEdge) → Leads g u d es → (m : ℕ) × (dist g u d ≡ Some m) × (m ≤ cost es)
unfolding dist
dist-least g good u d node es l =
    let r = shortened g d u es good node l in
    let s = AtMost-some (dist g u d) (cost r.0) (best-least g d (length g - 1) u r.0 r.1 (omega (arith, r.2))) in
    (s.0, s.1, omega (arith, s.2, r.3))

pub dist-end : (g : List ViewNode) (d : ℕ) → dist g d d ≡ Some 0
unfolding dist
dist-end g d = best-end g d (length g - 1) d refl

pub edge-within : (g : List ViewNode) → IsGraph g → (u : ℕ) (e : ViewEdge) → Contains (edges_of g u) e → IsEdge (length g) e
edge-within g good u e there = All-contains (IsEdge (length g)) (edges_of g u) e (edges-good g good u) there

-- no edge is a way round: the distance is at most the metric and the distance from there
pub dist-over : (g : List ViewNode) → IsGraph g → (u d m : ℕ) (e : ViewEdge) → u < length g → Contains (edges_of g u) e
    → (e.to ≡ d) ⊎ (is_overloaded g e.to ≡ false) → dist g e.to d ≡ Some m → (k : ℕ) × (dist g u d ≡ Some k) × (k ≤ e.metric + m)
unfolding dist
dist-over g good u d m e node there (inl ends) q =
    let w = dist-least g good u d node (e ∷ []) (there, inl refl, ends) in
    (w.0, w.1, omega (arith, w.2))
dist-over g good u d m e node there (inr free) q =
    let r = best-route g d (length g - 1) e.to m q in
    let w = dist-least g good u d node (e ∷ r.edges) (there, inr free, r.leads) in
    (w.0, w.1, omega (arith, w.2, r.sum))

-- a distance is that of a tight one_more and of what follows
pub dist-edge : (g : List ViewNode) → IsGraph g → (u d n : ℕ) → u < length g → (u ≡ d → ⊥) → dist g u d ≡ Some n → (v : ℕ) × (v < length g) × IsTight g d u v
unfolding dist
dist-edge g good u d n node apart q =
    let r = best-route g d (length g - 1) u n q in
    from r.edges r.leads r.sum
  where
    ends : (e : ViewEdge) (es : List ViewEdge) → es ≡ [] → Leads g e.to d es → e.to ≡ d
    ends e [] z l = l
    ends e (x ∷ xs) z l = cc

    passing : (e : ViewEdge) (es : List ViewEdge) → (es ≡ []) ⊎ (is_overloaded g e.to ≡ false) → Leads g e.to d es → (e.to ≡ d) ⊎ (is_overloaded g e.to ≡ false)
    passing e es (inl z) l = inl (ends e es z l)
    passing e es (inr free) l = inr free

    from : (es : List ViewEdge) → Leads g u d es → cost es ≡ n → (v : ℕ) × (v < length g) × IsTight g d u v
    from [] l s = absurd (apart l)
    from (e ∷ es) l s =
        let here = edge-within g good u e l.0 in
        let pass : (e.to ≡ d) ⊎ (is_overloaded g e.to ≡ false) = passing e es l.1 l.2 in
        let w = dist-least g good e.to d here.names es l.2 in
        let o = dist-over g good u d w.0 e node l.0 pass w.1 in
        let same : n ≡ o.0 = same_Some n o.0 (sym q ∙ o.1) in
        let sum : n ≡ e.metric + w.0 = omega (arith, same, o.2, w.2) in
        (e.to, here.names, record { edge = e; leaves = l.0; enters = refl; passes = pass; rest = w.0; from_there = w.1; whole = q ∙ ap Some sum })

pub IsTight-nearer : (g : List ViewNode) → IsGraph g → (d u v : ℕ) → IsTight g d u v → Nearer g d u v
IsTight-nearer g good d u v t =
    record { far = t.edge.metric + t.rest; near = t.rest; from = t.whole; to = t.from_there; less = omega (arith, (edge-within g good u t.edge t.leaves).positive) }

pub TightWay-nearer : (g : List ViewNode) → IsGraph g → (c : ℕ → Bool) (d k u x : ℕ) → TightWay g c d k u x → Nearer g d u x
TightWay-nearer g good c d zero u x w = IsTight-nearer g good d u x w
TightWay-nearer g good c d (suc k) u x w =
    let a = IsTight-nearer g good d u w.0 w.1 in
    let b = TightWay-nearer g good c d k w.0 x w.3 in
    let same : a.near ≡ b.far = same_Some a.near b.far (sym a.to ∙ b.from) in
    record { far = a.far; near = b.near; from = a.from; to = b.to; less = omega (arith, a.less, b.less, same) }

pub IsTight-within : (g : List ViewNode) → IsGraph g → (d u v : ℕ) → IsTight g d u v → v < length g
IsTight-within g good d u v t = rw (← t.enters) (edge-within g good u t.edge t.leaves).names

pub TightWay-within : (g : List ViewNode) → IsGraph g → (c : ℕ → Bool) (d k u x : ℕ) → TightWay g c d k u x → x < length g
TightWay-within g good c d zero u x w = IsTight-within g good d u x w
TightWay-within g good c d (suc k) u x w = TightWay-within g good c d k w.0 x w.3

-- the first node over a tight one_more to v, given one from each node nearer than u
first-over : (g : List ViewNode) → IsGraph g → (c : ℕ → Bool) (d : ℕ) → c d ≡ true → (u n v : ℕ) → dist g u d ≡ Some n → v < length g → IsTight g d u v
    → ((y m : ℕ) → y < length g → (y ≡ d → ⊥) → dist g y d ≡ Some m → m < n → (x : ℕ) × IsFirst g c d y x)
    → (b : Bool) → c v ≡ b → (x : ℕ) × IsFirst g c d u x
first-over g good c d ends u n v q within t rest true h = (v, record { covers = h; steps = 0; way = t })
first-over g good c d ends u n v q within t rest false h =
    let w = IsTight-nearer g good d u v t in
    let same : w.far ≡ n = same_Some w.far n (sym w.from ∙ q) in
    let other : v ≡ d → ⊥ = λ p. (let z : c d ≡ false = rw p at h in cc) in
    let f = rest v w.near within other w.to (omega (arith, w.less, same)) in
    (f.0, record { covers = f.1.covers; steps = suc f.1.steps; way = (v, t, h, f.1.way) })

-- where d passes the test, a node with a distance that is not d has a first node
pub first-exists : (g : List ViewNode) → IsGraph g → (c : ℕ → Bool) (d : ℕ) → c d ≡ true → (k u n : ℕ) → u < length g → (u ≡ d → ⊥) → dist g u d ≡ Some n → n < k → (x : ℕ) × IsFirst g c d u x
first-exists g good c d ends zero u n node apart q few = absurd (omega arith)
first-exists g good c d ends (suc k) u n node apart q few =
    let s = dist-edge g good u d n node apart q in
    first-over g good c d ends u n s.0 q s.1 s.2 (λ y m in' other p less. first-exists g good c d ends k y m in' other p (omega arith)) (c s.0) refl
