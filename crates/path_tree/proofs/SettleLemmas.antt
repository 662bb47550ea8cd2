-- The nearest node that waits has its length.
use Rattle.std.proofs.Common.{◌≡◌, ℕ, zero, suc, ◌+◌, ◌*◌, ◌<◌, ◌≤◌, ◌^◌, ◌==◌, ◌⊎◌, inl, inr, Bool, true, false, not, cond, List, length, Contains, slice_set, Option, Some, None, IfSome, refl, ap, arith, sym, ◌∙◌, subst, if◌then◌else◌, replicate, count_by}
use Rattle.std.proofs.lemmas.Bool.{cases_Bool, eq-eqb}
use Rattle.std.proofs.lemmas.Bool.Decides.{eqb_tells}
use Rattle.std.proofs.lemmas.List.{get_or-set_same, get_or-set_other, get_or-replicate, length-replicate}
use Rattle.std.proofs.lemmas.List.Sums.{sum_by-set}
use Rattle.std.proofs.lemmas.Option.{same_Some}
use Rattle.std.proofs.Math.ListN.{length-set}
use Rattle.wire_base.specs.declared.view.ViewEdge.{ViewEdge}
use Rattle.laws_route.specs.Bounds.{IsAtMost}
use Rattle.laws_route.proofs.WalkLemmas.{at-most-of}
use Rattle.path_tree.specs.Search.{IsReach, Relaxed, TakesNext, lengths, marks}

at-most-weaker : (o : Option ℕ) (m n : ℕ) → IsAtMost o m → m ≤ n → IsAtMost o n
at-most-weaker None m n h l = h
at-most-weaker (Some x) m n h l = omega arith

pub at-most-some : (o : Option ℕ) (n : ℕ) → IsAtMost o n → (m : ℕ) × (o ≡ Some m) × (m ≤ n)
at-most-some None n h = absurd h
at-most-some (Some m) n h = (m, refl, h)

module _ (count : ℕ) (ways : ℕ → List ViewEdge) (passes : ℕ → Bool) (start : ℕ) (f : ℕ → Option ℕ) where
  -- What is known in a search: settled nodes have their lengths, no length is too short, each way on from a settled node is
  -- counted, and each node that waits with a length has an entry of it in the queue.
  pub record IsSettling (settled : List Bool) (t : List (Option ℕ)) (q : List (ℕ × ℕ)) : Type 0 where
    pub marked : length settled ≡ count
    pub rows : length t ≡ count
    pub starts : lengths t start ≡ Some 0
    pub right : (x : ℕ) → x < count → marks settled x ≡ true → lengths t x ≡ f x
    pub above : (y m : ℕ) → y < count → lengths t y ≡ Some m → IsAtMost (f y) m
    pub counted : (x : ℕ) (e : ViewEdge) (r : ℕ) → x < count → marks settled x ≡ true → passes x ≡ true → Contains (ways x) e → f x ≡ Some r → IsAtMost (lengths t e.to) (r + e.metric)
    pub queued : (y m : ℕ) → y < count → marks settled y ≡ false → lengths t y ≡ Some m → Contains q (m, y)
    pub entries : (entry : ℕ × ℕ) → Contains q entry → (entry.1 < count) × IsAtMost (lengths t entry.1) entry.0

module _ (count : ℕ) (ways : ℕ → List ViewEdge) (passes : ℕ → Bool) (start : ℕ) (f : ℕ → Option ℕ) (reach : IsReach count ways passes start f)
    (settled : List Bool) (t : List (Option ℕ)) (q : List (ℕ × ℕ)) (i : IsSettling count ways passes start f settled t q) where
  -- a node that waits, with a length of at most k
  record Front (k : ℕ) : Type 0 where
    at : ℕ
    within : at < count
    waits : marks settled at ≡ false
    known : IsAtMost (lengths t at) k

  farther : (j k : ℕ) → j ≤ k → Front j → Front k
  farther j k l w = record { at = w.at; within = w.within; waits = w.waits; known = at-most-weaker (lengths t w.at) j k w.known l }

  -- where a node that waits is to have a length, one that waits has a length of no more
  front : (n z k : ℕ) → z < count → marks settled z ≡ false → f z ≡ Some k → k < n → Front k
  front zero z k within waits p few = absurd (omega arith)
  front (suc n) z k within waits p few =
      elim (eqb_tells z start) [
        | inl e ↦ record { at = z; within = within; waits = waits; known = at-most-of (lengths t z) 0 k (ap (lengths t) e.1 ∙ i.starts) (omega arith) }
        | inr e ↦
            let s = reach.last z k within e.1 p in
            elim (cases_Bool (marks settled s.from)) [
              | inl h ↦
                  let c = i.counted s.from s.edge s.rest s.within h s.goes_on s.there s.known in
                  record { at = z; within = within; waits = waits; known = rw (s.sum, s.leads) at c }
              | inr h ↦ farther s.rest k (omega (arith, s.sum)) (front n s.from s.rest s.within h s.known (omega (arith, s.sum, s.positive)))
            ]
      ]

  -- the least length among those that wait is right
  nearest-right : (y m : ℕ) → y < count → marks settled y ≡ false → lengths t y ≡ Some m → ((z k : ℕ) → z < count → marks settled z ≡ false → lengths t z ≡ Some k → m ≤ k) → lengths t y ≡ f y
  nearest-right y m within waits p most =
      let a = at-most-some (f y) m (i.above y m within p) in
      let w = front (suc a.0) y a.0 within waits a.1 (omega arith) in
      let k = at-most-some (lengths t w.at) a.0 w.known in
      let low = most w.at k.0 w.within w.waits k.1 in
      let same : m ≡ a.0 = omega (arith, low, k.2, a.2) in
      p ∙ ap Some same ∙ sym a.1

  -- where the queue has none that waits, all lengths are right
  pub all-right : ((entry : ℕ × ℕ) → Contains q entry → marks settled entry.1 ≡ true) → (y : ℕ) → y < count → lengths t y ≡ f y
  all-right none y within = elim (cases_Bool (marks settled y)) [ inl h ↦ i.right y within h | inr h ↦ unset y within h (lengths t y) refl ∙ go h (f y) refl ]
    where
      unset : (z : ℕ) → z < count → marks settled z ≡ false → (o : Option ℕ) → lengths t z ≡ o → lengths t z ≡ None
      unset z l h None p = p
      unset z l h (Some k) p = let w : true ≡ false = sym (none (k, z) (i.queued z k l h p)) ∙ h in cc

      go : marks settled y ≡ false → (o : Option ℕ) → f y ≡ o → None ≡ f y
      go h None p = sym p
      go h (Some k) p =
          let w = front (suc k) y k within h p (omega arith) in
          let s = at-most-some (lengths t w.at) k w.known in
          let z : None ≡ Some s.0 = sym (unset w.at w.within w.waits (lengths t w.at) refl) ∙ s.1 in
          cc

  -- what is known of the entry that was taken
  pub record IsNearest (m x : ℕ) : Type 0 where
    pub within : x < count
    pub has : lengths t x ≡ Some m
    pub right : lengths t x ≡ f x
    pub small : m ≤ 65535 * 2 ^ 32

  pub taken : (m x : ℕ) (q1 : List (ℕ × ℕ)) → TakesNext settled q (m, x) q1 → IsNearest m x
  taken m x q1 k =
      let e = i.entries (m, x) k.there in
      let s = at-most-some (lengths t x) m e.1 in
      let low : m ≤ s.0 = k.least (s.0, x) (i.queued x s.0 e.0 k.waits s.1) k.waits in
      let same : s.0 ≡ m = omega (arith, low, s.2) in
      let has : lengths t x ≡ Some m = s.1 ∙ ap Some same in
      let right : lengths t x ≡ f x = nearest-right x m e.0 k.waits has (λ z n l h p. k.least (n, z) (i.queued z n l h p) h) in
      record { within = e.0; has = has; right = right; small = bound (f x) (sym right ∙ has) (reach.small x e.0) }
    where
      bound : (o : Option ℕ) → o ≡ Some m → IfSome o (λ n. n ≤ 65535 * 2 ^ 32) → m ≤ 65535 * 2 ^ 32
      bound o e h = rw e at h

  -- x is settled, and the edges on from it are counted where walks go on from it
  module _ (m x : ℕ) (q1 : List (ℕ × ℕ)) (k : TakesNext settled q (m, x) q1) (es : List ViewEdge) (all : passes x ≡ true → es ≡ ways x) (only : (e : ViewEdge) → Contains es e → (passes x ≡ true) × Contains (ways x) e)
      (t' : List (Option ℕ)) (q2 : List (ℕ × ℕ)) (r : Relaxed es m t q1 t' q2) where
    settled' : List Bool
    settled' = slice_set settled x true

    marked-cases : (z : ℕ) → marks settled' z ≡ true → (z ≡ x) ⊎ (marks settled z ≡ true)
    unfolding settled'
    marked-cases z p =
        elim (eqb_tells z x) [
          | inl s ↦ inl s.1
          | inr s ↦ inr (sym (get_or-set_other settled x z true true s.1) ∙ p)
        ]

    unmarked : (z : ℕ) → marks settled' z ≡ false → (z ≡ x → ⊥) × (marks settled z ≡ false)
    unfolding settled'
    unmarked z p =
        elim (eqb_tells z x) [
          | inl s ↦
              let n = taken m x q1 k in
              let w : true ≡ false = sym (ap (marks settled') s.1 ∙ get_or-set_same settled x true true (omega (arith, n.within, i.marked))) ∙ p in
              cc
          | inr s ↦ (s.1, sym (get_or-set_other settled x z true true s.1) ∙ p)
        ]

    zero-only : (o : Option ℕ) → IsAtMost o 0 → o ≡ Some 0
    zero-only None h = absurd h
    zero-only (Some n) h = ap Some (omega arith)

    above : (y n : ℕ) → y < count → lengths t' y ≡ Some n → IsAtMost (f y) n
    above y n l p =
        elim (r.from y n p) [
          | inl h ↦ i.above y n l h
          | inr o ↦
              let w = only o.edge o.there in
              let s = taken m x q1 k in
              rw (o.sum, o.leads) at (reach.over x o.edge m s.within w.0 w.1 (sym s.right ∙ s.has))
        ]

    same : (y : ℕ) → y < count → lengths t y ≡ f y → (a b : Option ℕ) → lengths t' y ≡ a → f y ≡ b → lengths t' y ≡ f y
    same y l h None None p e = p ∙ sym e
    same y l h (Some n) None p e = absurd (subst (λ o. IsAtMost o n) e (above y n l p))
    same y l h None (Some n) p e = absurd (subst (λ o. IsAtMost o n) p (r.kept y n (at-most-of (lengths t y) n n (h ∙ e) (omega arith))))
    same y l h (Some n) (Some b) p e =
        let up : n ≤ b = subst (λ o. IsAtMost o b) p (r.kept y b (at-most-of (lengths t y) b b (h ∙ e) (omega arith))) in
        let down : b ≤ n = subst (λ o. IsAtMost o n) e (above y n l p) in
        let z : n ≡ b = omega arith in
        p ∙ ap Some z ∙ sym e

    right : (z : ℕ) → z < count → marks settled' z ≡ true → lengths t' z ≡ f z
    right z l p =
        elim (marked-cases z p) [
          | inl e ↦ same z l (ap (lengths t) e ∙ (taken m x q1 k).right ∙ ap f (sym e)) (lengths t' z) (f z) refl refl
          | inr h ↦ same z l (i.right z l h) (lengths t' z) (f z) refl refl
        ]

    counted : (z : ℕ) (e : ViewEdge) (n : ℕ) → z < count → marks settled' z ≡ true → passes z ≡ true → Contains (ways z) e → f z ≡ Some n → IsAtMost (lengths t' e.to) (n + e.metric)
    counted z e n l p open' there fz =
        elim (marked-cases z p) [
          | inl s ↦
              let w = taken m x q1 k in
              let here : Contains es e = subst (λ xs. Contains xs e) (sym (all (ap passes (sym s) ∙ open'))) (subst (λ y. Contains (ways y) e) s there) in
              let known : m ≡ n = same_Some m n (sym w.has ∙ w.right ∙ ap f (sym s) ∙ fz) in
              subst (λ j. IsAtMost (lengths t' e.to) (j + e.metric)) known (r.counts e here)
          | inr h ↦ r.kept e.to (n + e.metric) (i.counted z e n l h open' there fz)
        ]

    queued : (y n : ℕ) → y < count → marks settled' y ≡ false → lengths t' y ≡ Some n → Contains q2 (n, y)
    queued y n l p e =
        let u = unmarked y p in
        elim (r.queued y n e) [
          | inr c ↦ c
          | inl h ↦
              elim (k.others (n, y) (i.queued y n l u.1 h)) [
                | inl w ↦ (let z : true ≡ false = sym w ∙ u.1 in cc)
                | inr w ↦ elim w [ inl s ↦ absurd (u.0 (ap (λ (entry : ℕ × ℕ). entry.1) s)) | inr c ↦ r.stays (n, y) c ]
              ]
        ]

    pub turn : IsSettling count ways passes start f (slice_set settled x true) t' q2
    unfolding settled'
    turn =
        record {
          marked = length-set settled x true ∙ i.marked;
          rows = r.rows ∙ i.rows;
          starts = zero-only (lengths t' start) (r.kept start 0 (at-most-of (lengths t start) 0 0 i.starts (omega arith)));
          right = right;
          above = above;
          counted = counted;
          queued = queued;
          entries =
              λ entry c.
              elim (r.entries entry c) [
                | inl a ↦ (let e = i.entries entry (k.from entry a) in (e.0, r.kept entry.1 entry.0 e.1))
                | inr n ↦ (omega (arith, n.0, i.rows), n.1)
              ];
        }

-- before the first turn
pub starting : (count : ℕ) (ways : ℕ → List ViewEdge) (passes : ℕ → Bool) (start : ℕ) (f : ℕ → Option ℕ) → IsReach count ways passes start f → start < count
    → (t : List (Option ℕ)) (q : List (ℕ × ℕ)) → length t ≡ count → ((y : ℕ) → y < count → lengths t y ≡ (if y == start then Some 0 else None))
    → Contains q (0, start) → ((entry : ℕ × ℕ) → Contains q entry → (0, start) ≡ entry) → IsSettling count ways passes start f (replicate count false) t q
starting count ways passes start f reach node t q rows each top only =
    record {
      marked = length-replicate count false;
      rows = rows;
      starts = first;
      right = λ x l p. (let z : false ≡ true = sym (get_or-replicate count x false true l) ∙ p in cc);
      above = λ y m l p. (let a = zero y m l p in at-most-of (f y) 0 m (ap f a.0 ∙ reach.starts) (omega arith));
      counted = λ x e r l p. (let z : false ≡ true = sym (get_or-replicate count x false true l) ∙ p in cc);
      queued = λ y m l p e. (let a = zero y m l e in rw (a.0, a.1) top);
      entries = λ entry c. subst (λ (w : ℕ × ℕ). (w.1 < count) × IsAtMost (lengths t w.1) w.0) (only entry c) (node, at-most-of (lengths t start) 0 0 first (omega arith));
    }
  where
    first : lengths t start ≡ Some 0
    first = each start node ∙ rw (eq-eqb start start refl) refl

    zero : (y m : ℕ) → y < count → lengths t y ≡ Some m → (y ≡ start) × (m ≡ 0)
    zero y m l p =
        elim (eqb_tells y start) [
          | inl s ↦ (s.1, same_Some m 0 (sym p ∙ each y l ∙ rw s.0 refl))
          | inr s ↦ (let z : None ≡ Some m = sym (each y l ∙ rw s.0 refl) ∙ p in cc)
        ]

pub fewer : (settled : List Bool) (x : ℕ) → x < length settled → marks settled x ≡ false → count_by not (slice_set settled x true) < count_by not settled
fewer settled x l q =
    let h : count_by not (slice_set settled x true) + 1 ≡ count_by not settled + 0 = rw q at (sum_by-set (λ x. cond (not x) 1 0) settled x true true l) in
    omega (arith, h)
