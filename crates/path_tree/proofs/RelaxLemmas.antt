-- One edge after another is counted.
use Rattle.std.proofs.Common.{◌≡◌, ℕ, ◌+◌, ◌<◌, ◌≤◌, ◌⊎◌, inl, inr, Bool, true, false, List, [], ◌∷◌, ◌++◌, length, Contains, slice_set, Option, Some, None, MatchBool, refl, ap, arith, sym, ◌∙◌, subst, if◌then◌else◌}
use Rattle.std.specs.List.Sorted.{IsPermutation}
use Rattle.std.proofs.lemmas.Bool.{ltb-true, ltb-false}
use Rattle.std.proofs.lemmas.Bool.Decides.{eqb_tells}
use Rattle.std.proofs.lemmas.List.{get_or-set_same, get_or-set_other}
use Rattle.std.proofs.lemmas.List.Elements.{Contains-append_left, Contains-append_right, Contains-append_cases}
use Rattle.std.proofs.lemmas.List.Sorted.{Contains-permutation, IsPermutation-sym}
use Rattle.std.proofs.lemmas.Option.{same_Some}
use Rattle.std.proofs.Math.ListN.{length-set}
use Rattle.wire_base.specs.declared.view.ViewEdge.{ViewEdge}
use Rattle.laws_route.specs.Bounds.{IsAtMost}
use Rattle.laws_route.proofs.WalkLemmas.{Contains-cases, at-most-of}
use Rattle.laws_route.proofs.TightLemmas.{Contains-cons}
use Rattle.path_tree.specs.Search.{Relaxed, Over, is_shorter, lengths}

nothing : {X : Type 0} (x : X) → Contains {X = X} [] x → ⊥
nothing x (k, l, q) = omega arith

one : {X : Type 0} (z w : X) → Contains (z ∷ []) w → z ≡ w
one z w m = elim (Contains-cases z [] w m) [ inl e ↦ e | inr n ↦ absurd (nothing w n) ]

pub relaxed-none : (m : ℕ) (t : List (Option ℕ)) (q : List (ℕ × ℕ)) → Relaxed [] m t q t q
relaxed-none m t q =
    record {
      rows = refl;
      kept = λ y n h. h;
      from = λ y n h. inl h;
      counts = λ e h. absurd (nothing e h);
      stays = λ entry h. h;
      queued = λ y n h. inl h;
      entries = λ entry h. inl h;
    }

shorter-cases : (r : ℕ) (o : Option ℕ) (n : ℕ) → is_shorter r o ≡ true → IsAtMost o n → r ≤ n
shorter-cases r None n q h = absurd h
shorter-cases r (Some k) n q h = omega (arith, ltb-true r k q)

not-shorter : (r : ℕ) (o : Option ℕ) → is_shorter r o ≡ false → IsAtMost o r
not-shorter r None q = cc
not-shorter r (Some k) q = omega (arith, ltb-false r k q)

over-more : (es : List ViewEdge) (e : ViewEdge) (m y n : ℕ) → Over es m y n → Over (es ++ e ∷ []) m y n
over-more es e m y n o = record { edge = o.edge; there = Contains-append_left es (e ∷ []) o.edge o.there; leads = o.leads; sum = o.sum }

module _ (es : List ViewEdge) (m : ℕ) (t0 : List (Option ℕ)) (q0 : List (ℕ × ℕ)) (t : List (Option ℕ)) (q : List (ℕ × ℕ)) (i : Relaxed es m t0 q0 t q) (e : ViewEdge) (within : e.to < length t0) where
  -- an edge that gives a length that is not shorter changes nothing
  kept-edge : is_shorter (m + e.metric) (lengths t e.to) ≡ false → Relaxed (es ++ e ∷ []) m t0 q0 t q
  kept-edge h =
      record {
        rows = i.rows;
        kept = i.kept;
        from = λ y n p. elim (i.from y n p) [ inl a ↦ inl a | inr o ↦ inr (over-more es e m y n o) ];
        counts =
            λ x there.
            elim (Contains-append_cases es (e ∷ []) x there) [
              | inl a ↦ i.counts x a
              | inr b ↦ subst (λ (z : ViewEdge). IsAtMost (lengths t z.to) (m + z.metric)) (one e x b) (not-shorter (m + e.metric) (lengths t e.to) h)
            ];
        stays = i.stays;
        queued = i.queued;
        entries = i.entries;
      }

  -- one that gives a shorter length sets it
  module _ (h : is_shorter (m + e.metric) (lengths t e.to) ≡ true) (q' : List (ℕ × ℕ)) (p : IsPermutation ((m + e.metric, e.to) ∷ q) q') where
    t' : List (Option ℕ)
    t' = slice_set t e.to (Some (m + e.metric))

    here : lengths t' e.to ≡ Some (m + e.metric)
    unfolding t'
    here = get_or-set_same t e.to (Some (m + e.metric)) None (omega (arith, i.rows))

    other : (y : ℕ) → (y ≡ e.to → ⊥) → lengths t' y ≡ lengths t y
    unfolding t'
    other y ne = get_or-set_other t e.to y (Some (m + e.metric)) None ne

    lower : (y n : ℕ) → IsAtMost (lengths t y) n → IsAtMost (lengths t' y) n
    lower y n a =
        elim (eqb_tells y e.to) [
          | inl s ↦
              let b : IsAtMost (lengths t e.to) n = subst (λ z. IsAtMost (lengths t z) n) s.1 a in
              subst (λ z. IsAtMost (lengths t' z) n) (sym s.1) (at-most-of (lengths t' e.to) (m + e.metric) n here (shorter-cases (m + e.metric) (lengths t e.to) n h b))
          | inr s ↦ subst (λ o. IsAtMost o n) (sym (other y s.1)) a
        ]

    -- a length is the one set, or as before
    new-cases : (y n : ℕ) → lengths t' y ≡ Some n → ((e.to ≡ y) × (m + e.metric ≡ n)) ⊎ (lengths t y ≡ Some n)
    new-cases y n k =
        elim (eqb_tells y e.to) [
          | inl s ↦ inl (sym s.1, same_Some (m + e.metric) n (sym here ∙ ap (lengths t') (sym s.1) ∙ k))
          | inr s ↦ inr (sym (other y s.1) ∙ k)
        ]

    into : (entry : ℕ × ℕ) → Contains q entry → Contains q' entry
    into entry c = Contains-permutation ((m + e.metric, e.to) ∷ q) q' entry p (Contains-cons (m + e.metric, e.to) q entry c)

    top : Contains q' (m + e.metric, e.to)
    top = Contains-permutation ((m + e.metric, e.to) ∷ q) q' (m + e.metric, e.to) p (0, omega arith, refl)

    set-edge : Relaxed (es ++ e ∷ []) m t0 q0 t' q'
    unfolding t'
    set-edge =
        record {
          rows = length-set t e.to (Some (m + e.metric)) ∙ i.rows;
          kept = λ y n a. lower y n (i.kept y n a);
          from =
              λ y n k.
              elim (new-cases y n k) [
                | inl s ↦ inr (record { edge = e; there = Contains-append_right es (e ∷ []) e (0, omega arith, refl); leads = s.0; sum = s.1 })
                | inr s ↦ elim (i.from y n s) [ inl a ↦ inl a | inr o ↦ inr (over-more es e m y n o) ]
              ];
          counts =
              λ x there.
              elim (Contains-append_cases es (e ∷ []) x there) [
                | inl a ↦ lower x.to (m + x.metric) (i.counts x a)
                | inr b ↦ subst (λ (z : ViewEdge). IsAtMost (lengths t' z.to) (m + z.metric)) (one e x b) (at-most-of (lengths t' e.to) (m + e.metric) (m + e.metric) here (omega arith))
              ];
          stays = λ entry c. into entry (i.stays entry c);
          queued =
              λ y n k.
              elim (new-cases y n k) [
                | inl s ↦ inr (rw (← s.0, ← s.1) top)
                | inr s ↦ elim (i.queued y n s) [ inl a ↦ inl a | inr c ↦ inr (into (n, y) c) ]
              ];
          entries =
              λ entry c.
              elim (Contains-cases (m + e.metric, e.to) q entry (Contains-permutation q' ((m + e.metric, e.to) ∷ q) entry (IsPermutation-sym ((m + e.metric, e.to) ∷ q) q' p) c)) [
                | inl s ↦ inr (subst (λ (z : ℕ × ℕ). (z.1 < length t0) × IsAtMost (lengths t' z.1) z.0) s (within, at-most-of (lengths t' e.to) (m + e.metric) (m + e.metric) here (omega arith)))
                | inr s ↦ elim (i.entries entry s) [ inl a ↦ inl a | inr k ↦ inr (k.0, lower entry.1 entry.0 k.1) ]
              ];
        }

  pub relaxed-more : (t1 : List (Option ℕ)) (q1 : List (ℕ × ℕ)) → t1 ≡ (if is_shorter (m + e.metric) (lengths t e.to) then slice_set t e.to (Some (m + e.metric)) else t)
      → MatchBool (is_shorter (m + e.metric) (lengths t e.to)) (IsPermutation ((m + e.metric, e.to) ∷ q) q1) (q1 ≡ q) → Relaxed (es ++ e ∷ []) m t0 q0 t1 q1
  unfolding t'
  relaxed-more t1 q1 a b = go (is_shorter (m + e.metric) (lengths t e.to)) refl a b
    where
      go : (s : Bool) → is_shorter (m + e.metric) (lengths t e.to) ≡ s → t1 ≡ (if s then slice_set t e.to (Some (m + e.metric)) else t) → MatchBool s (IsPermutation ((m + e.metric, e.to) ∷ q) q1) (q1 ≡ q) → Relaxed (es ++ e ∷ []) m t0 q0 t1 q1
      go true h a b = subst (λ t2. Relaxed (es ++ e ∷ []) m t0 q0 t2 q1) (sym a) (set-edge h q1 b)
      go false h a b = subst (λ t2. Relaxed (es ++ e ∷ []) m t0 q0 t2 q1) (sym a) (subst (λ q2. Relaxed (es ++ e ∷ []) m t0 q0 t q2) (sym b) (kept-edge h))
