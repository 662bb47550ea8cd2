-- Following a next node.
use Rattle.std.proofs.Common.{◌≡◌, inl, inr, ℕ, zero, suc, ◌+◌, ◌≤◌, Bool, true, false, if◌then◌else◌, List, Option, Some, None, option_map, option_and_then, refl, sym, ap, subst, ◌∙◌, arith}
use Rattle.std.proofs.lemmas.Option.{same_Some}
use Rattle.wire_base.specs.model.HopCount.{follow, Follows, IsPassed, FitTunnels}
use Rattle.wire_base.specs.declared.view.ViewNode.{ViewNode}

module _ (next : ℕ → Option ℕ) (ends : ℕ → Bool) where
  stepped : (o : Option ℕ) (h : ℕ) → option_map (λ n. n + 1) o ≡ Some h → (k : ℕ) × (o ≡ Some k) × (h ≡ k + 1)
  stepped None h e = cc
  stepped (Some k) h e = (k, refl, sym (same_Some (k + 1) h e))

  -- more steps may be allowed
  pub follow-more : (n u h : ℕ) → follow next ends n u ≡ Some h → follow next ends (suc n) u ≡ Some h
  follow-more zero u h q = by (ends u) refl q
    where
      by : (b : Bool) → ends u ≡ b → (if b then Some 0 else None) ≡ Some h → follow next ends 1 u ≡ Some h
      by true e q = rw e q
      by false e q = cc
  follow-more (suc n) u h q = by (ends u) refl q (λ x k r. follow-more n x k r)
    where
      at : (o : Option ℕ) → next u ≡ o → option_and_then (λ x. option_map (λ n. n + 1) (follow next ends n x)) o ≡ Some h → ((x k : ℕ) → follow next ends n x ≡ Some k → follow next ends (suc n) x ≡ Some k)
          → option_and_then (λ x. option_map (λ n. n + 1) (follow next ends (suc n) x)) (next u) ≡ Some h
      at None e q more = cc
      at (Some x) e q more =
          let s = stepped (follow next ends n x) h q in
          ap (λ o. option_and_then (λ x. option_map (λ n. n + 1) (follow next ends (suc n) x)) o) e ∙ ap (λ o. option_map (λ n. n + 1) o) (more x s.0 s.1) ∙ ap (λ (k : ℕ). Some k) (sym s.2)

      by : (b : Bool) → ends u ≡ b → (if b then Some 0 else option_and_then (λ x. option_map (λ n. n + 1) (follow next ends n x)) (next u)) ≡ Some h → ((x k : ℕ) → follow next ends n x ≡ Some k → follow next ends (suc n) x ≡ Some k)
          → (if ends u then Some 0 else option_and_then (λ x. option_map (λ n. n + 1) (follow next ends (suc n) x)) (next u)) ≡ Some h
      by true e q more = rw e q
      by false e q more = rw e (at (next u) refl q more)

  -- after one step one less is left
  pub follow-down : (n u h x : ℕ) → follow next ends n u ≡ Some h → ends u ≡ false → next u ≡ Some x → (k : ℕ) × (follow next ends n x ≡ Some k) × (h ≡ k + 1)
  follow-down zero u h x q other p = let z : None ≡ Some h = rw other at q in cc
  follow-down (suc n) u h x q other p =
      let z : option_map (λ n. n + 1) (follow next ends n x) ≡ Some h = rw (other, p) at q in
      let s = stepped (follow next ends n x) h z in
      (s.0, follow-more n x s.0 s.1, s.2)

  -- and where none is left, it ends here
  pub follow-zero : (n u : ℕ) → follow next ends n u ≡ Some 0 → ends u ≡ true
  follow-zero zero u q = by (ends u) q
    where
      by : (b : Bool) → (let o : Option ℕ = if b then Some 0 else None in o ≡ Some 0) → b ≡ true
      by true q = refl
      by false q = cc
  follow-zero (suc n) u q = by (ends u) (next u) q
    where
      by : (b : Bool) (o : Option ℕ) → (if b then Some 0 else option_and_then (λ x. option_map (λ n. n + 1) (follow next ends n x)) o) ≡ Some 0 → b ≡ true
      by true o q = refl
      by false None q = cc
      by false (Some x) q = (let s = stepped (follow next ends n x) 0 q in absurd (let z = s.2 in omega (arith, z)))

  -- it takes no more steps than are allowed
  pub follow-most : (n u h : ℕ) → follow next ends n u ≡ Some h → h ≤ n
  follow-most zero u h q = by (ends u) q
    where
      by : (b : Bool) → (if b then Some 0 else None) ≡ Some h → h ≤ 0
      by true q = (let z = same_Some 0 h q in omega (arith, z))
      by false q = cc
  follow-most (suc n) u h q = by (ends u) (next u) q (λ x k r. follow-most n x k r)
    where
      by : (b : Bool) (o : Option ℕ) → (if b then Some 0 else option_and_then (λ x. option_map (λ n. n + 1) (follow next ends n x)) o) ≡ Some h → ((x k : ℕ) → follow next ends n x ≡ Some k → k ≤ n) → h ≤ suc n
      by true o q more = (let z = same_Some 0 h q in omega (arith, z))
      by false None q more = cc
      by false (Some x) q more = (let s = stepped (follow next ends n x) h q in let m = more x s.0 s.1 in let z = s.2 in omega (arith, m, z))

  -- where it goes on, there is a next
  pub follow-next : (n u h : ℕ) → follow next ends n u ≡ Some h → ends u ≡ false → (x : ℕ) × (next u ≡ Some x)
  follow-next zero u h q other = let z : None ≡ Some h = rw other at q in cc
  follow-next (suc n) u h q other = let z : option_and_then (λ x. option_map (λ n. n + 1) (follow next ends n x)) (next u) ≡ Some h = rw other at q in by (next u) refl z
    where
      by : (o : Option ℕ) → next u ≡ o → option_and_then (λ x. option_map (λ n. n + 1) (follow next ends n x)) o ≡ Some h → (x : ℕ) × (next u ≡ Some x)
      by None e z = cc
      by (Some x) e z = (x, e)

module _ (next : ℕ → Option ℕ) where
  pub Follows-more : (j u x y : ℕ) → Follows next j u x → next x ≡ Some y → Follows next (suc j) u y
  Follows-more zero u x y r q = (x, r, q)
  Follows-more (suc j) u x y r q = (r.0, r.1, Follows-more j r.0 x y r.2 q)

  -- one more step is followed from u
  pub passed-next : (u x y : ℕ) → IsPassed next u x → next x ≡ Some y → (j : ℕ) × Follows next j u y
  passed-next u x y (inl e) q = (0, subst (λ (z : ℕ). next z ≡ Some y) e q)
  passed-next u x y (inr r) q = (suc r.0, Follows-more r.0 u x y r.1 q)

  -- what is passed from the next node is passed from u
  pub passed-first : (u x y : ℕ) → next u ≡ Some x → IsPassed next x y → IsPassed next u y
  passed-first u x y q (inl e) = inr (0, subst (λ (z : ℕ). next u ≡ Some z) (sym e) q)
  passed-first u x y q (inr r) = inr (suc r.0, (x, q, r.1))

  -- so the tunnels of the rest of a path are short enough
  pub fit-next : (g : List ViewNode) (u x : ℕ) → next u ≡ Some x → FitTunnels g next u → FitTunnels g next x
  fit-next g u x q fit y z h passed goes far links = fit y z h (passed-first u x y q passed) goes far links

  -- what holds of each next node holds of all that are followed
  pub Follows-each : (P : ℕ → Type 0) (Q : ℕ → Type 0) → ((y z : ℕ) → Q y → next y ≡ Some z → P z × Q z) → (j u x : ℕ) → Q u → Follows next j u x → P x × Q x
  Follows-each P Q step zero u x h r = step u x h r
  Follows-each P Q step (suc j) u x h r = Follows-each P Q step j r.0 x (step u r.0 h r.1).1 r.2
