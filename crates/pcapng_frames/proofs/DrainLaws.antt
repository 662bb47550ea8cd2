-- The items that a reader gives until it has none: they don't depend on how its octets come.
use Rattle.std.proofs.Common.{◌≡◌, ℕ, zero, suc, ◌<◌, ◌≤◌, List, [], ◌∷◌, ◌++◌, Result, Ok, Err, Option, Some, None, refl, sym, ap, ◌∙◌, subst, arith}
use Rattle.std.specs.List.{concat}
use Rattle.pcapng_frames.specs.Draining.{more_after, drain_on, drain, drain_all, in_pieces}

-- an item makes a reader smaller
abbrev pub Shrinks : {X E R : Type 0} → (R → ℕ) → ℕ → Result (Option X) E × R → Type 0
Shrinks size n (Ok None, after) = Unit {0}
Shrinks size n (Ok (Some item), after) = size after < n
Shrinks size n (Err fault, after) = Unit {0}

-- An answer stays when a reader is fed more first; where it had no item, it goes on from where it stands.
abbrev pub Grows : {X E R : Type 0} → (R → Result (Option X) E × R) → (R → List ℕ → R) → List ℕ → Result (Option X) E × R → Result (Option X) E × R → Type 0
Grows next fed more (Ok None, after) later = later ≡ next (fed after more)
Grows next fed more (Ok (Some item), after) later = later ≡ (Ok (Some item), fed after more)
Grows next fed more (Err fault, after) later = later ≡ next (fed after more)

pub record IsReader {X E R : Type 0} (next : R → Result (Option X) E × R) (size : R → ℕ) (fed : R → List ℕ → R) : Type 0 where
  pub shrinks : (r : R) → Shrinks size (size r) (next r)
  pub grows : (r : R) (more : List ℕ) → Grows next fed more (next r) (next (fed r more))
  pub nothing : (r : R) → fed r [] ≡ r
  pub twice : (r : R) (piece more : List ℕ) → fed (fed r piece) more ≡ fed r (piece ++ more)

-- a reader with no further item has none again
abbrev pub IsSpent : {X E R : Type 0} → (R → Result (Option X) E × R) → Result (Option X) E × R → Type 0
IsSpent next (Ok None, after) = next after ≡ (Ok None, after)
IsSpent next (Ok (Some item), after) = Unit {0}
IsSpent next (Err fault, after) = next after ≡ (Err fault, after)

-- more octets, once all items were given
abbrev pub joined : {X E R : Type 0} → (R → Result (Option X) E × R) → (R → ℕ) → (R → List ℕ → R) → List X × R → List ℕ → List X × R
joined next size fed done more = (done.0 ++ (drain_all next size (fed done.1 more)).0, (drain_all next size (fed done.1 more)).1)

module _ {X E R : Type 0} (next : R → Result (Option X) E × R) (size : R → ℕ) (fed : R → List ℕ → R) (laws : IsReader next size fed) where
  on_steps : (n m k : ℕ) (answer : Result (Option X) E × R) → k ≤ n → k ≤ m → Shrinks size k answer
      → ((r : R) → size r < n → size r < m → drain next n r ≡ drain next m r) → drain_on (drain next n) answer ≡ drain_on (drain next m) answer
  on_steps n m k (Ok None, after) n-enough m-enough shrinks same = refl
  on_steps n m k (Ok (Some item), after) n-enough m-enough shrinks same = ap (more_after item) (same after (omega (arith, shrinks)) (omega (arith, shrinks)))
  on_steps n m k (Err fault, after) n-enough m-enough shrinks same = refl

  -- enough steps are enough
  drain_steps : (n m : ℕ) (reading : R) → size reading < n → size reading < m → drain next n reading ≡ drain next m reading
  unfolding drain
  drain_steps zero m reading n-enough m-enough = absurd (omega (arith, n-enough))
  drain_steps (suc n) zero reading n-enough m-enough = absurd (omega (arith, m-enough))
  drain_steps (suc n) (suc m) reading n-enough m-enough =
      on_steps n m (size reading) (next reading) (omega (arith, n-enough)) (omega (arith, m-enough)) (laws.shrinks reading) (λ r. drain_steps n m r)

  drained_on : (n : ℕ) (answer : Result (Option X) E × R) → Shrinks size n answer → drain_on (drain next n) answer ≡ drain_on (drain_all next size) answer
  unfolding drain_all
  drained_on n (Ok None, after) shrinks = refl
  drained_on n (Ok (Some item), after) shrinks = ap (more_after item) (drain_steps n (suc (size after)) after shrinks (omega arith))
  drained_on n (Err fault, after) shrinks = refl

  -- the first item, and those after it
  pub drained_next : (reading : R) → drain_all next size reading ≡ drain_on (drain_all next size) (next reading)
  unfolding drain_all drain
  drained_next reading = drained_on (size reading) (next reading) (laws.shrinks reading)

  fed_on : (n k : ℕ) (more : List ℕ) (answer later : Result (Option X) E × R) → k ≤ n → Shrinks size k answer → Grows next fed more answer later
      → ((r : R) → size r < n → drain_all next size (fed r more) ≡ joined next size fed (drain_all next size r) more)
      → drain_on (drain_all next size) later ≡ joined next size fed (drain_on (drain_all next size) answer) more
  fed_on n k more (Ok None, after) later enough shrinks grows goes = ap (drain_on (drain_all next size)) grows ∙ sym (drained_next (fed after more))
  fed_on n k more (Ok (Some item), after) later enough shrinks grows goes = ap (drain_on (drain_all next size)) grows ∙ ap (more_after item) (goes after (omega (arith, shrinks)))
  fed_on n k more (Err fault, after) later enough shrinks grows goes = ap (drain_on (drain_all next size)) grows ∙ sym (drained_next (fed after more))

  fed_goes : (n : ℕ) (reading : R) (more : List ℕ) → size reading < n → drain_all next size (fed reading more) ≡ joined next size fed (drain_all next size reading) more
  fed_goes zero reading more enough = absurd (omega (arith, enough))
  fed_goes (suc n) reading more enough =
      drained_next (fed reading more)
      ∙ fed_on n (size reading) more (next reading) (next (fed reading more)) (omega (arith, enough)) (laws.shrinks reading) (laws.grows reading more) (λ r. fed_goes n r more)
      ∙ ap (λ (done : List X × R). joined next size fed done more) (sym (drained_next reading))

  -- The items of octets and more octets are those of the octets, and then those of what is left with more.
  pub drained_fed : (reading : R) (more : List ℕ) → drain_all next size (fed reading more) ≡ joined next size fed (drain_all next size reading) more
  drained_fed reading more = fed_goes (suc (size reading)) reading more (omega arith)

  spent_on : (reading : R) (answer : Result (Option X) E × R) → next reading ≡ answer → Grows next fed [] answer (next (fed reading [])) → IsSpent next answer
  spent_on reading (Ok None, after) is grows = sym (ap next (laws.nothing after)) ∙ sym grows ∙ ap next (laws.nothing reading) ∙ is
  spent_on reading (Ok (Some item), after) is grows = tt
  spent_on reading (Err fault, after) is grows = sym (ap next (laws.nothing after)) ∙ sym grows ∙ ap next (laws.nothing reading) ∙ is

  pub spent : (reading : R) → IsSpent next (next reading)
  spent reading = spent_on reading (next reading) refl (laws.grows reading [])

  twice_on : (n k : ℕ) (answer : Result (Option X) E × R) → k ≤ n → Shrinks size k answer → IsSpent next answer
      → ((r : R) → size r < n → drain_all next size (drain_all next size r).1 ≡ ([], (drain_all next size r).1))
      → drain_all next size (drain_on (drain_all next size) answer).1 ≡ ([], (drain_on (drain_all next size) answer).1)
  twice_on n k (Ok None, after) enough shrinks is twice = drained_next after ∙ ap (drain_on (drain_all next size)) is
  twice_on n k (Ok (Some item), after) enough shrinks is twice = twice after (omega (arith, shrinks))
  twice_on n k (Err fault, after) enough shrinks is twice = drained_next after ∙ ap (drain_on (drain_all next size)) is

  twice_goes : (n : ℕ) (reading : R) → size reading < n → drain_all next size (drain_all next size reading).1 ≡ ([], (drain_all next size reading).1)
  twice_goes zero reading enough = absurd (omega (arith, enough))
  twice_goes (suc n) reading enough =
      subst (λ (done : List X × R). drain_all next size done.1 ≡ ([], done.1)) (sym (drained_next reading))
      (twice_on n (size reading) (next reading) (omega (arith, enough)) (laws.shrinks reading) (spent reading) (λ r. twice_goes n r))

  -- after all items there is none
  pub drained_twice : (reading : R) → drain_all next size (drain_all next size reading).1 ≡ ([], (drain_all next size reading).1)
  drained_twice reading = twice_goes (suc (size reading)) reading (omega arith)

  still_on : (n k : ℕ) (answer : Result (Option X) E × R) → k ≤ n → Shrinks size k answer → IsSpent next answer
      → ((r : R) → size r < n → (next (drain_all next size r).1).1 ≡ (drain_all next size r).1) → (next (drain_on (drain_all next size) answer).1).1 ≡ (drain_on (drain_all next size) answer).1
  still_on n k (Ok None, after) enough shrinks is goes = ap (λ (a : Result (Option X) E × R). a.1) is
  still_on n k (Ok (Some item), after) enough shrinks is goes = goes after (omega (arith, shrinks))
  still_on n k (Err fault, after) enough shrinks is goes = ap (λ (a : Result (Option X) E × R). a.1) is

  still_goes : (n : ℕ) (reading : R) → size reading < n → (next (drain_all next size reading).1).1 ≡ (drain_all next size reading).1
  still_goes zero reading enough = absurd (omega (arith, enough))
  still_goes (suc n) reading enough =
      subst (λ (done : List X × R). (next done.1).1 ≡ done.1) (sym (drained_next reading))
      (still_on n (size reading) (next reading) (omega (arith, enough)) (laws.shrinks reading) (spent reading) (λ r. still_goes n r))

  -- once all items were given, the next answer changes nothing
  pub drained_still : (reading : R) → (next (drain_all next size reading).1).1 ≡ (drain_all next size reading).1
  drained_still reading = still_goes (suc (size reading)) reading (omega arith)

  -- The items don't depend on how the octets come.
  pub pieces_joined : (reading : R) (pieces : List (List ℕ)) → drain_all next size reading ≡ ([], reading) → in_pieces (drain_all next size) fed reading pieces ≡ drain_all next size (fed reading (concat pieces))
  unfolding in_pieces
  pieces_joined reading [] none = sym (ap (drain_all next size) (laws.nothing reading) ∙ none)
  pieces_joined reading (piece ∷ pieces) none =
      let done : List X × R = drain_all next size (fed reading piece) in
      ap (λ (rest : List X × R). (done.0 ++ rest.0, rest.1)) (pieces_joined done.1 pieces (drained_twice (fed reading piece)))
      ∙ sym (ap (drain_all next size) (sym (laws.twice reading piece (concat pieces))) ∙ drained_fed (fed reading piece) (concat pieces))
