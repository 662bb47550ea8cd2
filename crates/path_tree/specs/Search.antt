-- A search for shortest walks from a node over given edges: its result, and the effect of one iteration.
use Rattle.std.specs.Prelude.{◌≡◌, ℕ, ◌+◌, ◌*◌, ◌<◌, ◌≤◌, ◌^◌, ◌⊎◌, Bool, true, false, nat_lt, List, length, Contains, slice_index_or, Option, Some, None, IfSome}
use Rattle.wire_base.specs.declared.view.ViewEdge.{ViewEdge}
use Rattle.laws_route.specs.Bounds.{IsAtMost}

-- an edge over which a node with a length is reached from another with the rest of that length
pub record LastEdge (count : ℕ) (ways : ℕ → List ViewEdge) (passes : ℕ → Bool) (f : ℕ → Option ℕ) (y n : ℕ) : Type 0 where
  pub from : ℕ
  pub within : from < count
  pub goes_on : passes from ≡ true
  pub edge : ViewEdge
  pub there : Contains (ways from) edge
  pub leads : edge.to ≡ y
  pub rest : ℕ
  pub known : f from ≡ Some rest
  pub sum : rest + edge.metric ≡ n
  pub positive : 0 < edge.metric

-- f has the least lengths from start on over the edges, where a walk continues only from nodes that pass the test
pub record IsReach (count : ℕ) (ways : ℕ → List ViewEdge) (passes : ℕ → Bool) (start : ℕ) (f : ℕ → Option ℕ) : Type 0 where
  pub starts : f start ≡ Some 0
  pub over : (x : ℕ) (e : ViewEdge) (r : ℕ) → x < count → passes x ≡ true → Contains (ways x) e → f x ≡ Some r → IsAtMost (f e.to) (r + e.metric)
  pub last : (y n : ℕ) → y < count → (y ≡ start → ⊥) → f y ≡ Some n → LastEdge count ways passes f y n
  pub small : (x : ℕ) → x < count → IfSome (f x) (λ n. n ≤ 65535 * 2 ^ 32)

-- Lists as functions; what is past the end counts as settled.
abbrev pub marks : List Bool → ℕ → Bool
marks xs x = slice_index_or xs x true

abbrev pub lengths : List (Option ℕ) → ℕ → Option ℕ
lengths xs x = slice_index_or xs x None

-- whether n is below a length, or there is no length yet
abbrev pub is_shorter : ℕ → Option ℕ → Bool
is_shorter n None = true
is_shorter n (Some m) = nat_lt n m

-- an edge of the list leads to y, and the length n is that over this edge
pub record Over (es : List ViewEdge) (m y n : ℕ) : Type 0 where
  pub edge : ViewEdge
  pub there : Contains es edge
  pub leads : edge.to ≡ y
  pub sum : m + edge.metric ≡ n

-- The lengths t0 and the queue q0 became t and q by relaxing each of the edges, whose start has the length m. An entry of the
-- queue is a length and a node.
pub record Relaxed (es : List ViewEdge) (m : ℕ) (t0 : List (Option ℕ)) (q0 : List (ℕ × ℕ)) (t : List (Option ℕ)) (q : List (ℕ × ℕ)) : Type 0 where
  pub rows : length t ≡ length t0
  pub kept : (y n : ℕ) → IsAtMost (lengths t0 y) n → IsAtMost (lengths t y) n
  pub from : (y n : ℕ) → lengths t y ≡ Some n → (lengths t0 y ≡ Some n) ⊎ Over es m y n
  pub counts : (e : ViewEdge) → Contains es e → IsAtMost (lengths t e.to) (m + e.metric)
  pub stays : (entry : ℕ × ℕ) → Contains q0 entry → Contains q entry
  pub queued : (y n : ℕ) → lengths t y ≡ Some n → (lengths t0 y ≡ Some n) ⊎ Contains q (n, y)
  pub entries : (entry : ℕ × ℕ) → Contains q entry → Contains q0 entry ⊎ ((entry.1 < length t0) × IsAtMost (lengths t entry.1) entry.0)

-- everything removed from the queue q0, which became q, was settled
pub record Skipped (settled : List Bool) (q0 q : List (ℕ × ℕ)) : Type 0 where
  pub from : (entry : ℕ × ℕ) → Contains q entry → Contains q0 entry
  pub others : (entry : ℕ × ℕ) → Contains q0 entry → (marks settled entry.1 ≡ true) ⊎ Contains q entry

-- the entry next of a waiting node was removed from the queue, and no waiting node has an entry of a lesser length
pub record TakesNext (settled : List Bool) (q0 : List (ℕ × ℕ)) (next : ℕ × ℕ) (q : List (ℕ × ℕ)) : Type 0 where
  pub there : Contains q0 next
  pub waits : marks settled next.1 ≡ false
  pub from : (entry : ℕ × ℕ) → Contains q entry → Contains q0 entry
  pub others : (entry : ℕ × ℕ) → Contains q0 entry → (marks settled entry.1 ≡ true) ⊎ ((entry ≡ next) ⊎ Contains q entry)
  pub least : (entry : ℕ × ℕ) → Contains q0 entry → marks settled entry.1 ≡ false → next.0 ≤ entry.0
