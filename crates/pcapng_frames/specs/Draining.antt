-- A reader that is fed octets and answers with its next item, with none yet, or with an error: all items that it has, and those
-- that it answers with between chunks.
use Rattle.std.specs.Prelude.{ℕ, zero, suc, List, [], ◌∷◌, ◌++◌, Result, Ok, Err, Option, Some, None}

abbrev pub more_after : {X R : Type 0} → X → List X × R → List X × R
more_after item more = (item ∷ more.0, more.1)

abbrev pub drain_on : {X E R : Type 0} → (R → List X × R) → Result (Option X) E × R → List X × R
drain_on drained (Ok (Some item), after) = more_after item (drained after)
drain_on drained (Ok None, after) = ([], after)
drain_on drained (Err fault, after) = ([], after)

-- The items until there is none, at most that many, and the reader after them.
unfoldable pub drain : {X E R : Type 0} → (R → Result (Option X) E × R) → ℕ → R → List X × R
drain next zero reading = ([], reading)
drain next (suc most) reading = drain_on (drain next most) (next reading)

-- All of them, for a reader of that size, which each item makes smaller.
unfoldable pub drain_all : {X E R : Type 0} → (R → Result (Option X) E × R) → (R → ℕ) → R → List X × R
drain_all next size reading = drain next (suc (size reading)) reading

-- the items of octets that come in chunks: all that there are after each chunk
unfoldable pub in_pieces : {X R : Type 0} → (R → List X × R) → (R → List ℕ → R) → R → List (List ℕ) → List X × R
in_pieces drained fed reading [] = ([], reading)
in_pieces drained fed reading (piece ∷ pieces) =
    ((drained (fed reading piece)).0 ++ (in_pieces drained fed (drained (fed reading piece)).1 pieces).0, (in_pieces drained fed (drained (fed reading piece)).1 pieces).1)
