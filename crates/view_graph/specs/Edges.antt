-- Definitions for the code about links that count.
use Rattle.std.specs.Prelude.{◌≡◌, ℕ, zero, suc, ◌+◌, ◌==◌, nat_lt, min, Bool, true, false, List, [], ◌∷◌, ◌++◌, length, map, filter, slice_index_or, option_map, option_to_list, Option, Some, if◌then◌else◌}
use Rattle.std.specs.List.{list_any, AllByRecursion}
use Rattle.std.specs.Ordering.{is_lt, match_ordering}
use Rattle.wire_base.specs.declared.addresses.SystemId.{SystemId}
use Rattle.wire_base.specs.declared.view.ViewEdge.{ViewEdge}
use Rattle.wire_base.specs.model.Control.{same_system, system_order}
use Rattle.wire_base.specs.model.View.{Claim, Link, least_of, metric_to}
use Rattle.lsp_store.specs.Keys.{AreOctets, octets_from}

abbrev pub is_before : SystemId → SystemId → Bool
is_before a b = is_lt (system_order a b)

-- each system ID is below all after it
abbrev pub AreInOrder : List Claim → Type 0
AreInOrder [] = Unit {0}
AreInOrder (c ∷ cs) = AllByRecursion (λ d. is_before c.system d.system ≡ true) cs × AreInOrder cs

-- how many claims are of systems below this one
abbrev pub place_in : SystemId → List Claim → ℕ
place_in s [] = 0
place_in s (c ∷ cs) = match_ordering (system_order s c.system) 0 0 (suc (place_in s cs))

-- the octets of a system ID as one number
pub record IsKey (key : ℕ) (s : SystemId) : Type 0 where
  pub number : key ≡ octets_from 0 s.0
  pub octets : AreOctets s.0

-- one for the system of each claim
abbrev pub AreKeys : List ℕ → List Claim → Type 0
AreKeys [] [] = Unit {0}
AreKeys [] (c ∷ cs) = ⊥
AreKeys (k ∷ ks) [] = ⊥
AreKeys (k ∷ ks) (c ∷ cs) = IsKey k c.system × AreKeys ks cs

-- whether that number is at an index
abbrev pub is_number_at : List ℕ → ℕ → ℕ → Bool
is_number_at [] i key = false
is_number_at (k ∷ ks) zero key = k == key
is_number_at (k ∷ ks) (suc i) key = is_number_at ks i key

-- whether the claim at an index is of that system
abbrev pub stands_at : List Claim → ℕ → SystemId → Bool
stands_at [] i s = false
stands_at (c ∷ cs) zero s = same_system s c.system
stands_at (c ∷ cs) (suc i) s = stands_at cs i s

-- for each system the least metric of the links to it
abbrev pub metrics_to : List Link → List Claim → List (Option ℕ)
metrics_to links claims = map (λ c. metric_to links c.system) claims

-- the same with one more link
abbrev pub counted : Link → List Claim → List (Option ℕ) → List (Option ℕ)
counted l [] ms = ms
counted l (c ∷ cs) [] = []
counted l (c ∷ cs) (m ∷ ms) = (if same_system l.neighbour c.system then Some (least_of l.metric m) else m) ∷ counted l cs ms

-- the edges to the systems from an index on that one side lists
abbrev pub half_edges : ℕ → List (Option ℕ) → List ViewEdge
half_edges place [] = []
half_edges place (m ∷ ms) = option_to_list (option_map (λ n. record { to = place; metric = n }) m) ++ half_edges (place + 1) ms

-- how many edges lead to an index before that one
abbrev pub edge_place : ℕ → List ViewEdge → ℕ
edge_place to [] = 0
edge_place to (e ∷ es) = if nat_lt e.to to then suc (edge_place to es) else 0

-- whether the first leads there
abbrev pub leads_at : ℕ → List ViewEdge → Bool
leads_at to [] = false
leads_at to (e ∷ es) = e.to == to

-- the list with an edge inserted in order; of two to one index the lesser metric is kept
abbrev pub put_edge : ℕ → ℕ → List ViewEdge → List ViewEdge
put_edge to m [] = record { to = to; metric = m } ∷ []
put_edge to m (e ∷ es) =
    if nat_lt e.to to
    then e ∷ put_edge to m es
    else (if e.to == to then record { to = to; metric = min m e.metric } ∷ es else record { to = to; metric = m } ∷ e ∷ es)

abbrev pub half_edges_of : List Claim → Claim → List ViewEdge
half_edges_of claims c = half_edges 0 (metrics_to c.links claims)

abbrev pub leads_to : ℕ → List ViewEdge → Bool
leads_to place edges = list_any (λ e. e.to == place) edges

-- those of an index that the other side lists too
abbrev pub whole_edges : List (List ViewEdge) → ℕ → List ViewEdge
whole_edges halves place = filter (λ e. leads_to place (slice_index_or halves e.to [])) (slice_index_or halves place [])

-- for each index those of its edges
pub record AreWhole (halves edges : List (List ViewEdge)) : Type 0 where
  pub long : length edges ≡ length halves
  pub each : (place : ℕ) → slice_index_or edges place [] ≡ whole_edges halves place
