-- The result of a hop over a BIFT, as the outcomes of one hop.
use Rattle.std.specs.Prelude.{ℕ, suc, ◌+◌, ◌≡◌, ◌≤◌, ◌<◌, ◌==◌, List, [], ◌∷◌, length, Option, Some, None, option_map, is_none, IfSome, MatchOption, if◌then◌else◌}
use Rattle.wire_base.specs.declared.view.First.{First}
use Rattle.wire_base.specs.model.BitSet.{has_member, difference, intersection}
use Rattle.wire_base.specs.model.Hop as model
use Rattle.wire_base.specs.model.Hop.{Outcome, hop}
use Rattle.bier_bits.specs.Sets.{AreApartBelow}
use Rattle.bift_table.specs.Bift.{router_at, leads_to, mask_of}
use Rattle.bier_hop.specs.declared.out.Out.{Out}
use Rattle.bier_hop.specs.declared.out.Out.TheVariants.{Local, Copy, Dropped}
use Rattle.bier_hop.specs.declared.out.Action.{Action}
use Rattle.bier_hop.specs.declared.out.Action.TheVariants as action
use Rattle.bier_hop.specs.declared.out.Why.{Why}
use Rattle.bier_hop.specs.declared.out.Why.TheVariants.{NoRow, Ttl}

-- A packet being forwarded by a router: its table, its own position, the remaining positions, and the packet's TTL.
pub record HopState : Type 0 where
  pub table : List (Option First)
  pub own : Option ℕ
  pub rest : List ℕ
  pub ttl : ℕ

-- an own position, where there is one, is at most that number
abbrev pub IsOwn : ℕ → Option ℕ → Type 0
IsOwn bits None = Unit {0}
IsOwn bits (Some p) = (1 ≤ p) × (p ≤ bits)

-- Numbers for the routers of a table, any that distinguish them, and the number of the router of each position.
pub record IsNumbering (table : List (Option First)) (number : First → ℕ) (choose : ℕ → Option ℕ) : Type 0 where
  pub chosen : (p : ℕ) → choose p ≡ option_map number (router_at table p)
  pub apart : (p q : ℕ) (f g : First) → router_at table p ≡ Some f → router_at table q ≡ Some g → number f ≡ number g → f ≡ g

-- such numbers that exist for every table: the index where a router first occurs
abbrev pub number_in : List (Option First) → First → ℕ
number_in [] f = 0
number_in (o ∷ table) f = if leads_to o f then 0 else suc (number_in table f)

abbrev pub choose_in : List (Option First) → ℕ → Option ℕ
choose_in table p = option_map (number_in table) (router_at table p)

-- the outcomes of the remaining positions
abbrev pub left : (ℕ → Option ℕ) → HopState → List Outcome
left choose h = hop h.own choose h.rest h.ttl

-- a returned value, as an outcome
abbrev pub drop_outcome : List ℕ → Why → Outcome
drop_outcome set NoRow = model.NoRow set
drop_outcome set Ttl = model.Expired set

abbrev pub outcome : {w : ℕ} → (First → ℕ) → Out w → Outcome
outcome number (Local p) = model.Local p
outcome number (Copy to set ttl) = model.Copy (number to.now) set ttl
outcome number (Dropped set why) = drop_outcome set why

-- an action on a set, as an outcome
abbrev pub out_of : {w : ℕ} → List ℕ → Action → Out w
out_of set (action.Local p) = Local p
out_of set (action.Copy to ttl) = Copy to set ttl
out_of set (action.Dropped why) = Dropped set why

-- its positions
abbrev pub positions_of : {w : ℕ} → Out w → List ℕ
positions_of (Local p) = p ∷ []
positions_of (Copy to set ttl) = set
positions_of (Dropped set why) = set

-- the positions that remain after it
abbrev pub left_after : {w : ℕ} → List ℕ → Option (Out w) → List ℕ
left_after rest None = rest
left_after rest (Some out) = difference rest (positions_of out)

-- how many steps it took
abbrev pub cost : {w : ℕ} → Option (Out w) → ℕ
cost None = 0
cost (Some (Local p)) = 0
cost (Some (Copy to set ttl)) = 1
cost (Some (Dropped set why)) = 0

-- how the parts of the code compute it

-- no remaining position below a given one has an entry
abbrev pub IsFrom : ℕ → ℕ → List ℕ → List ℕ → Type 0
IsFrom bits low rest routed = (1 ≤ low) × (low ≤ bits + 1) × AreApartBelow low rest routed

abbrev pub IsOwnWithin : {w : ℕ} → ℕ → Out w → Type 0
IsOwnWithin bits (Local p) = (1 ≤ p) × (p ≤ bits)
IsOwnWithin bits (Copy to set ttl) = Unit {0}
IsOwnWithin bits (Dropped set why) = Unit {0}

abbrev pub own_in : Option ℕ → List ℕ → Option ℕ
own_in None rest = None
own_in (Some p) rest = if has_member p rest then Some p else None

abbrev pub drop_of : {w : ℕ} → List ℕ → Why → Option (Out w)
drop_of [] why = None
drop_of (p ∷ ps) why = Some (Dropped (p ∷ ps) why)

abbrev pub IsCopy : {w : ℕ} → HopState → ℕ → Option (Out w) → Type 0
IsCopy h p None = ⊥
IsCopy h p (Some (Local q)) = ⊥
IsCopy h p (Some (Dropped set why)) = ⊥
IsCopy h p (Some (Copy to set ttl)) = (router_at h.table p ≡ Some to.now) × (set ≡ intersection h.rest (mask_of h.table to.now)) × (suc ttl ≡ h.ttl)

abbrev pub Gives : {w : ℕ} → (First → ℕ) → (ℕ → Option ℕ) → HopState → Option (Out w) → Type 0
Gives number choose h result =
    MatchOption result (left choose h ≡ []) (λ out. left choose h ≡ outcome number out ∷ hop h.own choose (difference h.rest (positions_of out)) h.ttl)

pub record IsNext {w : ℕ} (bits : ℕ) (h : HopState) (result : Option (Out w)) : Type 0 where
  pub gives : (number : First → ℕ) (choose : ℕ → Option ℕ) → IsNumbering h.table number choose → Gives number choose h result
  pub none : is_none result ≡ (length h.rest == 0)
  pub shorter : IfSome result (λ out. length (difference h.rest (positions_of out)) < length h.rest)
  pub local : IfSome result (λ out. IsOwnWithin bits out)
