-- Numbers of names, and the table that rows make.
use Rattle.std.proofs.Common.{◌≡◌, ℕ, zero, suc, ◌+◌, ◌-◌, ◌<◌, ◌≤◌, true, false, List, [], ◌∷◌, ◌++◌, length, take, get_or, Option, Some, None, refl, sym, ap, subst, ◌∙◌, arith, inl, inr}
use Rattle.std.specs.Prelude.{slice_index_or}
use Rattle.std.specs.Str.{bytes_eq}
use Rattle.std.proofs.lemmas.Bool.{cases_Bool, cases_lt, or_parts, or_right, true≢false}
use Rattle.std.proofs.lemmas.List.{get_or_append_left, get_or_push, get_or_past}
use Rattle.std.proofs.lemmas.Slice.Eq.{bytes_eq-Decides}
use Rattle.wire_base.specs.declared.view.First.{First}
use Rattle.wire_base.specs.model.Place.{bits_of}
use Rattle.bift_table.specs.Bift.{router_at, member_at, table_of}
use Rattle.bift_table.specs.declared.any.AnyTable.{AnyTable}
use Rattle.bift_table.specs.Any.{bsl_of, positions_of}
use Rattle.bift_table.proofs.BiftLaws.{table-at}
use Rattle.replay_text.specs.declared.hop.HopRow.{HopRow}
use Rattle.command_hop.specs.Forward.{name_of}
use Rattle.command_hop.specs.Ways.{has_name, with_name, number_in, neighbour, number_of, leads, leading, IsKnown, IsListed, IsLinked, AreWays, name_at}

itself : (name : List ℕ) → bytes_eq name name ≡ true
itself name = (bytes_eq-Decides name name).1 refl

-- ---- numbers

pub found_number : (names : List (List ℕ)) (text name : List ℕ) (n : ℕ) → n < length names → has_name (take n names) text ≡ false → name ≡ get_or names n name → bytes_eq name text ≡ true
    → (has_name names text ≡ true) × ((n ≡ number_in names text) × (n < length names))
found_number [] text name n lt none is same = absurd (omega arith)
found_number (other ∷ names) text name zero lt none is same =
    let first : bytes_eq other text ≡ true = ap (λ (x : List ℕ). bytes_eq x text) (sym is) ∙ same in
    (rw first refl, (rw first refl, lt))
found_number (other ∷ names) text name (suc n) lt none is same =
    let parts = or_parts (bytes_eq other text) (has_name (take n names) text) none in
    let rest = found_number names text name n (omega arith) parts.1 is same in
    (rw parts.0 rest.0, (rw parts.0 (ap (λ (k : ℕ). suc k) rest.1.0), lt))

-- a new name's number is the count of the names before it
pub new_number : (names : List (List ℕ)) (name : List ℕ) → has_name names name ≡ false → number_in (names ++ name ∷ []) name ≡ length names
new_number [] name none = rw (itself name) refl
new_number (other ∷ names) name none =
    let parts = or_parts (bytes_eq other name) (has_name names name) none in
    rw parts.0 (ap (λ (k : ℕ). suc k) (new_number names name parts.1))

pub pushed_number : (names now : List (List ℕ)) (name : List ℕ) (n : ℕ) → has_name names name ≡ false → now ≡ names ++ name ∷ [] → n ≡ length names → n ≡ number_in now name
pushed_number names now name n none grown count = count ∙ sym (new_number names name none) ∙ ap (λ (l : List (List ℕ)). number_in l name) (sym grown)

has_more : (names more : List (List ℕ)) (name : List ℕ) → has_name names name ≡ true → has_name (names ++ more) name ≡ true
has_more [] more name has = absurd (true≢false (sym has))
has_more (other ∷ names) more name has = elim (cases_Bool (bytes_eq other name)) [
  | inl same ↦ rw same refl
  | inr apart ↦
      let rest : has_name names name ≡ true = rw apart at has in
      rw apart (has_more names more name rest)
]

number_more : (names more : List (List ℕ)) (name : List ℕ) → has_name names name ≡ true → number_in (names ++ more) name ≡ number_in names name
number_more [] more name has = absurd (true≢false (sym has))
number_more (other ∷ names) more name has = elim (cases_Bool (bytes_eq other name)) [
  | inl same ↦ rw same refl
  | inr apart ↦
      let rest : has_name names name ≡ true = rw apart at has in
      rw apart (ap (λ (k : ℕ). suc k) (number_more names more name rest))
]

has_last : (names : List (List ℕ)) (name : List ℕ) → has_name (names ++ name ∷ []) name ≡ true
has_last [] name = rw (itself name) refl
has_last (other ∷ names) name = or_right (bytes_eq other name) (has_name (names ++ name ∷ []) name) (has_last names name)

has_with : (names : List (List ℕ)) (name : List ℕ) → has_name (with_name names name) name ≡ true
has_with names name = elim (cases_Bool (has_name names name)) [
  | inl has ↦ rw has has
  | inr none ↦ rw none (has_last names name)
]

-- the name at its number
pub at_number : (names : List (List ℕ)) (name : List ℕ) → has_name names name ≡ true → name_at names (number_in names name) ≡ name
at_number [] name has = absurd (true≢false (sym has))
at_number (other ∷ names) name has = elim (cases_Bool (bytes_eq other name)) [
  | inl same ↦ rw same ((bytes_eq-Decides other name).0 same)
  | inr apart ↦
      let rest : has_name names name ≡ true = rw apart at has in
      rw apart (at_number names name rest)
]

-- ---- lists

pub listed : (rows : List HopRow) (names now : List (List ℕ)) (p n : ℕ) (name : List ℕ) (list : List First) → name_of rows p ≡ Some name → now ≡ with_name names name → n ≡ number_in now name → list ≡ neighbour n ∷ [] → IsListed rows now p list
listed rows names now p n name list its grown number is =
    let leading : leads now (name_of rows p) ≡ neighbour (number_in now name) ∷ [] = ap (leads now) its in
    record {
      list_is = is ∙ ap (λ (k : ℕ). neighbour k ∷ []) number ∙ sym leading;
      known = subst (IsKnown now) (sym its) (ap (λ (l : List (List ℕ)). has_name l name) grown ∙ has_with names name);
    }

leads_more : (names more : List (List ℕ)) (row : Option (List ℕ)) → IsKnown names row → (leads (names ++ more) row ≡ leads names row) × IsKnown (names ++ more) row
leads_more names more None known = (refl, tt)
leads_more names more (Some name) known = (ap (λ (n : ℕ). neighbour n ∷ []) (number_more names more name known), has_more names more name known)

pub listed_more : (rows : List HopRow) (names now more : List (List ℕ)) (p : ℕ) (list : List First) → now ≡ names ++ more → IsListed rows names p list → IsListed rows now p list
listed_more rows names now more p list grown is =
    let kept = leads_more names more (name_of rows p) is.known in
    subst (λ (l : List (List ℕ)). IsListed rows l p list) (sym grown) (record { list_is = is.list_is ∙ sym kept.0; known = kept.1 })

-- one position more
pub lists_pushed : (rows : List HopRow) (names now more : List (List ℕ)) (lists new : List (List First)) (list : List First) (q : ℕ) → now ≡ names ++ more → new ≡ lists ++ list ∷ [] → length lists ≡ q
    → ((k : ℕ) → k < q → IsListed rows names (k + 1) (slice_index_or lists k [])) → IsListed rows now (q + 1) list → (k : ℕ) → k < q + 1 → IsListed rows now (k + 1) (slice_index_or new k [])
lists_pushed rows names now more lists new list q grown pushed count before here k lt = elim (cases_lt k q) [
  | inl below ↦
      let same : slice_index_or new k [] ≡ slice_index_or lists k [] = ap (λ (l : List (List First)). slice_index_or l k []) pushed ∙ get_or_append_left lists (list ∷ []) [] k (omega arith) in
      subst (λ (l : List First). IsListed rows now (k + 1) l) (sym same) (listed_more rows names now more (k + 1) (slice_index_or lists k []) grown (before k below))
  | inr at ↦
      let last : k ≡ q = omega arith in
      let same : slice_index_or new k [] ≡ list = ap (λ (l : List (List First)). slice_index_or l k []) pushed ∙ get_or_push lists list [] k (omega arith) in
      subst (λ (l : List First). IsListed rows now (k + 1) l) (sym same) (subst (λ (m : ℕ). IsListed rows now (m + 1) list) (sym last) here)
]

-- ---- the table

member_leads : (names : List (List ℕ)) (row : Option (List ℕ)) → member_at 0 (leads names row) ≡ leading names row
member_leads names None = refl
member_leads names (Some name) = refl

numbered_leads : (names : List (List ℕ)) (row : Option (List ℕ)) (first : First) → leading names row ≡ Some first → first ≡ neighbour (number_of first)
numbered_leads names None first is = absurd (apart is)
  where
    apart : None ≡ Some first → ⊥
    apart e = cc
numbered_leads names (Some name) first is = subst (λ (f : First). f ≡ neighbour (number_of f)) (same (neighbour (number_in names name)) first is) refl
  where
    same : (a b : First) → Some a ≡ Some b → a ≡ b
    same a b e = cc

module _ (rows : List HopRow) (names : List (List ℕ)) (lists : List (List First)) (table : List (Option First)) (bits : ℕ) (count : length lists ≡ bits)
    (listed : (q : ℕ) → q < bits → IsListed rows names (q + 1) (slice_index_or lists q [])) (routers : (p : ℕ) → 1 ≤ p → router_at table p ≡ member_at 0 (slice_index_or lists (p - 1) [])) where
  linked_at : (p : ℕ) → 1 ≤ p → p ≤ bits → IsLinked rows names table p
  linked_at p low high =
      let is = listed (p - 1) (omega arith) in
      let same : p - 1 + 1 ≡ p = omega arith in
      let its : slice_index_or lists (p - 1) [] ≡ leads names (name_of rows p) = is.list_is ∙ ap (λ (m : ℕ). leads names (name_of rows m)) same in
      record { router = routers p low ∙ ap (member_at 0) its ∙ member_leads names (name_of rows p); known = subst (λ (m : ℕ). IsKnown names (name_of rows m)) same is.known }

  numbered_at : (p : ℕ) (first : First) → router_at table p ≡ Some first → first ≡ neighbour (number_of first)
  numbered_at zero first is = absurd (apart is)
    where
      apart : None ≡ Some first → ⊥
      apart e = cc
  numbered_at (suc p) first is = elim (cases_lt p bits) [
    | inl below ↦ numbered_leads names (name_of rows (suc p)) first (sym (linked_at (suc p) (omega arith) (omega arith)).router ∙ is)
    | inr beyond ↦
        let same : suc p - 1 ≡ p = omega arith in
        let none : slice_index_or lists (suc p - 1) [] ≡ [] = ap (λ (m : ℕ). slice_index_or lists m []) same ∙ get_or_past lists p [] (omega arith) in
        absurd (apart (sym (routers (suc p) (omega arith) ∙ ap (member_at 0) none) ∙ is))
  ]
    where
      apart : None ≡ Some first → ⊥
      apart e = cc

pub ways_made : (rows : List HopRow) (names : List (List ℕ)) (lists : List (List First)) (table : AnyTable) (bits : ℕ) → length lists ≡ bits → ((q : ℕ) → q < bits → IsListed rows names (q + 1) (slice_index_or lists q []))
    → positions_of table ≡ table_of lists 0 → bits_of (bsl_of table) ≡ bits → AreWays rows (record { names = names; table = table })
ways_made rows names lists table bits count listed built is =
    let routers = λ (p : ℕ) (low : 1 ≤ p). ap (λ (t : List (Option First)). router_at t p) built ∙ table-at lists 0 p low in
    record {
      linked = λ p low high. linked_at rows names lists (positions_of table) bits count listed routers p low (omega (arith, high, is));
      numbered = numbered_at rows names lists (positions_of table) bits count listed routers;
    }
