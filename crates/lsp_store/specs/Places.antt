-- The index of an LSP ID in a sorted list.
use Rattle.std.specs.Prelude.{◌≡◌, ℕ, zero, suc, ◌&&◌, Bool, true, false, List, [], ◌∷◌, length, take, drop, ◌++◌, is_none, option_to_list, unwrap_or, Result, Err, IfErr}
use Rattle.std.specs.Ordering.{match_ordering}
use Rattle.wire_base.specs.declared.addresses.LspId.{LspId}
use Rattle.wire_base.specs.declared.entry.Aged.{Aged}
use Rattle.wire_base.specs.declared.entry.Aged.TheVariants.{Live, Expired, Held, Removed}
use Rattle.wire_base.specs.declared.entry.Entry.{Entry}
use Rattle.wire_base.specs.declared.faults.PutFault.{PutFault}
use Rattle.wire_base.specs.declared.faults.PutFault.TheVariants.{Full, Memory}
use Rattle.wire_base.specs.model.Control.{id_order, same_id, ids_of, entry_in, is_full, aged, aged_to, after_second}

-- how many are below it: the index of the first that is not
abbrev pub place_in : List LspId → LspId → ℕ
place_in [] id = 0
place_in (x ∷ xs) id = match_ordering (id_order id x) 0 0 (suc (place_in xs id))

-- whether it is at an index
abbrev pub stands_at : List LspId → ℕ → LspId → Bool
stands_at [] n id = false
stands_at (x ∷ xs) zero id = same_id x id
stands_at (x ∷ xs) (suc n) id = stands_at xs n id

-- an index is that of an LSP ID, and whether it is there
pub record IsPlace (entries : List Entry) (id : LspId) (there : Bool) (p : ℕ) : Type 0 where
  pub place : p ≡ place_in (ids_of entries) id
  pub stands : stands_at (ids_of entries) p id ≡ there

-- whether an LSP ID has no entry yet
abbrev pub is_new : List Entry → LspId → Bool
is_new entries id = is_none (entry_in entries id)

-- no entry is accepted beside those that are there
abbrev pub is_refused : List Entry → LspId → Bool
is_refused entries id = is_new entries id && is_full entries

abbrev pub AnswersWhere : Bool → List Entry → ℕ → LspId → Result (Unit {0}) PutFault → Type 0
AnswersWhere true entries spare id answer = answer ≡ Err (Full (length entries))
AnswersWhere false entries spare id answer = IfErr answer (λ fault. (fault ≡ Memory) × (is_new entries id ≡ true) × (spare ≡ 0))

-- The possible results of a put: Full exactly where the LSP ID is new and the LSDB is full; otherwise out of memory is
-- possible, where the LSP ID is new and there is no spare memory.
abbrev pub PutAnswers : List Entry → ℕ → LspId → Result (Unit {0}) PutFault → Type 0
PutAnswers entries spare id answer = AnswersWhere (is_refused entries id) entries spare id answer

-- one second for one entry: its effect, and what is there after it
pub record IsSecondAt (entries : List Entry) (n : ℕ) (e : Entry) (answer : Aged) (new : List Entry) : Type 0 where
  pub answers : answer ≡ aged e
  pub becomes : new ≡ take n entries ++ (option_to_list (after_second e) ++ drop (suc n) entries)

-- an entry after one second with that effect; one that is to be removed is unchanged
abbrev pub passed : Aged → Entry → Entry
passed answer e = unwrap_or (aged_to answer e) e

-- whether an entry is removed
abbrev pub is_removed : Aged → Bool
is_removed Live = false
is_removed Expired = false
is_removed Held = false
is_removed Removed = true
