-- What the LSP entries of a CSNP leave of one LSP ID: its flags on the interface, and its entry.
use Rattle.std.proofs.Common.{◌≡◌, ℕ, ◌+◌, ◌<◌, ◌≤◌, ◌==◌, ◌&&◌, not, nat_lt, Bool, true, false, if◌then◌else◌, List, [], ◌∷◌, slice_index_or, Option, Some, None, is_some, refl, sym, ap, subst, ◌∙◌, arith}
use Rattle.std.specs.List.{AllByRecursion, fold}
use Rattle.std.proofs.lemmas.Option.{same_Some}
use Rattle.std.proofs.lemmas.Bool.{and_parts, cond_both, true≢false, ne_eqb}
use Rattle.wire_base.specs.declared.addresses.LspId.{LspId}
use Rattle.wire_base.specs.declared.addresses.SystemId.{SystemId}
use Rattle.wire_base.specs.declared.entry.Age.{Age}
use Rattle.wire_base.specs.declared.entry.Age.TheVariants.{Unknown, Newer, Equal, Older, Confused}
use Rattle.wire_base.specs.declared.entry.Entry.{Entry}
use Rattle.wire_base.specs.declared.triple.Summary.{Summary}
use Rattle.wire_base.specs.model.Control.{Flood, age_of, entry_in, fragment_0, is_full, is_unknown, purge, put_entry, same_id, seq_of}
use Rattle.wire_base.specs.model.Flooding.{SnpAnswer, ask_on, asks, is_live_summary, listed_aged, mark_all, on_listed, send_on, set_srm, wanted, with_flags, with_row}
use Rattle.wire_base.proofs.AgeLaws.{unknown_is_none}
use Rattle.isis_flood.proofs.KeptLaws.{rows_keep}
use Rattle.laws_router.specs.Kept.{Kept}
use Rattle.wire_base.proofs.OrderLaws.{same_is}
use Rattle.laws_router.proofs.KeptLaws.{SnpKept, listed_kept}
use Rattle.laws_settle.proofs.FlagsAt.{CanFlag, Passes, asked_flagged, is_flagged, marked_flagged, passes_kept, passes_marked, passes_row, passes_row_put, passes_same, passes_then, sending_flagged, unflagged, unflagged_before}

-- ---- rows of other LSP IDs

-- no row has the LSP ID
abbrev pub IsUnlisted : LspId → List Summary → Type 0
IsUnlisted id rows = AllByRecursion (λ s. same_id s.id id ≡ false) rows

module _ (id : LspId) (link : ℕ) (spent : Bool) where
  PassesTo : SnpAnswer → SnpAnswer → Type 0
  PassesTo a b = Passes id link a.flood a.entries b.flood b.entries

  same_to : (a b : SnpAnswer) → b.flood ≡ a.flood → b.entries ≡ a.entries → PassesTo a b
  unfolding PassesTo
  same_to a b flood entries = passes_kept id link a.flood a.entries b.flood b.entries (ap (λ f. is_flagged f id link) flood) (ap (λ es. entry_in es id) entries)

  aged_passes : (a : SnpAnswer) (s : Summary) (age : Age) → same_id s.id id ≡ false → PassesTo a (listed_aged a link s spent age)
  unfolding PassesTo
  aged_passes a s Unknown other =
      cond_both (is_live_summary s) (asks a link s) a (PassesTo a)
      (λ live. cond_both (is_full a.entries) (record a { answer = record a.answer { full = a.answer.full + 1 } }) (record a { flood = with_row a.flood s.id (ask_on link); entries = put_entry (wanted s) a.entries }) (PassesTo a)
      (λ full. passes_same id link a.flood a.entries)
      (λ room. passes_row_put id link a.flood a.entries (wanted s) (ask_on link) (λ row. refl) other))
      (λ dead. passes_same id link a.flood a.entries)
  aged_passes a s Newer other = passes_row id link a.flood a.entries s.id (ask_on link) (λ row. refl) other
  aged_passes a s Equal other = passes_row id link a.flood a.entries s.id (set_srm link false) (λ row. refl) other
  aged_passes a s Older other = passes_row id link a.flood a.entries s.id (send_on link) (λ row. refl) other
  aged_passes a s Confused other =
      cond_both (same_id s.id (fragment_0 a.flood.own) && not spent) (record a { answer = record a.answer { reissue = Some s.seq } }) (record a { flood = mark_all a.flood s.id; entries = put_entry (purge s.id s.seq) a.entries }) (PassesTo a)
      (λ own. passes_same id link a.flood a.entries)
      (λ more. passes_marked id link a.flood a.entries (purge s.id s.seq) other)

  listed_passes : (a : SnpAnswer) (s : Summary) → same_id s.id id ≡ false → PassesTo a (on_listed link spent a s)
  unfolding on_listed PassesTo
  listed_passes a s other =
      cond_both (s.seq == 0) (if nat_lt 0 (seq_of (entry_in a.entries s.id)) then with_flags a s.id (send_on link) else a) (listed_aged a link s spent (age_of (entry_in a.entries s.id) s)) (PassesTo a)
      (λ none. cond_both (nat_lt 0 (seq_of (entry_in a.entries s.id))) (with_flags a s.id (send_on link)) a (PassesTo a) (λ known. passes_row id link a.flood a.entries s.id (send_on link) (λ row. refl) other) (λ unknown. passes_same id link a.flood a.entries))
      (λ some. aged_passes a s (age_of (entry_in a.entries s.id) s) other)

  pub rows_pass : (rows : List Summary) (a : SnpAnswer) → IsUnlisted id rows → Passes id link a.flood a.entries (fold (on_listed link spent) a rows).flood (fold (on_listed link spent) a rows).entries
  unfolding PassesTo
  rows_pass [] a others = passes_same id link a.flood a.entries
  rows_pass (s ∷ rows) a others =
      let next = on_listed link spent a s in
      let last = fold (on_listed link spent) next rows in
      passes_then id link a.flood a.entries next.flood next.entries last.flood last.entries (listed_passes a s others.0) (rows_pass rows next others.1)

-- ---- what rows request

module _ (link : ℕ) (spent : Bool) where
  -- how many rows found no room never falls, and a request to originate the own LSP stays
  pub record Requests (a b : SnpAnswer) : Type 0 where
    pub full : a.answer.full ≤ b.answer.full
    pub asked : is_some a.answer.reissue ≡ true → is_some b.answer.reissue ≡ true

  same_requests : (a b : SnpAnswer) → b.answer ≡ a.answer → Requests a b
  same_requests a b same = record { full = (let n = ap (λ x. x.full) same in omega (arith, n)); asked = λ t. ap (λ x. is_some x.reissue) same ∙ t }

  aged_requests : (a : SnpAnswer) (s : Summary) (age : Age) → Requests a (listed_aged a link s spent age)
  aged_requests a s Unknown =
      cond_both (is_live_summary s) (asks a link s) a (Requests a)
      (λ live. cond_both (is_full a.entries) (record a { answer = record a.answer { full = a.answer.full + 1 } }) (record a { flood = with_row a.flood s.id (ask_on link); entries = put_entry (wanted s) a.entries }) (Requests a)
      (λ full. record { full = omega arith; asked = λ t. t })
      (λ room. same_requests a _ refl))
      (λ dead. same_requests a _ refl)
  aged_requests a s Newer = same_requests a _ refl
  aged_requests a s Equal = same_requests a _ refl
  aged_requests a s Older = same_requests a _ refl
  aged_requests a s Confused =
      cond_both (same_id s.id (fragment_0 a.flood.own) && not spent) (record a { answer = record a.answer { reissue = Some s.seq } }) (record a { flood = mark_all a.flood s.id; entries = put_entry (purge s.id s.seq) a.entries }) (Requests a)
      (λ own. record { full = omega arith; asked = λ t. refl })
      (λ more. same_requests a _ refl)

  listed_requests : (a : SnpAnswer) (s : Summary) → Requests a (on_listed link spent a s)
  unfolding on_listed
  listed_requests a s =
      cond_both (s.seq == 0) (if nat_lt 0 (seq_of (entry_in a.entries s.id)) then with_flags a s.id (send_on link) else a) (listed_aged a link s spent (age_of (entry_in a.entries s.id) s)) (Requests a)
      (λ none. cond_both (nat_lt 0 (seq_of (entry_in a.entries s.id))) (with_flags a s.id (send_on link)) a (Requests a) (λ known. same_requests a _ refl) (λ unknown. same_requests a _ refl))
      (λ some. aged_requests a s (age_of (entry_in a.entries s.id) s))

  pub rows_request : (rows : List Summary) (a : SnpAnswer) → Requests a (fold (on_listed link spent) a rows)
  rows_request [] a = same_requests a a refl
  rows_request (s ∷ rows) a =
      let next = on_listed link spent a s in
      let first = listed_requests a s in
      let rest = rows_request rows next in
      record { full = omega (arith, first.full, rest.full); asked = λ t. rest.asked (first.asked t) }

-- ---- the row of the LSP ID

-- the row neither says more than the entry, nor less
abbrev pub IsLike : Option Entry → Summary → Type 0
IsLike None s = is_live_summary s ≡ false
IsLike (Some e) s = age_of (Some e) s ≡ Equal

-- nothing is requested for the LSP ID, and nothing is to be sent for it
pub record IsDone (link : ℕ) (id : LspId) (a : SnpAnswer) : Type 0 where
  pub idle : is_flagged a.flood id link ≡ false
  pub room : a.answer.full ≡ 0
  pub kept : same_id id (fragment_0 a.flood.own) ≡ true → is_some a.answer.reissue ≡ false

module _ (link : ℕ) (spent : Bool) (a : SnpAnswer) (can : CanFlag link a.flood) (s : Summary) where
  -- what the row leaves, where nothing is requested after it
  Leaves : SnpAnswer → Type 0
  Leaves b = IsDone link s.id b → b.entries ≡ a.entries × IsLike (entry_in a.entries s.id) s

  flagged_leaves : (b : SnpAnswer) → is_flagged b.flood s.id link ≡ true → Leaves b
  unfolding Leaves
  flagged_leaves b set done = absurd (true≢false (sym set ∙ done.idle))

  aged_leaves : (o : Option Entry) (age : Age) → entry_in a.entries s.id ≡ o → age_of o s ≡ age → Leaves (listed_aged a link s spent age)
  unfolding Leaves
  aged_leaves (Some e) Unknown at is = absurd (true≢false (sym (ap is_unknown is) ∙ unknown_is_none (Some e) s))
  aged_leaves None Unknown at is =
      cond_both (is_live_summary s) (asks a link s) a Leaves
      (λ live. cond_both (is_full a.entries) (record a { answer = record a.answer { full = a.answer.full + 1 } }) (record a { flood = with_row a.flood s.id (ask_on link); entries = put_entry (wanted s) a.entries }) Leaves
      (λ full done. absurd (let none = done.room in omega (arith, none)))
      (λ room. flagged_leaves _ (asked_flagged link a.flood can s.id)))
      (λ dead done. (refl, subst (λ (x : Option Entry). IsLike x s) (sym at) dead))
  aged_leaves o Newer at is = flagged_leaves (listed_aged a link s spent Newer) (asked_flagged link a.flood can s.id)
  aged_leaves None Equal at is = cc
  aged_leaves (Some e) Equal at is = λ done. (refl, subst (λ (x : Option Entry). IsLike x s) (sym at) is)
  aged_leaves o Older at is = flagged_leaves (listed_aged a link s spent Older) (sending_flagged link a.flood can s.id)
  aged_leaves o Confused at is =
      cond_both (same_id s.id (fragment_0 a.flood.own) && not spent) (record a { answer = record a.answer { reissue = Some s.seq } }) (record a { flood = mark_all a.flood s.id; entries = put_entry (purge s.id s.seq) a.entries }) Leaves
      (λ own done. absurd (true≢false (done.kept (and_parts _ _ own).0)))
      (λ more. flagged_leaves _ (marked_flagged link a.flood can s.id))

  pub row_leaves : 0 < s.seq → IsDone link s.id (on_listed link spent a s) → (on_listed link spent a s).entries ≡ a.entries × IsLike (entry_in a.entries s.id) s
  unfolding on_listed Leaves
  row_leaves some =
      let known : (s.seq == 0) ≡ false = ne_eqb s.seq 0 (λ none. omega (arith, none, some)) in
      subst Leaves (ap (λ (b : Bool). if b then (if nat_lt 0 (seq_of (entry_in a.entries s.id)) then with_flags a s.id (send_on link) else a) else listed_aged a link s spent (age_of (entry_in a.entries s.id) s)) (sym known))
      (aged_leaves (entry_in a.entries s.id) (age_of (entry_in a.entries s.id) s) refl refl)

-- ---- rows in order

-- the row of an LSP ID
abbrev pub summary_in : List Summary → LspId → Option Summary
summary_in [] id = None
summary_in (s ∷ ss) id = if same_id s.id id then Some s else summary_in ss id

-- no LSP ID twice
abbrev pub AreOnce : List Summary → Type 0
AreOnce [] = Unit {0}
AreOnce (s ∷ ss) = IsUnlisted s.id ss × AreOnce ss

module _ (own : SystemId) (up : List Bool) (spent : Bool) (link : ℕ) (open_ : slice_index_or up link false ≡ true) where
  pub can_flag : (f : Flood) (es : List Entry) → Kept own up spent f es → CanFlag link f
  can_flag f es k = record { up = ap (λ (l : List Bool). slice_index_or l link false) k.up_is ∙ open_; rows = k.flood.rows }

  -- the rows after the one of an LSP ID say nothing of it
  front_like : (r : Summary) (rows : List Summary) (a : SnpAnswer) → SnpKept own up spent a → IsUnlisted r.id rows → 0 < r.seq → IsDone link r.id (fold (on_listed link spent) (on_listed link spent a r) rows)
      → IsLike (entry_in (fold (on_listed link spent) (on_listed link spent a r) rows).entries r.id) r
  front_like r rows a k others some done =
      let next = on_listed link spent a r in
      let last = fold (on_listed link spent) next rows in
      let rest = rows_pass r.id link spent rows next others in
      let asks = rows_request link spent rows next in
      let own_is : last.flood.own ≡ next.flood.own = (rows_keep link spent next rows).own in
      let before : IsDone link r.id next = record {
        idle = unflagged_before r.id link next.flood next.entries last.flood last.entries rest done.idle;
        room = (let none = done.room in let n = asks.full in omega (arith, none, n));
        kept = λ same. unflagged (is_some next.answer.reissue) (is_some last.answer.reissue) asks.asked (done.kept (ap (λ (o : SystemId). same_id r.id (fragment_0 o)) own_is ∙ same));
      } in
      let leaves = row_leaves link spent a (can_flag a.flood a.entries k.kept) r some before in
      subst (λ (o : Option Entry). IsLike o r) (sym (rest.entry done.idle ∙ ap (λ (es : List Entry). entry_in es r.id) leaves.0)) leaves.1

  pub rows_like : (id : LspId) (rows : List Summary) (a : SnpAnswer) (s : Summary) → SnpKept own up spent a → AreOnce rows → summary_in rows id ≡ Some s → 0 < s.seq → IsDone link id (fold (on_listed link spent) a rows)
      → IsLike (entry_in (fold (on_listed link spent) a rows).entries id) s
  rows_like id [] a s k once found some done = cc
  rows_like id (r ∷ rows) a s k once found some done = by (same_id r.id id) refl found (λ is. rows_like id rows (on_listed link spent a r) s (listed_kept own up spent link open_ a k r) once.1 is some done)
    where
      last : SnpAnswer
      last = fold (on_listed link spent) (on_listed link spent a r) rows

      by : (b : Bool) → same_id r.id id ≡ b → (if b then Some r else summary_in rows id) ≡ Some s → (summary_in rows id ≡ Some s → IsLike (entry_in last.entries id) s) → IsLike (entry_in last.entries id) s
      by true same is rest =
          let here : r.id ≡ id = same_is r.id id same in
          let it : r ≡ s = same_Some r s is in
          let more : 0 < r.seq = let P : Summary → Type 0 = λ x. 0 < x.seq in subst P (sym it) some in
          subst (λ (x : Summary). IsLike (entry_in last.entries id) x) it
          (subst (λ (i : LspId). IsLike (entry_in last.entries i) r) here (front_like r rows a k once.0 more (subst (λ (i : LspId). IsDone link i last) (sym here) done)))
      by false other is rest = rest is
