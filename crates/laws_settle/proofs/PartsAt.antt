-- The CSNPs that a router sends when CSNPs are due: consecutive ranges of LSP IDs, each with its LSP entries.
use Rattle.std.proofs.Common.{◌≡◌, ◌⊎◌, inl, inr, ℕ, zero, suc, ◌<◌, ◌≤◌, Bool, true, false, if◌then◌else◌, List, [], ◌∷◌, ◌++◌, length, map, take, drop, replicate, slice_index_or, Option, Some, None, refl, sym, ap, subst, ◌∙◌, arith}
use Rattle.std.specs.List.{AllByRecursion}
use Rattle.std.proofs.lemmas.List.{length-drop, take-append-drop}
use Rattle.std.proofs.lemmas.Option.{same_Some}
use Rattle.wire_base.specs.declared.addresses.LspId.{LspId}
use Rattle.wire_base.specs.declared.cause.Cause.TheVariants as cause
use Rattle.wire_base.specs.declared.entry.Entry.{Entry}
use Rattle.wire_base.specs.declared.triple.Summary.{Summary}
use Rattle.wire_base.specs.model.Control.{Control, entry_in, is_below, same_id}
use Rattle.wire_base.specs.model.Flooding.{csnp_of, csnps, id_after, last_id, last_listed}
use Rattle.wire_base.specs.model.Lists.{blocks, blocks_within}
use Rattle.wire_base.specs.model.Pdu.{Pdu}
use Rattle.wire_base.specs.model.Tlv.{SummaryFits}
use Rattle.laws_format.proofs.TlvListLaws.{rows_of_tlvs}
use Rattle.lsp_store.specs.Keys.{IsOctets}
use Rattle.wire_base.proofs.OrderLaws.{same_is}
use Rattle.laws_format.proofs.ContentLaws.{each_dropped, each_taken}
use Rattle.laws_settle.specs.Csnps.{NoneDropped, after_pdus}
use Rattle.laws_settle.proofs.FlagsAt.{Passes, is_flagged, passes_same, passes_then, unflagged_before}
use Rattle.laws_settle.proofs.RowsAt.{AreOnce, IsLike, IsUnlisted, summary_in}
use Rattle.laws_settle.proofs.CsnpAt.{IsPlain, IsReceiving, after_csnp, csnp_after, csnp_drops, csnp_like, csnp_passes, csnp_plain, csnp_receives, listed_by}
use Rattle.laws_settle.proofs.IdOrder.{after_octets, none_above, none_between}

-- ---- the ranges

pub record Part : Type 0 where
  pub start : LspId
  pub last : LspId
  pub rows : List Summary

abbrev pub part_pdu : Control → Part → Pdu
part_pdu c p = csnp_of c p.start p.last p.rows

abbrev part : LspId → LspId → List Summary → Part
part start last rows = record { start = start; last = last; rows = rows }

abbrev pub parts : LspId → List (List Summary) → List Part
parts start [] = part start last_id [] ∷ []
parts start (block ∷ []) = part start last_id block ∷ []
parts start (block ∷ next ∷ more) = part start (last_listed start block) block ∷ parts (id_after (last_listed start block)) (next ∷ more)

pub csnps_parts : (c : Control) (start : LspId) (bs : List (List Summary)) → csnps c start bs ≡ map (part_pdu c) (parts start bs)
csnps_parts c start (block ∷ next ∷ more) = ap (λ (ps : List Pdu). csnp_of c start (last_listed start block) block ∷ ps) (csnps_parts c (id_after (last_listed start block)) (next ∷ more))
csnps_parts c start other = refl

-- all rows
abbrev pub rows_in : List Part → List Summary
rows_in [] = []
rows_in (p ∷ ps) = p.rows ++ rows_in ps

abbrev joined : List (List Summary) → List Summary
joined [] = []
joined (b ∷ bs) = b ++ joined bs

parts_rows : (start : LspId) (bs : List (List Summary)) → rows_in (parts start bs) ≡ joined bs
parts_rows start (block ∷ next ∷ more) = ap (λ (rows : List Summary). block ++ rows) (parts_rows (id_after (last_listed start block)) (next ∷ more))
parts_rows start other = refl

blocks_joined : (m n : ℕ) (xs : List Summary) → 0 < n → length xs ≤ m → joined (blocks_within m n xs) ≡ xs
blocks_joined zero n [] some long = refl
blocks_joined zero n (x ∷ xs) some long = absurd (omega (arith, long))
blocks_joined (suc m) n [] some long = refl
blocks_joined (suc m) n (x ∷ xs) some long =
    let fewer = length-drop n (x ∷ xs) in
    ap (λ (rows : List Summary). take n (x ∷ xs) ++ rows) (blocks_joined m n (drop n (x ∷ xs)) some (omega (arith, fewer, long, some))) ∙ take-append-drop n (x ∷ xs)

pub parts_are : (start : LspId) (n : ℕ) (xs : List Summary) → 0 < n → rows_in (parts start (blocks n xs)) ≡ xs
parts_are start n xs some = parts_rows start (blocks n xs) ∙ blocks_joined (length xs) n xs some (omega arith)

-- ---- which range has an LSP ID

abbrev pub IsCovered : LspId → List Part → Type 0
IsCovered id [] = ⊥
IsCovered id (p ∷ ps) = ((is_below id p.start ≡ false) × (is_below p.last id ≡ false)) ⊎ IsCovered id ps

blocks_each : (P : Summary → Type 0) (m n : ℕ) (xs : List Summary) → AllByRecursion P xs → AllByRecursion (AllByRecursion P) (blocks_within m n xs)
blocks_each P zero n xs all = tt
blocks_each P (suc m) n [] all = tt
blocks_each P (suc m) n (x ∷ xs) all = (each_taken P n (x ∷ xs) all, blocks_each P m n (drop n (x ∷ xs)) (each_dropped P n (x ∷ xs) all))

HasOctets : Summary → Type 0
HasOctets s = IsOctets s.id

listed_octets : (start : LspId) (rows : List Summary) → IsOctets start → AllByRecursion HasOctets rows → IsOctets (last_listed start rows)
unfolding HasOctets
listed_octets start [] h all = h
listed_octets start (s ∷ rows) h all = listed_octets s.id rows all.0 all.1

module _ (id : LspId) (octets : IsOctets id) where
  ranges_cover : (bs : List (List Summary)) (start : LspId) → IsOctets start → AllByRecursion (AllByRecursion HasOctets) bs → is_below id start ≡ false → IsCovered id (parts start bs)
  ranges_cover [] start h all low = inl (low, none_above id octets)
  ranges_cover (block ∷ []) start h all low = inl (low, none_above id octets)
  ranges_cover (block ∷ next ∷ more) start h all low =
      let last = last_listed start block in
      let here : IsOctets last = listed_octets start block h all.0 in
      by (is_below last id) refl (λ above. ranges_cover (next ∷ more) (id_after last) (after_octets last) all.1 (none_between last id here octets above))
    where
      by : (b : Bool) → is_below (last_listed start block) id ≡ b → (is_below (last_listed start block) id ≡ true → IsCovered id (parts (id_after (last_listed start block)) (next ∷ more))) → IsCovered id (parts start (block ∷ next ∷ more))
      by true above rest = inr (rest above)
      by false within rest = inl (low, within)

  pub parts_cover : (start : LspId) (n : ℕ) (xs : List Summary) → IsOctets start → AllByRecursion (λ s. IsOctets s.id) xs → is_below id start ≡ false → IsCovered id (parts start (blocks n xs))
  unfolding HasOctets
  parts_cover start n xs h all low = ranges_cover (blocks n xs) start h (blocks_each HasOctets (length xs) n xs all) low

-- ---- rows of several CSNPs

each_front : (P : Summary → Type 0) (xs ys : List Summary) → AllByRecursion P (xs ++ ys) → AllByRecursion P xs
each_front P [] ys all = tt
each_front P (x ∷ xs) ys all = (all.0, each_front P xs ys all.1)

each_rest : (P : Summary → Type 0) (xs ys : List Summary) → AllByRecursion P (xs ++ ys) → AllByRecursion P ys
each_rest P [] ys all = all
each_rest P (x ∷ xs) ys all = each_rest P xs ys all.1

once_front : (xs ys : List Summary) → AreOnce (xs ++ ys) → AreOnce xs
once_front [] ys once = tt
once_front (x ∷ xs) ys once = (each_front (λ s. same_id s.id x.id ≡ false) xs ys once.0, once_front xs ys once.1)

once_rest : (xs ys : List Summary) → AreOnce (xs ++ ys) → AreOnce ys
once_rest [] ys once = once
once_rest (x ∷ xs) ys once = once_rest xs ys once.1

module _ (id : LspId) where
  once_apart : (xs ys : List Summary) (s : Summary) → AreOnce (xs ++ ys) → summary_in xs id ≡ Some s → IsUnlisted id ys
  once_apart [] ys s once found = cc
  once_apart (x ∷ xs) ys s once found = by (same_id x.id id) refl found (λ is. once_apart xs ys s once.1 is)
    where
      by : (b : Bool) → same_id x.id id ≡ b → (if b then Some x else summary_in xs id) ≡ Some s → (summary_in xs id ≡ Some s → IsUnlisted id ys) → IsUnlisted id ys
      by true same is rest = subst (λ (i : LspId). IsUnlisted i ys) (same_is x.id id same) (each_rest (λ t. same_id t.id x.id ≡ false) xs ys once.0)
      by false other is rest = rest is

  found_joined : (xs ys : List Summary) (s : Summary) → summary_in xs id ≡ Some s → summary_in (xs ++ ys) id ≡ Some s
  found_joined [] ys s found = cc
  found_joined (x ∷ xs) ys s found = by (same_id x.id id) found (found_joined xs ys s)
    where
      by : (b : Bool) → (if b then Some x else summary_in xs id) ≡ Some s → (summary_in xs id ≡ Some s → summary_in (xs ++ ys) id ≡ Some s) → (if b then Some x else summary_in (xs ++ ys) id) ≡ Some s
      by true is rest = is
      by false is rest = rest is

  none_joined : (xs ys : List Summary) → summary_in xs id ≡ None → summary_in (xs ++ ys) id ≡ summary_in ys id
  none_joined [] ys none = refl
  none_joined (x ∷ xs) ys none = by (same_id x.id id) none (none_joined xs ys)
    where
      by : (b : Bool) → (if b then Some x else summary_in xs id) ≡ None → (summary_in xs id ≡ None → summary_in (xs ++ ys) id ≡ summary_in ys id) → (if b then Some x else summary_in (xs ++ ys) id) ≡ summary_in ys id
      by true is rest = cc
      by false is rest = rest is

-- ---- a router after them

abbrev pub after_parts : ℕ → Control → List Part → Control
after_parts link d [] = d
after_parts link d (p ∷ ps) = after_parts link (after_csnp link p.start p.last p.rows d) ps

abbrev pub HaveRoom : ℕ → Control → List Part → Type 0
HaveRoom link d [] = Unit {0}
HaveRoom link d (p ∷ ps) = (replicate (listed_by link p.rows d).answer.full cause.Full ≡ []) × HaveRoom link (after_csnp link p.start p.last p.rows d) ps

module _ (link : ℕ) (c : Control) where
  pub parts_after : (ps : List Part) (d : Control) → AllByRecursion SummaryFits (rows_in ps) → after_pdus d link (map (part_pdu c) ps) ≡ after_parts link d ps
  parts_after [] d fits = refl
  parts_after (p ∷ ps) d fits =
      ap (λ (e : Control). after_pdus e link (map (part_pdu c) ps)) (csnp_after link p.start p.last p.rows c d (rows_of_tlvs p.rows (each_front SummaryFits p.rows (rows_in ps) fits)))
      ∙ parts_after ps (after_csnp link p.start p.last p.rows d) (each_rest SummaryFits p.rows (rows_in ps) fits)

  pub parts_room : (ps : List Part) (d : Control) → AllByRecursion SummaryFits (rows_in ps) → NoneDropped d link (map (part_pdu c) ps) → HaveRoom link d ps
  parts_room [] d fits none = tt
  parts_room (p ∷ ps) d fits none =
      let again = rows_of_tlvs p.rows (each_front SummaryFits p.rows (rows_in ps) fits) in (
        sym (csnp_drops link p.start p.last p.rows c d again) ∙ none.0,
        parts_room ps (after_csnp link p.start p.last p.rows d) (each_rest SummaryFits p.rows (rows_in ps) fits)
            (subst (λ (e : Control). NoneDropped e link (map (part_pdu c) ps)) (csnp_after link p.start p.last p.rows c d again) none.1),
      )

module _ (up : List Bool) (link : ℕ) (open_ : slice_index_or up link false ≡ true) (id : LspId) where
  parts_pass : (ps : List Part) (d : Control) → IsReceiving up d → IsUnlisted id (rows_in ps) → Passes id link d.flood d.entries (after_parts link d ps).flood (after_parts link d ps).entries
  parts_pass [] d r others = passes_same id link d.flood d.entries
  parts_pass (p ∷ ps) d r others =
      let next = after_csnp link p.start p.last p.rows d in
      let last = after_parts link next ps in
      passes_then id link d.flood d.entries next.flood next.entries last.flood last.entries
      (csnp_passes up link open_ p.start p.last p.rows d r id (each_front (λ s. same_id s.id id ≡ false) p.rows (rows_in ps) others))
      (parts_pass ps next (csnp_receives up link open_ p.start p.last p.rows d r) (each_rest (λ s. same_id s.id id ≡ false) p.rows (rows_in ps) others))

  -- what none of them lists is dead there, if their ranges have it
  pub parts_plain : (ps : List Part) (d : Control) → IsReceiving up d → IsUnlisted id (rows_in ps) → IsCovered id ps → is_flagged (after_parts link d ps).flood id link ≡ false → IsPlain (entry_in (after_parts link d ps).entries id)
  parts_plain [] d r others covered idle = absurd covered
  parts_plain (p ∷ ps) d r others (inl range) idle =
      let next = after_csnp link p.start p.last p.rows d in
      let last = after_parts link next ps in
      let rest = parts_pass ps next (csnp_receives up link open_ p.start p.last p.rows d r) (each_rest (λ s. same_id s.id id ≡ false) p.rows (rows_in ps) others) in
      subst IsPlain (sym (rest.entry idle))
      (csnp_plain up link open_ p.start p.last p.rows d r id (each_front (λ s. same_id s.id id ≡ false) p.rows (rows_in ps) others) range.0 range.1 (unflagged_before id link next.flood next.entries last.flood last.entries rest idle))
  parts_plain (p ∷ ps) d r others (inr more) idle =
      parts_plain ps (after_csnp link p.start p.last p.rows d) (csnp_receives up link open_ p.start p.last p.rows d r) (each_rest (λ s. same_id s.id id ≡ false) p.rows (rows_in ps) others) more idle

  -- what one of them lists is there as it says
  pub parts_like : (ps : List Part) (d : Control) (s : Summary) → IsReceiving up d → AreOnce (rows_in ps) → summary_in (rows_in ps) id ≡ Some s → 0 < s.seq → HaveRoom link d ps → is_flagged (after_parts link d ps).flood id link ≡ false
      → IsLike (entry_in (after_parts link d ps).entries id) s
  parts_like [] d s r once found some room idle = cc
  parts_like (p ∷ ps) d s r once found some room idle =
      by (summary_in p.rows id) refl (λ later. parts_like ps (after_csnp link p.start p.last p.rows d) s (csnp_receives up link open_ p.start p.last p.rows d r) (once_rest p.rows (rows_in ps) once) later some room.1 idle)
    where
      next : Control
      next = after_csnp link p.start p.last p.rows d

      last : Control
      last = after_parts link next ps

      rest : (t : Summary) → summary_in p.rows id ≡ Some t → Passes id link next.flood next.entries last.flood last.entries
      rest t here = parts_pass ps next (csnp_receives up link open_ p.start p.last p.rows d r) (once_apart id p.rows (rows_in ps) t once here)

      at_once : (t : Summary) → summary_in p.rows id ≡ Some t → t ≡ s → IsLike (entry_in last.entries id) s
      at_once t here is =
          let more : 0 < t.seq = let P : Summary → Type 0 = λ x. 0 < x.seq in subst P (sym is) some in
          let like = csnp_like up link open_ p.start p.last p.rows d r id t (once_front p.rows (rows_in ps) once) here more room.0 (unflagged_before id link next.flood next.entries last.flood last.entries (rest t here) idle) in
          subst (λ (x : Summary). IsLike (entry_in last.entries id) x) is (subst (λ (o : Option Entry). IsLike o t) (sym ((rest t here).entry idle)) like)

      by : (o : Option Summary) → summary_in p.rows id ≡ o → (summary_in (rows_in ps) id ≡ Some s → IsLike (entry_in last.entries id) s) → IsLike (entry_in last.entries id) s
      by (Some t) here later = at_once t here (same_Some t s (sym (found_joined id p.rows (rows_in ps) t here) ∙ found))
      by None none later = later (sym (none_joined id p.rows (rows_in ps) none) ∙ found)
