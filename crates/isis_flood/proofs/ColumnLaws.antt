-- Rows of flags as three lists of one length.
use Rattle.std.proofs.Common.{◌≡◌, ℕ, zero, suc, ◌+◌, ◌≤◌, ◌||◌, Bool, true, false, not, if◌then◌else◌, List, [], ◌∷◌, length, get_or, set, map, drop, refl, sym, ap, ◌∙◌, arith}
use Rattle.std.specs.List.{insert, remove, list_any, position_or_len}
use Rattle.wire_base.specs.declared.addresses.LspId.{LspId}
use Rattle.wire_base.specs.model.Control.{FlagRow}
use Rattle.isis_flood.specs.declared.table.Bits.{Bits}
use Rattle.isis_flood.specs.Masks.{at_bit, links_in, rows_of, row_ids, clears, joined_rows, AreEven}

-- ---- what is read of the elements of a list

any_mapped : {X Y : Type 0} (f : X → Y) (p : Y → Bool) (xs : List X) → list_any (λ x. p (f x)) xs ≡ list_any p (map f xs)
any_mapped f p [] = refl
any_mapped f p (x ∷ xs) = ap (λ b. p (f x) || b) (any_mapped f p xs)

pub next_mapped : {X Y : Type 0} (f : X → Y) (p : Y → Bool) (xs : List X) (n : ℕ) → position_or_len (λ x. p (f x)) (drop n xs) ≡ position_or_len p (drop n (map f xs))
next_mapped f p [] zero = refl
next_mapped f p [] (suc n) = refl
next_mapped f p (x ∷ xs) zero = ap (λ m. if not (p (f x)) then 1 + m else 0) (next_mapped f p xs zero)
next_mapped f p (x ∷ xs) (suc n) = next_mapped f p xs n

pub next_same : {X : Type 0} (p q : X → Bool) (xs : List X) → ((x : X) → p x ≡ q x) → position_or_len p xs ≡ position_or_len q xs
next_same p q [] same = refl
next_same p q (x ∷ xs) same = ap (λ b. if not b then 1 + position_or_len p xs else 0) (same x) ∙ ap (λ m. if not (q x) then 1 + m else 0) (next_same p q xs same)

-- ---- lists of one length, whose rows are as many

short : {n : ℕ} → suc n ≡ 0 → ⊥
short e = absurd (omega (arith, e))

even_rest : (id : LspId) (ids : List LspId) (a b : ℕ) (srm ssn : List ℕ) → AreEven (id ∷ ids) (a ∷ srm) (b ∷ ssn) → AreEven ids srm ssn
even_rest id ids a b srm ssn even = record { sent = let e = even.sent in omega (arith, e); asked = let e = even.asked in omega (arith, e) }

joined_ids : (ids : List LspId) (srm ssn : List ℕ) → AreEven ids srm ssn → row_ids (joined_rows ids srm ssn) ≡ ids
joined_ids [] srm ssn even = refl
joined_ids (id ∷ ids) [] ssn even = absurd (short (sym even.sent))
joined_ids (id ∷ ids) (a ∷ srm) [] even = absurd (short (sym even.asked))
joined_ids (id ∷ ids) (a ∷ srm) (b ∷ ssn) even = ap (λ (l : List LspId). id ∷ l) (joined_ids ids srm ssn (even_rest id ids a b srm ssn even))

joined_srm : (ids : List LspId) (srm ssn : List ℕ) → AreEven ids srm ssn → map (λ b. b.srm) (joined_rows ids srm ssn) ≡ srm
joined_srm [] [] ssn even = refl
joined_srm [] (a ∷ srm) ssn even = absurd (short even.sent)
joined_srm (id ∷ ids) [] ssn even = absurd (short (sym even.sent))
joined_srm (id ∷ ids) (a ∷ srm) [] even = absurd (short (sym even.asked))
joined_srm (id ∷ ids) (a ∷ srm) (b ∷ ssn) even = ap (λ (l : List ℕ). a ∷ l) (joined_srm ids srm ssn (even_rest id ids a b srm ssn even))

joined_ssn : (ids : List LspId) (srm ssn : List ℕ) → AreEven ids srm ssn → map (λ b. b.ssn) (joined_rows ids srm ssn) ≡ ssn
joined_ssn [] srm [] even = refl
joined_ssn [] srm (b ∷ ssn) even = absurd (short even.asked)
joined_ssn (id ∷ ids) [] ssn even = absurd (short (sym even.sent))
joined_ssn (id ∷ ids) (a ∷ srm) [] even = absurd (short (sym even.asked))
joined_ssn (id ∷ ids) (a ∷ srm) (b ∷ ssn) even = ap (λ (l : List ℕ). b ∷ l) (joined_ssn ids srm ssn (even_rest id ids a b srm ssn even))

joined_long : (ids : List LspId) (srm ssn : List ℕ) → AreEven ids srm ssn → length (joined_rows ids srm ssn) ≡ length ids
joined_long [] srm ssn even = refl
joined_long (id ∷ ids) [] ssn even = absurd (short (sym even.sent))
joined_long (id ∷ ids) (a ∷ srm) [] even = absurd (short (sym even.asked))
joined_long (id ∷ ids) (a ∷ srm) (b ∷ ssn) even = ap suc (joined_long ids srm ssn (even_rest id ids a b srm ssn even))

-- ---- one row

joined_at : (ids : List LspId) (srm ssn : List ℕ) (i : ℕ) (d : Bits) → AreEven ids srm ssn → get_or (joined_rows ids srm ssn) i d ≡ record { id = get_or ids i d.id; srm = get_or srm i d.srm; ssn = get_or ssn i d.ssn }
joined_at [] [] [] zero d even = refl
joined_at [] [] [] (suc i) d even = refl
joined_at [] (a ∷ srm) ssn i d even = absurd (short even.sent)
joined_at [] [] (b ∷ ssn) i d even = absurd (short even.asked)
joined_at (id ∷ ids) [] ssn i d even = absurd (short (sym even.sent))
joined_at (id ∷ ids) (a ∷ srm) [] i d even = absurd (short (sym even.asked))
joined_at (id ∷ ids) (a ∷ srm) (b ∷ ssn) zero d even = refl
joined_at (id ∷ ids) (a ∷ srm) (b ∷ ssn) (suc i) d even = joined_at ids srm ssn i d (even_rest id ids a b srm ssn even)

joined_set : (ids : List LspId) (srm ssn : List ℕ) (i : ℕ) (row : Bits) → AreEven ids srm ssn → joined_rows (set ids i row.id) (set srm i row.srm) (set ssn i row.ssn) ≡ set (joined_rows ids srm ssn) i row
joined_set [] srm ssn zero row even = refl
joined_set [] srm ssn (suc i) row even = refl
joined_set (id ∷ ids) [] ssn i row even = absurd (short (sym even.sent))
joined_set (id ∷ ids) (a ∷ srm) [] i row even = absurd (short (sym even.asked))
joined_set (id ∷ ids) (a ∷ srm) (b ∷ ssn) zero row even = refl
joined_set (id ∷ ids) (a ∷ srm) (b ∷ ssn) (suc i) row even = ap (λ (l : List Bits). record { id = id; srm = a; ssn = b } ∷ l) (joined_set ids srm ssn i row (even_rest id ids a b srm ssn even))

joined_sent : (ids : List LspId) (srm ssn : List ℕ) (i m : ℕ) (d : Bits) → AreEven ids srm ssn → joined_rows ids (set srm i m) ssn ≡ set (joined_rows ids srm ssn) i (record (get_or (joined_rows ids srm ssn) i d) { srm = m })
joined_sent [] srm ssn zero m d even = refl
joined_sent [] srm ssn (suc i) m d even = refl
joined_sent (id ∷ ids) [] ssn i m d even = absurd (short (sym even.sent))
joined_sent (id ∷ ids) (a ∷ srm) [] i m d even = absurd (short (sym even.asked))
joined_sent (id ∷ ids) (a ∷ srm) (b ∷ ssn) zero m d even = refl
joined_sent (id ∷ ids) (a ∷ srm) (b ∷ ssn) (suc i) m d even = ap (λ (l : List Bits). record { id = id; srm = a; ssn = b } ∷ l) (joined_sent ids srm ssn i m d (even_rest id ids a b srm ssn even))

joined_insert : (ids : List LspId) (srm ssn : List ℕ) (i : ℕ) (row : Bits) → AreEven ids srm ssn → i ≤ length ids → joined_rows (insert ids i row.id) (insert srm i row.srm) (insert ssn i row.ssn) ≡ insert (joined_rows ids srm ssn) i row
joined_insert [] [] [] zero row even le = refl
joined_insert [] (a ∷ srm) ssn zero row even le = absurd (short even.sent)
joined_insert [] [] (b ∷ ssn) zero row even le = absurd (short even.asked)
joined_insert [] srm ssn (suc i) row even le = absurd (omega (arith, le))
joined_insert (id ∷ ids) [] ssn i row even le = absurd (short (sym even.sent))
joined_insert (id ∷ ids) (a ∷ srm) [] i row even le = absurd (short (sym even.asked))
joined_insert (id ∷ ids) (a ∷ srm) (b ∷ ssn) zero row even le = refl
joined_insert (id ∷ ids) (a ∷ srm) (b ∷ ssn) (suc i) row even le = ap (λ (l : List Bits). record { id = id; srm = a; ssn = b } ∷ l) (joined_insert ids srm ssn i row (even_rest id ids a b srm ssn even) (omega (arith, le)))

joined_remove : (ids : List LspId) (srm ssn : List ℕ) (i : ℕ) → AreEven ids srm ssn → joined_rows (remove ids i) (remove srm i) (remove ssn i) ≡ remove (joined_rows ids srm ssn) i
joined_remove [] srm ssn zero even = refl
joined_remove [] srm ssn (suc i) even = refl
joined_remove (id ∷ ids) [] ssn i even = absurd (short (sym even.sent))
joined_remove (id ∷ ids) (a ∷ srm) [] i even = absurd (short (sym even.asked))
joined_remove (id ∷ ids) (a ∷ srm) (b ∷ ssn) zero even = refl
joined_remove (id ∷ ids) (a ∷ srm) (b ∷ ssn) (suc i) even = ap (λ (l : List Bits). record { id = id; srm = a; ssn = b } ∷ l) (joined_remove ids srm ssn i (even_rest id ids a b srm ssn even))

-- ---- a link that is cleared

asked_cleared : (n link : ℕ) (ids : List LspId) (srm ssn new : List ℕ) → map (links_in n) new ≡ map (λ flags. set flags link false) (map (links_in n) ssn) → rows_of n (joined_rows ids srm new) ≡ map (clears false link) (rows_of n (joined_rows ids srm ssn))
asked_cleared n link [] srm ssn new is = refl
asked_cleared n link (id ∷ ids) [] ssn new is = refl
asked_cleared n link (id ∷ ids) (a ∷ srm) [] [] is = refl
asked_cleared n link (id ∷ ids) (a ∷ srm) [] (y ∷ new) is = absurd (short (ap length is))
asked_cleared n link (id ∷ ids) (a ∷ srm) (b ∷ ssn) [] is = absurd (short (sym (ap length is)))
asked_cleared n link (id ∷ ids) (a ∷ srm) (b ∷ ssn) (y ∷ new) is =
    ap (λ (flags : List Bool). record { id = id; srm = links_in n a; ssn = flags } ∷ rows_of n (joined_rows ids srm new)) (ap (λ l. get_or l 0 []) is)
    ∙ ap (λ (rows : List FlagRow). record { id = id; srm = links_in n a; ssn = set (links_in n b) link false } ∷ rows) (asked_cleared n link ids srm ssn new (ap (drop 1) is))

both_cleared : (n link : ℕ) (ids : List LspId) (srm ssn sent asked : List ℕ) → map (links_in n) sent ≡ map (λ flags. set flags link false) (map (links_in n) srm) → map (links_in n) asked ≡ map (λ flags. set flags link false) (map (links_in n) ssn) → rows_of n (joined_rows ids sent asked) ≡ map (clears true link) (rows_of n (joined_rows ids srm ssn))
both_cleared n link [] srm ssn sent asked s a = refl
both_cleared n link (id ∷ ids) [] ssn [] asked s a = refl
both_cleared n link (id ∷ ids) [] ssn (x ∷ sent) asked s a = absurd (short (ap length s))
both_cleared n link (id ∷ ids) (i ∷ srm) ssn [] asked s a = absurd (short (sym (ap length s)))
both_cleared n link (id ∷ ids) (i ∷ srm) [] (x ∷ sent) [] s a = refl
both_cleared n link (id ∷ ids) (i ∷ srm) [] (x ∷ sent) (y ∷ asked) s a = absurd (short (ap length a))
both_cleared n link (id ∷ ids) (i ∷ srm) (j ∷ ssn) (x ∷ sent) [] s a = absurd (short (sym (ap length a)))
both_cleared n link (id ∷ ids) (i ∷ srm) (j ∷ ssn) (x ∷ sent) (y ∷ asked) s a =
    ap (λ (flags : List Bool). record { id = id; srm = flags; ssn = links_in n y } ∷ rows_of n (joined_rows ids sent asked)) (ap (λ l. get_or l 0 []) s)
    ∙ ap (λ (flags : List Bool). record { id = id; srm = set (links_in n i) link false; ssn = flags } ∷ rows_of n (joined_rows ids sent asked)) (ap (λ l. get_or l 0 []) a)
    ∙ ap (λ (rows : List FlagRow). record { id = id; srm = set (links_in n i) link false; ssn = set (links_in n j) link false } ∷ rows) (both_cleared n link ids srm ssn sent asked (ap (drop 1) s) (ap (drop 1) a))

-- ---- the rows themselves, as contracts see them

module _ (ids : List LspId) (srm ssn : List ℕ) (rows : List Bits) (even : AreEven ids srm ssn) (same : joined_rows ids srm ssn ≡ rows) where
  pub ids_seen : ids ≡ row_ids rows
  ids_seen = sym (joined_ids ids srm ssn even) ∙ ap (λ (rs : List Bits). row_ids rs) same

  pub long_seen : length rows ≡ length ids
  long_seen = ap length (sym same) ∙ joined_long ids srm ssn even

  pub row_seen : (i : ℕ) (id : LspId) (a b : ℕ) → id ≡ get_or ids i id → a ≡ get_or srm i a → b ≡ get_or ssn i b → record { id = id; srm = a; ssn = b } ≡ get_or rows i (record { id = id; srm = a; ssn = b })
  row_seen i id a b is sent asked =
      let row : Bits = record { id = id; srm = a; ssn = b } in
      ap (λ (x : LspId). record { id = x; srm = a; ssn = b }) is ∙ ap (λ (x : ℕ). record { id = get_or ids i id; srm = x; ssn = b }) sent ∙ ap (λ (x : ℕ). record { id = get_or ids i id; srm = get_or srm i a; ssn = x }) asked
      ∙ sym (joined_at ids srm ssn i row even) ∙ ap (λ (rs : List Bits). get_or rs i row) same

  pub set_seen : (i : ℕ) (row : Bits) (sent asked : List ℕ) → sent ≡ set srm i row.srm → asked ≡ set ssn i row.ssn → joined_rows (set ids i row.id) sent asked ≡ set rows i row
  set_seen i row sent asked s a =
      ap (λ (l : List ℕ). joined_rows (set ids i row.id) l asked) s ∙ ap (λ (l : List ℕ). joined_rows (set ids i row.id) (set srm i row.srm) l) a
      ∙ joined_set ids srm ssn i row even ∙ ap (λ (rs : List Bits). set rs i row) same

  pub sent_seen : (i m : ℕ) (d : Bits) (sent : List ℕ) → sent ≡ set srm i m → joined_rows ids sent ssn ≡ set rows i (record (get_or rows i d) { srm = m })
  sent_seen i m d sent s =
      ap (λ (l : List ℕ). joined_rows ids l ssn) s ∙ joined_sent ids srm ssn i m d even ∙ ap (λ (rs : List Bits). set rs i (record (get_or rs i d) { srm = m })) same

  pub insert_seen : (i : ℕ) (row : Bits) (more : List LspId) (sent asked : List ℕ) → i ≤ length rows → more ≡ insert ids i row.id → sent ≡ insert srm i row.srm → asked ≡ insert ssn i row.ssn → joined_rows more sent asked ≡ insert rows i row
  insert_seen i row more sent asked le is s a =
      ap (λ (l : List LspId). joined_rows l sent asked) is ∙ ap (λ (l : List ℕ). joined_rows (insert ids i row.id) l asked) s ∙ ap (λ (l : List ℕ). joined_rows (insert ids i row.id) (insert srm i row.srm) l) a
      ∙ joined_insert ids srm ssn i row even (omega (arith, le, long_seen)) ∙ ap (λ (rs : List Bits). insert rs i row) same

  pub remove_seen : (i : ℕ) (fewer : List LspId) (sent asked : List ℕ) → fewer ≡ remove ids i → sent ≡ remove srm i → asked ≡ remove ssn i → joined_rows fewer sent asked ≡ remove rows i
  remove_seen i fewer sent asked is s a =
      ap (λ (l : List LspId). joined_rows l sent asked) is ∙ ap (λ (l : List ℕ). joined_rows (remove ids i) l asked) s ∙ ap (λ (l : List ℕ). joined_rows (remove ids i) (remove srm i) l) a
      ∙ joined_remove ids srm ssn i even ∙ ap (λ (rs : List Bits). remove rs i) same

  srm_seen : map (λ b. b.srm) rows ≡ srm
  srm_seen = ap (λ (rs : List Bits). map (λ b. b.srm) rs) (sym same) ∙ joined_srm ids srm ssn even

  ssn_seen : map (λ b. b.ssn) rows ≡ ssn
  ssn_seen = ap (λ (rs : List Bits). map (λ b. b.ssn) rs) (sym same) ∙ joined_ssn ids srm ssn even

  pub any_seen : (link : ℕ) (answer : Bool) → answer ≡ list_any (λ mask. at_bit mask link) srm → answer ≡ list_any (λ b. at_bit b.srm link) rows
  any_seen link answer is = is ∙ sym (any_mapped (λ (b : Bits). b.srm) (λ mask. at_bit mask link) rows ∙ ap (list_any (λ mask. at_bit mask link)) srm_seen)

  pub next_sent_seen : (link from place : ℕ) → place ≡ from + position_or_len (λ mask. at_bit mask link) (drop from srm) → place ≡ from + position_or_len (λ b. at_bit b.srm link) (drop from rows)
  next_sent_seen link from place is =
      is ∙ ap (λ m. from + m) (sym (next_mapped (λ (b : Bits). b.srm) (λ mask. at_bit mask link) rows from ∙ ap (λ (l : List ℕ). position_or_len (λ mask. at_bit mask link) (drop from l)) srm_seen))

  pub next_asked_seen : (link from place : ℕ) → place ≡ from + position_or_len (λ mask. at_bit mask link) (drop from ssn) → place ≡ from + position_or_len (λ b. at_bit b.ssn link) (drop from rows)
  next_asked_seen link from place is =
      is ∙ ap (λ m. from + m) (sym (next_mapped (λ (b : Bits). b.ssn) (λ mask. at_bit mask link) rows from ∙ ap (λ (l : List ℕ). position_or_len (λ mask. at_bit mask link) (drop from l)) ssn_seen))

  pub same_ids : (sent asked : List ℕ) → AreEven ids sent asked → row_ids (joined_rows ids sent asked) ≡ row_ids rows
  same_ids sent asked still = joined_ids ids sent asked still ∙ ids_seen

  pub asked_seen : (both : Bool) (link n : ℕ) (asked : List ℕ) → both ≡ false → map (links_in n) asked ≡ map (λ flags. set flags link false) (map (links_in n) ssn) → rows_of n (joined_rows ids srm asked) ≡ map (clears both link) (rows_of n rows)
  asked_seen both link n asked which is =
      asked_cleared n link ids srm ssn asked is ∙ ap (λ (rs : List Bits). map (clears false link) (rows_of n rs)) same ∙ ap (λ (b : Bool). map (clears b link) (rows_of n rows)) (sym which)

  pub both_seen : (both : Bool) (link n : ℕ) (sent asked : List ℕ) → both ≡ true → map (links_in n) sent ≡ map (λ flags. set flags link false) (map (links_in n) srm) → map (links_in n) asked ≡ map (λ flags. set flags link false) (map (links_in n) ssn)
      → rows_of n (joined_rows ids sent asked) ≡ map (clears both link) (rows_of n rows)
  both_seen both link n sent asked which s a =
      both_cleared n link ids srm ssn sent asked s a ∙ ap (λ (rs : List Bits). map (clears true link) (rows_of n rs)) same ∙ ap (λ (b : Bool). map (clears b link) (rows_of n rows)) (sym which)
