-- Of LSPs of one journal the sequence numbers alone tell which is newer: there is no LSP confusion.
use Rattle.std.proofs.Common.{◌≡◌, ℕ, ◌≤◌, ◌==◌, ◌||◌, nat_lt, Bool, true, false, if◌then◌else◌, List, Option, Some, None, refl, sym, ap, ◌∙◌, arith}
use Rattle.std.proofs.lemmas.Bool.{eqb-true, eqb-false, eq-eqb, ne_eqb, ltb-true}
use Rattle.wire_base.specs.declared.addresses.LspId.{LspId}
use Rattle.wire_base.specs.declared.entry.Age.{Age}
use Rattle.wire_base.specs.declared.entry.Age.TheVariants.{Unknown, Newer, Equal, Older, Confused}
use Rattle.wire_base.specs.declared.entry.Entry.{Entry}
use Rattle.wire_base.specs.declared.triple.Summary.{Summary}
use Rattle.wire_base.specs.model.Control.{age_of, age_by_life, entry_in, is_newer_or_confused, is_unknown, summary_of}
use Rattle.domain_model.proofs.FlagLaws.{found_each, found_id, same_id_is}
use Rattle.domain_model.specs.Truth.{head_of}
use Rattle.laws_settle.specs.Fresh.{AreOfJournal, IsOfJournal, IsRowOfJournal}

-- an entry's number against another's
abbrev pub number_age : ℕ → ℕ → Age
number_age n m = if n == m then Equal else (if nat_lt n m then Newer else Older)

-- of two entries neither is unknown, and the checksums do not matter
pub never_confused : (n m : ℕ) → number_age n m ≡ Confused → ⊥
never_confused n m = by (n == m) (nat_lt n m)
  where
    by : (a b : Bool) → (if a then Equal else (if b then Newer else Older)) ≡ Confused → ⊥
    by true b h = cc
    by false true h = cc
    by false false h = cc

pub never_unknown : (n m : ℕ) → number_age n m ≡ Unknown → ⊥
never_unknown n m = by (n == m) (nat_lt n m)
  where
    by : (a b : Bool) → (if a then Equal else (if b then Newer else Older)) ≡ Unknown → ⊥
    by true b h = cc
    by false true h = cc
    by false false h = cc

-- one that isn't higher is neither unknown nor newer
pub low_known : (n m : ℕ) → m ≤ n → (is_unknown (number_age n m) || is_newer_or_confused (number_age n m)) ≡ false
low_known n m low = by (n == m) (nat_lt n m) refl
  where
    by : (a b : Bool) → nat_lt n m ≡ b → (is_unknown (if a then Equal else (if b then Newer else Older)) || is_newer_or_confused (if a then Equal else (if b then Newer else Older))) ≡ false
    by true b h = refl
    by false true h = absurd (let more = ltb-true n m h in omega (arith, low, more))
    by false false h = refl

module _ (journal : LspId → ℕ → Entry) where
  pub told_age : (e : Entry) (s : Summary) → e.id ≡ s.id → IsRowOfJournal journal (summary_of e) → IsRowOfJournal journal s → age_of (Some e) s ≡ number_age e.seq s.seq
  told_age e s same here there = by (e.seq == s.seq) refl (s.seq == 0) refl
    where
      by : (a : Bool) → (e.seq == s.seq) ≡ a → (b : Bool) → (s.seq == 0) ≡ b
          → (if a then (if b then Equal else age_by_life (e.life == 0) (s.life == 0) (e.sum == s.sum)) else (if nat_lt e.seq s.seq then Newer else Older)) ≡ (if a then Equal else (if nat_lt e.seq s.seq then Newer else Older))
      by true p true q = refl
      by true p false q =
          let is : e.seq ≡ s.seq = eqb-true e.seq s.seq p in
          let some : s.seq ≡ 0 → ⊥ = eqb-false s.seq 0 q in
          let lives = here.live (omega (arith, is, some)) in
          let living = there.live (omega (arith, some)) in
          let sums : e.sum ≡ s.sum = here.sum (omega (arith, is, some)) ∙ ap (λ (i : LspId). (journal i e.seq).sum) same ∙ ap (λ (n : ℕ). (journal s.id n).sum) is ∙ sym (there.sum (omega (arith, some))) in
          rw (ne_eqb e.life 0 (λ z. omega (arith, z, lives)), ne_eqb s.life 0 (λ z. omega (arith, z, living)), eq-eqb e.sum s.sum sums) refl
      by false p b q = refl

  row_of : (e : Entry) → IsOfJournal journal (head_of e) e.content → IsRowOfJournal journal (summary_of e)
  row_of e h = record { live = h.live; sum = h.sum }

  -- the entry of an LSP ID against a row
  pub found_age : (es : List Entry) (s : Summary) (e : Entry) → AreOfJournal journal es → IsRowOfJournal journal s → entry_in es s.id ≡ Some e → age_of (Some e) s ≡ number_age e.seq s.seq
  found_age es s e all row found = told_age e s (same_id_is e.id s.id (found_id es s.id e found)) (row_of e (found_each (λ x. IsOfJournal journal (head_of x) x.content) es s.id e all found)) row

  pub told_apart : (es : List Entry) (s : Summary) → AreOfJournal journal es → IsRowOfJournal journal s → age_of (entry_in es s.id) s ≡ Confused → ⊥
  told_apart es s all row = by (entry_in es s.id) refl
    where
      by : (o : Option Entry) → entry_in es s.id ≡ o → age_of o s ≡ Confused → ⊥
      by None found h = cc
      by (Some e) found h = never_confused e.seq s.seq (sym (found_age es s e all row found) ∙ h)

  pub unknown_none : (es : List Entry) (s : Summary) → AreOfJournal journal es → IsRowOfJournal journal s → age_of (entry_in es s.id) s ≡ Unknown → entry_in es s.id ≡ None
  unknown_none es s all row = by (entry_in es s.id) refl
    where
      by : (o : Option Entry) → entry_in es s.id ≡ o → age_of o s ≡ Unknown → o ≡ None
      by None found h = refl
      by (Some e) found h = absurd (never_unknown e.seq s.seq (sym (found_age es s e all row found) ∙ h))

  -- an LSP whose number isn't above that of its entry
  pub low_age : (es : List Entry) (s : Summary) (e : Entry) → AreOfJournal journal es → IsRowOfJournal journal s → entry_in es s.id ≡ Some e → s.seq ≤ e.seq → (is_unknown (age_of (entry_in es s.id) s) || is_newer_or_confused (age_of (entry_in es s.id) s)) ≡ false
  low_age es s e all row found low =
      ap (λ (a : Age). is_unknown a || is_newer_or_confused a) (ap (λ (o : Option Entry). age_of o s) found ∙ found_age es s e all row found) ∙ low_known e.seq s.seq low
