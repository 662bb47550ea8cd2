-- Searches in the lists of a configuration, one list after the other.
use Rattle.std.proofs.Common.{◌≡◌, ◌∙◌, ℕ, zero, suc, ◌+◌, ◌-◌, ◌<◌, ◌==◌, ◌||◌, Bool, true, false, List, [], ◌∷◌, ◌++◌, length, set, slice_index_or, take, drop, Option, Some, is_some, if◌then◌else◌, refl, sym, ap, arith}
use Rattle.std.proofs.lemmas.Bool.{false≢true, true≢false}
use Rattle.std.proofs.lemmas.List.Folds.{list_any-append}
use Rattle.std.specs.List.{find, list_any, range_with_len}
use Rattle.wire_base.specs.declared.bsl.Bsl.{Bsl}
use Rattle.wire_base.specs.declared.conf.LabelRange.{LabelRange}
use Rattle.wire_base.specs.declared.conf.OwnSub.{OwnSub}
use Rattle.wire_base.specs.declared.conf.PastRange.{PastRange}
use Rattle.wire_base.specs.model.Membership.{is_used, moved, ranges_moved, subs_moved}
use Rattle.wire_base.specs.model.Place.{code_of, is_label_of, placed, ranges_of, sub_in}

first_by : (b : Bool) (s : OwnSub) (o p : Option OwnSub) → (is_some o ≡ true → o ≡ p) → is_some (if b then Some s else o) ≡ true → (if b then Some s else o) ≡ (if b then Some s else p)
first_by true s o p more h = refl
first_by false s o p more h = more h

pub known_first : (subs away : List OwnSub) (sd : ℕ) → is_some (sub_in subs sd) ≡ true → sub_in subs sd ≡ sub_in (subs ++ away) sd
known_first [] away sd h = absurd (false≢true h)
known_first (s ∷ subs) away sd h = first_by (s.sd == sd) s (sub_in subs sd) (sub_in (subs ++ away) sd) (λ k. known_first subs away sd k) h

second_by : (b : Bool) (s : OwnSub) (o p q : Option OwnSub) → (is_some o ≡ false → q ≡ p) → is_some (if b then Some s else o) ≡ false → q ≡ (if b then Some s else p)
second_by true s o p q more h = absurd (true≢false h)
second_by false s o p q more h = more h

pub known_second : (subs away : List OwnSub) (sd : ℕ) → is_some (sub_in subs sd) ≡ false → sub_in away sd ≡ sub_in (subs ++ away) sd
known_second [] away sd h = refl
known_second (s ∷ subs) away sd h = second_by (s.sd == sd) s (sub_in subs sd) (sub_in (subs ++ away) sd) (sub_in away sd) (λ k. known_second subs away sd k) h

in_placed : (sd label : ℕ) (xs : List LabelRange) → list_any (λ (x : PastRange). is_label_of label x.range) (placed sd xs) ≡ list_any (is_label_of label) xs
in_placed sd label [] = refl
in_placed sd label (x ∷ xs) = ap (λ (b : Bool). is_label_of label x || b) (in_placed sd label xs)

pub in_subs : (label : ℕ) (subs : List OwnSub) → list_any (λ (s : OwnSub). list_any (is_label_of label) s.ranges) subs ≡ is_used (ranges_of subs) label
in_subs label [] = refl
in_subs label (s ∷ subs) =
    ap (λ (b : Bool). list_any (is_label_of label) s.ranges || b) (in_subs label subs)
    ∙ sym (list_any-append (λ (x : PastRange). is_label_of label x.range) (placed s.sd s.ranges) (ranges_of subs) ∙ ap (λ (b : Bool). b || is_used (ranges_of subs) label) (in_placed s.sd label s.ranges))

used_both : (subs : List OwnSub) (ys : List PastRange) (label : ℕ) → is_used (ranges_of subs ++ ys) label ≡ (list_any (λ (s : OwnSub). list_any (is_label_of label) s.ranges) subs || is_used ys label)
used_both subs ys label = list_any-append (λ (x : PastRange). is_label_of label x.range) (ranges_of subs) ys ∙ ap (λ (b : Bool). b || is_used ys label) (sym (in_subs label subs))

pub used_first : (subs : List OwnSub) (ys : List PastRange) (label : ℕ) → list_any (λ (s : OwnSub). list_any (is_label_of label) s.ranges) subs ≡ true → list_any (λ (s : OwnSub). list_any (is_label_of label) s.ranges) subs ≡ is_used (ranges_of subs ++ ys) label
used_first subs ys label h = h ∙ sym (used_both subs ys label ∙ ap (λ (b : Bool). b || is_used ys label) h)

pub used_second : (subs : List OwnSub) (ys : List PastRange) (label : ℕ) → list_any (λ (s : OwnSub). list_any (is_label_of label) s.ranges) subs ≡ false → is_used ys label ≡ is_used (ranges_of subs ++ ys) label
used_second subs ys label h = sym (used_both subs ys label ∙ ap (λ (b : Bool). b || is_used ys label) h)

-- ---- the least number that passes a test

suc_less : (a e : ℕ) → a < e → e - a ≡ suc (e - (a + 1))
suc_less a e lt = omega (arith, lt)

pub found_later : (p : ℕ → Bool) (a e : ℕ) → a < e → p a ≡ false → find p (range_with_len (a + 1) (e - (a + 1))) ≡ find p (range_with_len a (e - a))
found_later p a e lt h = sym (ap (λ (n : ℕ). find p (range_with_len a n)) (suc_less a e lt) ∙ ap (λ (b : Bool). if b then Some a else find p (range_with_len (a + 1) (e - (a + 1)))) h)

-- ---- a list whose first element that passes a test is replaced

module _ {X : Type 0} (p : X → Bool) (f : X → X) (g : List X → List X) (cons : (x : X) (xs : List X) → g (x ∷ xs) ≡ (if p x then f x ∷ xs else x ∷ g xs)) where
  replaced_here : (xs : List X) (i : ℕ) (d x : X) → i < length xs → slice_index_or xs i d ≡ x → p x ≡ true → take i xs ++ g (drop i xs) ≡ set xs i (f x)
  replaced_here [] i d x lt is h = absurd (omega (arith, lt))
  replaced_here (y ∷ ys) zero d x lt is h = cons y ys ∙ ap (λ (b : Bool). if b then f y ∷ ys else y ∷ g ys) (ap p is ∙ h) ∙ ap (λ (z : X). f z ∷ ys) is
  replaced_here (y ∷ ys) (suc i) d x lt is h = ap (λ (l : List X). y ∷ l) (replaced_here ys i d x (omega (arith, lt)) is h)

pub range_moved : (bsl : Bsl) (label : ℕ) (xs : List LabelRange) (i : ℕ) (d x : LabelRange) → i < length xs → slice_index_or xs i d ≡ x → (code_of x.bsl == code_of bsl) ≡ true → take i xs ++ ranges_moved bsl label (drop i xs) ≡ set xs i (moved x label)
range_moved bsl label = replaced_here (λ (x : LabelRange). code_of x.bsl == code_of bsl) (λ (x : LabelRange). moved x label) (ranges_moved bsl label) (λ x xs. refl)

pub sub_moved : (sd : ℕ) (bsl : Bsl) (label : ℕ) (xs : List OwnSub) (i : ℕ) (d x : OwnSub) → i < length xs → slice_index_or xs i d ≡ x → (x.sd == sd) ≡ true → take i xs ++ subs_moved sd bsl label (drop i xs) ≡ set xs i (record x { ranges = ranges_moved bsl label x.ranges })
sub_moved sd bsl label = replaced_here (λ (x : OwnSub). x.sd == sd) (λ (x : OwnSub). record x { ranges = ranges_moved bsl label x.ranges }) (subs_moved sd bsl label) (λ x xs. refl)
