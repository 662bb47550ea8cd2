-- Sub-domains of a router, no two of which are the same: the search for one, and what is left without it.
use Rattle.std.proofs.Common.{◌≡◌, ℕ, ◌==◌, not, false, List, [], ◌∷◌, ◌++◌, Option, Some, None, refl, ap, sym, ◌∙◌, subst, inl, inr}
use Rattle.std.specs.List.{AllByRecursion}
use Rattle.std.proofs.lemmas.Bool.{false≢true, eqb-true, eq-eqb, cases_Bool, cond-true, cond-false, false_from_ne_true}
use Rattle.std.proofs.lemmas.Option.{same_Some}
use Rattle.wire_base.specs.declared.conf.OwnSub.{OwnSub}
use Rattle.wire_base.specs.model.Lists.{AreApart, or_else}
use Rattle.wire_base.specs.model.Configuration.{same_sub}
use Rattle.wire_base.specs.model.Place.{sub_in}
use Rattle.wire_base.specs.model.Membership.{subs_without}
use Rattle.wire_base.proofs.SoundLemmas.{all_right, apart_right}
use Rattle.laws_router.proofs.ListLaws.{no_None, IsSwapped}

eq_turned : (a b : ℕ) → (a == b) ≡ false → (b == a) ≡ false
eq_turned a b e = false_from_ne_true _ (λ h. false≢true (sym e ∙ eq-eqb a b (sym (eqb-true b a h))))

pub same_sub_turned : (s t : OwnSub) → same_sub s t ≡ false → same_sub t s ≡ false
same_sub_turned s t e = eq_turned s.sd t.sd e

-- ---- the search

pub each_sub : (P : OwnSub → Type 0) (subs : List OwnSub) (sd : ℕ) (s : OwnSub) → AllByRecursion P subs → sub_in subs sd ≡ Some s → P s
each_sub P [] sd s all e = absurd (no_None s e)
each_sub P (x ∷ subs) sd s all e =
    elim (cases_Bool (x.sd == sd)) [
      | inl h ↦ subst P (same_Some x s (sym (cond-true _ _ _ h) ∙ e)) all.0
      | inr h ↦ each_sub P subs sd s all.1 (sym (cond-false _ _ _ h) ∙ e)
    ]

pub sub_named : (subs : List OwnSub) (sd : ℕ) (s : OwnSub) → sub_in subs sd ≡ Some s → s.sd ≡ sd
sub_named [] sd s e = absurd (no_None s e)
sub_named (x ∷ subs) sd s e =
    elim (cases_Bool (x.sd == sd)) [
      | inl h ↦ ap (λ (y : OwnSub). y.sd) (sym (same_Some x s (sym (cond-true _ _ _ h) ∙ e))) ∙ eqb-true _ _ h
      | inr h ↦ sub_named subs sd s (sym (cond-false _ _ _ h) ∙ e)
    ]

pub sub_in_both : (xs ys : List OwnSub) (sd : ℕ) → sub_in (xs ++ ys) sd ≡ or_else (sub_in xs sd) (sub_in ys sd)
sub_in_both [] ys sd = refl
sub_in_both (x ∷ xs) ys sd =
    elim (cases_Bool (x.sd == sd)) [
      | inl h ↦ cond-true _ _ _ h ∙ sym (ap (λ o. or_else o (sub_in ys sd)) (cond-true _ _ _ h))
      | inr h ↦ cond-false _ _ _ h ∙ sub_in_both xs ys sd ∙ sym (ap (λ o. or_else o (sub_in ys sd)) (cond-false _ _ _ h))
    ]

none_of : (x : OwnSub) (subs : List OwnSub) (sd : ℕ) → x.sd ≡ sd → AllByRecursion (λ y. same_sub x y ≡ false) subs → sub_in subs sd ≡ None
none_of x [] sd e all = refl
none_of x (y ∷ subs) sd e all = cond-false _ _ _ (subst (λ n. (y.sd == n) ≡ false) e (eq_turned x.sd y.sd all.0)) ∙ none_of x subs sd e all.1

-- what is found in a first part isn't in the rest
pub none_after : (xs ys : List OwnSub) (sd : ℕ) (s : OwnSub) → AreApart same_sub (xs ++ ys) → sub_in xs sd ≡ Some s → sub_in ys sd ≡ None
none_after [] ys sd s apart e = absurd (no_None s e)
none_after (x ∷ xs) ys sd s apart e =
    elim (cases_Bool (x.sd == sd)) [
      | inl h ↦ none_of x ys sd (eqb-true _ _ h) (all_right (λ y. same_sub x y ≡ false) xs ys apart.0)
      | inr h ↦ none_after xs ys sd s apart.1 (sym (cond-false _ _ _ h) ∙ e)
    ]

first_none : {X : Type 0} (o p : Option X) → or_else o p ≡ None → o ≡ None
first_none None p e = refl
first_none (Some x) p e = absurd (no_None x (sym e))

-- ---- the order of the parts

sub_turned : (first second after : List OwnSub) (sd : ℕ) → AreApart same_sub (first ++ (second ++ after)) → sub_in (second ++ (first ++ after)) sd ≡ sub_in (first ++ (second ++ after)) sd
sub_turned first second after sd apart = by (sub_in first sd) refl
  where
    -- the search by parts, in both orders
    turned : sub_in (second ++ (first ++ after)) sd ≡ or_else (sub_in second sd) (or_else (sub_in first sd) (sub_in after sd))
    turned = sub_in_both second (first ++ after) sd ∙ ap (or_else (sub_in second sd)) (sub_in_both first after sd)

    by : (o : Option OwnSub) → sub_in first sd ≡ o → sub_in (second ++ (first ++ after)) sd ≡ sub_in (first ++ (second ++ after)) sd
    by None e =
        turned ∙ ap (λ o. or_else (sub_in second sd) (or_else o (sub_in after sd))) e ∙ sym (sub_in_both second after sd)
        ∙ sym (sub_in_both first (second ++ after) sd ∙ ap (λ o. or_else o (sub_in (second ++ after) sd)) e)
    by (Some s) e =
        let none : sub_in second sd ≡ None = first_none (sub_in second sd) (sub_in after sd) (sym (sub_in_both second after sd) ∙ none_after first (second ++ after) sd s apart e) in
        turned ∙ ap (λ o. or_else o (or_else (sub_in first sd) (sub_in after sd))) none ∙ ap (λ o. or_else o (sub_in after sd)) e
        ∙ sym (sub_in_both first (second ++ after) sd ∙ ap (λ o. or_else o (sub_in (second ++ after) sd)) e)

pub sub_swapped : (xs ys : List OwnSub) (sd : ℕ) → IsSwapped xs ys → AreApart same_sub xs → sub_in ys sd ≡ sub_in xs sd
sub_swapped xs ys sd s apart =
    let rest = apart_right same_sub s.before (s.first ++ (s.second ++ s.after)) (subst (AreApart same_sub) s.was apart) in
    ap (λ l. sub_in l sd) s.is ∙ sub_in_both s.before (s.second ++ (s.first ++ s.after)) sd
    ∙ ap (or_else (sub_in s.before sd)) (sub_turned s.first s.second s.after sd rest)
    ∙ sym (ap (λ l. sub_in l sd) s.was ∙ sub_in_both s.before (s.first ++ (s.second ++ s.after)) sd)

-- ---- without one of them

pub without_none : (subs : List OwnSub) (sd : ℕ) → sub_in subs sd ≡ None → subs_without sd subs ≡ subs
without_none [] sd e = refl
without_none (x ∷ subs) sd e =
    elim (cases_Bool (x.sd == sd)) [
      | inl h ↦ absurd (no_None x (sym e ∙ cond-true _ _ _ h))
      | inr h ↦ cond-true _ _ _ (ap not h) ∙ ap (λ l. x ∷ l) (without_none subs sd (sym (cond-false _ _ _ h) ∙ e))
    ]

-- where a sub-domain stands among others, and what is left without it
pub record IsSplit (subs : List OwnSub) (sd : ℕ) (s : OwnSub) : Type 0 where
  pub before : List OwnSub
  pub after : List OwnSub
  pub is : subs ≡ before ++ s ∷ after
  pub without : subs_without sd subs ≡ before ++ after
  pub none : sub_in before sd ≡ None

pub sub_split : (subs : List OwnSub) (sd : ℕ) (s : OwnSub) → AreApart same_sub subs → sub_in subs sd ≡ Some s → IsSplit subs sd s
sub_split [] sd s apart e = absurd (no_None s e)
sub_split (x ∷ subs) sd s apart e =
    elim (cases_Bool (x.sd == sd)) [
      | inl h ↦
          let is : x ≡ s = same_Some x s (sym (cond-true _ _ _ h) ∙ e) in
          record {
            before = [];
            after = subs;
            is = ap (λ y. y ∷ subs) is;
            without = cond-false _ _ _ (ap not h) ∙ without_none subs sd (none_of x subs sd (eqb-true _ _ h) apart.0);
            none = refl;
          }
      | inr h ↦
          let r = sub_split subs sd s apart.1 (sym (cond-false _ _ _ h) ∙ e) in
          record {
            before = x ∷ r.before;
            after = r.after;
            is = ap (λ l. x ∷ l) r.is;
            without = cond-true _ _ _ (ap not h) ∙ ap (λ l. x ∷ l) r.without;
            none = cond-false _ _ _ h ∙ r.none;
          }
    ]
