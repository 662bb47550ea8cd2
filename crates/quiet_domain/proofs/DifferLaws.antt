-- The least LSP ID at which two LSDBs differ is the lesser of the first ones of each at which they do.
use mathlib.Core.Bool.{false≢true, true≢false}
use Rattle.std.proofs.Common.{◌≡◌, Bool, true, false, not, List, [], ◌∷◌, find, if◌then◌else◌, Option, Some, None, refl, sym, ap, subst, ◌∙◌}
use Rattle.std.specs.declared.cmp.Ordering.{Ordering}
use Rattle.std.specs.declared.cmp.Ordering.TheVariants.{Less, Equal, Greater}
use Rattle.std.specs.Ordering.{is_gt, is_lt}
use Rattle.std.proofs.lemmas.Option.{same_Some}
use Rattle.wire_base.specs.declared.addresses.LspId.{LspId}
use Rattle.wire_base.specs.declared.entry.Entry.{Entry}
use Rattle.wire_base.specs.model.Control.{AreAscending, entry_in, id_order, ids_of, is_below, same_id}
use Rattle.wire_base.proofs.OrderLaws.{below_differs, below_from_above, below_trans, same_from_tie, same_is}
use Rattle.quiet_domain.specs.Live.{IsLeastDifference, differs_at, first_difference, is_same_at, lesser_id}
use Rattle.quiet_domain.proofs.LiveLaws.{IsUnder, same_self}

-- ---- there is one least difference

not_below_itself : (x : LspId) → is_below x x ≡ false
not_below_itself x = by (is_below x x) refl
  where
    by : (b : Bool) → is_below x x ≡ b → is_below x x ≡ false
    by false e = e
    by true e = absurd (true≢false (sym (same_self x) ∙ below_differs x x e))

pub one_difference : (a b : List Entry) (r s : Option LspId) → IsLeastDifference a b r → IsLeastDifference a b s → r ≡ s
one_difference a b None None d e = refl
one_difference a b None (Some y) d e = absurd (true≢false (sym (d y) ∙ e.differs))
one_difference a b (Some x) None d e = absurd (true≢false (sym (e x) ∙ d.differs))
one_difference a b (Some x) (Some y) d e = by (id_order x y) refl
  where
    by : (o : Ordering) → id_order x y ≡ o → Some x ≡ Some y
    by Less o = absurd (true≢false (sym (e.least x (ap is_lt o)) ∙ d.differs))
    by Equal o = ap Some (same_from_tie x y o)
    by Greater o = absurd (true≢false (sym (d.least y (below_from_above x y (ap is_gt o))) ∙ e.differs))

-- ---- the first of ascending LSP IDs that passes a test

-- It is there, and not above that LSP ID.
pub record IsFoundBy (found : Option LspId) (id : LspId) : Type 0 where
  pub first : LspId
  pub is : found ≡ Some first
  pub least : is_below id first ≡ false

-- an LSP ID that is not below one is not below those that are not above it
not_under : (id x y : LspId) → is_below id x ≡ false → is_below x y ≡ false → is_below id y ≡ false
not_under id x y h k = by (is_below id y) refl
  where
    ordered : is_below id y ≡ true → (o : Ordering) → id_order x y ≡ o → is_below id y ≡ false
    ordered e Less o = absurd (false≢true (sym k ∙ ap is_lt o))
    ordered e Equal o = subst (λ (z : LspId). is_below id z ≡ false) (same_from_tie x y o) h
    ordered e Greater o = absurd (false≢true (sym h ∙ below_trans id y x e (below_from_above x y (ap is_gt o))))

    by : (b : Bool) → is_below id y ≡ b → is_below id y ≡ false
    by false e = e
    by true e = ordered e (id_order x y) refl

-- the LSP ID of an entry is not below one that is below all
not_before : (es : List Entry) (x id : LspId) (e : Entry) → IsUnder x es → entry_in es id ≡ Some e → is_below id x ≡ false
not_before [] x id e all found = absurd cc
not_before (y ∷ ys) x id e all found = by (same_id y.id id) refl (λ more. not_before ys x id e all.1 more)
  where
    turned : is_below x id ≡ true → (b : Bool) → is_below id x ≡ b → is_below id x ≡ false
    turned below false h = h
    turned below true h = absurd (false≢true (sym (not_below_itself x) ∙ below_trans x id x below h))

    by : (b : Bool) → same_id y.id id ≡ b → (entry_in ys id ≡ Some e → is_below id x ≡ false) → is_below id x ≡ false
    by true s more = turned (subst (λ (z : LspId). is_below x z ≡ true) (same_is y.id id s) all.0) (is_below id x) refl
    by false s more = more (subst (λ (z : Bool). (if z then Some y else entry_in ys id) ≡ Some e) s found)

pub found_first : (p : LspId → Bool) (es : List Entry) → AreAscending (ids_of es) → (id : LspId) (e : Entry) → entry_in es id ≡ Some e → p id ≡ true → IsFoundBy (find p (ids_of es)) id
found_first p [] asc id e found passes = absurd cc
found_first p (x ∷ xs) asc id e found passes = by (same_id x.id id) refl (p x.id) refl (λ more. found_first p xs asc.1 id e more passes)
  where
    rest_of : same_id x.id id ≡ false → entry_in xs id ≡ Some e
    rest_of s = subst (λ (z : Bool). (if z then Some x else entry_in xs id) ≡ Some e) s found

    by : (b : Bool) → same_id x.id id ≡ b → (q : Bool) → p x.id ≡ q → (entry_in xs id ≡ Some e → IsFoundBy (find p (ids_of xs)) id) → IsFoundBy (find p (ids_of (x ∷ xs))) id
    by true s true h more = rw h (record { first = x.id; is = refl; least = subst (λ (z : LspId). is_below z x.id ≡ false) (same_is x.id id s) (not_below_itself x.id) })
    by true s false h more = absurd (true≢false (sym passes ∙ ap p (sym (same_is x.id id s)) ∙ h))
    by false s true h more = rw h (record { first = x.id; is = refl; least = not_before xs x.id id e asc.0 (rest_of s) })
    by false s false h more = rw h (more (rest_of s))

found_passes : (p : LspId → Bool) (xs : List LspId) (x : LspId) → find p xs ≡ Some x → p x ≡ true
found_passes p [] x is = absurd cc
found_passes p (y ∷ ys) x is = by (p y) refl (λ more. found_passes p ys x more)
  where
    by : (b : Bool) → p y ≡ b → (find p ys ≡ Some x → p x ≡ true) → p x ≡ true
    by true h more = subst (λ (z : LspId). p z ≡ true) (same_Some y x (subst (λ (z : Bool). (if z then Some y else find p ys) ≡ Some x) h is)) h
    by false h more = more (subst (λ (z : Bool). (if z then Some y else find p ys) ≡ Some x) h is)

-- ---- the lesser of two

-- of two that pass, the lesser passes
lesser_passes : (p : LspId → Bool) (r s : Option LspId) → ((x : LspId) → r ≡ Some x → p x ≡ true) → ((x : LspId) → s ≡ Some x → p x ≡ true) → (z : LspId) → lesser_id r s ≡ Some z → p z ≡ true
lesser_passes p None s h k z is = k z is
lesser_passes p (Some x) None h k z is = h z is
lesser_passes p (Some x) (Some y) h k z is = by (is_below x y) refl
  where
    by : (b : Bool) → is_below x y ≡ b → p z ≡ true
    by true e = h z (subst (λ (c : Bool). Some (if c then x else y) ≡ Some z) e is)
    by false e = k z (subst (λ (c : Bool). Some (if c then x else y) ≡ Some z) e is)

-- what is not below another is not below what that is not below
lesser_left : (r s : Option LspId) (id : LspId) → IsFoundBy r id → IsFoundBy (lesser_id r s) id
lesser_left r s id f = subst (λ (o : Option LspId). IsFoundBy (lesser_id o s) id) (sym f.is) (by s)
  where
    other : (y : LspId) (b : Bool) → is_below f.first y ≡ b → IsFoundBy (Some (if b then f.first else y)) id
    other y true e = record { first = f.first; is = refl; least = f.least }
    other y false e = record { first = y; is = refl; least = not_under id f.first y f.least e }

    by : (o : Option LspId) → IsFoundBy (lesser_id (Some f.first) o) id
    by None = record { first = f.first; is = refl; least = f.least }
    by (Some y) = other y (is_below f.first y) refl

lesser_right : (r s : Option LspId) (id : LspId) → IsFoundBy s id → IsFoundBy (lesser_id r s) id
lesser_right r s id f = subst (λ (o : Option LspId). IsFoundBy (lesser_id r o) id) (sym f.is) (by r)
  where
    turned : (x : LspId) → is_below x f.first ≡ true → (b : Bool) → is_below id x ≡ b → is_below id x ≡ false
    turned x e false h = h
    turned x e true h = absurd (false≢true (sym f.least ∙ below_trans id x f.first h e))

    other : (x : LspId) (b : Bool) → is_below x f.first ≡ b → IsFoundBy (Some (if b then x else f.first)) id
    other x true e = record { first = x; is = refl; least = turned x e (is_below id x) refl }
    other x false e = record { first = f.first; is = refl; least = f.least }

    by : (o : Option LspId) → IsFoundBy (lesser_id o (Some f.first)) id
    by None = record { first = f.first; is = refl; least = f.least }
    by (Some x) = other x (is_below x f.first) refl

module _ (a b : List Entry) (aasc : AreAscending (ids_of a)) (basc : AreAscending (ids_of b)) where
  -- at an LSP ID at which they differ, one of them has an entry
  found_there : (id : LspId) → differs_at a b id ≡ true → IsFoundBy (first_difference a b) id
  unfolding first_difference
  found_there id differs = by (entry_in a id) refl (entry_in b id) refl
    where
      by : (x : Option Entry) → entry_in a id ≡ x → (y : Option Entry) → entry_in b id ≡ y → IsFoundBy (first_difference a b) id
      by (Some x) p y q = lesser_left (find (differs_at a b) (ids_of a)) (find (differs_at a b) (ids_of b)) id (found_first (differs_at a b) a aasc id x p differs)
      by None p (Some y) q = lesser_right (find (differs_at a b) (ids_of a)) (find (differs_at a b) (ids_of b)) id (found_first (differs_at a b) b basc id y q differs)
      by None p None q = absurd (false≢true (sym (rw (p, q) refl) ∙ differs))

  passes : (z : LspId) → first_difference a b ≡ Some z → differs_at a b z ≡ true
  unfolding first_difference
  passes z is = lesser_passes (differs_at a b) (find (differs_at a b) (ids_of a)) (find (differs_at a b) (ids_of b)) (found_passes (differs_at a b) (ids_of a)) (found_passes (differs_at a b) (ids_of b)) z is

  is_same_from : (x : LspId) → (IsFoundBy (first_difference a b) x → ⊥) → is_same_at a b x ≡ true
  is_same_from x none = by (is_same_at a b x) refl
    where
      by : (c : Bool) → is_same_at a b x ≡ c → is_same_at a b x ≡ true
      by true e = e
      by false e = absurd (none (found_there x (ap not e)))

  pub least_difference : IsLeastDifference a b (first_difference a b)
  least_difference = by (first_difference a b) refl
    where
      differs_from : (c : Bool) → not c ≡ true → c ≡ false
      differs_from true h = absurd (false≢true h)
      differs_from false h = refl

      by : (o : Option LspId) → first_difference a b ≡ o → IsLeastDifference a b o
      by None e = λ x. is_same_from x (λ f. cc)
      by (Some z) e = record {
        differs = differs_from (is_same_at a b z) (passes z e);
        least = λ x below. is_same_from x (λ f. absurd (false≢true (sym f.least ∙ subst (λ (y : LspId). is_below x y ≡ true) (same_Some z f.first (sym e ∙ f.is)) below)));
      }

  -- any value that is the least difference is this one
  pub is_first_difference : (r : Option LspId) → IsLeastDifference a b r → r ≡ first_difference a b
  is_first_difference r d = one_difference a b r (first_difference a b) d least_difference
