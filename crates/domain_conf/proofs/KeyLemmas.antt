-- The keys of a table ascend, so the first that isn't known is the least.
use Rattle.std.proofs.Common.{◌≡◌, ℕ, Bool, true, false, not, cond, List, [], ◌∷◌, filter, Option, Some, None, String, Global, Less, string_bytes, nat_cmp, refl, sym, ap, ◌∙◌, subst}
use Rattle.std.proofs.lemmas.Cmp.{nat_list_cmp_total}
use Rattle.std.specs.Cmp.{IsTotalOrder}
use Rattle.std.specs.Cmp.Lexicographic.{slice_cmp}
use Rattle.std.specs.List.{AllByRecursion}
use Rattle.std.specs.List.Sorted.{IsStrictlySortedBy}
use Rattle.std.specs.Map.{keys_of as map_keys}
use Rattle.std.specs.Ordering.{is_lt}
use Rattle.std.specs.String.{string_cmp}
use Rattle.toml.specs.declared.value.Value.{Value}
use Rattle.toml.specs.View.{members_view}
use Rattle.domain_conf.specs.Fields.{keys_of, is_among, lesser, least, unknown_in}

-- a key that comes before all others is the least
lesser_first : (k l : List ℕ) → slice_cmp nat_cmp k l ≡ Less → lesser k (Some l) ≡ k
lesser_first k l before = rw (IsTotalOrder.antisymm nat_list_cmp_total l k, before) refl

least_among : (P : List ℕ → Type 0) (ks : List (List ℕ)) (l : List ℕ) → AllByRecursion P ks → least ks ≡ Some l → P l
least_among P [] l all is = cc
least_among P (k ∷ ks) l all is = by_rest (least ks) refl is (λ m e. least_among P ks m all.1 e)
  where
    by_order : (b : Bool) (m : List ℕ) → P m → Some (cond b m k) ≡ Some l → P l
    by_order true m one is = let e : m ≡ l = cc in subst P e one
    by_order false m one is = let e : k ≡ l = cc in subst P e all.0

    by_rest : (o : Option (List ℕ)) → least ks ≡ o → Some (lesser k o) ≡ Some l → ((m : List ℕ) → least ks ≡ Some m → P m) → P l
    by_rest None e is more = let e : k ≡ l = cc in subst P e all.0
    by_rest (Some m) e is more = by_order (is_lt (slice_cmp nat_cmp m k)) m (more m e) is

least_first : (k : List ℕ) (ks : List (List ℕ)) → AllByRecursion (λ l. slice_cmp nat_cmp k l ≡ Less) ks → least (k ∷ ks) ≡ Some k
least_first k ks before = by_least (least ks) refl
  where
    by_least : (o : Option (List ℕ)) → least ks ≡ o → Some (lesser k o) ≡ Some k
    by_least None is = refl
    by_least (Some l) is = ap Some (lesser_first k l (least_among (λ l. slice_cmp nat_cmp k l ≡ Less) ks l before is))

all_filter : (P : List ℕ → Type 0) (p : List ℕ → Bool) (ks : List (List ℕ)) → AllByRecursion P ks → AllByRecursion P (filter p ks)
all_filter P p [] all = tt
all_filter P p (k ∷ ks) all = by_test (p k) (all_filter P p ks all.1)
  where
    by_test : (b : Bool) → AllByRecursion P (filter p ks) → AllByRecursion P (cond b (k ∷ filter p ks) (filter p ks))
    by_test true more = (all.0, more)
    by_test false more = more

-- those after the first come after it
all_after : (k : String Global) (es : List (String Global × Value)) → AllByRecursion (λ l. string_cmp k l ≡ Less) (map_keys es) → AllByRecursion (λ l. slice_cmp nat_cmp (string_bytes k) l ≡ Less) (keys_of (members_view es))
all_after k [] after = tt
all_after k (e ∷ es) after = (after.0, all_after k es after.1)

-- the first key isn't known
pub unknown_first : (known : List (List ℕ)) (k : String Global) (v : Value) (es all : List (String Global × Value)) (whole : Option (List ℕ)) → is_among known (string_bytes k) ≡ false
    → all ≡ (k, v) ∷ es → unknown_in known (keys_of (members_view all)) ≡ whole → IsStrictlySortedBy string_cmp (map_keys all) → Some (string_bytes k) ≡ whole
unfolding unknown_in IsStrictlySortedBy
unknown_first known k v es all whole out is so_far ascend =
    let after : IsStrictlySortedBy string_cmp (map_keys ((k, v) ∷ es)) = subst (λ (es : List (String Global × Value)). IsStrictlySortedBy string_cmp (map_keys es)) is ascend in
    let p : List ℕ → Bool = λ l. not (is_among known l) in
    let kept : filter p (string_bytes k ∷ keys_of (members_view es)) ≡ string_bytes k ∷ filter p (keys_of (members_view es)) = rw out refl in
    sym (least_first (string_bytes k) (filter p (keys_of (members_view es))) (all_filter (λ l. slice_cmp nat_cmp (string_bytes k) l ≡ Less) p (keys_of (members_view es)) (all_after k es after.0)))
    ∙ sym (ap least kept)
    ∙ sym (ap (λ (es : List (String Global × Value)). unknown_in known (keys_of (members_view es))) is)
    ∙ so_far

-- the first key is known
pub unknown_next : (known : List (List ℕ)) (k : String Global) (v : Value) (es all : List (String Global × Value)) (whole : Option (List ℕ)) → is_among known (string_bytes k) ≡ true
    → all ≡ (k, v) ∷ es → unknown_in known (keys_of (members_view all)) ≡ whole → IsStrictlySortedBy string_cmp (map_keys all)
    → (unknown_in known (keys_of (members_view es)) ≡ whole) × IsStrictlySortedBy string_cmp (map_keys es)
unfolding unknown_in IsStrictlySortedBy
unknown_next known k v es all whole there is so_far ascend =
    let after : IsStrictlySortedBy string_cmp (map_keys ((k, v) ∷ es)) = subst (λ (es : List (String Global × Value)). IsStrictlySortedBy string_cmp (map_keys es)) is ascend in
    let p : List ℕ → Bool = λ l. not (is_among known l) in
    let passed : filter p (string_bytes k ∷ keys_of (members_view es)) ≡ filter p (keys_of (members_view es)) = rw there refl in
    (sym (ap least passed) ∙ sym (ap (λ (es : List (String Global × Value)). unknown_in known (keys_of (members_view es))) is) ∙ so_far, after.1)

-- there is no key
pub unknown_none : (known : List (List ℕ)) (all : List (String Global × Value)) (whole : Option (List ℕ)) → all ≡ [] → unknown_in known (keys_of (members_view all)) ≡ whole → None ≡ whole
unfolding unknown_in
unknown_none known all whole is so_far = sym (ap (λ (es : List (String Global × Value)). unknown_in known (keys_of (members_view es))) is) ∙ so_far
