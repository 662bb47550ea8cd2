-- Maps and sets that are kept beside a list, for look-ups in it.
use Rattle.std.proofs.Common.{◌≡◌, ℕ, ◌+◌, ◌<◌, Bool, true, false, cond, ◌||◌, List, [], ◌∷◌, ◌++◌, length, Option, Some, None, Vec, Global, nat_cmp, is_eq, refl, sym, ap, subst, ◌∙◌, ⊎_elim, arith, zero-add, add-zero, length-append, suc, is_some}
use Rattle.std.proofs.lemmas.Bool.{cases_Bool, cond-true, cond-false, or_parts}
use Rattle.std.proofs.lemmas.List.Folds.{list_any-append}
use Rattle.std.proofs.lemmas.Map.Text.{is_eq-slice_cmp}
use Rattle.std.specs.BTreeMap as tree
use Rattle.std.specs.BTreeMap.{BTreeMap}
use Rattle.std.specs.BTreeSet as sorted
use Rattle.std.specs.BTreeSet.{BTreeSet}
use Rattle.std.specs.Cmp.{eq_by_cmp_equiv}
use Rattle.std.specs.Cmp.Lexicographic.{slice_cmp, bytes_decides, nat_list_eq_equiv, nat_list_cmp_total}
use Rattle.std.specs.List.{list_any, position_from}
use Rattle.std.specs.Map.{lookup, KeepsOthers}
use Rattle.std.specs.Str.{bytes_eq}
use Rattle.wire_base.specs.declared.limits.TheConstants.{MOST_ROUTERS}
use Rattle.wire_base.specs.declared.addresses.SystemId.{SystemId}
use Rattle.wire_base.specs.declared.addresses.Ipv4.{Ipv4}
use Rattle.domain_conf.specs.RouterIndex.{AreIndexed, found_at, system_cmp, prefix_cmp}
use Rattle.domain_conf.specs.Routers.{has_name, has_system, has_prefix, place_of}
use Rattle.domain_conf.specs.declared.routers.RouterEntry.{RouterEntry}

-- ---- a map whose keys are octets

apart : (bs cs ks : List ℕ) → bytes_eq bs cs ≡ false → is_eq (slice_cmp nat_cmp bs ks) ≡ true → is_eq (slice_cmp nat_cmp cs ks) ≡ false
apart bs cs ks n y = is_eq-slice_cmp cs ks ∙ (nat_list_eq_equiv.symm cs ks ∙ (sym (nat_list_eq_equiv.congr bs ks cs (sym (is_eq-slice_cmp bs ks) ∙ y)) ∙ n))

-- what a map has at any octets after a value was put at some
pub found_at-put : (bs : List ℕ) (m n : BTreeMap (Vec ℕ Global) ℕ) (w : Option ℕ) → tree.UpdatesBy (λ x y. slice_cmp nat_cmp x.items y.items) (λ k. slice_cmp nat_cmp bs k.items) m n w
    → (cs : List ℕ) → found_at n cs ≡ cond (bytes_eq bs cs) w (found_at m cs)
unfolding KeepsOthers
found_at-put bs m n w h cs =
    ⊎_elim
    (λ y. subst (λ l. found_at n l ≡ w) ((bytes_decides bs cs).0 y) h.1 ∙ sym (cond-true (bytes_eq bs cs) w (found_at m cs) y))
    (λ e. h.3 _ (λ x y. (eq_by_cmp_equiv nat_list_cmp_total).congr cs x.items y.items) (λ k. apart bs cs k.items e) ∙ sym (cond-false (bytes_eq bs cs) w (found_at m cs) e))
    (cases_Bool (bytes_eq bs cs))

-- ---- places in a list

-- one more at the end, which is the first to pass
position-push_new : {X : Type 0} (p : X → Bool) (i : ℕ) (xs : List X) (x : X) → list_any p xs ≡ false → p x ≡ true → position_from p i (xs ++ x ∷ []) ≡ Some (i + length xs)
position-push_new p i [] x none is = cond-true (p x) (Some i) None is ∙ ap Some (sym (add-zero i))
position-push_new p i (y ∷ xs) x none is =
    let parts = or_parts (p y) (list_any p xs) none in
    let further : (i + 1) + length xs ≡ i + suc (length xs) = omega arith in
    cond-false (p y) (Some i) (position_from p (i + 1) (xs ++ x ∷ [])) parts.0 ∙ (position-push_new p (i + 1) xs x parts.1 is ∙ ap Some further)

-- one more at the end, which doesn't pass
position-push_other : {X : Type 0} (p : X → Bool) (i : ℕ) (xs : List X) (x : X) → p x ≡ false → position_from p i (xs ++ x ∷ []) ≡ position_from p i xs
position-push_other p i [] x is = cond-false (p x) (Some i) None is
position-push_other p i (y ∷ xs) x is = ap (cond (p y) (Some i)) (position-push_other p (i + 1) xs x is)

-- ---- routers

-- the place of a name after one more router, whose name is new
place_of-push : (entries : List RouterEntry) (e : RouterEntry) (name : List ℕ) → list_any (has_name e.name) entries ≡ false
    → place_of (entries ++ e ∷ []) name ≡ cond (bytes_eq e.name name) (Some (length entries)) (place_of entries name)
unfolding place_of
place_of-push entries e name unused =
    ⊎_elim
    (λ y. let same : e.name ≡ name = (bytes_decides e.name name).0 y in
    position-push_new (has_name name) 0 entries e (subst (λ (n : List ℕ). list_any (has_name n) entries ≡ false) same unused) y
    ∙ (ap Some (zero-add (length entries)) ∙ sym (cond-true (bytes_eq e.name name) (Some (length entries)) (position_from (has_name name) 0 entries) y)))
    (λ n. position-push_other (has_name name) 0 entries e n ∙ sym (cond-false (bytes_eq e.name name) (Some (length entries)) (position_from (has_name name) 0 entries) n))
    (cases_Bool (bytes_eq e.name name))

-- one more at the end: whether one passes
pub any-push : {X : Type 0} (p : X → Bool) (xs : List X) (x : X) → list_any p (xs ++ x ∷ []) ≡ cond (p x) true (list_any p xs)
any-push p xs x = list_any-append p xs (x ∷ []) ∙ by_cases (list_any p xs) (p x)
  where
    by_cases : (a b : Bool) → (a || (b || false)) ≡ cond b true a
    by_cases true true = refl
    by_cases true false = refl
    by_cases false true = refl
    by_cases false false = refl

pub indexed_none : (entries : List RouterEntry) (places : BTreeMap (Vec ℕ Global) ℕ) (systems : BTreeSet SystemId) (prefixes : BTreeSet Ipv4) → entries ≡ [] → places.entries ≡ [] → systems.keys ≡ [] → prefixes.keys ≡ []
    → AreIndexed entries places systems prefixes
unfolding place_of
indexed_none entries places systems prefixes no_entry no_place no_system no_prefix =
    record {
      few = let e : length entries ≡ 0 = ap length no_entry in omega arith;
      places_are = λ name. ap (lookup (tree.is_at (λ (k : Vec ℕ Global). slice_cmp nat_cmp name k.items))) no_place ∙ sym (ap (position_from (has_name name) 0) no_entry);
      systems_are = λ s. ap (list_any (tree.is_at (system_cmp s))) no_system ∙ sym (ap (list_any (has_system s.0)) no_entry);
      prefixes_are = λ p. ap (list_any (tree.is_at (prefix_cmp p))) no_prefix ∙ sym (ap (list_any (has_prefix p.0)) no_entry);
    }

pub indexed_more : (entries grown : List RouterEntry) (e : RouterEntry) (places more_places : BTreeMap (Vec ℕ Global) ℕ) (systems more_systems : BTreeSet SystemId) (prefixes more_prefixes : BTreeSet Ipv4)
    → AreIndexed entries places systems prefixes → length entries < MOST_ROUTERS → list_any (has_name e.name) entries ≡ false → grown ≡ entries ++ e ∷ []
    → ((octets : List ℕ) → found_at more_places octets ≡ cond (bytes_eq e.name octets) (Some (length entries)) (found_at places octets))
    → ((s : SystemId) → sorted.contains system_cmp more_systems s ≡ cond (bytes_eq e.system.0 s.0) true (sorted.contains system_cmp systems s))
    → ((p : Ipv4) → sorted.contains prefix_cmp more_prefixes p ≡ cond (bytes_eq e.prefix.0 p.0) true (sorted.contains prefix_cmp prefixes p))
    → AreIndexed grown more_places more_systems more_prefixes
indexed_more entries grown e places more_places systems more_systems prefixes more_prefixes h room unused is put_place put_system put_prefix =
    subst (λ (es : List RouterEntry). AreIndexed es more_places more_systems more_prefixes) (sym is) (record {
      few = omega (arith, length-append entries (e ∷ []));
      places_are = λ name. put_place name ∙ (ap (cond (bytes_eq e.name name) (Some (length entries))) (h.places_are name) ∙ sym (place_of-push entries e name unused));
      systems_are = λ s. put_system s ∙ (ap (cond (bytes_eq e.system.0 s.0) true) (h.systems_are s) ∙ sym (any-push (has_system s.0) entries e));
      prefixes_are = λ p. put_prefix p ∙ (ap (cond (bytes_eq e.prefix.0 p.0) true) (h.prefixes_are p) ∙ sym (any-push (has_prefix p.0) entries e));
    })

-- ---- sets whose keys are seen as octets

module _ {K : Type 0} (octets : K → List ℕ) where
  -- what a set has after a key was put into it
  pub contains-put : (k : K) (old new : BTreeSet K) → sorted.Updates (λ x y. slice_cmp nat_cmp (octets x) (octets y)) old new k true
      → (q : K) → sorted.contains (λ x y. slice_cmp nat_cmp (octets x) (octets y)) new q ≡ cond (bytes_eq (octets k) (octets q)) true (sorted.contains (λ x y. slice_cmp nat_cmp (octets x) (octets y)) old q)
  contains-put k old new h q = h.0 q ∙ ap (λ (b : Bool). cond b true (sorted.contains (λ x y. slice_cmp nat_cmp (octets x) (octets y)) old q)) (is_eq-slice_cmp (octets k) (octets q))

-- a name has a place where a router has the name
is_some-position : {X : Type 0} (p : X → Bool) (i : ℕ) (xs : List X) → is_some (position_from p i xs) ≡ list_any p xs
is_some-position p i [] = refl
is_some-position p i (x ∷ xs) = by_test (p x) (is_some-position p (i + 1) xs)
  where
    by_test : (b : Bool) → is_some (position_from p (i + 1) xs) ≡ list_any p xs → is_some (cond b (Some i) (position_from p (i + 1) xs)) ≡ (b || list_any p xs)
    by_test true more = refl
    by_test false more = more

pub is_some-place_of : (routers : List RouterEntry) (name : List ℕ) → is_some (place_of routers name) ≡ list_any (has_name name) routers
unfolding place_of
is_some-place_of routers name = is_some-position (has_name name) 0 routers
