-- The routers of a consistent domain: each is sound, all have the same kinds and the same table, and none has another's
-- system or prefix. An earlier configuration of a router has its system, its prefix, its kinds and its table.
use Rattle.std.proofs.Common.{◌≡◌, ℕ, zero, suc, ◌==◌, Bool, true, false, List, [], ◌∷◌, slice_get, Some, refl, sym, ap, subst, ◌∙◌}
use mathlib.Core.Bool.{false≢true, true≢false}
use Rattle.std.specs.List.{AllByRecursion}
use Rattle.std.specs.Str.{bytes_eq}
use Rattle.std.proofs.lemmas.Bool.{and_parts, eqb-true}
use Rattle.std.proofs.lemmas.Option.{same_Some}
use Rattle.wire_base.specs.declared.addresses.SystemId.{SystemId}
use Rattle.wire_base.specs.declared.conf.RouterConf.{RouterConf}
use Rattle.wire_base.specs.model.Configuration.{DomainConf, IsConsistent, IsSound, IsAlike, AreAlike, KeepsKinds, same_system, same_prefix}
use Rattle.wire_base.specs.model.Lists.{AreApart}
use Rattle.laws_router.proofs.MeaningLaws.{earlier_self}
use Rattle.laws_router.specs.Becoming.{IsEarlier}
use Rattle.domain_model.specs.Truth.{IsAmong}
use Rattle.domain_model.proofs.EachLaws.{each_got}
use Rattle.laws_router.proofs.EntryLaws.{bytes_self}

-- ---- octets

pub bytes_is : (xs ys : List ℕ) → bytes_eq xs ys ≡ true → xs ≡ ys
bytes_is [] [] h = refl
bytes_is [] (y ∷ ys) h = absurd (false≢true h)
bytes_is (x ∷ xs) [] h = absurd (false≢true h)
bytes_is (x ∷ xs) (y ∷ ys) h =
    let p = and_parts (x == y) (bytes_eq xs ys) h in
    ap (λ (n : ℕ). n ∷ xs) (eqb-true x y p.0) ∙ ap (λ (l : List ℕ). y ∷ l) (bytes_is xs ys p.1)

pub bytes_from : (xs ys : List ℕ) → xs ≡ ys → bytes_eq xs ys ≡ true
bytes_from xs ys e = subst (λ (l : List ℕ). bytes_eq xs l ≡ true) e (bytes_self xs)

pub bytes_turned : (xs ys : List ℕ) → bytes_eq xs ys ≡ true → bytes_eq ys xs ≡ true
bytes_turned xs ys h = bytes_from ys xs (sym (bytes_is xs ys h))

-- ---- what no two share

apart_later : {X : Type 0} (same : X → X → Bool) (x y : X) (xs : List X) (j : ℕ) → AllByRecursion (λ z. same x z ≡ false) xs → slice_get xs j ≡ Some y → same x y ≡ false
apart_later same x y xs j all there = each_got (λ z. same x z ≡ false) xs j y all there

-- two that are the same by a test stand at one place
pub apart_place : {X : Type 0} (same : X → X → Bool) → ((a b : X) → same a b ≡ true → same b a ≡ true) → (xs : List X) (i j : ℕ) (x y : X) → AreApart same xs → slice_get xs i ≡ Some x → slice_get xs j ≡ Some y → same x y ≡ true → i ≡ j
apart_place same turned [] i j x y apart p q h = cc
apart_place same turned (z ∷ zs) zero zero x y apart p q h = refl
apart_place same turned (z ∷ zs) zero (suc j) x y apart p q h = absurd (true≢false (sym h ∙ ap (λ a. same a y) (sym (same_Some z x p)) ∙ apart_later same z y zs j apart.0 q))
apart_place same turned (z ∷ zs) (suc i) zero x y apart p q h = absurd (true≢false (sym (turned x y h) ∙ ap (λ a. same a x) (sym (same_Some z y q)) ∙ apart_later same z x zs i apart.0 p))
apart_place same turned (z ∷ zs) (suc i) (suc j) x y apart p q h = ap suc (apart_place same turned zs i j x y apart.1 p q h)

pub apart_same : {X : Type 0} (same : X → X → Bool) → ((a b : X) → same a b ≡ true → same b a ≡ true) → (xs : List X) (i j : ℕ) (x y : X) → AreApart same xs → slice_get xs i ≡ Some x → slice_get xs j ≡ Some y → same x y ≡ true → x ≡ y
apart_same same turned xs i j x y apart p q h = same_Some x y (sym p ∙ ap (slice_get xs) (apart_place same turned xs i j x y apart p q h) ∙ q)

-- ---- routers of a domain

module _ (d : DomainConf) (valid : IsConsistent d) where
  pub sound_of : (r : RouterConf) → IsAmong d.routers r → IsSound r
  sound_of r a = each_got IsSound d.routers a.place r valid.sound a.there

  pub keeps_of : (r : RouterConf) → IsAmong d.routers r → KeepsKinds r
  keeps_of r a = each_got KeepsKinds d.routers a.place r valid.kinds a.there

  pub system_place : (i j : ℕ) (r q : RouterConf) → slice_get d.routers i ≡ Some r → slice_get d.routers j ≡ Some q → r.system ≡ q.system → i ≡ j
  system_place i j r q p s e = apart_place same_system (λ a b h. bytes_turned a.system.0 b.system.0 h) d.routers i j r q valid.systems p s (bytes_from r.system.0 q.system.0 (ap (λ (x : SystemId). x.0) e))

  pub same_by_system : (r q : RouterConf) → IsAmong d.routers r → IsAmong d.routers q → r.system ≡ q.system → r ≡ q
  same_by_system r q a b e = apart_same same_system (λ x y h. bytes_turned x.system.0 y.system.0 h) d.routers a.place b.place r q valid.systems a.there b.there (bytes_from r.system.0 q.system.0 (ap (λ (x : SystemId). x.0) e))

  pub same_by_prefix : (r q : RouterConf) → IsAmong d.routers r → IsAmong d.routers q → bytes_eq r.prefix.0 q.prefix.0 ≡ true → r ≡ q
  same_by_prefix r q a b h = apart_same same_prefix (λ x y k. bytes_turned x.prefix.0 y.prefix.0 k) d.routers a.place b.place r q valid.prefixes a.there b.there h

  pub alike : (r q : RouterConf) → IsAmong d.routers r → IsAmong d.routers q → IsAlike r q
  alike r q a b = by d.routers valid.alike a.place b.place a.there b.there
    where
      with_first : (x y : RouterConf) (rs : List RouterConf) (i : ℕ) → AllByRecursion (IsAlike x) rs → slice_get (x ∷ rs) i ≡ Some y → IsAlike x y
      with_first x y rs zero all p = let e = same_Some x y p in subst (IsAlike x) e (record { level = refl; area = refl; kinds = refl; table = refl })
      with_first x y rs (suc i) all p = each_got (IsAlike x) rs i y all p

      by : (rs : List RouterConf) → AreAlike rs → (i j : ℕ) → slice_get rs i ≡ Some r → slice_get rs j ≡ Some q → IsAlike r q
      by [] all i j p s = cc
      by (x ∷ rs) all i j p s =
          let u = with_first x r rs i all p in
          let v = with_first x q rs j all s in
          record { level = v.level ∙ sym u.level; area = v.area ∙ sym u.area; kinds = v.kinds ∙ sym u.kinds; table = v.table ∙ sym u.table }

  -- ---- earlier configurations

  -- a router's configuration of now
  pub own_earlier : (r : RouterConf) → IsAmong d.routers r → IsEarlier r r
  own_earlier r a = earlier_self r (sound_of r a) (keeps_of r a)

  pub alike_earlier : (r was now : RouterConf) → IsAmong d.routers r → IsAmong d.routers now → IsEarlier was now → IsAlike r was
  alike_earlier r was now a b e =
      let k = alike r now a b in
      record {
        level = ap (λ (x : RouterConf). x.level) e.one ∙ k.level;
        area = ap (λ (x : RouterConf). x.area) e.one ∙ k.area;
        kinds = ap (λ (x : RouterConf). x.kinds) e.one ∙ k.kinds;
        table = ap (λ (x : RouterConf). x.table) e.one ∙ k.table;
      }

  -- two with one prefix have one system
  pub system_by_prefix : (r q now there_now : RouterConf) → IsAmong d.routers now → IsAmong d.routers there_now → IsEarlier r now → IsEarlier q there_now → bytes_eq r.prefix.0 q.prefix.0 ≡ true → r.system ≡ q.system
  system_by_prefix r q now there_now a b e f h =
      let near : r.prefix.0 ≡ now.prefix.0 = ap (λ (x : RouterConf). x.prefix.0) e.one in
      let far : q.prefix.0 ≡ there_now.prefix.0 = ap (λ (x : RouterConf). x.prefix.0) f.one in
      let same : now ≡ there_now = same_by_prefix now there_now a b (bytes_from now.prefix.0 there_now.prefix.0 (sym near ∙ bytes_is r.prefix.0 q.prefix.0 h ∙ far)) in
      ap (λ (x : RouterConf). x.system) e.one ∙ ap (λ (x : RouterConf). x.system) same ∙ sym (ap (λ (x : RouterConf). x.system) f.one)
