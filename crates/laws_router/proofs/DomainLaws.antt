-- Configurations of which only sub-domains and label ranges differ: what reads neither is the same.
use Rattle.std.proofs.Common.{◌≡◌, ℕ, zero, suc, ◌+◌, ◌≤◌, Bool, false, List, [], ◌∷◌, length, map, slice_get, slice_set, Option, Some, None, option_map, refl, ap, sym, ◌∙◌, subst}
use Rattle.std.specs.List.{AllByRecursion}
use Rattle.std.proofs.lemmas.List.{length-map}
use Rattle.std.proofs.lemmas.Option.{same_Some, slice_get-map}
use Rattle.wire_base.specs.declared.limits.TheConstants.{MOST_ROUTERS, MOST_SUBDOMAINS, MOST_TABLE_ROWS}
use Rattle.wire_base.specs.declared.conf.LinkConf.{LinkConf}
use Rattle.wire_base.specs.declared.conf.End.{End}
use Rattle.wire_base.specs.declared.conf.RouterConf.{RouterConf}
use Rattle.wire_base.specs.model.Configuration.{DomainConf, IsSound, IsAlike, AreAlike, KeepsKinds, IsLink, same_name, same_system, same_prefix, peers_of, Faces, AreEnds, HaveEnds, IsConsistent}
use Rattle.wire_base.specs.model.Lists.{AreApart}
use Rattle.laws_router.specs.Becoming.{IsLater, HasBecome, HaveBecome}

-- a configuration without its sub-domains and label ranges
abbrev pub strip : RouterConf → RouterConf
strip r = record r { subs = []; away = []; past = [] }

-- ---- one router

pub later_stripped : (r next : RouterConf) → IsLater r next → strip next ≡ strip r
later_stripped r next l = ap strip l.one

pub become_stripped : (r now : RouterConf) → HasBecome r now → strip now ≡ strip r
become_stripped r now b = ap strip b.one

-- ---- lists of routers

pub same_stripped : (rs qs : List RouterConf) → HaveBecome rs qs → map strip rs ≡ map strip qs
same_stripped [] [] b = refl
same_stripped [] (q ∷ qs) b = absurd b
same_stripped (r ∷ rs) [] b = absurd b
same_stripped (r ∷ rs) (q ∷ qs) b = λ i. sym (become_stripped r q b.0) i ∷ same_stripped rs qs b.1 i

pub become_self : (rs : List RouterConf) → HaveBecome rs rs
become_self [] = tt
become_self (r ∷ rs) = (record { one = refl; ids = λ sd. refl }, become_self rs)

pub has_become_later : (r now next : RouterConf) → HasBecome r now → IsLater now next → HasBecome r next
has_become_later r now next b l =
    record {
      one = l.one ∙ ap (λ (x : RouterConf). record x { subs = next.subs; away = next.away; past = next.past }) b.one;
      ids = λ sd. l.ids sd ∙ b.ids sd;
    }

pub become_later : (rs qs : List RouterConf) (a : ℕ) (now next : RouterConf) → HaveBecome rs qs → slice_get qs a ≡ Some now → IsLater now next → HaveBecome rs (slice_set qs a next)
become_later [] [] a now next b e l = tt
become_later [] (q ∷ qs) a now next b e l = absurd b
become_later (r ∷ rs) [] a now next b e l = absurd b
become_later (r ∷ rs) (q ∷ qs) zero now next b e l = (has_become_later r now next (subst (HasBecome r) (same_Some q now e) b.0) l, b.1)
become_later (r ∷ rs) (q ∷ qs) (suc a) now next b e l = (b.0, become_later rs qs a now next b.1 e l)

-- the router of the domain file at the index of a router of now, and the other way round
pub became_from : (rs qs : List RouterConf) (a : ℕ) (now : RouterConf) → HaveBecome rs qs → slice_get qs a ≡ Some now → (r : RouterConf) × (slice_get rs a ≡ Some r) × HasBecome r now
became_from [] [] a now b e = absurd cc
became_from [] (q ∷ qs) a now b e = absurd b
became_from (r ∷ rs) [] a now b e = absurd b
became_from (r ∷ rs) (q ∷ qs) zero now b e = (r, refl, subst (HasBecome r) (same_Some q now e) b.0)
became_from (r ∷ rs) (q ∷ qs) (suc a) now b e = became_from rs qs a now b.1 e

pub set_stripped : (rs : List RouterConf) (a : ℕ) (r next : RouterConf) → slice_get rs a ≡ Some r → IsLater r next → map strip (slice_set rs a next) ≡ map strip rs
set_stripped [] a r next e l = refl
set_stripped (x ∷ rs) zero r next e l = λ i. (later_stripped r next l ∙ ap strip (sym (same_Some x r e))) i ∷ map strip rs
set_stripped (x ∷ rs) (suc a) r next e l = ap (λ xs. strip x ∷ xs) (set_stripped rs a r next e l)

pub length_stripped : (rs qs : List RouterConf) → map strip rs ≡ map strip qs → length rs ≡ length qs
length_stripped rs qs e = sym (length-map rs strip) ∙ ap length e ∙ length-map qs strip

pub got_stripped : (rs qs : List RouterConf) → map strip rs ≡ map strip qs → (a : ℕ) → option_map strip (slice_get rs a) ≡ option_map strip (slice_get qs a)
got_stripped rs qs e a = sym (slice_get-map strip rs a) ∙ ap (λ xs. slice_get xs a) e ∙ slice_get-map strip qs a

-- ---- what holds of stripped configurations

pub each_mapped : {X Y : Type 0} (P : Y → Type 0) (f : X → Y) (xs : List X) → AllByRecursion (λ x. P (f x)) xs → AllByRecursion P (map f xs)
each_mapped P f [] all = tt
each_mapped P f (x ∷ xs) all = (all.0, each_mapped P f xs all.1)

pub each_unmapped : {X Y : Type 0} (P : Y → Type 0) (f : X → Y) (xs : List X) → AllByRecursion P (map f xs) → AllByRecursion (λ x. P (f x)) xs
each_unmapped P f [] all = tt
each_unmapped P f (x ∷ xs) all = (all.0, each_unmapped P f xs all.1)

pub apart_mapped : {X Y : Type 0} (same : Y → Y → Bool) (f : X → Y) (xs : List X) → AreApart (λ x y. same (f x) (f y)) xs → AreApart same (map f xs)
apart_mapped same f [] a = tt
apart_mapped same f (x ∷ xs) a = (each_mapped (λ y. same (f x) y ≡ false) f xs a.0, apart_mapped same f xs a.1)

pub apart_unmapped : {X Y : Type 0} (same : Y → Y → Bool) (f : X → Y) (xs : List X) → AreApart same (map f xs) → AreApart (λ x y. same (f x) (f y)) xs
apart_unmapped same f [] a = tt
apart_unmapped same f (x ∷ xs) a = (each_unmapped (λ y. same (f x) y ≡ false) f xs a.0, apart_unmapped same f xs a.1)

-- a property that reads neither sub-domains nor label ranges
pub each_again : (P : RouterConf → Type 0) (rs qs : List RouterConf) → map strip rs ≡ map strip qs → AllByRecursion (λ r. P (strip r)) rs → AllByRecursion (λ r. P (strip r)) qs
each_again P rs qs e all = each_unmapped P strip qs (subst (AllByRecursion P) e (each_mapped P strip rs all))

pub apart_again : (same : RouterConf → RouterConf → Bool) (rs qs : List RouterConf) → map strip rs ≡ map strip qs → AreApart (λ r q. same (strip r) (strip q)) rs → AreApart (λ r q. same (strip r) (strip q)) qs
apart_again same rs qs e a = apart_unmapped same strip qs (subst (AreApart same) e (apart_mapped same strip rs a))

alike_mapped : (rs : List RouterConf) → AreAlike rs → AreAlike (map strip rs)
alike_mapped [] a = tt
alike_mapped (r ∷ rs) a = each_mapped (IsAlike (strip r)) strip rs (stripped r rs a)
  where
    stripped : (x : RouterConf) (xs : List RouterConf) → AllByRecursion (IsAlike x) xs → AllByRecursion (λ y. IsAlike (strip x) (strip y)) xs
    stripped x [] all = tt
    stripped x (y ∷ ys) all = (record { level = all.0.level; area = all.0.area; kinds = all.0.kinds; table = all.0.table }, stripped x ys all.1)

alike_unmapped : (rs : List RouterConf) → AreAlike (map strip rs) → AreAlike rs
alike_unmapped [] a = tt
alike_unmapped (r ∷ rs) a = whole r rs (each_unmapped (IsAlike (strip r)) strip rs a)
  where
    whole : (x : RouterConf) (xs : List RouterConf) → AllByRecursion (λ y. IsAlike (strip x) (strip y)) xs → AllByRecursion (IsAlike x) xs
    whole x [] all = tt
    whole x (y ∷ ys) all = (record { level = all.0.level; area = all.0.area; kinds = all.0.kinds; table = all.0.table }, whole x ys all.1)

-- ---- interfaces

faces_stripped : (r : RouterConf) (e : End) (o : Option RouterConf) → Faces r e o → Faces (strip r) e (option_map strip o)
faces_stripped r e None f = absurd f
faces_stripped r e (Some q) f = f

faces_whole : (r : RouterConf) (e : End) (o : Option RouterConf) → Faces (strip r) e (option_map strip o) → Faces r e o
faces_whole r e None f = absurd f
faces_whole r e (Some q) f = f

-- the routers at the other ends are read without sub-domains too
ends_again : (rs qs : List RouterConf) → map strip rs ≡ map strip qs → (r q : RouterConf) → strip r ≡ strip q → (ps : List ℕ) (es : List End) → AreEnds rs r ps es → AreEnds qs q ps es
ends_again rs qs same r q one [] [] a = tt
ends_again rs qs same r q one [] (e ∷ es) a = absurd a
ends_again rs qs same r q one (p ∷ ps) [] a = absurd a
ends_again rs qs same r q one (p ∷ ps) (e ∷ es) a =
    let there : Faces (strip r) e (option_map strip (slice_get qs p)) = subst (Faces (strip r) e) (got_stripped rs qs same p) (faces_stripped r e (slice_get rs p) a.0) in
    (faces_whole q e (slice_get qs p) (subst (λ x. Faces x e (option_map strip (slice_get qs p))) one there), ends_again rs qs same r q one ps es a.1)

have_ends_again : (rs qs : List RouterConf) (links : List LinkConf) → map strip rs ≡ map strip qs → (i : ℕ) (xs ys : List RouterConf) → map strip xs ≡ map strip ys → HaveEnds (record { routers = rs; links = links }) i xs → HaveEnds (record { routers = qs; links = links }) i ys
have_ends_again rs qs links same i [] [] e h = tt
have_ends_again rs qs links same i [] (y ∷ ys) e h = cc
have_ends_again rs qs links same i (x ∷ xs) [] e h = cc
have_ends_again rs qs links same i (x ∷ xs) (y ∷ ys) e h =
    let one : strip x ≡ strip y = cc in
    let rest : map strip xs ≡ map strip ys = cc in
    (subst (AreEnds qs y (peers_of i links)) (ap (λ (r : RouterConf). r.ends) one) (ends_again rs qs same x y one (peers_of i links) x.ends h.0), have_ends_again rs qs links same (i + 1) xs ys rest h.1)

-- ---- a domain

each_set : {X : Type 0} (P : X → Type 0) (xs : List X) (i : ℕ) (x : X) → AllByRecursion P xs → P x → AllByRecursion P (slice_set xs i x)
each_set P [] i x all h = tt
each_set P (y ∷ ys) zero x all h = (h, all.1)
each_set P (y ∷ ys) (suc i) x all h = (all.0, each_set P ys i x all.1 h)

-- a domain stays consistent when its routers differ in their sub-domains and label ranges alone, and each stays sound
pub consistent_again : (d : DomainConf) (qs : List RouterConf) → IsConsistent d → map strip d.routers ≡ map strip qs → AllByRecursion IsSound qs → AllByRecursion KeepsKinds qs → IsConsistent (record d { routers = qs })
consistent_again d qs c same sound kinds =
    let long = length_stripped d.routers qs same in
    record {
      some = subst (λ n. 1 ≤ n) long c.some;
      few = subst (λ n. n ≤ MOST_ROUTERS) long c.few;
      sound = sound;
      few_kinds = each_again (λ r. length r.kinds ≤ MOST_SUBDOMAINS) d.routers qs same c.few_kinds;
      few_rows = each_again (λ r. length r.table ≤ MOST_TABLE_ROWS) d.routers qs same c.few_rows;
      names = apart_again same_name d.routers qs same c.names;
      systems = apart_again same_system d.routers qs same c.systems;
      prefixes = apart_again same_prefix d.routers qs same c.prefixes;
      alike = alike_unmapped qs (subst AreAlike same (alike_mapped d.routers c.alike));
      kinds = kinds;
      links = subst (λ n. AllByRecursion (IsLink n) d.links) long c.links;
      links_once = c.links_once;
      ends = have_ends_again d.routers qs d.links same 0 d.routers qs same c.ends;
    }

pub consistent_kept : (d : DomainConf) (a : ℕ) (r next : RouterConf) → IsConsistent d → slice_get d.routers a ≡ Some r → IsLater r next → IsConsistent (record d { routers = slice_set d.routers a next })
consistent_kept d a r next c there l =
    consistent_again d (slice_set d.routers a next) c (sym (set_stripped d.routers a r next there l))
    (each_set IsSound d.routers a next c.sound l.sound)
    (each_set KeepsKinds d.routers a next c.kinds l.kinds)
