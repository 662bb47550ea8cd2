-- In a valid domain each interface leads to one router.
use Rattle.std.proofs.Common.{◌≡◌, ℕ, zero, suc, ◌<◌, true, false, List, [], ◌∷◌, length, slice_get, Some, refl, sym, ap, subst, ◌∙◌, arith}
use mathlib.Core.Bool.{true≢false}
use Rattle.std.proofs.lemmas.Option.{none-some, same_Some}
use Rattle.std.proofs.lemmas.Slice.Eq.{bytes_eq-Decides}
use Rattle.std.specs.List.{AllByRecursion}
use Rattle.wire_base.specs.declared.conf.End.{End}
use Rattle.wire_base.specs.declared.conf.RouterConf.{RouterConf}
use Rattle.wire_base.specs.model.Configuration.{DomainConf, IsValid, same_system}
use Rattle.wire_base.specs.model.Lists.{AreApart}
use Rattle.isis_hello.specs.Circuits.{link_between}
use Rattle.isis_hello.proofs.StepLemmas.{link_there}

off_later : (x y : RouterConf) (rs : List RouterConf) (j : ℕ) → AllByRecursion (λ q. same_system x q ≡ false) rs → slice_get rs j ≡ Some y → same_system x y ≡ false
off_later x y [] j all at = absurd (none-some y at)
off_later x y (z ∷ zs) zero all at = subst (λ (q : RouterConf). same_system x q ≡ false) (same_Some z y at) all.0
off_later x y (z ∷ zs) (suc j) all at = off_later x y zs j all.1 at

equal_systems : (x y : RouterConf) → x.system.0 ≡ y.system.0 → same_system x y ≡ true
equal_systems x y e = (bytes_eq-Decides x.system.0 y.system.0).1 e

-- routers of one system stand at one index
one_place : (rs : List RouterConf) (i j : ℕ) (x y : RouterConf) → AreApart same_system rs → slice_get rs i ≡ Some x → slice_get rs j ≡ Some y → x.system.0 ≡ y.system.0 → i ≡ j
one_place [] i j x y apart p q e = absurd (none-some x p)
one_place (z ∷ zs) zero zero x y apart p q e = refl
one_place (z ∷ zs) zero (suc j) x y apart p q e =
    absurd (true≢false (sym (equal_systems z y (ap (λ (r : RouterConf). r.system.0) (same_Some z x p) ∙ e)) ∙ off_later z y zs j apart.0 q))
one_place (z ∷ zs) (suc i) zero x y apart p q e =
    absurd (true≢false (sym (equal_systems z x (ap (λ (r : RouterConf). r.system.0) (same_Some z y q) ∙ sym e)) ∙ off_later z x zs i apart.0 p))
one_place (z ∷ zs) (suc i) (suc j) x y apart p q e = ap suc (one_place zs i j x y apart.1 p q e)

pub only_link : (d : DomainConf) → IsValid d → (a b y link : ℕ) → link_between d.routers a b ≡ Some link → link_between d.routers a y ≡ Some link → y ≡ b
only_link d valid a b y link p q =
    let l = link_there (slice_get d.routers a) (slice_get d.routers b) link p in
    let m = link_there (slice_get d.routers a) (slice_get d.routers y) link q in
    let r-is : l.r ≡ m.r = same_Some l.r m.r (sym l.near_is ∙ m.near_is) in
    let e-is : l.there.e ≡ m.there.e = same_Some l.there.e m.there.e (sym l.there.at ∙ ap (λ (r : RouterConf). slice_get r.ends link) r-is ∙ m.there.at) in
    let to_b : l.there.e.peer.0 ≡ l.q.system.0 = (bytes_eq-Decides l.there.e.peer.0 l.q.system.0).0 l.there.leads in
    let to_y : m.there.e.peer.0 ≡ m.q.system.0 = (bytes_eq-Decides m.there.e.peer.0 m.q.system.0).0 m.there.leads in
    one_place d.routers y b m.q l.q valid.consistent.systems m.far_is l.far_is (sym to_y ∙ ap (λ (e : End). e.peer.0) (sym e-is) ∙ to_b)

pub within_list : {X : Type 0} (xs : List X) (i : ℕ) (x : X) → slice_get xs i ≡ Some x → i < length xs
within_list [] i x at = absurd (none-some x at)
within_list (y ∷ ys) zero x at = omega arith
within_list (y ∷ ys) (suc i) x at = let h = within_list ys i x at in omega (arith, h)
