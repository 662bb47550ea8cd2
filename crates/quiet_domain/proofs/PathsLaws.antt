-- What is kept of a topology's nodes.
use Rattle.std.proofs.Common.{◌≡◌, ◌⊎◌, ℕ, zero, suc, ◌<◌, ◌==◌, Bool, true, false, List, [], ◌∷◌, length, get_or, slice_get, slice_set, is_some, not, option_map, Option, Some, None, Result, Ok, Err, IfOk, inl, inr, refl, sym, ap, subst, ◌∙◌, arith}
use Rattle.std.proofs.lemmas.Bool.Decides.{eqb_tells}
use Rattle.std.specs.Prelude.{◌↔◌}
use Rattle.std.proofs.lemmas.Option.{same_Some, slice_get_read}
use Rattle.wire_base.specs.declared.conf.RouterConf.{RouterConf}
use Rattle.wire_base.specs.declared.triple.Triple.{Triple}
use Rattle.wire_base.specs.declared.view.ViewNode.{ViewNode}
use Rattle.wire_base.specs.model.Graph.{IsGraph, has_id_at}
use Rattle.wire_base.specs.model.HopCount.{hops}
use Rattle.quiet_domain.specs.Paths.{AreBirts, IsBirt, IsHop, PathsIn, next_in, way_in}
use Rattle.quiet_domain.specs.declared.birt.Birt.{Birt}
use Rattle.quiet_domain.specs.declared.path.Hop.{Hop}
use Rattle.quiet_domain.specs.declared.path.Way.{Way}
use Rattle.quiet_domain.proofs.PathLaws.{hops_for, none_for}

length_set : {X : Type 0} (xs : List X) (i : ℕ) (x : X) → length (slice_set xs i x) ≡ length xs
length_set [] i x = refl
length_set (y ∷ ys) zero x = refl
length_set (y ∷ ys) (suc i) x = ap suc (length_set ys i x)

set_here : {X : Type 0} (xs : List X) (i : ℕ) (x : X) → i < length xs → slice_get (slice_set xs i x) i ≡ Some x
set_here [] i x h = absurd (omega (arith, h))
set_here (y ∷ ys) zero x h = refl
set_here (y ∷ ys) (suc i) x h = set_here ys i x (omega (arith, h))

set_there : {X : Type 0} (xs : List X) (i j : ℕ) (x : X) → (i ≡ j → ⊥) → slice_get (slice_set xs i x) j ≡ slice_get xs j
set_there [] i j x h = refl
set_there (y ∷ ys) zero zero x h = absurd (h refl)
set_there (y ∷ ys) zero (suc j) x h = refl
set_there (y ∷ ys) (suc i) zero x h = refl
set_there (y ∷ ys) (suc i) (suc j) x h = set_there ys i j x (λ e. h (ap suc e))

-- what was computed for a node is kept
pub one_kept : (r : RouterConf) (g : List ViewNode) (t : Triple) (all : List (Option Birt)) (i u : ℕ) (x : Birt) → AreBirts r g t all → i ≡ u → u < length g → IsBirt r g t u x → AreBirts r g t (slice_set all i (Some x))
one_kept r g t all i u x h same within is = record {
  count = length_set all i (Some x) ∙ h.count;
  each = λ v y at. by v y at (eqb_tells i v);
}
  where
    by : (v : ℕ) (y : Birt) → slice_get (slice_set all i (Some x)) v ≡ Some (Some y) → ((i == v) ≡ true) × (i ≡ v) ⊎ ((i == v) ≡ false) × (i ≡ v → ⊥) → IsBirt r g t v y
    by v y at (inl e) =
        let there : slice_get (slice_set all i (Some x)) v ≡ Some (Some x) = subst (λ (k : ℕ). slice_get (slice_set all i (Some x)) k ≡ Some (Some x)) e.1 (set_here all i (Some x) (omega (arith, h.count, same, within))) in
        let now : x ≡ y = same_Some x y (same_Some (Some x) (Some y) (sym there ∙ at)) in
        subst (λ (z : Birt). IsBirt r g t v z) now (subst (λ (k : ℕ). IsBirt r g t k x) (sym same ∙ e.1) is)
    by v y at (inr e) = h.each v y (sym (set_there all i v (Some x) e.1) ∙ at)

pub kept_there : (all : List (Option Birt)) (i u : ℕ) (x : Birt) → i ≡ u → u < length all → (y : Birt) × (slice_get (slice_set all i (Some x)) u ≡ Some (Some y))
kept_there all i u x same within = (x, subst (λ (k : ℕ). slice_get (slice_set all i (Some x)) k ≡ Some (Some x)) same (set_here all i (Some x) (omega (arith, same, within))))

-- what is read of a node
pub read_birt : (r : RouterConf) (g : List ViewNode) (t : Triple) (all : List (Option Birt)) (i u : ℕ) (o : Option Birt) → AreBirts r g t all → i ≡ u → u < length g → o ≡ get_or all i o → slice_get all u ≡ Some o
read_birt r g t all i u o h same within read =
    slice_get_read all (length all) u o refl (omega (arith, h.count, within)) (read ∙ ap (λ (k : ℕ). get_or all k o) same)

pub birt_is : (r : RouterConf) (g : List ViewNode) (t : Triple) (all : List (Option Birt)) (i u : ℕ) (o : Option Birt) (x : Birt) → AreBirts r g t all → i ≡ u → u < length g → o ≡ get_or all i o → o ≡ Some x → IsBirt r g t u x
birt_is r g t all i u o x h same within read is = h.each u x (read_birt r g t all i u o h same within read ∙ ap (λ (y : Option Birt). Some y) is)

pub not_missing : (r : RouterConf) (g : List ViewNode) (t : Triple) (all : List (Option Birt)) (i u : ℕ) (o : Option Birt) → AreBirts r g t all → i ≡ u → u < length g → o ≡ get_or all i o → ((x : Birt) × (slice_get all u ≡ Some (Some x))) → o ≡ None → ⊥
not_missing r g t all i u o h same within read there none =
    some_none (same_Some (Some there.0) None (sym there.1 ∙ read_birt r g t all i u o h same within read ∙ ap (λ (y : Option Birt). Some y) none))
  where
    some_none : {x : Birt} → Some x ≡ None → ⊥
    some_none e = cc

pub some_there : (r : RouterConf) (g : List ViewNode) (t : Triple) (all : List (Option Birt)) (i u : ℕ) (o : Option Birt) → AreBirts r g t all → i ≡ u → u < length g → o ≡ get_or all i o → (b : Bool) → is_some o ≡ not b → b ≡ false → (x : Birt) × (slice_get all u ≡ Some (Some x))
some_there r g t all i u None h same within read b is some = cc
some_there r g t all i u (Some x) h same within read b is some = (x, read_birt r g t all i u (Some x) h same within read)

-- ---- paths

-- all that is said of a path
pub record IsPath (p : PathsIn) (u k : ℕ) (w : Option Way) : Type 0 where
  pub way : w ≡ way_in p u k
  pub hops : option_map (λ x. x.hops) w ≡ hops p.nodes p.conf.kinds p.conf.table p.triple p.class k u
  pub none : (w ≡ None) ↔ ((has_id_at p.nodes p.triple.sd k u ≡ false) × (next_in p u k ≡ None))

pub is_path : (p : PathsIn) → IsGraph p.nodes → (u k : ℕ) → u < length p.nodes → (w : Option Way) → way_in p u k ≡ w → IsPath p u k w
is_path p good u k node w is = record {
  way = sym is;
  hops = hops_for p.nodes good p.conf.kinds p.conf.table p.triple p.class k u w is;
  none = none_for p.nodes good p.conf.kinds p.conf.table p.triple p.class k u node w is;
}

pub tested : (p q : PathsIn) (g : List ViewNode) (sd k x : ℕ) (b : Bool) → g ≡ p.nodes → sd ≡ q.triple.sd → q ≡ p → b ≡ has_id_at g sd k x → has_id_at p.nodes p.triple.sd k x ≡ b
tested p q g sd k x b nodes sub same is =
    sym (is ∙ ap (λ (h : List ViewNode). has_id_at h sd k x) nodes ∙ ap (λ (s : ℕ). has_id_at p.nodes s k x) (sub ∙ ap (λ (a : PathsIn). a.triple.sd) same))

pub hop_is : (p q : PathsIn) (x k : ℕ) (o o2 : Option Hop) → q ≡ p → o ≡ o2 → IsHop q.nodes x (next_in q x k) o → IsHop p.nodes x (next_in p x k) o2
hop_is p q x k o o2 same is h = subst (λ (a : PathsIn). IsHop a.nodes x (next_in a x k) o2) same (subst (IsHop q.nodes x (next_in q x k)) is h)

pub if_ok : {T E : Type 0} (r : Result T E) (P Q : T → Type 0) → IfOk r P → ((x : T) → P x → Q x) → IfOk r Q
if_ok (Ok x) P Q p f = f x p
if_ok (Err e) P Q p f = tt
