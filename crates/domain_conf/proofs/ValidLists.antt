-- Entries that were read one after the other: what each of them passed holds of all.
use Rattle.std.proofs.Common.{◌≡◌, ℕ, ◌+◌, Bool, true, false, List, [], ◌∷◌, ◌++◌, Option, Some, None, Result, Ok, Err, refl, ap, subst, ◌∙◌}
use Rattle.std.proofs.lemmas.Bool.{or_parts}
use Rattle.std.specs.List.{AllByRecursion, list_any}
use Rattle.toml.specs.Data.{Data}
use Rattle.wire_base.specs.model.Fields.{◌>>=◌}
use Rattle.wire_base.specs.model.Lists.{AreApart}
use Rattle.domain_conf.specs.declared.fault.ConfFault.{ConfFault}
use Rattle.domain_conf.specs.Arrays.{entries_from}
use Rattle.domain_conf.specs.Reading.{or_fault, refuse_if}

-- ---- steps of a reading

abbrev pub given : {A : Type 0} → A → Result A ConfFault
given x = Ok x

pub ok_is : {A : Type 0} (x y : A) → given x ≡ given y → x ≡ y
ok_is x y e = cc

-- a step that was done, and the rest
pub bind_ok : {A B : Type 0} (r : Result A ConfFault) (f : A → Result B ConfFault) (y : B) → (r >>= f) ≡ Ok y → (x : A) × (r ≡ Ok x) × (f x ≡ Ok y)
bind_ok (Ok x) f y e = (x, refl, e)
bind_ok (Err d) f y e = absurd cc

-- a rule that wasn't broken
pub passed : {B : Type 0} (b : Bool) (why : ConfFault) (f : Unit {0} → Result B ConfFault) (y : B) → (refuse_if b why >>= f) ≡ Ok y → (b ≡ false) × (f tt ≡ Ok y)
passed true why f y e = absurd cc
passed false why f y e = (refl, e)

-- a value that is there
pub there : {A : Type 0} (why : ConfFault) (o : Option A) (x : A) → or_fault why o ≡ Ok x → o ≡ Some x
there why None x e = absurd cc
there why (Some y) x e = ap Some (ok_is y x e)

-- ---- one element more

pub all_snoc : {X : Type 0} (P : X → Type 0) (xs : List X) (x : X) → AllByRecursion P xs → P x → AllByRecursion P (xs ++ x ∷ [])
all_snoc P [] x all p = (p, tt)
all_snoc P (y ∷ ys) x all p = (all.0, all_snoc P ys x all.1 p)

-- by a test that says the same both ways
pub apart_snoc : {X : Type 0} (same : X → X → Bool) → ((a b : X) → same a b ≡ same b a) → (xs : List X) (x : X) → AreApart same xs → list_any (same x) xs ≡ false → AreApart same (xs ++ x ∷ [])
apart_snoc same turned [] x apart new = (tt, tt)
apart_snoc same turned (y ∷ ys) x apart new =
    let p = or_parts (same x y) (list_any (same x) ys) new in
    (all_snoc (λ z. same y z ≡ false) ys x apart.0 (turned y x ∙ p.0), apart_snoc same turned ys x apart.1 p.1)

-- ---- all entries of an array

-- What one more entry keeps holds of all entries.
pub entries_keep : {X : Type 0} (read : List X → ℕ → Data → Result X ConfFault) (Q : List X → Type 0)
    → ((earlier : List X) (i : ℕ) (d : Data) (x : X) → Q earlier → read earlier i d ≡ Ok x → Q (earlier ++ x ∷ []))
    → (earlier : List X) (i : ℕ) (ds : List Data) (all : List X) → Q earlier → entries_from read earlier i ds ≡ Ok all → Q all
unfolding entries_from
entries_keep read Q step earlier i [] all q is = subst Q (ok_is earlier all is) q
entries_keep read Q step earlier i (d ∷ ds) all q is =
    let p = bind_ok (read earlier i d) _ all is in
    entries_keep read Q step (earlier ++ p.0 ∷ []) (i + 1) ds all (step earlier i d p.0 q p.1) p.2
