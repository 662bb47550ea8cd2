-- Entries of an array, read one after the other: what a turn of a loop does.
use Rattle.std.proofs.Common.{◌≡◌, ℕ, ◌+◌, ◌<◌, ◌≤◌, List, [], ◌∷◌, ◌++◌, length, get_or, drop, map, Result, Ok, refl, sym, ap, ◌∙◌}
use Rattle.std.proofs.lemmas.List.{drop_all, drop_more}
use Rattle.toml.specs.Data.{Data}
use Rattle.toml.specs.View.{view}
use Rattle.toml.specs.declared.value.Value.{Value}
use Rattle.wire_base.specs.model.Fields.{◌>>=◌}
use Rattle.domain_conf.specs.Arrays.{entries_from}
use Rattle.domain_conf.specs.Reading.{Fails}
use Rattle.domain_conf.specs.declared.fault.ConfFault.{ConfFault}
use Rattle.domain_conf.specs.declared.fault.ConfFault.TheVariants as fault

-- what the entry at a place gives, and then the rest
entries_step : {X : Type 0} (read : List X → ℕ → Data → Result X ConfFault) (made : List X) (vs : List Value) (i : ℕ) (v : Value) → i < length vs → v ≡ get_or vs i v
    → entries_from read made i (map view (drop i vs)) ≡ (read made i (view v) >>= (λ x. entries_from read (made ++ x ∷ []) (i + 1) (map view (drop (i + 1) vs))))
unfolding entries_from
entries_step read made vs i v lt is = rw (drop_more vs i v lt, ← is) refl

-- a fault of the first part is one of the whole
pub Fails-then : {A B : Type 0} (e : ConfFault) (r : Result A ConfFault) (f : A → Result B ConfFault) (whole : Result B ConfFault) → Fails e r → (r >>= f) ≡ whole → Fails e whole
Fails-then fault.Memory r f whole h q = tt
Fails-then fault.Toml r f whole h q = sym q ∙ rw h refl
Fails-then (fault.Field p) r f whole h q = sym q ∙ rw h refl
Fails-then (fault.Duplicate p) r f whole h q = sym q ∙ rw h refl
Fails-then (fault.Range p) r f whole h q = sym q ∙ rw h refl
Fails-then (fault.Labels p) r f whole h q = sym q ∙ rw h refl
Fails-then (fault.Reference p) r f whole h q = sym q ∙ rw h refl
Fails-then (fault.Limit p) r f whole h q = sym q ∙ rw h refl

-- an entry that is refused
pub turn_fails : {X : Type 0} (read : List X → ℕ → Data → Result X ConfFault) (made : List X) (vs : List Value) (i : ℕ) (v : Value) (e : ConfFault) (whole : Result (List X) ConfFault)
    → i < length vs → v ≡ get_or vs i v → Fails e (read made i (view v)) → entries_from read made i (map view (drop i vs)) ≡ whole → Fails e whole
turn_fails read made vs i v e whole lt is h so_far =
    Fails-then e (read made i (view v)) (λ x. entries_from read (made ++ x ∷ []) (i + 1) (map view (drop (i + 1) vs))) whole h (sym (entries_step read made vs i v lt is) ∙ so_far)

-- an entry that is read
pub turn_goes : {X : Type 0} (read : List X → ℕ → Data → Result X ConfFault) (made more : List X) (vs : List Value) (i : ℕ) (v : Value) (x : X) (whole : Result (List X) ConfFault)
    → i < length vs → v ≡ get_or vs i v → read made i (view v) ≡ Ok x → more ≡ made ++ x ∷ [] → entries_from read made i (map view (drop i vs)) ≡ whole
    → entries_from read more (i + 1) (map view (drop (i + 1) vs)) ≡ whole
turn_goes {X = X} read made more vs i v x whole lt is h grown so_far =
    ap (λ (m : List X). entries_from read m (i + 1) (map view (drop (i + 1) vs))) grown
    ∙ (sym (entries_step read made vs i v lt is ∙ ap (λ (r : Result X ConfFault). r >>= (λ x. entries_from read (made ++ x ∷ []) (i + 1) (map view (drop (i + 1) vs)))) h) ∙ so_far)

-- no entry is left
pub turns_end : {X : Type 0} (read : List X → ℕ → Data → Result X ConfFault) (made : List X) (vs : List Value) (i : ℕ) (whole : Result (List X) ConfFault)
    → length vs ≤ i → entries_from read made i (map view (drop i vs)) ≡ whole → whole ≡ Ok made
unfolding entries_from
turns_end read made vs i whole le so_far = sym so_far ∙ rw drop_all refl
