-- A second keeps what LSDBs say true.
use Rattle.std.proofs.Common.{◌≡◌, ◌⊎◌, inl, inr, ℕ, ◌-◌, ◌<◌, ◌==◌, nat_lt, nat_le, Bool, true, false, if◌then◌else◌, List, [], ◌∷◌, length, drop, map, fold, Option, Some, None, option_and_then, refl, sym, ap, subst, ◌∙◌, arith}
use Rattle.std.specs.List.{AllByRecursion, filter_map, cons_option}
use Rattle.std.proofs.lemmas.Bool.{eqb-false, ltb-true}
use Rattle.std.proofs.lemmas.Option.{same_Some}
use Rattle.wire_base.specs.declared.addresses.LspId.{LspId}
use Rattle.wire_base.specs.declared.conf.RouterConf.{RouterConf}
use Rattle.wire_base.specs.declared.entry.Aged.{Aged}
use Rattle.wire_base.specs.declared.entry.Aged.TheVariants.{Live, Expired, Held, Removed}
use Rattle.wire_base.specs.declared.entry.Entry.{Entry}
use Rattle.wire_base.specs.model.Control.{same_id, is_below, AreAscending, ids_of, entry_in, seq_of, purge, aged, aged_to, after_second, FlagRow, Flood, srm_in}
use Rattle.wire_base.specs.model.Flooding.{no_links, mark_all, forget, flags_aged, flood_aged}
use Rattle.domain_model.specs.Truth.{IsOwnLsp, IsDeadLsp, head_of, IsTrueEntry}
use Rattle.domain_model.proofs.FlagLaws.{same_id_is, found_each, none_later, rows_for, srm_same, srm_none, changed_for, gone_for, forgotten_for, only_row}
use Rattle.domain_model.proofs.FloodTruth.{IsTrueState, purge_true}

-- ---- entries

second_true : (confs : List RouterConf) (e x : Entry) → IsTrueEntry confs e → after_second e ≡ Some x → IsTrueEntry confs x
second_true confs e x t q = by (nat_lt 0 e.life) refl (e.life == 1) refl (nat_le e.hold 1) refl
  where
    is : (y : Entry) → after_second e ≡ Some y → IsTrueEntry confs y → IsTrueEntry confs x
    is y first h = subst (IsTrueEntry confs) (same_Some y x (sym first ∙ q)) h

    live : 0 < e.life → (e.life ≡ 1 → ⊥) → IsOwnLsp confs (head_of e) e.content ⊎ IsDeadLsp (head_of e) e.content → IsTrueEntry confs (record e { life = e.life - 1 })
    live some more (inl own) = record {
      named = t.named;
      seq = t.seq;
      says = inl (record { now = own.now; among = own.among; router = own.router; earlier = own.earlier; is = own.is; up = own.up; ends = own.ends; content = own.content; flags = own.flags; sum = own.sum; live = omega (arith, some, more); fresh = omega (arith, own.fresh); some = own.some });
    }
    live some more (inr dead) = absurd (omega (arith, dead.dead, some))

    by : (a : Bool) → nat_lt 0 e.life ≡ a → (b : Bool) → (e.life == 1) ≡ b → (c : Bool) → nat_le e.hold 1 ≡ c → IsTrueEntry confs x
    by true a true b c h = is (purge e.id e.seq) (rw (a, b) refl) (purge_true confs e.id e.seq t.named t.seq)
    by true a false b c h = is (record e { life = e.life - 1 }) (rw (a, b) refl) (live (ltb-true 0 e.life a) (eqb-false e.life 1 b) t.says)
    by false a b c true h = let none : after_second e ≡ None = rw (a, h) refl in let both : None ≡ Some x = sym none ∙ q in absurd cc
    by false a b c false h = is (record e { hold = e.hold - 1 }) (rw (a, h) refl) t

aged_each : (confs : List RouterConf) (es : List Entry) → AllByRecursion (IsTrueEntry confs) es → AllByRecursion (IsTrueEntry confs) (filter_map after_second es)
aged_each confs [] all = tt
aged_each confs (e ∷ es) all = by (after_second e) refl (aged_each confs es all.1)
  where
    by : (o : Option Entry) → after_second e ≡ o → AllByRecursion (IsTrueEntry confs) (filter_map after_second es) → AllByRecursion (IsTrueEntry confs) (cons_option o (filter_map after_second es))
    by None q more = more
    by (Some x) q more = (second_true confs e x all.0 q, more)

-- the identifier stays
aged_id : (e x : Entry) → after_second e ≡ Some x → x.id ≡ e.id
aged_id e x q = by (aged e) refl q
  where
    by : (a : Aged) → aged e ≡ a → aged_to a e ≡ Some x → x.id ≡ e.id
    by Live a r = ap (λ (y : Entry). y.id) (sym (same_Some _ x r))
    by Expired a r = ap (λ (y : Entry). y.id) (sym (same_Some _ x r))
    by Held a r = ap (λ (y : Entry). y.id) (sym (same_Some _ x r))
    by Removed a r = cc

above_aged : (i : LspId) (es : List Entry) → AllByRecursion (λ j. is_below i j ≡ true) (ids_of es) → AllByRecursion (λ j. is_below i j ≡ true) (ids_of (filter_map after_second es))
above_aged i [] all = tt
above_aged i (e ∷ es) all = by (after_second e) refl (above_aged i es all.1)
  where
    by : (o : Option Entry) → after_second e ≡ o → AllByRecursion (λ j. is_below i j ≡ true) (ids_of (filter_map after_second es)) → AllByRecursion (λ j. is_below i j ≡ true) (ids_of (cons_option o (filter_map after_second es)))
    by None q more = more
    by (Some x) q more = (ap (is_below i) (aged_id e x q) ∙ all.0, more)

aged_in_order : (es : List Entry) → AreAscending (ids_of es) → AreAscending (ids_of (filter_map after_second es))
aged_in_order [] asc = tt
aged_in_order (e ∷ es) asc = by (after_second e) refl (aged_in_order es asc.1)
  where
    by : (o : Option Entry) → after_second e ≡ o → AreAscending (ids_of (filter_map after_second es)) → AreAscending (ids_of (cons_option o (filter_map after_second es)))
    by None q more = more
    by (Some x) q more = (subst (λ (i : LspId). AllByRecursion (λ j. is_below i j ≡ true) (ids_of (filter_map after_second es))) (sym (aged_id e x q)) (above_aged e.id es asc.0), more)

-- what an identifier has afterwards
pub entry_aged : (es : List Entry) (id : LspId) → AreAscending (ids_of es) → entry_in (filter_map after_second es) id ≡ option_and_then after_second (entry_in es id)
entry_aged [] id asc = refl
entry_aged (e ∷ es) id asc = by (same_id e.id id) refl (entry_aged es id asc.1)
  where
    by : (b : Bool) → same_id e.id id ≡ b → entry_in (filter_map after_second es) id ≡ option_and_then after_second (entry_in es id) → entry_in (filter_map after_second (e ∷ es)) id ≡ option_and_then after_second (entry_in (e ∷ es) id)
    by true t more = rw t (one (after_second e) refl)
      where
        later : entry_in (filter_map after_second es) id ≡ None
        later = ap (λ (i : LspId). entry_in (filter_map after_second es) i) (sym (same_id_is e.id id t)) ∙ none_later e.id (filter_map after_second es) (above_aged e.id es asc.0)

        one : (o : Option Entry) → after_second e ≡ o → entry_in (cons_option o (filter_map after_second es)) id ≡ o
        one None q = later
        one (Some x) q = rw (ap (λ (i : LspId). same_id i id) (aged_id e x q) ∙ t) refl
    by false t more = rw t (one (after_second e) refl)
      where
        one : (o : Option Entry) → after_second e ≡ o → entry_in (cons_option o (filter_map after_second es)) id ≡ option_and_then after_second (entry_in es id)
        one None q = more
        one (Some x) q = rw (ap (λ (i : LspId). same_id i id) (aged_id e x q) ∙ t) more

-- ---- flags

step_other : (f : Flood) (x id : LspId) (a : Aged) → same_id x id ≡ false → rows_for id (flags_aged f x a).rows ≡ rows_for id f.rows
unfolding mark_all forget
step_other f x id Live h = refl
step_other f x id Expired h = changed_for (length f.up) x (λ row. record row { srm = f.up; ssn = no_links f }) (λ row. refl) f.rows id h
step_other f x id Held h = refl
step_other f x id Removed h = gone_for x f.rows id h

rows_without : (es : List Entry) (f : Flood) (id : LspId) → entry_in es id ≡ None → rows_for id (fold flood_aged f es).rows ≡ rows_for id f.rows
rows_without [] f id none = refl
rows_without (e ∷ es) f id none = by (λ later. rows_without es (flood_aged f e) id later) (same_id e.id id) refl
  where
    by : (entry_in es id ≡ None → rows_for id (fold flood_aged (flood_aged f e) es).rows ≡ rows_for id (flood_aged f e).rows) → (b : Bool) → same_id e.id id ≡ b → rows_for id (fold flood_aged (flood_aged f e) es).rows ≡ rows_for id f.rows
    by more true t = let both : Some e ≡ None = rw t at none in absurd cc
    by more false t = let later : entry_in es id ≡ None = rw t at none in more later ∙ step_other f e.id id (aged e) t

-- what a second makes of the rows of an identifier with an entry
abbrev Becomes : Aged → List FlagRow → List FlagRow → Type 0
Becomes Live before after = after ≡ before
Becomes Expired before after = Unit {0}
Becomes Held before after = after ≡ before
Becomes Removed before after = after ≡ drop 1 before

step_own : (f : Flood) (id : LspId) (a : Aged) → Becomes a (rows_for id f.rows) (rows_for id (flags_aged f id a).rows)
unfolding forget
step_own f id Live = refl
step_own f id Expired = tt
step_own f id Held = refl
step_own f id Removed = forgotten_for f.rows id

moved_on : (a : Aged) (before after last : List FlagRow) → last ≡ after → Becomes a before after → Becomes a before last
moved_on a before after last same h = subst (Becomes a before) (sym same) h

rows_with : (es : List Entry) (f : Flood) (id : LspId) (e : Entry) → AreAscending (ids_of es) → entry_in es id ≡ Some e → Becomes (aged e) (rows_for id f.rows) (rows_for id (fold flood_aged f es).rows)
rows_with [] f id e asc found = cc
rows_with (x ∷ xs) f id e asc found = by (λ later. rows_with xs (flood_aged f x) id e asc.1 later) (same_id x.id id) refl
  where
    by : (entry_in xs id ≡ Some e → Becomes (aged e) (rows_for id (flood_aged f x).rows) (rows_for id (fold flood_aged (flood_aged f x) xs).rows)) → (b : Bool) → same_id x.id id ≡ b → Becomes (aged e) (rows_for id f.rows) (rows_for id (fold flood_aged (flood_aged f x) xs).rows)
    by more true t =
        let first : Some x ≡ Some e = rw t at found in
        let is : x ≡ e = same_Some x e first in
        let none : entry_in xs id ≡ None = ap (λ (i : LspId). entry_in xs i) (sym (same_id_is x.id id t)) ∙ none_later x.id xs asc.0 in
        let own : Becomes (aged x) (rows_for id f.rows) (rows_for id (flood_aged f x).rows) = subst (λ (i : LspId). Becomes (aged x) (rows_for id f.rows) (rows_for id (flags_aged f i (aged x)).rows)) (sym (same_id_is x.id id t)) (step_own f id (aged x)) in
        subst (λ (y : Entry). Becomes (aged y) (rows_for id f.rows) (rows_for id (fold flood_aged (flood_aged f x) xs).rows)) is (moved_on (aged x) (rows_for id f.rows) (rows_for id (flood_aged f x).rows) _ (rows_without xs (flood_aged f x) id none) own)
    by more false t =
        let later : entry_in xs id ≡ Some e = rw t at found in
        subst (λ (rs : List FlagRow). Becomes (aged e) rs (rows_for id (fold flood_aged (flood_aged f x) xs).rows)) (step_other f x.id id (aged x) t) (more later)

expired_lives : (e : Entry) → aged e ≡ Expired → 0 < e.life
expired_lives e q = by (nat_lt 0 e.life) refl (nat_le e.hold 1)
  where
    by : (a : Bool) → nat_lt 0 e.life ≡ a → Bool → 0 < e.life
    by true a c = ltb-true 0 e.life a
    by false a c = let held : (if nat_le e.hold 1 then Removed else Held) ≡ Expired = rw a at q in absurd (other (nat_le e.hold 1) held)
      where
        other : (c : Bool) → (if c then Removed else Held) ≡ Expired → ⊥
        other true r = cc
        other false r = cc

says_some : (confs : List RouterConf) (e : Entry) → 0 < e.life → IsOwnLsp confs (head_of e) e.content ⊎ IsDeadLsp (head_of e) e.content → 0 < e.seq
says_some confs e live (inl own) = own.some
says_some confs e live (inr dead) = absurd (omega (arith, dead.dead, live))

pub aged_true : (confs : List RouterConf) (f : Flood) (es : List Entry) → AreAscending (map (λ row. row.id) f.rows) → IsTrueState confs f es → IsTrueState confs (fold flood_aged f es) (filter_map after_second es)
aged_true confs f es asc s =
    record {
      entries_true = aged_each confs es s.entries_true;
      in_order = aged_in_order es s.in_order;
      unsent = λ id link z. by id link (entry_in es id) refl (ap seq_of (sym (entry_aged es id s.in_order)) ∙ z);
    }
  where
    by : (id : LspId) (link : ℕ) (o : Option Entry) → entry_in es id ≡ o → seq_of (option_and_then after_second (entry_in es id)) ≡ 0 → srm_in (fold flood_aged f es).rows id link ≡ false
    by id link None q z = srm_same (fold flood_aged f es).rows f.rows id link (rows_without es f id q) ∙ s.unsent id link (ap seq_of q)
    by id link (Some e) q z = at (aged e) refl
      where
        after : seq_of (after_second e) ≡ 0
        after = rw q at z

        stays : e.seq ≡ 0 → Becomes Live (rows_for id f.rows) (rows_for id (fold flood_aged f es).rows) → srm_in (fold flood_aged f es).rows id link ≡ false
        stays none same = srm_same (fold flood_aged f es).rows f.rows id link same ∙ s.unsent id link (ap seq_of q ∙ none)

        rows : Becomes (aged e) (rows_for id f.rows) (rows_for id (fold flood_aged f es).rows)
        rows = rows_with es f id e s.in_order q

        at : (a : Aged) → aged e ≡ a → srm_in (fold flood_aged f es).rows id link ≡ false
        at Live a = stays (rw a at after) (rw a at rows)
        at Held a = stays (rw a at after) (rw a at rows)
        at Expired a =
            let none : e.seq ≡ 0 = rw a at after in
            let some : 0 < e.seq = says_some confs e (expired_lives e a) (found_each (IsTrueEntry confs) es id e s.entries_true q).says in
            absurd (omega (arith, none, some))
        at Removed a =
            let gone : rows_for id (fold flood_aged f es).rows ≡ drop 1 (rows_for id f.rows) = rw a at rows in
            srm_none (fold flood_aged f es).rows id link (gone ∙ only_row f.rows id asc)
