-- The claims of all systems, the router's own among them, are what the LSDB says.
use Rattle.std.proofs.Common.{◌≡◌, ℕ, ◌==◌, Bool, true, false, List, [], ◌∷◌, map, filter, Some, refl, sym, ap, subst, ◌∙◌}
use mathlib.Core.Bool.{false≢true, true≢false}
use Rattle.std.specs.List.{AllByRecursion}
use Rattle.std.specs.declared.cmp.Ordering.{Ordering}
use Rattle.std.specs.declared.cmp.Ordering.TheVariants.{Less, Equal, Greater}
use Rattle.std.specs.Ordering.{is_lt, ordering_reverse, ordering_then}
use Rattle.std.proofs.lemmas.Bool.{and_from, and_parts, eqb-true}
use Rattle.std.proofs.lemmas.Option.{same_Some}
use Rattle.wire_base.specs.declared.addresses.LspId.{LspId}
use Rattle.wire_base.specs.declared.addresses.SystemId.{SystemId}
use Rattle.wire_base.specs.declared.conf.RouterConf.{RouterConf}
use Rattle.wire_base.specs.declared.entry.Entry.{Entry}
use Rattle.wire_base.specs.model.Configuration.{IsSound}
use Rattle.wire_base.specs.model.Control.{AreAscending, entry_in, fragment_0, ids_of, is_below, same_id, same_system, system_order}
use Rattle.wire_base.specs.model.View.{Claim, claim_of, claims_of, is_other, put_claim}
use Rattle.wire_base.proofs.OrderLaws.{below_differs, system_total}
use Rattle.domain_model.proofs.FlagLaws.{found_id, same_id_is}
use Rattle.quiet_domain.specs.Live.{is_live}
use Rattle.laws_quiet.proofs.OwnLaws.{HasOwnLsp, own_claim_is, system_self}
use Rattle.laws_quiet.proofs.SaidLaws.{claims_in, is_first}

-- ---- fragments 0

-- the identifier of a fragment 0 of a router
fragment_is : (e : Entry) → is_first e ≡ true → e.id ≡ fragment_0 e.id.system
fragment_is e h =
    let a = and_parts (e.id.pseudonode == 0) _ h in
    let b = and_parts (e.id.fragment == 0) _ a.1 in
    ap (λ (n : ℕ). record { system = e.id.system; pseudonode = n; fragment = e.id.fragment }) (eqb-true e.id.pseudonode 0 a.0)
    ∙ ap (λ (n : ℕ). record { system = e.id.system; pseudonode = 0; fragment = n }) (eqb-true e.id.fragment 0 b.0)

-- fragments 0 are ordered as their systems
system_before : (s t : SystemId) → is_below (fragment_0 s) (fragment_0 t) ≡ true → is_lt (system_order s t) ≡ true
system_before s t h = by (system_order s t) refl
  where
    by : (o : Ordering) → system_order s t ≡ o → is_lt (system_order s t) ≡ true
    by Less q = ap is_lt q
    by Equal q = absurd (false≢true (sym (ap (λ (o : Ordering). is_lt (ordering_then o Equal)) q) ∙ h))
    by Greater q = absurd (false≢true (sym (ap (λ (o : Ordering). is_lt (ordering_then o Equal)) q) ∙ h))

not_before : (s t : SystemId) → is_lt (system_order s t) ≡ true → is_lt (system_order t s) ≡ false
not_before s t h = ap is_lt (system_total.antisymm t s) ∙ by (system_order s t) h
  where
    by : (o : Ordering) → is_lt o ≡ true → is_lt (ordering_reverse o) ≡ false
    by Less h = refl
    by Equal h = refl
    by Greater h = absurd (false≢true h)

other_is : (s : SystemId) (e : Entry) → same_system e.id.system s ≡ false → is_other s e ≡ is_first e
other_is s e h = rw h refl

own_isnt : (s : SystemId) (e : Entry) → same_system e.id.system s ≡ true → is_other s e ≡ false
own_isnt s e h = rw h refl

-- an entry before the one with an identifier is below it
above_found : (es : List Entry) (x id : LspId) (e : Entry) → AllByRecursion (λ i. is_below x i ≡ true) (ids_of es) → entry_in es id ≡ Some e → is_below x id ≡ true
above_found [] x id e all h = cc
above_found (y ∷ ys) x id e all h = by (same_id y.id id) refl (λ k. above_found ys x id e all.1 k)
  where
    by : (b : Bool) → same_id y.id id ≡ b → (entry_in ys id ≡ Some e → is_below x id ≡ true) → is_below x id ≡ true
    by true t more = subst (λ (i : LspId). is_below x i ≡ true) (same_id_is y.id id t) all.0
    by false t more = let k : entry_in ys id ≡ Some e = rw t at h in more k

-- ---- the own claim among the others

module _ (s : SystemId) (F : Entry → Claim) (system : (e : Entry) → (F e).system ≡ e.id.system) where
  -- above the own LSP all fragments 0 are of other systems
  others_above : (es : List Entry) → AllByRecursion (λ i. is_below (fragment_0 s) i ≡ true) (ids_of es) → filter (is_other s) es ≡ filter is_first es
  others_above [] all = refl
  others_above (e ∷ es) all = by (same_system e.id.system s) refl (is_first e) refl (others_above es all.1)
    where
      by : (b : Bool) → same_system e.id.system s ≡ b → (f : Bool) → is_first e ≡ f → filter (is_other s) es ≡ filter is_first es → filter (is_other s) (e ∷ es) ≡ filter is_first (e ∷ es)
      by false h true f more = rw (other_is s e h ∙ f, f) (ap (λ (xs : List Entry). e ∷ xs) more)
      by false h false f more = rw (other_is s e h ∙ f, f) more
      by true h false f more = rw (own_isnt s e h, f) more
      by true h true f more =
          let same : same_id (fragment_0 e.id.system) (fragment_0 s) ≡ true = and_from _ _ h refl in
          let is : e.id ≡ fragment_0 s = fragment_is e f ∙ same_id_is (fragment_0 e.id.system) (fragment_0 s) same in
          absurd (true≢false (sym (and_from _ _ (system_self s) refl) ∙ ap (same_id (fragment_0 s)) (sym is) ∙ below_differs (fragment_0 s) e.id all.0))

  -- and the own claim comes before theirs
  put_first : (es : List Entry) (own : Entry) → own.id ≡ fragment_0 s → AllByRecursion (λ i. is_below (fragment_0 s) i ≡ true) (ids_of es) → put_claim (F own) (map F (filter is_first es)) ≡ F own ∷ map F (filter is_first es)
  put_first [] own id all = refl
  put_first (e ∷ es) own id all = by (is_first e) refl (put_first es own id all.1)
    where
      by : (f : Bool) → is_first e ≡ f → put_claim (F own) (map F (filter is_first es)) ≡ F own ∷ map F (filter is_first es) → put_claim (F own) (map F (filter is_first (e ∷ es))) ≡ F own ∷ map F (filter is_first (e ∷ es))
      by false f more = rw f more
      by true f more =
          let below : is_lt (system_order s e.id.system) ≡ true = system_before s e.id.system (subst (λ (i : LspId). is_below (fragment_0 s) i ≡ true) (fragment_is e f) all.0) in
          let here : is_lt (system_order (F own).system (F e).system) ≡ true = ap (λ (t : SystemId). is_lt (system_order t (F e).system)) (system own ∙ ap (λ (i : LspId). i.system) id) ∙ ap (λ (t : SystemId). is_lt (system_order s t)) (system e) ∙ below in
          rw (f, here) refl

  put_back : (es : List Entry) (own : Entry) → AreAscending (ids_of es) → entry_in es (fragment_0 s) ≡ Some own → is_live own ≡ true → put_claim (F own) (map F (filter (is_other s) es)) ≡ map F (filter is_first es)
  put_back [] own asc there live = cc
  put_back (e ∷ es) own asc there live = by (same_id e.id (fragment_0 s)) refl (λ k. put_back es own asc.1 k live)
    where
      by : (b : Bool) → same_id e.id (fragment_0 s) ≡ b → (entry_in es (fragment_0 s) ≡ Some own → put_claim (F own) (map F (filter (is_other s) es)) ≡ map F (filter is_first es)) → put_claim (F own) (map F (filter (is_other s) (e ∷ es))) ≡ map F (filter is_first (e ∷ es))
      by true h more =
          let found : Some e ≡ Some own = rw h at there in
          let is : e ≡ own = same_Some e own found in
          let id : e.id ≡ fragment_0 s = same_id_is e.id (fragment_0 s) h in
          let mine : same_system e.id.system s ≡ true = ap (λ (i : LspId). same_system i.system s) id ∙ system_self s in
          let first : is_first e ≡ true = and_from _ _ (ap (λ (i : LspId). i.pseudonode == 0) id) (and_from _ _ (ap (λ (i : LspId). i.fragment == 0) id) (ap is_live is ∙ live)) in
          let under : AllByRecursion (λ i. is_below (fragment_0 s) i ≡ true) (ids_of es) = subst (λ (i : LspId). AllByRecursion (λ j. is_below i j ≡ true) (ids_of es)) id asc.0 in
          rw (own_isnt s e mine, first, others_above es under) (put_first es own (ap (λ (x : Entry). x.id) (sym is) ∙ id) under ∙ ap (λ (x : Entry). F x ∷ map F (filter is_first es)) (sym is))
      by false h more =
          let later : entry_in es (fragment_0 s) ≡ Some own = rw h at there in
          other (is_first e) refl (more later) (above_found es e.id (fragment_0 s) own asc.0 later) (own_id es own later)
        where
          own_id : (xs : List Entry) (x : Entry) → entry_in xs (fragment_0 s) ≡ Some x → x.id ≡ fragment_0 s
          own_id xs x there = same_id_is x.id (fragment_0 s) (found_id xs (fragment_0 s) x there)

          other : (f : Bool) → is_first e ≡ f → put_claim (F own) (map F (filter (is_other s) es)) ≡ map F (filter is_first es) → is_below e.id (fragment_0 s) ≡ true → own.id ≡ fragment_0 s
              → put_claim (F own) (map F (filter (is_other s) (e ∷ es))) ≡ map F (filter is_first (e ∷ es))
          other false f more below id = rw (other_none f, f) more
            where
              other_none : is_first e ≡ false → is_other s e ≡ false
              other_none f = by_system (same_system e.id.system s) refl
                where
                  by_system : (b : Bool) → same_system e.id.system s ≡ b → is_other s e ≡ false
                  by_system true t = own_isnt s e t
                  by_system false t = other_is s e t ∙ f
          other true f more below id =
              let apart : same_system e.id.system s ≡ false = differ (same_system e.id.system s) refl in
              let before : is_lt (system_order e.id.system s) ≡ true = system_before e.id.system s (subst (λ (i : LspId). is_below i (fragment_0 s) ≡ true) (fragment_is e f) below) in
              let past : is_lt (system_order (F own).system (F e).system) ≡ false =
              ap (λ (t : SystemId). is_lt (system_order t (F e).system)) (system own ∙ ap (λ (i : LspId). i.system) id) ∙ ap (λ (t : SystemId). is_lt (system_order s t)) (system e) ∙ not_before e.id.system s before in
              rw (other_is s e apart ∙ f, f, past) (ap (λ (cs : List Claim). F e ∷ cs) more)
            where
              differ : (b : Bool) → same_system e.id.system s ≡ b → same_system e.id.system s ≡ false
              differ false t = t
              differ true t = absurd (true≢false (sym (and_from _ _ t refl) ∙ ap (λ (i : LspId). same_id i (fragment_0 s)) (sym (fragment_is e f)) ∙ h))

pub claims_are : (r : RouterConf) (up : List Bool) (entries : List Entry) → IsSound r → AreAscending (ids_of entries) → HasOwnLsp r up entries → claims_of r up entries ≡ claims_in entries
unfolding claims_of
claims_are r up entries sound asc own =
    ap (λ (c : Claim). put_claim c (map (claim_of entries) (filter (is_other r.system) entries))) (own_claim_is r up entries sound asc own)
    ∙ put_back r.system (claim_of entries) (λ e. refl) entries own.lsp asc own.there own.live
