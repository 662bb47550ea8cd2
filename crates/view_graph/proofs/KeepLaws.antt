-- What the other systems say is what is left of all claims without the own one.
use mathlib.Core.Bool.{true≢false}
use Rattle.std.proofs.Common.{◌≡◌, ◌||◌, Bool, true, false, if◌then◌else◌, List, [], ◌∷◌, map, filter, Some, None, refl, sym, ap, subst, ◌∙◌}
use Rattle.std.specs.declared.cmp.Ordering.{Ordering}
use Rattle.std.specs.declared.cmp.Ordering.TheVariants.{Less, Equal, Greater}
use Rattle.std.specs.Ordering.{is_eq, is_lt, is_gt}
use Rattle.std.specs.List.{AllByRecursion}
use Rattle.std.proofs.lemmas.Slice.Eq.{bytes_eq-Decides}
use Rattle.wire_base.specs.declared.conf.RouterConf.{RouterConf}
use Rattle.wire_base.specs.declared.conf.SubKind.{SubKind}
use Rattle.wire_base.specs.declared.entry.Entry.{Entry}
use Rattle.wire_base.specs.declared.addresses.SystemId.{SystemId}
use Rattle.wire_base.specs.model.Control.{same_system, system_order}
use Rattle.wire_base.specs.model.View.{Claim, with_known, put_claim, claim_of, is_other, own_claim, claims_of}
use Rattle.view_graph.specs.Renewal.{said_now}
use Rattle.view_graph.specs.Keep.{Keep, IsUnchanged, heard, said_by, said_in, is_named, without_system}
use Rattle.wire_base.specs.declared.view.ViewNode.{ViewNode}
use Rattle.view_graph.specs.Edges.{is_before, AreInOrder}
use Rattle.laws_format.proofs.TlvLaws.{some_is}
use Rattle.view_graph.proofs.FragmentLaws.{same_is}
use Rattle.view_graph.proofs.HeardLaws.{said_heard}
use Rattle.view_graph.proofs.SystemLaws.{tie_is_same, before_trans, before_differs, before_from_above, same_turned}
use Rattle.laws_format.proofs.InfoLaws.{all_weaker}
use Rattle.view_graph.proofs.GraphLaws.{others, others_apart}

kept : (s : SystemId) (kinds : List SubKind) (cs : List Claim) → AllByRecursion (λ d. same_system d.system s ≡ false) cs → without_system s (map (with_known kinds) cs) ≡ map (with_known kinds) cs
kept s kinds [] apart = refl
kept s kinds (c ∷ cs) apart = rw apart.0 (ap (λ (ds : List Claim). with_known kinds c ∷ ds) (kept s kinds cs apart.1))

without_own : (kinds : List SubKind) (own : Claim) (cs : List Claim) → AllByRecursion (λ d. same_system d.system own.system ≡ false) cs → without_system own.system (map (with_known kinds) (put_claim own cs)) ≡ map (with_known kinds) cs
without_own kinds own [] apart = rw ((bytes_eq-Decides own.system.0 own.system.0).1 refl) refl
without_own kinds own (c ∷ cs) apart = by (is_lt (system_order own.system c.system)) refl (without_own kinds own cs apart.1)
  where
    by : (b : Bool) → is_lt (system_order own.system c.system) ≡ b → without_system own.system (map (with_known kinds) (put_claim own cs)) ≡ map (with_known kinds) cs
        → without_system own.system (map (with_known kinds) (put_claim own (c ∷ cs))) ≡ map (with_known kinds) (c ∷ cs)
    by true e more = rw (e, (bytes_eq-Decides own.system.0 own.system.0).1 refl) (kept own.system kinds (c ∷ cs) apart)
    by false e more = rw (e, apart.0) (ap (λ (ds : List Claim). with_known kinds c ∷ ds) more)

pub heard_is : (r : RouterConf) (up : List Bool) (entries : List Entry) → without_system r.system (map (with_known r.kinds) (claims_of r up entries)) ≡ heard r.system r.kinds entries
unfolding claims_of heard others
heard_is r up entries = without_own r.kinds (own_claim r up) (map (claim_of entries) (filter (is_other r.system) entries)) (others_apart entries r.system entries)

-- ---- lists of claims in order that say the same of each system are the same

pub said_head : (c : Claim) (cs : List Claim) → said_by (c ∷ cs) c.system ≡ Some c
said_head c cs = rw ((bytes_eq-Decides c.system.0 c.system.0).1 refl) refl

said_above : (s : SystemId) (cs : List Claim) → AllByRecursion (λ d. is_before s d.system ≡ true) cs → said_by cs s ≡ None
said_above s [] all = refl
said_above s (c ∷ cs) all = rw (same_turned c.system s ∙ before_differs s c.system all.0) (said_above s cs all.1)

lower : (s : SystemId) (c : Claim) (cs : List Claim) → is_before s c.system ≡ true → AllByRecursion (λ d. is_before c.system d.system ≡ true) cs → said_by (c ∷ cs) s ≡ None
lower s c cs h all = said_above s (c ∷ cs) (h, all_weaker (λ (d : Claim). is_before c.system d.system ≡ true) (λ (d : Claim). is_before s d.system ≡ true) (λ d k. before_trans s c.system d.system h k) cs all)

none_some : {X : Type 0} (x : X) → None ≡ Some x → ⊥
none_some x e = absurd cc

pub same_claims : (xs ys : List Claim) → AreInOrder xs → AreInOrder ys → ((s : SystemId) → said_by xs s ≡ said_by ys s) → xs ≡ ys
same_claims [] [] a b same = refl
same_claims [] (y ∷ ys) a b same = absurd (none_some y (same y.system ∙ said_head y ys))
same_claims (x ∷ xs) [] a b same = absurd (none_some x (sym (same x.system) ∙ said_head x xs))
same_claims (x ∷ xs) (y ∷ ys) a b same = by (system_order x.system y.system) refl (λ k. same_claims xs ys a.1 b.1 k)
  where
    rest : x ≡ y → (s : SystemId) → said_by xs s ≡ said_by ys s
    rest e s = cases (same_system x.system s) refl
      where
        cases : (t : Bool) → same_system x.system s ≡ t → said_by xs s ≡ said_by ys s
        cases true h =
            let is : x.system ≡ s = same_is x.system s h in
            ap (said_by xs) (sym is) ∙ said_above x.system xs a.0 ∙ sym (ap (said_by ys) (sym is) ∙ ap (λ (c : Claim). said_by ys c.system) e ∙ said_above y.system ys b.0)
        cases false h =
            let left : said_by (x ∷ xs) s ≡ said_by xs s = rw h refl in
            let other : same_system y.system s ≡ false = ap (λ (c : Claim). same_system c.system s) (sym e) ∙ h in
            let right : said_by (y ∷ ys) s ≡ said_by ys s = rw other refl in
            sym left ∙ same s ∙ right

    by : (o : Ordering) → system_order x.system y.system ≡ o → (((s : SystemId) → said_by xs s ≡ said_by ys s) → xs ≡ ys) → x ∷ xs ≡ y ∷ ys
    by Less e more = absurd (none_some x (sym (lower x.system y ys (ap is_lt e) b.0) ∙ sym (same x.system) ∙ said_head x xs))
    by Greater e more = absurd (none_some y (sym (lower y.system x xs (before_from_above x.system y.system (ap is_gt e)) a.0) ∙ same y.system ∙ said_head y ys))
    by Equal e more =
        let systems : x.system ≡ y.system = same_is x.system y.system (sym (tie_is_same x.system y.system) ∙ ap is_eq e) in
        let first : x ≡ y = some_is x y (sym (said_head x xs) ∙ same x.system ∙ ap (said_by (y ∷ ys)) systems ∙ said_head y ys) in
        ap (λ (c : Claim). c ∷ xs) first ∙ ap (λ (cs : List Claim). y ∷ cs) (more (rest first))

-- to leave out another system changes nothing
pub said_without : (own s : SystemId) (cs : List Claim) → same_system s own ≡ false → said_by (without_system own cs) s ≡ said_by cs s
said_without own s [] apart = refl
said_without own s (c ∷ cs) apart = by (same_system c.system own) refl (same_system c.system s) refl (said_without own s cs apart)
  where
    by : (b : Bool) → same_system c.system own ≡ b → (t : Bool) → same_system c.system s ≡ t → said_by (without_system own cs) s ≡ said_by cs s → said_by (without_system own (c ∷ cs)) s ≡ said_by (c ∷ cs) s
    by true h true k more = absurd (true≢false (sym (ap (λ (t : SystemId). same_system t own) (sym (same_is c.system s k)) ∙ h) ∙ apart))
    by true h false k more = rw (h, k) more
    by false h true k more = rw (h, k) refl
    by false h false k more = rw (h, k) more

said_put : (kinds : List SubKind) (own : Claim) (cs : List Claim) → AllByRecursion (λ d. same_system d.system own.system ≡ false) cs → said_by (map (with_known kinds) (put_claim own cs)) own.system ≡ Some (with_known kinds own)
said_put kinds own [] apart = rw ((bytes_eq-Decides own.system.0 own.system.0).1 refl) refl
said_put kinds own (c ∷ cs) apart = by (is_lt (system_order own.system c.system)) refl (said_put kinds own cs apart.1)
  where
    by : (b : Bool) → is_lt (system_order own.system c.system) ≡ b → said_by (map (with_known kinds) (put_claim own cs)) own.system ≡ Some (with_known kinds own) → said_by (map (with_known kinds) (put_claim own (c ∷ cs))) own.system ≡ Some (with_known kinds own)
    by true e more = rw (e, (bytes_eq-Decides own.system.0 own.system.0).1 refl) refl
    by false e more = rw (e, apart.0) more

-- what the router says of itself
pub said_own : (r : RouterConf) (up : List Bool) (entries : List Entry) → said_by (map (with_known r.kinds) (claims_of r up entries)) r.system ≡ Some (with_known r.kinds (own_claim r up))
unfolding claims_of others
said_own r up entries = said_put r.kinds (own_claim r up) (map (claim_of entries) (filter (is_other r.system) entries)) (others_apart entries r.system entries)

-- what each system says now
pub now_is : (r : RouterConf) (up : List Bool) (entries : List Entry) (s : SystemId) → said_by (map (with_known r.kinds) (claims_of r up entries)) s ≡ said_now r up entries s
unfolding said_now
now_is r up entries s = cases (same_system s r.system) refl
  where
    cases : (b : Bool) → same_system s r.system ≡ b → said_by (map (with_known r.kinds) (claims_of r up entries)) s ≡ (if same_system s r.system then Some (with_known r.kinds (own_claim r up)) else said_in r.kinds entries s)
    cases true h = rw h (ap (said_by (map (with_known r.kinds) (claims_of r up entries))) (same_is s r.system h) ∙ said_own r up entries)
    cases false h = rw h (sym (said_without r.system s (map (with_known r.kinds) (claims_of r up entries)) h) ∙ ap (λ (cs : List Claim). said_by cs s) (heard_is r up entries) ∙ said_heard r.kinds entries r.system s h)

-- what is kept of a system that is neither the router nor named is what it says now
pub unnamed_now : (k : Keep) (r : RouterConf) (up : List Bool) (entries : List Entry) (system : SystemId) (kinds : List SubKind) (claims : List Claim) (nodes : List ViewNode) (changed : List SystemId)
    → record { nodes = nodes; system = system; kinds = kinds; others = without_system system claims } ≡ k → r.system ≡ k.system → r.kinds ≡ k.kinds → IsUnchanged k changed entries
    → (s : SystemId) → is_named (r.system ∷ changed) s ≡ false → said_by claims s ≡ said_now r up entries s
unfolding said_now
unnamed_now k r up entries system kinds claims nodes changed view own own_kinds unchanged s h = cases (same_system r.system s) refl (is_named changed s) refl h
  where
    before : Keep
    before = record { nodes = nodes; system = system; kinds = kinds; others = without_system system claims }

    said : same_system s r.system ≡ false → is_named changed s ≡ false → said_by (without_system r.system claims) s ≡ said_by (heard r.system r.kinds entries) s
    said =
        let a : IsUnchanged before changed entries = subst (λ (x : Keep). IsUnchanged x changed entries) (sym view) unchanged in
        let system_is : system ≡ r.system = ap (λ (x : Keep). x.system) view ∙ sym own in
        let kinds_are : kinds ≡ r.kinds = ap (λ (x : Keep). x.kinds) view ∙ sym own_kinds in
        let b = subst (λ (t : SystemId). same_system s t ≡ false → is_named changed s ≡ false → said_by (without_system t claims) s ≡ said_by (heard t kinds entries) s) system_is (a s) in
        subst (λ (ts : List SubKind). same_system s r.system ≡ false → is_named changed s ≡ false → said_by (without_system r.system claims) s ≡ said_by (heard r.system ts entries) s) kinds_are b

    cases : (b : Bool) → same_system r.system s ≡ b → (t : Bool) → is_named changed s ≡ t → (same_system r.system s || is_named changed s) ≡ false → said_by claims s ≡ (if same_system s r.system then Some (with_known r.kinds (own_claim r up)) else said_in r.kinds entries s)
    cases true e t f k = absurd (true≢false (sym (ap (λ b. b || is_named changed s) e) ∙ k))
    cases false e true f k = absurd (true≢false (sym (ap (λ b. b || is_named changed s) e ∙ f) ∙ k))
    cases false e false f k =
        let apart : same_system s r.system ≡ false = same_turned s r.system ∙ e in
        rw apart (sym (said_without r.system s claims apart) ∙ said apart f ∙ said_heard r.kinds entries r.system s apart)
