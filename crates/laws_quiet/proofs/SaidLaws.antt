-- What an LSDB says: its live LSPs without their lifetimes. The claims of all systems depend on nothing else.
use Rattle.std.proofs.Common.{◌≡◌, ℕ, zero, suc, ◌+◌, ◌≤◌, ◌&&◌, ◌==◌, nat_lt, Bool, true, false, List, [], ◌∷◌, ◌++◌, length, map, filter, refl, sym, ap, ◌∙◌, arith}
use mathlib.Core.Bool.{true≢false}
use Rattle.std.specs.List.{flat_map}
use Rattle.std.specs.declared.cmp.Ordering.{Ordering}
use Rattle.std.specs.declared.cmp.Ordering.TheVariants.{Less, Equal, Greater}
use Rattle.std.specs.Ordering.{is_gt, is_lt}
use Rattle.std.proofs.lemmas.Bool.{and_parts, eqb-true}
use Rattle.std.proofs.lemmas.Slice.Eq.{bytes_eq-Decides}
use Rattle.wire_base.specs.declared.addresses.LspId.{LspId}
use Rattle.wire_base.specs.declared.addresses.SystemId.{SystemId}
use Rattle.wire_base.specs.declared.entry.Entry.{Entry}
use Rattle.wire_base.specs.model.Control.{AreAscending, id_order, ids_of, same_system}
use Rattle.wire_base.specs.model.Tlv.{Tlv, tlvs_before}
use Rattle.wire_base.specs.model.View.{Claim, claim_of, is_overload_flag, links_in, subs_in, tlvs_of}
use Rattle.wire_base.proofs.OrderLaws.{below_from_above, same_from_tie}
use Rattle.quiet_domain.specs.Live.{AreSameLive, are_alike, has_same, is_live, is_same_at}
use Rattle.quiet_domain.proofs.LiveLaws.{skips_both, skips_left, skips_right, stops_both, stops_left, stops_right, under_front}

-- a live LSP without its lifetime
pub record Said : Type 0 where
  pub id : LspId
  pub flags : ℕ
  pub content : List ℕ

abbrev pub said_by : Entry → Said
said_by e = record { id = e.id; flags = e.flags; content = e.content }

abbrev pub said_in : List Entry → List Said
said_in es = map said_by (filter is_live es)

-- ---- the same live entries

alike_said : (x y : Entry) → is_live x ≡ true → is_live y ≡ true → are_alike x y ≡ true → x.id ≡ y.id → said_by x ≡ said_by y
alike_said x y live lives alike tied =
    let same : has_same x y ≡ true = rw (live, lives) at alike in
    let a = and_parts (x.seq == y.seq) _ same in
    let b = and_parts (x.flags == y.flags) _ a.1 in
    ap (λ (i : LspId). record { id = i; flags = x.flags; content = x.content }) tied
    ∙ ap (λ (n : ℕ). record { id = y.id; flags = n; content = x.content }) (eqb-true x.flags y.flags b.0)
    ∙ ap (λ (l : List ℕ). record { id = y.id; flags = y.flags; content = l }) ((bytes_eq-Decides x.content y.content).0 b.1)

differ : {P : Type 0} (a b : List Entry) (id : LspId) → AreSameLive a b → is_same_at a b id ≡ false → P
differ a b id same other = absurd (true≢false (sym (same id) ∙ other))

-- what holds of lists that are together no longer than n
abbrev Shorter : ℕ → Type 0
Shorter n = (a b : List Entry) → length a + length b ≤ n → AreAscending (ids_of a) → AreAscending (ids_of b) → AreSameLive a b → said_in a ≡ said_in b

same_said_by : (n : ℕ) → Shorter n
same_said_by n [] [] few asc bsc same = refl
same_said_by zero [] (y ∷ ys) few asc bsc same = absurd (omega (arith, few))
same_said_by zero (x ∷ xs) b few asc bsc same = absurd (omega (arith, few))
same_said_by (suc n) [] (y ∷ ys) few asc bsc same = by (is_live y) refl (same_said_by n)
  where
    by : (l : Bool) → is_live y ≡ l → Shorter n → said_in [] ≡ said_in (y ∷ ys)
    by true live again = differ [] (y ∷ ys) y.id same (stops_right [] y ys bsc tt live).differs
    by false dead again = rw dead (again [] ys (omega (arith, few)) asc bsc.1 (λ id. sym (skips_right [] y ys bsc dead id) ∙ same id))
same_said_by (suc n) (x ∷ xs) [] few asc bsc same = by (is_live x) refl (same_said_by n)
  where
    by : (l : Bool) → is_live x ≡ l → Shorter n → said_in (x ∷ xs) ≡ said_in []
    by true live again = differ (x ∷ xs) [] x.id same (stops_left x xs [] asc tt live).differs
    by false dead again = rw dead (again xs [] (omega (arith, few)) asc.1 bsc (λ id. sym (skips_left x xs [] asc dead id) ∙ same id))
same_said_by (suc n) (x ∷ xs) (y ∷ ys) few asc bsc same = by (is_live x) refl (is_live y) refl (id_order x.id y.id) refl (same_said_by n)
  where
    tied : is_live x ≡ true → is_live y ≡ true → x.id ≡ y.id → Shorter n → (b : Bool) → are_alike x y ≡ b → said_in (x ∷ xs) ≡ said_in (y ∷ ys)
    tied live lives tie again false other = differ (x ∷ xs) (y ∷ ys) x.id same (stops_both x xs y ys asc bsc tie other).differs
    tied live lives tie again true alike =
        let more : said_in xs ≡ said_in ys = again xs ys (omega (arith, few)) asc.1 bsc.1 (λ id. sym (skips_both x xs y ys asc bsc tie alike id) ∙ same id) in
        rw (live, lives) (ap (λ (s : Said). s ∷ said_in xs) (alike_said x y live lives alike tie) ∙ ap (λ (ss : List Said). said_by y ∷ ss) more)

    by : (l : Bool) → is_live x ≡ l → (m : Bool) → is_live y ≡ m → (o : Ordering) → id_order x.id y.id ≡ o → Shorter n → said_in (x ∷ xs) ≡ said_in (y ∷ ys)
    by false dead m e o q again = rw dead (again xs (y ∷ ys) (omega (arith, few)) asc.1 bsc (λ id. sym (skips_left x xs (y ∷ ys) asc dead id) ∙ same id))
    by true live false dead o q again = rw dead (again (x ∷ xs) ys (omega (arith, few)) asc bsc.1 (λ id. sym (skips_right (x ∷ xs) y ys bsc dead id) ∙ same id))
    by true live true lives Less q again = differ (x ∷ xs) (y ∷ ys) x.id same (stops_left x xs (y ∷ ys) asc (under_front y ys x.id bsc (ap is_lt q)) live).differs
    by true live true lives Greater q again = differ (x ∷ xs) (y ∷ ys) y.id same (stops_right (x ∷ xs) y ys bsc (under_front x xs y.id asc (below_from_above x.id y.id (ap is_gt q))) lives).differs
    by true live true lives Equal q again = tied live lives (same_from_tie x.id y.id q) again (are_alike x y) refl

-- LSDBs with the same live entries say the same
pub same_said : (a b : List Entry) → AreAscending (ids_of a) → AreAscending (ids_of b) → AreSameLive a b → said_in a ≡ said_in b
same_said a b asc bsc same = same_said_by (length a + length b) a b (omega arith) asc bsc same

-- ---- claims

abbrev is_part : SystemId → Said → Bool
is_part s x = same_system x.id.system s && (x.id.pseudonode == 0)

abbrev said_tlvs : List Said → SystemId → List Tlv
said_tlvs xs s = flat_map (λ x. tlvs_before x.content) (filter (is_part s) xs)

abbrev claimed_by : List Said → Said → Claim
claimed_by xs x =
    record {
      system = x.id.system;
      overload = is_overload_flag x.flags;
      links = flat_map links_in (said_tlvs xs x.id.system);
      subs = flat_map subs_in (said_tlvs xs x.id.system);
    }

tlvs_said : (es : List Entry) (s : SystemId) → tlvs_of es s ≡ said_tlvs (said_in es) s
tlvs_said [] s = refl
tlvs_said (e ∷ es) s = by (is_live e) refl (same_system e.id.system s) refl (e.id.pseudonode == 0) refl (tlvs_said es s)
  where
    by : (l : Bool) → is_live e ≡ l → (p : Bool) → same_system e.id.system s ≡ p → (q : Bool) → (e.id.pseudonode == 0) ≡ q → tlvs_of es s ≡ said_tlvs (said_in es) s → tlvs_of (e ∷ es) s ≡ said_tlvs (said_in (e ∷ es)) s
    by true l true p true q more = rw (l, p, q) (ap (λ (ts : List Tlv). tlvs_before e.content ++ ts) more)
    by true l true p false q more = rw (l, p, q) more
    by true l false p q e more = rw (l, p) more
    by false l true p true q more = rw (l, p, q) more
    by false l true p false q more = rw (l, p, q) more
    by false l false p q e more = rw (l, p) more

claim_said : (es : List Entry) (e : Entry) → claim_of es e ≡ claimed_by (said_in es) (said_by e)
claim_said es e = ap (λ (ts : List Tlv). record { system = e.id.system; overload = is_overload_flag e.flags; links = flat_map links_in ts; subs = flat_map subs_in ts }) (tlvs_said es e.id.system)

-- a live fragment 0 of a router
abbrev pub is_first : Entry → Bool
is_first e = (e.id.pseudonode == 0) && ((e.id.fragment == 0) && nat_lt 0 e.life)

abbrev pub claims_in : List Entry → List Claim
claims_in es = map (claim_of es) (filter is_first es)

abbrev is_fragment : Said → Bool
is_fragment x = (x.id.pseudonode == 0) && (x.id.fragment == 0)

claims_said_of : (every es : List Entry) → map (claim_of every) (filter is_first es) ≡ map (claimed_by (said_in every)) (filter is_fragment (said_in es))
claims_said_of every [] = refl
claims_said_of every (e ∷ es) = by (is_live e) refl (e.id.pseudonode == 0) refl (e.id.fragment == 0) refl (claims_said_of every es)
  where
    by : (l : Bool) → is_live e ≡ l → (p : Bool) → (e.id.pseudonode == 0) ≡ p → (q : Bool) → (e.id.fragment == 0) ≡ q
        → map (claim_of every) (filter is_first es) ≡ map (claimed_by (said_in every)) (filter is_fragment (said_in es))
        → map (claim_of every) (filter is_first (e ∷ es)) ≡ map (claimed_by (said_in every)) (filter is_fragment (said_in (e ∷ es)))
    by true l true p true q more = rw (l, p, q) (ap (λ (c : Claim). c ∷ map (claim_of every) (filter is_first es)) (claim_said every e) ∙ ap (λ (cs : List Claim). claimed_by (said_in every) (said_by e) ∷ cs) more)
    by true l true p false q more = rw (l, p, q) more
    by true l false p q f more = rw (l, p) more
    by false l true p true q more = rw (l, p, q) more
    by false l true p false q more = rw (l, p, q) more
    by false l false p q f more = rw (l, p) more

-- what is said determines the claims of all systems
pub claims_same : (a b : List Entry) → said_in a ≡ said_in b → claims_in a ≡ claims_in b
claims_same a b same = claims_said_of a a ∙ ap (λ (xs : List Said). map (claimed_by xs) (filter is_fragment xs)) same ∙ sym (claims_said_of b b)
