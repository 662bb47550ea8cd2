-- What a BIFT-id stands for, both ways: what the search finds has that BIFT-id, and what has it is found.
use Rattle.std.proofs.Common.{◌≡◌, ℕ, zero, suc, ◌+◌, ◌-◌, ◌≤◌, ◌<◌, ◌&&◌, ◌||◌, length, slice_index_or, true, false, ◌==◌, nat_le, List, [], ◌∷◌, ◌++◌, Option, Some, None, is_some, IfSome, refl, ap, sym, ◌∙◌, ◌⊎◌, inl, inr, subst, arith, if◌then◌else◌}
use Rattle.std.specs.List.{AllByRecursion, Contains}
use Rattle.std.proofs.lemmas.List.Elements.{Contains-append_left, Contains-append_right}
use Rattle.std.proofs.lemmas.Bool.{true≢false, false≢true, leb-true, le-leb, eqb-true, eq-eqb, and_parts, and_from, or_left, cases_Bool, cond-true, cond-false, cond_both, false_from_ne_true}
use Rattle.std.proofs.lemmas.Option.{same_Some}
use Rattle.wire_base.specs.declared.bsl.Bsl.{Bsl}
use Rattle.wire_base.specs.declared.bsl.Bsl.TheVariants.{B64, B128, B256, B512, B1024, B2048, B4096}
use Rattle.wire_base.specs.declared.triple.Triple.{Triple}
use Rattle.wire_base.specs.declared.conf.Kind.{Kind}
use Rattle.wire_base.specs.declared.conf.Kind.TheVariants.{Mpls, Configured}
use Rattle.wire_base.specs.declared.conf.LabelRange.{LabelRange}
use Rattle.wire_base.specs.declared.conf.OwnSub.{OwnSub}
use Rattle.wire_base.specs.declared.conf.PastRange.{PastRange}
use Rattle.wire_base.specs.declared.conf.SubKind.{SubKind}
use Rattle.wire_base.specs.declared.conf.TableRow.{TableRow}
use Rattle.wire_base.specs.declared.conf.RouterConf.{RouterConf}
use Rattle.wire_base.specs.model.Lists.{AreApart, or_else}
use Rattle.wire_base.specs.Searches.{sub_labelled}
use Rattle.wire_base.specs.model.Place.{code_of, bsl_coded, same_triple, kind_of, sub_in, label_in, row_in, known_subs, known_ranges, placed, ranges_of, IsLabel, IsMeaning, is_label_of, is_mpls, is_configured, triple_of, labelled, tells, written, means}
use Rattle.wire_base.specs.model.Configuration.{share_label, share_range, same_row, same_bift, IsSound}

no_None : {X : Type 0} (x : X) → None ≡ Some x → ⊥
no_None x e = true≢false (sym (ap is_some e))

-- a length is known by its code
coded_back : (b : Bsl) → bsl_coded (code_of b) ≡ Some b
coded_back B64 = refl
coded_back B128 = refl
coded_back B256 = refl
coded_back B512 = refl
coded_back B1024 = refl
coded_back B2048 = refl
coded_back B4096 = refl

pub same_code : (a b : Bsl) → code_of a ≡ code_of b → a ≡ b
same_code a b e = same_Some a b (sym (coded_back a) ∙ ap bsl_coded e ∙ coded_back b)

pub triple_by_parts : (t u : Triple) → t.sd ≡ u.sd → t.bsl ≡ u.bsl → t.si ≡ u.si → t ≡ u
triple_by_parts t u p q r i = record { sd = p i; bsl = q i; si = r i }

pub same_triple_is : (t u : Triple) → same_triple t u ≡ true → t ≡ u
same_triple_is t u e =
    let p = and_parts _ _ e in
    let q = and_parts _ _ p.1 in
    triple_by_parts t u (eqb-true t.sd u.sd p.0) (same_code t.bsl u.bsl (eqb-true _ _ q.0)) (eqb-true t.si u.si q.1)

pub same_triple_self : (t : Triple) → same_triple t t ≡ true
same_triple_self t = and_from _ _ (eq-eqb t.sd t.sd refl) (and_from _ _ (eq-eqb _ _ refl) (eq-eqb t.si t.si refl))

-- ---- labels

is_mpls_is : (k : Option Kind) → is_mpls k ≡ true → k ≡ Some Mpls
is_mpls_is None e = absurd (false≢true e)
is_mpls_is (Some Mpls) e = refl
is_mpls_is (Some Configured) e = absurd (false≢true e)

-- two ranges with a label in common share it
apart_label : (x y : LabelRange) (b : ℕ) → share_label x y ≡ false → is_label_of b y ≡ true → is_label_of b x ≡ false
apart_label x y b apart h =
    false_from_ne_true _ (λ k.
    let p = and_parts _ _ h in
    let q = and_parts _ _ k in
    let p0 : y.label ≤ b = leb-true _ _ p.0 in
    let p1 : b ≤ y.label + y.max_si = leb-true _ _ p.1 in
    let q0 : x.label ≤ b = leb-true _ _ q.0 in
    let q1 : b ≤ x.label + x.max_si = leb-true _ _ q.1 in
    let xy : x.label ≤ y.label + y.max_si = omega arith in
    let yx : y.label ≤ x.label + x.max_si = omega arith in
    false≢true (sym apart ∙ and_from _ _ (le-leb _ _ xy) (le-leb _ _ yx)))

pub in_cons : {X : Type 0} (x : X) (xs : List X) (y : X) → Contains xs y → Contains (x ∷ xs) y
in_cons x xs y c = Contains-append_right (x ∷ []) xs y c

at_head : {X : Type 0} (x : X) (xs : List X) → Contains (x ∷ xs) x
at_head x xs = (0, omega arith, refl)

pub label_found : (kinds : List SubKind) (xs : List PastRange) (b : ℕ) (t : Triple) → labelled kinds xs b ≡ Some t → (kind_of kinds t.sd ≡ Some Mpls) × IsLabel xs b t
label_found kinds [] b t e = absurd (no_None t e)
label_found kinds (x ∷ xs) b t e =
    elim (cases_Bool (is_mpls (kind_of kinds x.sd) && is_label_of b x.range)) [
      | inl h ↦
          let p = and_parts _ _ h in
          let q = and_parts _ _ p.1 in
          let low : x.range.label ≤ b = leb-true _ _ q.0 in
          let high : b ≤ x.range.label + x.range.max_si = leb-true _ _ q.1 in
          let u : Triple = record { sd = x.sd; bsl = x.range.bsl; si = b - x.range.label } in
          let is : u ≡ t = same_Some u t (sym (ap (λ o. or_else o (labelled kinds xs b)) (cond-true _ _ _ h)) ∙ e) in
          let within : b - x.range.label ≤ x.range.max_si = omega arith in
          let sum : x.range.label + (b - x.range.label) ≡ b = omega arith in
          subst (λ (v : Triple). (kind_of kinds v.sd ≡ Some Mpls) × IsLabel (x ∷ xs) b v) is (is_mpls_is _ p.0, record { range = x; known = at_head x xs; sd = refl; bsl = refl; si = within; is = sum })
      | inr h ↦
          let r = label_found kinds xs b t (sym (ap (λ o. or_else o (labelled kinds xs b)) (cond-false _ _ _ h)) ∙ e) in
          let l = r.1 in
          (r.0, record { range = l.range; known = in_cons x xs l.range l.known; sd = l.sd; bsl = l.bsl; si = l.si; is = l.is })
    ]

-- whether an element is the first, or is among those after it
pub head_or_later : {X : Type 0} (x : X) (xs : List X) (y : X) (k : ℕ) → k < length (x ∷ xs) → slice_index_or (x ∷ xs) k y ≡ y → (x ≡ y) ⊎ Contains xs y
head_or_later x xs y zero lt e = inl e
head_or_later x xs y (suc k) lt e = inr (k, omega (arith, lt), e)

apart_from : (x y : PastRange) (xs : List PastRange) → AllByRecursion (λ z. share_range x z ≡ false) xs → (k : ℕ) → k < length xs → slice_index_or xs k y ≡ y → share_range x y ≡ false
apart_from x y [] a k lt e = absurd (omega (arith, lt))
apart_from x y (z ∷ zs) a zero lt e = subst (λ w. share_range x w ≡ false) e a.0
apart_from x y (z ∷ zs) a (suc k) lt e = apart_from x y zs a.1 k (omega (arith, lt)) e

has_label : (b : ℕ) (t : Triple) (x : LabelRange) → t.si ≤ x.max_si → x.label + t.si ≡ b → is_label_of b x ≡ true
has_label b t x si is = and_from _ _ (le-leb x.label b (omega (arith, is))) (le-leb b (x.label + x.max_si) (omega (arith, si, is)))

-- a label of a range is found where no other range has it
pub label_there : (kinds : List SubKind) (xs : List PastRange) (b : ℕ) (t : Triple) → AreApart share_range xs → kind_of kinds t.sd ≡ Some Mpls → IsLabel xs b t → labelled kinds xs b ≡ Some t
label_there kinds [] b t apart kind l = absurd (omega (arith, l.known.1))
label_there kinds (x ∷ xs) b t apart kind l =
    elim (head_or_later x xs l.range l.known.0 l.known.1 l.known.2) [
      | inl is ↦
          let sd : x.sd ≡ t.sd = ap (λ (y : PastRange). y.sd) is ∙ l.sd in
          let bsl : x.range.bsl ≡ t.bsl = ap (λ (y : PastRange). y.range.bsl) is ∙ l.bsl in
          let si : t.si ≤ x.range.max_si = subst (λ (y : PastRange). t.si ≤ y.range.max_si) (sym is) l.si in
          let sum : x.range.label + t.si ≡ b = subst (λ (y : PastRange). y.range.label + t.si ≡ b) (sym is) l.is in
          let mpls : is_mpls (kind_of kinds x.sd) ≡ true = ap is_mpls (ap (kind_of kinds) sd ∙ kind) in
          let less : b - x.range.label ≡ t.si = omega arith in
          ap (λ o. or_else o (labelled kinds xs b)) (cond-true _ _ _ (and_from _ _ mpls (has_label b t x.range si sum))) ∙ ap Some (triple_by_parts _ t sd bsl less)
      | inr c ↦
          let other = apart_label x.range l.range.range b (apart_from x l.range xs apart.0 c.0 c.1 c.2) (has_label b t l.range.range l.si l.is) in
          let no : (is_mpls (kind_of kinds x.sd) && is_label_of b x.range) ≡ false = false_from_ne_true _ (λ k. false≢true (sym other ∙ (and_parts _ _ k).1)) in
          ap (λ o. or_else o (labelled kinds xs b)) (cond-false _ _ _ no) ∙ label_there kinds xs b t apart.1 kind (record { range = l.range; known = c; sd = l.sd; bsl = l.bsl; si = l.si; is = l.is })
    ]

-- ---- the search, one sub-domain after the other

or_else_both : {X : Type 0} (o p q : Option X) → or_else o (or_else p q) ≡ or_else (or_else o p) q
or_else_both None p q = refl
or_else_both (Some x) p q = refl

pub or_else_first : {X : Type 0} (o p : Option X) → is_some o ≡ true → o ≡ or_else o p
or_else_first None p e = absurd (false≢true e)
or_else_first (Some x) p e = refl

pub or_else_second : {X : Type 0} (o p : Option X) → is_some o ≡ false → p ≡ or_else o p
or_else_second None p e = refl
or_else_second (Some x) p e = absurd (true≢false e)

labelled_both : (kinds : List SubKind) (xs ys : List PastRange) (b : ℕ) → labelled kinds (xs ++ ys) b ≡ or_else (labelled kinds xs b) (labelled kinds ys b)
labelled_both kinds [] ys b = refl
labelled_both kinds (x ∷ xs) ys b = ap (or_else (triple_of kinds x b)) (labelled_both kinds xs ys b) ∙ or_else_both (triple_of kinds x b) (labelled kinds xs b) (labelled kinds ys b)

sub_labelled_is : (kinds : List SubKind) (subs : List OwnSub) (b : ℕ) → sub_labelled kinds subs b ≡ labelled kinds (ranges_of subs) b
sub_labelled_is kinds [] b = refl
sub_labelled_is kinds (s ∷ subs) b = ap (or_else (labelled kinds (placed s.sd s.ranges) b)) (sub_labelled_is kinds subs b) ∙ sym (labelled_both kinds (placed s.sd s.ranges) (ranges_of subs) b)

-- labels of now, then those of sub-domains that were left, then earlier ones
pub all_labelled : (kinds : List SubKind) (subs away : List OwnSub) (past : List PastRange) (b : ℕ) → or_else (sub_labelled kinds subs b) (or_else (sub_labelled kinds away b) (labelled kinds past b)) ≡ labelled kinds (ranges_of subs ++ (ranges_of away ++ past)) b
all_labelled kinds subs away past b =
    rw (sub_labelled_is kinds subs b, sub_labelled_is kinds away b)
    (sym (labelled_both kinds (ranges_of subs) (ranges_of away ++ past) b ∙ ap (or_else (labelled kinds (ranges_of subs) b)) (labelled_both kinds (ranges_of away) past b)))

sub_in_both : (xs ys : List OwnSub) (sd : ℕ) → is_some (sub_in (xs ++ ys) sd) ≡ (is_some (sub_in xs sd) || is_some (sub_in ys sd))
sub_in_both [] ys sd = refl
sub_in_both (x ∷ xs) ys sd = cond_both (x.sd == sd) (Some x) (sub_in (xs ++ ys) sd) (λ o. is_some o ≡ (is_some (if x.sd == sd then Some x else sub_in xs sd) || is_some (sub_in ys sd))) (λ h. sym (ap (λ o. is_some o || is_some (sub_in ys sd)) (cond-true _ _ _ h))) (λ h. sub_in_both xs ys sd ∙ sym (ap (λ o. is_some o || is_some (sub_in ys sd)) (cond-false _ _ _ h)))

pub known_first : (subs away : List OwnSub) (sd : ℕ) → is_some (sub_in subs sd) ≡ true → is_some (sub_in subs sd) ≡ is_some (sub_in (subs ++ away) sd)
known_first subs away sd e = e ∙ sym (sub_in_both subs away sd ∙ or_left _ _ e)

pub known_second : (subs away : List OwnSub) (sd : ℕ) → is_some (sub_in subs sd) ≡ false → is_some (sub_in away sd) ≡ is_some (sub_in (subs ++ away) sd)
known_second subs away sd e = sym (ap (λ o. o || is_some (sub_in away sd)) e) ∙ sym (sub_in_both subs away sd)

-- ---- the written table

is_configured_is : (k : Option Kind) → is_configured k ≡ true → k ≡ Some Configured
is_configured_is None e = absurd (false≢true e)
is_configured_is (Some Mpls) e = absurd (false≢true e)
is_configured_is (Some Configured) e = refl

pub record IsWritten (kinds : List SubKind) (subs : List OwnSub) (table : List TableRow) (b : ℕ) (t : Triple) : Type 0 where
  pub kind_is : kind_of kinds t.sd ≡ Some Configured
  pub sub_is : is_some (sub_in subs t.sd) ≡ true
  pub row_is : row_in table t ≡ Some b

row_differs : (x : TableRow) (rows : List TableRow) (t : Triple) (b : ℕ) → AllByRecursion (λ y. same_row x y ≡ false) rows → row_in rows t ≡ Some b → same_triple x.triple t ≡ false
row_differs x [] t b apart e = absurd (no_None b e)
row_differs x (y ∷ rows) t b apart e =
    elim (cases_Bool (same_triple y.triple t)) [
      | inl h ↦ subst (λ u. same_triple x.triple u ≡ false) (same_triple_is y.triple t h) apart.0
      | inr h ↦ row_differs x rows t b apart.1 (sym (cond-false _ _ _ h) ∙ e)
    ]

pub written_found : (kinds : List SubKind) (subs : List OwnSub) (table : List TableRow) (b : ℕ) (t : Triple) → AreApart same_row table → written kinds subs table b ≡ Some t → IsWritten kinds subs table b t
written_found kinds subs [] b t apart e = absurd (no_None t e)
written_found kinds subs (row ∷ rows) b t apart e =
    elim (cases_Bool (tells kinds subs b row)) [
      | inl h ↦
          let p = and_parts _ _ h in
          let q = and_parts _ _ p.1 in
          let is : row.triple ≡ t = same_Some row.triple t (sym (cond-true _ _ _ h) ∙ e) in
          subst (IsWritten kinds subs (row ∷ rows) b) is (record {
            kind_is = is_configured_is _ q.0;
            sub_is = q.1;
            row_is = cond-true _ _ _ (same_triple_self row.triple) ∙ ap Some (eqb-true _ _ p.0);
          })
      | inr h ↦
          let r = written_found kinds subs rows b t apart.1 (sym (cond-false _ _ _ h) ∙ e) in
          record {
            kind_is = r.kind_is;
            sub_is = r.sub_is;
            row_is = cond-false _ _ _ (row_differs row rows t b apart.0 r.row_is) ∙ r.row_is;
          }
    ]

bift_differs : (x : TableRow) (rows : List TableRow) (t : Triple) (b : ℕ) → AllByRecursion (λ y. same_bift x y ≡ false) rows → row_in rows t ≡ Some b → (x.bift == b) ≡ false
bift_differs x [] t b apart e = absurd (no_None b e)
bift_differs x (y ∷ rows) t b apart e =
    elim (cases_Bool (same_triple y.triple t)) [
      | inl h ↦ subst (λ n. (x.bift == n) ≡ false) (same_Some y.bift b (sym (cond-true _ _ _ h) ∙ e)) apart.0
      | inr h ↦ bift_differs x rows t b apart.1 (sym (cond-false _ _ _ h) ∙ e)
    ]

pub written_there : (kinds : List SubKind) (subs : List OwnSub) (table : List TableRow) (b : ℕ) (t : Triple) → AreApart same_bift table → IsWritten kinds subs table b t → written kinds subs table b ≡ Some t
written_there kinds subs [] b t apart w = absurd (no_None b w.row_is)
written_there kinds subs (row ∷ rows) b t apart w =
    elim (cases_Bool (same_triple row.triple t)) [
      | inl h ↦
          let is : row.triple ≡ t = same_triple_is row.triple t h in
          let bift : row.bift ≡ b = same_Some row.bift b (sym (cond-true _ _ _ h) ∙ w.row_is) in
          let kind : is_configured (kind_of kinds row.triple.sd) ≡ true = ap (λ (u : Triple). is_configured (kind_of kinds u.sd)) is ∙ ap is_configured w.kind_is in
          let sub : is_some (sub_in subs row.triple.sd) ≡ true = ap (λ (u : Triple). is_some (sub_in subs u.sd)) is ∙ w.sub_is in
          cond-true _ _ _ (and_from _ _ (eq-eqb _ _ bift) (and_from _ _ kind sub)) ∙ ap Some is
      | inr h ↦
          let rest : row_in rows t ≡ Some b = sym (cond-false _ _ _ h) ∙ w.row_is in
          let no : tells kinds subs b row ≡ false = rw (bift_differs row rows t b apart.0 rest) refl in
          cond-false _ _ _ no ∙ written_there kinds subs rows b t apart.1 (record { kind_is = w.kind_is; sub_is = w.sub_is; row_is = rest })
    ]

-- ---- at a router

if_some : {X : Type 0} (P : X → Type 0) (o : Option X) → ((x : X) → o ≡ Some x → P x) → IfSome o P
if_some P None f = tt
if_some P (Some x) f = f x refl

label_meaning : (r : RouterConf) (b : ℕ) (t : Triple) → labelled r.kinds (known_ranges r) b ≡ Some t → IsMeaning r Mpls b t
label_meaning r b t e = let l = label_found r.kinds (known_ranges r) b t e in record { kind_is = l.0; bift_is = l.1 }

row_meaning : (r : RouterConf) (b : ℕ) (t : Triple) → IsSound r → written r.kinds (known_subs r) r.table b ≡ Some t → IsMeaning r Configured b t
row_meaning r b t sound e =
    let w = written_found r.kinds (known_subs r) r.table b t sound.triples e in
    record { kind_is = w.kind_is; bift_is = record { sub = w.sub_is; row = w.row_is } }

pub means_found : (r : RouterConf) (kind : Kind) (b : ℕ) → IsSound r → IfSome (means r kind b) (λ t. IsMeaning r kind b t)
unfolding means
means_found r Mpls b sound = if_some (IsMeaning r Mpls b) (labelled r.kinds (known_ranges r) b) (λ t e. label_meaning r b t e)
means_found r Configured b sound = if_some (IsMeaning r Configured b) (written r.kinds (known_subs r) r.table b) (λ t e. row_meaning r b t sound e)

pub means_only : (r : RouterConf) (kind : Kind) (b : ℕ) (t : Triple) → IsSound r → IsMeaning r kind b t → means r kind b ≡ Some t
unfolding means
means_only r Mpls b t sound m = label_there r.kinds (known_ranges r) b t sound.labels m.kind_is m.bift_is
means_only r Configured b t sound m =
    written_there r.kinds (known_subs r) r.table b t sound.bifts (record { kind_is = m.kind_is; sub_is = m.bift_is.sub; row_is = m.bift_is.row })

-- ---- a BIFT-id of now

pub ranges_in_all : (subs : List OwnSub) (sd : ℕ) (s : OwnSub) (x : LabelRange) → sub_in subs sd ≡ Some s → Contains s.ranges x → Contains (ranges_of subs) (record { sd = sd; range = x })
ranges_in_all [] sd s x e c = absurd (no_None s e)
ranges_in_all (y ∷ subs) sd s x e c =
    elim (cases_Bool (y.sd == sd)) [
      | inl h ↦
          let is : y ≡ s = same_Some y s (sym (cond-true _ _ _ h) ∙ e) in
          let inside : Contains y.ranges x = subst (λ (z : OwnSub). Contains z.ranges x) (sym is) c in
          subst (λ n. Contains (ranges_of (y ∷ subs)) (record { sd = n; range = x })) (eqb-true _ _ h) (Contains-append_left (placed y.sd y.ranges) (ranges_of subs) _ (placed_in y.sd y.ranges x inside.0 inside.1 inside.2))
      | inr h ↦ Contains-append_right (placed y.sd y.ranges) (ranges_of subs) _ (ranges_in_all subs sd s x (sym (cond-false _ _ _ h) ∙ e) c)
    ]
  where
    placed_in : (n : ℕ) (xs : List LabelRange) (z : LabelRange) (k : ℕ) → k < length xs → slice_index_or xs k z ≡ z → Contains (placed n xs) (record { sd = n; range = z })
    placed_in n [] z k lt i = absurd (omega (arith, lt))
    placed_in n (w ∷ xs) z zero lt i = (0, omega arith, ap (λ v. record { sd = n; range = v }) i)
    placed_in n (w ∷ xs) z (suc k) lt i = in_cons (record { sd = n; range = w }) (placed n xs) (record { sd = n; range = z }) (placed_in n xs z k (omega (arith, lt)) i)

pub label_range : (xs : List LabelRange) (t : Triple) (b : ℕ) → label_in xs t ≡ Some b → (x : LabelRange) × Contains xs x × (x.bsl ≡ t.bsl) × (t.si ≤ x.max_si) × (x.label + t.si ≡ b)
label_range [] t b e = absurd (no_None b e)
label_range (x ∷ xs) t b e =
    elim (cases_Bool (code_of x.bsl == code_of t.bsl)) [
      | inl h ↦
          elim (cases_Bool (nat_le t.si x.max_si)) [
            | inl k ↦ (x, at_head x xs, same_code _ _ (eqb-true _ _ h), leb-true _ _ k, same_Some _ _ (sym (cond-true _ _ _ h ∙ cond-true _ _ _ k) ∙ e))
            | inr k ↦ absurd (no_None b (sym (cond-true _ _ _ h ∙ cond-false _ _ _ k) ∙ e))
          ]
      | inr h ↦ let r = label_range xs t b (sym (cond-false _ _ _ h) ∙ e) in (r.0, in_cons x xs r.0 r.1, r.2, r.3, r.4)
    ]
