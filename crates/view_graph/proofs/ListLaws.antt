-- Parts of lists, and what a step of a loop adds.
use Rattle.std.proofs.Common.{◌≡◌, ℕ, zero, suc, ◌+◌, ◌<◌, ◌==◌, ◌&&◌, ◌||◌, Bool, true, false, not, if◌then◌else◌, List, [], ◌∷◌, ◌++◌, length, get_or, set, take, drop, map, filter, is_some, slice_get, Option, Some, None, refl, sym, ap, ◌∙◌, arith, append-nil, length-append}
use Rattle.std.proofs.Math.Seq.{take-suc}
use Rattle.std.specs.Prelude.{option_to_list}
use Rattle.std.specs.List.{AllByRecursion, insert, filter_map, flat_map}
use Rattle.std.specs.Ordering.{is_lt}
use Rattle.std.proofs.lemmas.List.{append_assoc, get_or_default, length-take-le, map-append}
use Rattle.std.proofs.lemmas.Bool.{eqb-true, eq-eqb}
use Rattle.std.proofs.lemmas.List.Concat.{flat_map-cons, flat_map-append}
use Rattle.std.proofs.lemmas.List.Elements.{filter-append}
use Rattle.wire_base.specs.declared.conf.SubKind.{SubKind}
use Rattle.wire_base.specs.declared.conf.End.{End}
use Rattle.wire_base.specs.declared.conf.RouterConf.{RouterConf}
use Rattle.wire_base.specs.declared.entry.Entry.{Entry}
use Rattle.wire_base.specs.declared.view.ViewEdge.{ViewEdge}
use Rattle.wire_base.specs.declared.view.ViewNode.{ViewNode}
use Rattle.wire_base.specs.declared.view.ViewSub.{ViewSub}
use Rattle.wire_base.specs.model.Control.{system_order}
use Rattle.wire_base.specs.model.BierInfo.{any_overlap}
use Rattle.wire_base.specs.model.OwnLsp.{picked}
use Rattle.wire_base.specs.model.Place.{kind_of}
use Rattle.wire_base.specs.model.View.{Claim, Link, all_ranges, first_each, known_subs, end_link, with_known, put_claim, claim_of, is_other, own_claim, claims_of, edges_from, own_subs, node_of, nodes_of}
use Rattle.view_graph.specs.Places.{has_sd, place_before}

-- the first of those that are kept
pub filter_map-first : {X Y : Type 0} (h : X → Option Y) (x : X) (xs : List X) → filter_map h (x ∷ xs) ≡ option_to_list (h x) ++ filter_map h xs
filter_map-first {X} {Y} h x xs = by (h x) refl
  where
    by : (o : Option Y) → h x ≡ o → filter_map h (x ∷ xs) ≡ option_to_list o ++ filter_map h xs
    by None e = rw e refl
    by (Some y) e = rw e refl

-- one more at the end of both
pub picked_more : {X : Type 0} (bs : List Bool) (xs : List X) (b : Bool) (x : X) → length bs ≡ length xs → picked (bs ++ b ∷ []) (xs ++ x ∷ []) ≡ picked bs xs ++ (if b then x ∷ [] else [])
picked_more [] [] true x same = refl
picked_more [] [] false x same = refl
picked_more [] (y ∷ ys) b x same = absurd (omega (arith, same))
picked_more (c ∷ cs) [] b x same = absurd (omega (arith, same))
picked_more {X} (true ∷ cs) (y ∷ ys) b x same = ap (λ (zs : List X). y ∷ zs) (picked_more cs ys b x (omega (arith, same)))
picked_more (false ∷ cs) (y ∷ ys) b x same = picked_more cs ys b x (omega (arith, same))

-- ---- the first place in each sub-domain

abbrev pub is_elsewhere : ℕ → ViewSub → Bool
is_elsewhere sd x = not (x.sd == sd)

eqb-flip : (a b : ℕ) → (a == b) ≡ (b == a)
eqb-flip a b = by (a == b) refl (b == a) refl
  where
    by : (s : Bool) → (a == b) ≡ s → (t : Bool) → (b == a) ≡ t → s ≡ t
    by true e true f = refl
    by false e false f = refl
    by true e false f = sym (eq-eqb b a (sym (eqb-true a b e))) ∙ f
    by false e true f = sym e ∙ eq-eqb a b (sym (eqb-true b a f))

-- to leave out another sub-domain changes nothing
has_sd-filter : (sd other : ℕ) (subs : List ViewSub) → (other == sd) ≡ false → has_sd sd (filter (is_elsewhere other) subs) ≡ has_sd sd subs
has_sd-filter sd other [] apart = refl
has_sd-filter sd other (x ∷ xs) apart = by (x.sd == other) refl (has_sd-filter sd other xs apart)
  where
    by : (b : Bool) → (x.sd == other) ≡ b → has_sd sd (filter (is_elsewhere other) xs) ≡ has_sd sd xs → has_sd sd (filter (is_elsewhere other) (x ∷ xs)) ≡ has_sd sd (x ∷ xs)
    by true e more =
        let same : x.sd ≡ other = eqb-true x.sd other e in
        rw e (more ∙ rw (same, apart) refl)
    by false e more = rw e (ap (λ b. (x.sd == sd) || b) more)

first_push : (xs : List ViewSub) (s : ViewSub) → first_each (xs ++ s ∷ []) ≡ (if has_sd s.sd (first_each xs) then first_each xs else first_each xs ++ s ∷ [])
first_push [] s = refl
first_push (x ∷ xs) s = by (has_sd s.sd (first_each xs)) refl (s.sd == x.sd) refl (first_push xs s)
  where
    by : (b : Bool) → has_sd s.sd (first_each xs) ≡ b → (t : Bool) → (s.sd == x.sd) ≡ t
        → first_each (xs ++ s ∷ []) ≡ (if has_sd s.sd (first_each xs) then first_each xs else first_each xs ++ s ∷ [])
        → first_each ((x ∷ xs) ++ s ∷ []) ≡ (if has_sd s.sd (first_each (x ∷ xs)) then first_each (x ∷ xs) else first_each (x ∷ xs) ++ s ∷ [])
    by b e true t more = rw (eq-eqb x.sd s.sd (sym (eqb-true s.sd x.sd t)), more, e) (cut b)
      where
        cut : (b : Bool) → x ∷ filter (is_elsewhere x.sd) (if b then first_each xs else first_each xs ++ s ∷ []) ≡ x ∷ filter (is_elsewhere x.sd) (first_each xs)
        cut true = refl
        cut false = ap (λ (ys : List ViewSub). x ∷ ys) (filter-append (is_elsewhere x.sd) (first_each xs) (s ∷ []) ∙ rw t (append-nil (filter (is_elsewhere x.sd) (first_each xs))))
    by true e false t more = rw (eqb-flip x.sd s.sd, t, has_sd-filter s.sd x.sd (first_each xs) (eqb-flip x.sd s.sd ∙ t), more, e) refl
    by false e false t more =
        rw (eqb-flip x.sd s.sd, t, has_sd-filter s.sd x.sd (first_each xs) (eqb-flip x.sd s.sd ∙ t), more, e) (ap (λ (ys : List ViewSub). x ∷ ys) (filter-append (is_elsewhere x.sd) (first_each xs) (s ∷ []) ∙ rw t refl))

-- one more of those that are known
pub first_more : (p : ViewSub → Bool) (xs : List ViewSub) (i : ℕ) (s : ViewSub) → i < length xs → s ≡ get_or xs i s → first_each (filter p (take (i + 1) xs)) ≡ (if p s && not (has_sd s.sd (first_each (filter p (take i xs)))) then first_each (filter p (take i xs)) ++ s ∷ [] else first_each (filter p (take i xs)))
first_more p xs i s within at =
    let one : i + 1 ≡ suc i = omega arith in
    ap (λ k. first_each (filter p (take k xs))) one ∙ ap (λ ys. first_each (filter p ys)) (take-suc xs i s within ∙ ap (λ y. take i xs ++ y ∷ []) (sym at)) ∙ ap first_each (filter-append p (take i xs) (s ∷ [])) ∙ by (p s) refl
  where
    by : (b : Bool) → p s ≡ b → first_each (filter p (take i xs) ++ filter p (s ∷ [])) ≡ (if p s && not (has_sd s.sd (first_each (filter p (take i xs)))) then first_each (filter p (take i xs)) ++ s ∷ [] else first_each (filter p (take i xs)))
    by true e = rw e (first_push (filter p (take i xs)) s ∙ flipped (has_sd s.sd (first_each (filter p (take i xs)))))
      where
        flipped : (c : Bool) → (if c then first_each (filter p (take i xs)) else first_each (filter p (take i xs)) ++ s ∷ []) ≡ (if not c then first_each (filter p (take i xs)) ++ s ∷ [] else first_each (filter p (take i xs)))
        flipped true = refl
        flipped false = refl
    by false e = rw e (ap first_each (append-nil (filter p (take i xs))))

pub known_overlap : (kinds : List SubKind) (subs : List ViewSub) → any_overlap (all_ranges subs) ≡ true → known_subs kinds subs ≡ []
known_overlap kinds subs h = rw h refl

pub known_apart : (kinds : List SubKind) (subs : List ViewSub) → any_overlap (all_ranges subs) ≡ false → known_subs kinds subs ≡ first_each (filter (λ s. is_some (kind_of kinds s.sd)) subs)
known_apart kinds subs h = rw h refl

pub first_step : (p : ViewSub → Bool) (xs : List ViewSub) (i : ℕ) (s : ViewSub) (kept next : List ViewSub) → i < length xs → s ≡ get_or xs i s → kept ≡ first_each (filter p (take i xs)) → next ≡ (if p s && not (has_sd s.sd kept) then kept ++ s ∷ [] else kept) → next ≡ first_each (filter p (take (i + 1) xs))
first_step p xs i s kept next lt at before step =
    step ∙ ap (λ k. if p s && not (has_sd s.sd k) then k ++ s ∷ [] else k) before ∙ sym (first_more p xs i s lt at)

-- a place that is known, and the first in its sub-domain, after others that are
pub first_kept : (p : ViewSub → Bool) (xs : List ViewSub) (i : ℕ) (s : ViewSub) → i < length xs → s ≡ get_or xs i s → (p s && not (has_sd s.sd (take i xs))) ≡ true → take i xs ≡ first_each (filter p (take i xs)) → take (i + 1) xs ≡ first_each (filter p (take (i + 1) xs))
first_kept p xs i s lt at here before =
    let one : i + 1 ≡ suc i = omega arith in
    first_step p xs i s (take i xs) (take (i + 1) xs) lt at before (ap (λ k. take k xs) one ∙ take-suc xs i s lt ∙ ap (λ (y : ViewSub). take i xs ++ y ∷ []) (sym at) ∙ sym (ap (λ b. if b then take i xs ++ s ∷ [] else take i xs) here))

pub picked_step : {X : Type 0} (bs : List Bool) (xs : List X) (i : ℕ) (d : Bool) (z : X) → length bs ≡ length xs → i < length xs → picked (take (i + 1) bs) (take (i + 1) xs) ≡ picked (take i bs) (take i xs) ++ (if get_or bs i d then get_or xs i z ∷ [] else [])
picked_step bs xs i d z same lt =
    let one : i + 1 ≡ suc i = omega arith in
    let short : length (take i bs) ≡ length (take i xs) = length-take-le i bs (omega (arith, same, lt)) ∙ sym (length-take-le i xs (omega (arith, lt))) in
    ap (λ k. picked (take k bs) (take k xs)) one
    ∙ ap (λ ys. picked ys (take (suc i) xs)) (take-suc bs i d (omega (arith, same, lt)))
    ∙ ap (λ ys. picked (take i bs ++ get_or bs i d ∷ []) ys) (take-suc xs i z lt)
    ∙ picked_more (take i bs) (take i xs) (get_or bs i d) (get_or xs i z) short

pub links_step : (bs : List Bool) (es : List End) (i : ℕ) (d : Bool) (z : End) (links next : List Link) → length bs ≡ length es → i < length es → links ≡ map end_link (picked (take i bs) (take i es)) → next ≡ links ++ (if get_or bs i d then end_link (get_or es i z) ∷ [] else []) → next ≡ map end_link (picked (take (i + 1) bs) (take (i + 1) es))
links_step bs es i d z links next same lt before step =
    step ∙ ap (λ l. l ++ (if get_or bs i d then end_link (get_or es i z) ∷ [] else [])) before ∙ sym (ap (map end_link) (picked_step bs es i d z same lt) ∙ map-append end_link (picked (take i bs) (take i es)) (if get_or bs i d then get_or es i z ∷ [] else []) ∙ ap (λ l. map end_link (picked (take i bs) (take i es)) ++ l) (one (get_or bs i d) (get_or es i z)))
  where
    one : (b : Bool) (e : End) → map end_link (if b then e ∷ [] else []) ≡ (if b then end_link e ∷ [] else [])
    one true e = refl
    one false e = refl

-- ---- the own claim at its place

put_known : (kinds : List SubKind) (c : Claim) (cs : List Claim) → insert (map (with_known kinds) cs) (place_before c.system (map (with_known kinds) cs)) (with_known kinds c) ≡ map (with_known kinds) (put_claim c cs)
put_known kinds c [] = refl
put_known kinds c (x ∷ xs) = by (is_lt (system_order c.system x.system)) refl (put_known kinds c xs)
  where
    by : (b : Bool) → is_lt (system_order c.system x.system) ≡ b → insert (map (with_known kinds) xs) (place_before c.system (map (with_known kinds) xs)) (with_known kinds c) ≡ map (with_known kinds) (put_claim c xs)
        → insert (map (with_known kinds) (x ∷ xs)) (place_before c.system (map (with_known kinds) (x ∷ xs))) (with_known kinds c) ≡ map (with_known kinds) (put_claim c (x ∷ xs))
    by true e more = rw e refl
    by false e more = rw e (ap (λ (l : List Claim). with_known kinds x ∷ l) more)

pub inserted : (r : RouterConf) (up : List Bool) (entries : List Entry) (others : List Claim) (own known : Claim) (place : ℕ)
    → others ≡ map (with_known r.kinds) (map (claim_of entries) (filter (is_other r.system) entries)) → own ≡ own_claim r up → known ≡ with_known r.kinds own → place ≡ place_before known.system others
    → insert others place known ≡ map (with_known r.kinds) (claims_of r up entries)
unfolding claims_of
inserted r up entries others own known place o w k p =
    ap (λ n. insert others n known) p ∙ ap (λ (c : Claim). insert others (place_before c.system others) c) (k ∙ ap (with_known r.kinds) w) ∙ ap (λ (l : List Claim). insert l (place_before r.system l) (with_known r.kinds (own_claim r up))) o
    ∙ put_known r.kinds (own_claim r up) (map (claim_of entries) (filter (is_other r.system) entries))

pub node_built : (claims : List Claim) (c x : Claim) (edges : List ViewEdge) (subs : List ViewSub) → c ≡ x → edges ≡ edges_from x 0 claims → subs ≡ own_subs claims c → record { system = c.system; overload = c.overload; edges = edges; subs = subs } ≡ node_of claims x
node_built claims c x edges subs same e s = rw (e, s, same) refl

-- ---- the first of those that are left

first_of : List Claim → Option Claim
first_of [] = None
first_of (c ∷ cs) = Some c

later_of : List Claim → List Claim
later_of [] = []
later_of (c ∷ cs) = cs

pub first_left : (k : ℕ) (cs rest : List Claim) (c : Claim) → c ∷ rest ≡ drop k cs → slice_get cs k ≡ Some c
unfolding first_of
first_left zero [] rest c e = absurd cc
first_left (suc k) [] rest c e = absurd cc
first_left zero (x ∷ xs) rest c e = sym (ap first_of e)
first_left (suc k) (x ∷ xs) rest c e = first_left k xs rest c e

pub later_left : (k : ℕ) (cs rest : List Claim) (c : Claim) → c ∷ rest ≡ drop k cs → rest ≡ drop (k + 1) cs
unfolding later_of
later_left k cs rest c e = let one : k + 1 ≡ suc k = omega arith in by k cs e ∙ ap (λ n. drop n cs) (sym one)
  where
    by : (k : ℕ) (cs : List Claim) → c ∷ rest ≡ drop k cs → rest ≡ drop (suc k) cs
    by zero [] e = absurd cc
    by (suc k) [] e = absurd cc
    by zero (x ∷ xs) e = ap later_of e
    by (suc k) (x ∷ xs) e = by k xs e

-- the nodes so far and those of the claims that are left, one claim later
pub record IsLeft (cs rest : List Claim) (nodes : List ViewNode) : Type 0 where
  pub made : nodes ++ map (node_of cs) rest ≡ nodes_of cs
  pub left : rest ≡ drop (length nodes) cs

pub left_step : (cs rest now : List Claim) (nodes new : List ViewNode) (c : Claim) (n : ViewNode) → rest ≡ c ∷ now → new ≡ nodes ++ n ∷ [] → n ≡ node_of cs c → nodes ++ map (node_of cs) rest ≡ nodes_of cs → rest ≡ drop (length nodes) cs → IsLeft cs now new
left_step cs rest now nodes new c n head pushed is made left =
    let long : length new ≡ length nodes + 1 = ap (λ (ns : List ViewNode). length ns) pushed ∙ length-append nodes (n ∷ []) in
    record {
      made = ap (λ (ns : List ViewNode). ns ++ map (node_of cs) now) pushed ∙ append_assoc nodes (n ∷ []) (map (node_of cs) now) ∙ ap (λ (m : ViewNode). nodes ++ m ∷ map (node_of cs) now) is ∙ ap (λ (l : List Claim). nodes ++ map (node_of cs) l) (sym head) ∙ made;
      left = later_left (length nodes) cs now c (sym head ∙ left) ∙ ap (λ k. drop k cs) (sym long);
    }

-- ---- a step of a loop over a list

pub take_one : {X : Type 0} (xs : List X) (i : ℕ) (x : X) → i < length xs → x ≡ get_or xs i x → take i xs ++ x ∷ [] ≡ take (i + 1) xs
take_one {X} xs i x lt at = let one : suc i ≡ i + 1 = omega arith in ap (λ (y : X). take i xs ++ y ∷ []) at ∙ sym (take-suc xs i x lt) ∙ ap (λ k. take k xs) one

-- one that passes, and one that doesn't
pub passes_one : {X : Type 0} (p : X → Bool) (xs : List X) (i : ℕ) (x : X) (kept next : List X) → i < length xs → x ≡ get_or xs i x → kept ≡ filter p (take i xs) → next ≡ kept ++ x ∷ [] → p x ≡ true → next ≡ filter p (take (i + 1) xs)
passes_one {X} p xs i x kept next lt at before step h =
    let one : filter p (x ∷ []) ≡ x ∷ [] = rw h refl in
    step ∙ ap (λ (ys : List X). ys ++ x ∷ []) before ∙ ap (λ (ys : List X). filter p (take i xs) ++ ys) (sym one) ∙ sym (filter-append p (take i xs) (x ∷ [])) ∙ ap (filter p) (take_one xs i x lt at)

pub fails_one : {X : Type 0} (p : X → Bool) (xs : List X) (i : ℕ) (x : X) (kept : List X) → i < length xs → x ≡ get_or xs i x → kept ≡ filter p (take i xs) → p x ≡ false → kept ≡ filter p (take (i + 1) xs)
fails_one {X} p xs i x kept lt at before h =
    let none : filter p (x ∷ []) ≡ [] = rw h refl in
    before ∙ sym (append-nil (filter p (take i xs))) ∙ ap (λ (ys : List X). filter p (take i xs) ++ ys) (sym none) ∙ sym (filter-append p (take i xs) (x ∷ [])) ∙ ap (filter p) (take_one xs i x lt at)

-- the same where the element is read by its place
pub passes_at : {X : Type 0} (p : X → Bool) (xs : List X) (i : ℕ) (d : X) (kept next : List X) → i < length xs → kept ≡ filter p (take i xs) → next ≡ kept ++ get_or xs i d ∷ [] → p (get_or xs i d) ≡ true → next ≡ filter p (take (i + 1) xs)
passes_at p xs i d kept next lt before step h = passes_one p xs i (get_or xs i d) kept next lt (get_or_default xs i d (get_or xs i d) lt) before step h

pub fails_at : {X : Type 0} (p : X → Bool) (xs : List X) (i : ℕ) (d : X) (kept : List X) → i < length xs → kept ≡ filter p (take i xs) → p (get_or xs i d) ≡ false → kept ≡ filter p (take (i + 1) xs)
fails_at p xs i d kept lt before h = fails_one p xs i (get_or xs i d) kept lt (get_or_default xs i d (get_or xs i d) lt) before h

pub map_one : {X Y : Type 0} (f : X → Y) (xs : List X) (i : ℕ) (x : X) (y : Y) (old next : List Y) → i < length xs → x ≡ get_or xs i x → old ≡ map f (take i xs) → next ≡ old ++ y ∷ [] → y ≡ f x → next ≡ map f (take (i + 1) xs)
map_one {X} {Y} f xs i x y old next lt at before step is =
    step ∙ ap (λ (ys : List Y). ys ++ y ∷ []) before ∙ ap (λ (z : Y). map f (take i xs) ++ z ∷ []) is ∙ sym (map-append f (take i xs) (x ∷ [])) ∙ ap (map f) (take_one xs i x lt at)

pub flat_one : {X Y : Type 0} (f : X → List Y) (xs : List X) (i : ℕ) (x : X) (old next : List Y) → i < length xs → x ≡ get_or xs i x → old ≡ flat_map f (take i xs) → next ≡ old ++ f x → next ≡ flat_map f (take (i + 1) xs)
flat_one {X} {Y} f xs i x old next lt at before step =
    let last : flat_map f (x ∷ []) ≡ f x = flat_map-cons f x [] ∙ append-nil (f x) in
    step ∙ ap (λ (ys : List Y). ys ++ f x) before ∙ ap (λ (ys : List Y). flat_map f (take i xs) ++ ys) (sym last) ∙ sym (flat_map-append f (take i xs) (x ∷ [])) ∙ ap (flat_map f) (take_one xs i x lt at)

pub all_push : {X : Type 0} (P : X → Type 0) (xs : List X) (x : X) → AllByRecursion P xs → P x → AllByRecursion P (xs ++ x ∷ [])
all_push P [] x all is = (is, tt)
all_push P (y ∷ ys) x all is = (all.0, all_push P ys x all.1 is)

pub map_at : {X Y : Type 0} (f : X → Y) (ys : List Y) (i : ℕ) (d : Y) (x : X) (old next : List X) → i < length ys → map f old ≡ take i ys → next ≡ old ++ x ∷ [] → f x ≡ get_or ys i d → map f next ≡ take (i + 1) ys
map_at {X} {Y} f ys i d x old next lt before step is =
    ap (map f) step ∙ map-append f old (x ∷ []) ∙ ap (λ (zs : List Y). zs ++ f x ∷ []) before ∙ ap (λ (z : Y). take i ys ++ z ∷ []) is ∙ take_one ys i (get_or ys i d) lt (get_or_default ys i d (get_or ys i d) lt)

-- ---- the last of a list

pub set_last : {X : Type 0} (xs now : List X) (i : ℕ) (x y : X) → now ≡ xs ++ x ∷ [] → i ≡ length xs → set now i y ≡ xs ++ y ∷ []
set_last {X} xs now i x y is at = ap (λ (zs : List X). set zs i y) is ∙ ap (λ k. set (xs ++ x ∷ []) k y) at ∙ by xs
  where
    by : (zs : List X) → set (zs ++ x ∷ []) (length zs) y ≡ zs ++ y ∷ []
    by [] = refl
    by (z ∷ zs) = ap (λ (ws : List X). z ∷ ws) (by zs)

pub read_last : {X : Type 0} (xs now : List X) (i : ℕ) (x d : X) → now ≡ xs ++ x ∷ [] → i ≡ length xs → d ≡ get_or now i d → d ≡ x
read_last {X} xs now i x d is at read = read ∙ ap (λ (zs : List X). get_or zs i d) is ∙ ap (λ k. get_or (xs ++ x ∷ []) k d) at ∙ by xs
  where
    by : (zs : List X) → get_or (zs ++ x ∷ []) (length zs) d ≡ x
    by [] = refl
    by (z ∷ zs) = by zs
