-- Look-ups among the entries of one router.
use Rattle.std.proofs.Common.{◌≡◌, ℕ, ◌+◌, ◌<◌, Bool, true, false, cond, ◌==◌, ◌&&◌, ◌||◌, List, [], ◌∷◌, ◌++◌, length, get_or, take, map, filter, Option, Some, None, refl, sym, ap, ◌∙◌, ⊎_elim}
use Rattle.std.proofs.lemmas.Bool.{eqb-true, eq-eqb, and_parts, or_cases, or_left, or_right, or_parts, cond-false}
use Rattle.std.proofs.lemmas.List.{take_more}
use Rattle.std.proofs.lemmas.List.Elements.{filter_map-append}
use Rattle.std.specs.Option.{option_to_list}
use Rattle.std.specs.List.{list_any, filter_map, cons_option}
use Rattle.std.specs.Str.{bytes_eq}
use Rattle.wire_base.specs.declared.addresses.Mac.{Mac}
use Rattle.wire_base.specs.model.Configuration.{same_length, share_label}
use Rattle.domain_conf.specs.declared.routers.RouterEntry.{RouterEntry}
use Rattle.domain_conf.specs.declared.bier.BierEntry.{BierEntry}
use Rattle.domain_conf.specs.declared.labels.LabelsEntry.{LabelsEntry}
use Rattle.domain_conf.specs.declared.links.LinkEntry.{LinkEntry}
use Rattle.domain_conf.specs.ByRouter.{is_at}
use Rattle.domain_conf.specs.Assembled.{ranges_of, is_labels_of, end_of}
use Rattle.domain_conf.specs.Bier.{is_member}
use Rattle.domain_conf.specs.LabelRanges.{same_labels, takes_label}
use Rattle.domain_conf.specs.Links.{same_routers, has_peer_mac}

pub any_in_group : {X : Type 0} (p q r : X → Bool) → ((x : X) → (p x && q x) ≡ r x) → (xs : List X) → list_any q (filter p xs) ≡ list_any r xs
any_in_group p q r same [] = refl
any_in_group p q r same (x ∷ xs) = by_test (p x) (same x) (any_in_group p q r same xs)
  where
    by_test : (a : Bool) → (a && q x) ≡ r x → list_any q (filter p xs) ≡ list_any r xs → list_any q (cond a (x ∷ filter p xs) (filter p xs)) ≡ (r x || list_any r xs)
    by_test true e more = ap (λ (b : Bool). b || list_any q (filter p xs)) e ∙ ap (λ (b : Bool). r x || b) more
    by_test false e more = more ∙ ap (λ (b : Bool). b || list_any r xs) e

both : (a b : Bool) → ((a || a) && b) ≡ (a && b)
both true b = refl
both false b = refl

pub member_in_group : (router sd : ℕ) (biers : List BierEntry) → list_any (λ b. b.sd == sd) (filter (is_at (λ (b : BierEntry). (b.router, b.router)) router) biers) ≡ list_any (is_member router sd) biers
member_in_group router sd biers = any_in_group (is_at (λ (b : BierEntry). (b.router, b.router)) router) (λ b. b.sd == sd) (is_member router sd) (λ b. both (b.router == router) (b.sd == sd)) biers

pub length_in_group : (l : LabelsEntry) (labels : List LabelsEntry) → list_any (λ m. (m.sd == l.sd) && same_length l.range m.range) (filter (is_at (λ (m : LabelsEntry). (m.router, m.router)) l.router) labels) ≡ list_any (same_labels l) labels
length_in_group l labels =
    any_in_group (is_at (λ (m : LabelsEntry). (m.router, m.router)) l.router) (λ m. (m.sd == l.sd) && same_length l.range m.range) (same_labels l)
    (λ m. both (m.router == l.router) ((m.sd == l.sd) && same_length l.range m.range)) labels

pub label_in_group : (l : LabelsEntry) (labels : List LabelsEntry) → list_any (λ m. share_label l.range m.range) (filter (is_at (λ (m : LabelsEntry). (m.router, m.router)) l.router) labels) ≡ list_any (takes_label l) labels
label_in_group l labels =
    any_in_group (is_at (λ (m : LabelsEntry). (m.router, m.router)) l.router) (λ m. share_label l.range m.range) (takes_label l) (λ m. both (m.router == l.router) (share_label l.range m.range)) labels

implied : (a b : Bool) → (b ≡ true → a ≡ true) → (a && b) ≡ b
implied true b h = refl
implied false true h = h refl
implied false false h = refl

same_touches : (l m : LinkEntry) → same_routers l m ≡ true → is_at (λ (x : LinkEntry). (x.a, x.b)) l.a m ≡ true
same_touches l m same =
    ⊎_elim
    (λ e. let a = eqb-true l.a m.a (and_parts (l.a == m.a) (l.b == m.b) e).0 in or_left (m.a == l.a) (m.b == l.a) (eq-eqb m.a l.a (sym a)))
    (λ e. let a = eqb-true l.a m.b (and_parts (l.a == m.b) (l.b == m.a) e).0 in or_right (m.a == l.a) (m.b == l.a) (eq-eqb m.b l.a (sym a)))
    (or_cases ((l.a == m.a) && (l.b == m.b)) ((l.a == m.b) && (l.b == m.a)) same)

-- a link between the same two routers is one of either's links
pub same_in_group : (l : LinkEntry) (links : List LinkEntry) → list_any (same_routers l) (filter (is_at (λ (x : LinkEntry). (x.a, x.b)) l.a) links) ≡ list_any (same_routers l) links
same_in_group l links =
    any_in_group (is_at (λ (x : LinkEntry). (x.a, x.b)) l.a) (same_routers l) (same_routers l)
    (λ m. implied (is_at (λ (x : LinkEntry). (x.a, x.b)) l.a m) (same_routers l m) (same_touches l m)) links

mac_touches : (router : ℕ) (mac : Mac) (m : LinkEntry) → has_peer_mac router mac m ≡ true → is_at (λ (x : LinkEntry). (x.a, x.b)) router m ≡ true
mac_touches router mac m has =
    ⊎_elim
    (λ e. or_left (m.a == router) (m.b == router) (and_parts (m.a == router) (bytes_eq m.mac_b.0 mac.0) e).0)
    (λ e. or_right (m.a == router) (m.b == router) (and_parts (m.b == router) (bytes_eq m.mac_a.0 mac.0) e).0)
    (or_cases ((m.a == router) && bytes_eq m.mac_b.0 mac.0) ((m.b == router) && bytes_eq m.mac_a.0 mac.0) has)

-- a link on which a router has a peer is one of its links
pub mac_in_group : (router : ℕ) (mac : Mac) (links : List LinkEntry) → list_any (has_peer_mac router mac) (filter (is_at (λ (x : LinkEntry). (x.a, x.b)) router) links) ≡ list_any (has_peer_mac router mac) links
mac_in_group router mac links =
    any_in_group (is_at (λ (x : LinkEntry). (x.a, x.b)) router) (has_peer_mac router mac) (has_peer_mac router mac)
    (λ m. implied (is_at (λ (x : LinkEntry). (x.a, x.b)) router m) (has_peer_mac router mac m) (mac_touches router mac m)) links

-- ---- what is made of the entries of one router

filter_in_group : {X : Type 0} (p q r : X → Bool) → ((x : X) → (p x && q x) ≡ r x) → (xs : List X) → filter q (filter p xs) ≡ filter r xs
filter_in_group p q r same [] = refl
filter_in_group {X = X} p q r same (x ∷ xs) = by_test (p x) (same x) (filter_in_group p q r same xs)
  where
    by_test : (a : Bool) → (a && q x) ≡ r x → filter q (filter p xs) ≡ filter r xs → filter q (cond a (x ∷ filter p xs) (filter p xs)) ≡ cond (r x) (x ∷ filter r xs) (filter r xs)
    by_test true e more = ap (λ (ys : List X). cond (q x) (x ∷ ys) ys) more ∙ ap (λ (b : Bool). cond b (x ∷ filter r xs) (filter r xs)) e
    by_test false e more = more ∙ ap (λ (b : Bool). cond b (x ∷ filter r xs) (filter r xs)) e

pub ranges_in_group : (router sd : ℕ) (labels : List LabelsEntry) → map (λ l. l.range) (filter (λ l. l.sd == sd) (filter (is_at (λ (m : LabelsEntry). (m.router, m.router)) router) labels)) ≡ ranges_of labels router sd
ranges_in_group router sd labels =
    ap (map (λ (l : LabelsEntry). l.range)) (filter_in_group (is_at (λ (m : LabelsEntry). (m.router, m.router)) router) (λ l. l.sd == sd) (is_labels_of router sd) (λ l. both (l.router == router) (l.sd == sd)) labels)

filter_same : {X : Type 0} (p q : X → Bool) → ((x : X) → p x ≡ q x) → (xs : List X) → filter p xs ≡ filter q xs
filter_same p q same [] = refl
filter_same p q same (x ∷ xs) = ap (λ (b : Bool). cond b (x ∷ filter p xs) (filter p xs)) (same x) ∙ ap (λ (ys : List _). cond (q x) (x ∷ ys) ys) (filter_same p q same xs)

twice : (a : Bool) → (a || a) ≡ a
twice true = refl
twice false = refl

pub biers_in_group : (router : ℕ) (biers : List BierEntry) → filter (is_at (λ (b : BierEntry). (b.router, b.router)) router) biers ≡ filter (λ b. b.router == router) biers
biers_in_group router biers = filter_same (is_at (λ (b : BierEntry). (b.router, b.router)) router) (λ b. b.router == router) (λ b. twice (b.router == router)) biers

map_in_group : {X Y : Type 0} (p : X → Bool) (f : X → Option Y) → ((x : X) → p x ≡ false → f x ≡ None) → (xs : List X) → filter_map f (filter p xs) ≡ filter_map f xs
map_in_group p f other [] = refl
map_in_group {X = X} {Y = Y} p f other (x ∷ xs) = by_test (p x) (other x) (map_in_group p f other xs)
  where
    by_test : (a : Bool) → (a ≡ false → f x ≡ None) → filter_map f (filter p xs) ≡ filter_map f xs → filter_map f (cond a (x ∷ filter p xs) (filter p xs)) ≡ filter_map f (x ∷ xs)
    by_test true none more = ap (cons_option (f x)) more
    by_test false none more = more ∙ sym (ap (λ (o : Option Y). cons_option o (filter_map f xs)) (none refl))

-- a link of which a router has no end gives none
no_end : (routers : List RouterEntry) (i : ℕ) (l : LinkEntry) → is_at (λ (x : LinkEntry). (x.a, x.b)) i l ≡ false → end_of routers i l ≡ None
no_end routers i l none =
    let parts = or_parts (l.a == i) (l.b == i) none in
    cond-false (l.a == i) _ _ parts.0 ∙ cond-false (l.b == i) _ None parts.1

pub ends_in_group : (routers : List RouterEntry) (i : ℕ) (links : List LinkEntry) → filter_map (end_of routers i) (filter (is_at (λ (x : LinkEntry). (x.a, x.b)) i) links) ≡ filter_map (end_of routers i) links
ends_in_group routers i links = map_in_group (is_at (λ (x : LinkEntry). (x.a, x.b)) i) (end_of routers i) (no_end routers i) links

-- what is made of one more element
pub some-more : {X Y : Type 0} (f : X → Option Y) (xs : List X) (i : ℕ) (d : X) (o : Option Y) (made grown : List Y) → i < length xs → made ≡ filter_map f (take i xs) → o ≡ f (get_or xs i d)
    → grown ≡ made ++ option_to_list o → grown ≡ filter_map f (take (i + 1) xs)
some-more {Y = Y} f xs i d o made grown lt so_far is more =
    more ∙ (ap (λ (ys : List Y). ys ++ option_to_list o) so_far
    ∙ (ap (λ (p : Option Y). filter_map f (take i xs) ++ option_to_list p) is
    ∙ (ap (λ (ys : List Y). filter_map f (take i xs) ++ ys) (one (f (get_or xs i d)))
    ∙ (sym (filter_map-append f (take i xs) (get_or xs i d ∷ []))
    ∙ sym (ap (filter_map f) (take_more xs i d lt))))))
  where
    one : (p : Option Y) → option_to_list p ≡ cons_option p []
    one None = refl
    one (Some y) = refl
