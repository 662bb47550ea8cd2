-- Events as the code does them: what the parts become is what the event makes of the control state, and a router stays one.
use Rattle.std.proofs.Common.{◌≡◌, ◌∙◌, ℕ, ◌-◌, ◌<◌, ◌==◌, nat_lt, nat_le, Bool, true, false, List, [], ◌∷◌, length, set, replicate, Option, Some, None, if◌then◌else◌, refl, sym, ap, subst, length-set, arith}
use Rattle.std.specs.Prelude.{option_and_then}
use Rattle.std.proofs.lemmas.Bool.Decides.{nat_tests}
use Rattle.std.proofs.lemmas.Bool.{false≢true}
use Rattle.std.specs.List.{AllByRecursion, fold, filter_map, cons_option}
use Rattle.wire_base.specs.declared.addresses.LspId.{LspId}
use Rattle.wire_base.specs.declared.conf.RouterConf.{RouterConf}
use Rattle.wire_base.specs.declared.entry.Aged.{Aged}
use Rattle.wire_base.specs.declared.entry.Aged.TheVariants.{Live, Expired, Held, Removed}
use Rattle.wire_base.specs.declared.entry.Entry.{Entry}
use Rattle.wire_base.specs.model.Configuration.{IsSound}
use Rattle.wire_base.specs.model.Control.{Control, Flood, IsDatabase, AreAscending, ids_of, is_below, same_id, fragment_0, entry_in, put_entry, seq_of, purge, aged, aged_to, after_second}
use Rattle.wire_base.specs.model.Flooding.{mark_all, link_up, link_down, sent_on, reissue, reissue_unless_spent, end_up, end_down, flood_aged, aged_all, is_stale, tick, started, first_control, restart, new_flood}
use Rattle.wire_base.specs.model.OwnLsp.{own_lsp}
use Rattle.lsp_store.specs.Places.{is_refused}
use Rattle.wire_base.proofs.OrderLaws.{below_differs, same_turned, same_is}
use Rattle.router_core.specs.Aging.{is_near}
use Rattle.router_core.specs.Own.{own_past, spent_past}
use Rattle.laws_router.specs.State.{IsRouter, control_of}
use Rattle.laws_router.specs.Kept.{Kept, OwnStands}
use Rattle.laws_router.proofs.StateLaws.{up_kept, down_kept, sent_kept, all_aged, issue_kept, new_kept}
use Rattle.router_core.proofs.OwnLaws.{known_not_refused, past_id, past_short, past_live, kept_of, router_of, reissued_is, reissued_keeps}

-- ---- a start

pub started_is : (r : RouterConf) (up : List Bool) (f : Flood) (es : List Entry) → es ≡ (started r up).entries → f ≡ (started r up).flood → control_of r f es false ≡ started r up
unfolding started
started_is r up f es entries flood = ap (λ (x : List Entry). control_of r f x false) entries ∙ ap (λ (x : Flood). control_of r x (started r up).entries false) flood

pub started_keeps : (r : RouterConf) (up : List Bool) (f : Flood) (es : List Entry) → es ≡ (started r up).entries → f ≡ (started r up).flood → IsSound r → length up ≡ length r.ends → IsDatabase es → IsRouter (control_of r f es false)
unfolding started own_past own_lsp
started_keeps r up f es entries flood sound long database =
    let first : Kept r.system up false (mark_all (new_flood r.system up) (own_past r up 0).id) (put_entry (own_past r up 0) []) =
    issue_kept r.system up true false (new_flood r.system up) [] (own_past r up 0) (new_kept r.system up (omega (arith, long, sound.few_ends))) (past_id r up 0) (past_short r up 0 sound) (past_live r up false 0) in
    let then_ : Kept r.system up false f (put_entry (own_past r up 0) []) = subst (λ (x : Flood). Kept r.system up false x (put_entry (own_past r up 0) [])) (sym flood) first in
    router_of r up false f es sound long (subst (λ (x : List Entry). Kept r.system up false f x) (sym entries) then_) database

pub first_is : (r : RouterConf) (up : List Bool) → up ≡ replicate (length r.ends) true → started r up ≡ first_control r
unfolding first_control
first_is r up is = ap (λ (u : List Bool). started r u) is

pub restart_is : (c d : Control) (up : List Bool) → up ≡ d.flood.up → c.conf ≡ d.conf → started c.conf up ≡ (restart d).control
unfolding restart
restart_is c d up is same = ap (λ (u : List Bool). started c.conf u) is ∙ ap (λ (r : RouterConf). started r d.flood.up) same

-- ---- ends

module _ (r : RouterConf) (f : Flood) (es : List Entry) (spent : Bool) (k : IsRouter (control_of r f es spent)) (link : ℕ) where
  whole : Kept r.system f.up spent f es
  whole = kept_of (control_of r f es spent) k

  set_long : (b : Bool) → length (set f.up link b) ≡ length r.ends
  set_long b = length-set f.up link b ∙ k.control.links

  pub up_keeps : (f' : Flood) → f' ≡ link_up f es link → link < length r.ends → IsRouter (control_of r f' es spent)
  up_keeps f' is lt =
      router_of r (set f.up link true) spent f' es k.sound (set_long true)
      (subst (λ (x : Flood). Kept r.system (set f.up link true) spent x es) (sym is) (up_kept r.system f.up spent f es link whole (omega (arith, lt, k.control.links))))
      k.control.entries

  pub down_keeps : (f' : Flood) → f' ≡ link_down f link → IsRouter (control_of r f' es spent)
  down_keeps f' is =
      router_of r (set f.up link false) spent f' es k.sound (set_long false)
      (subst (λ (x : Flood). Kept r.system (set f.up link false) spent x es) (sym is) (down_kept r.system f.up spent f es link whole))
      k.control.entries

  pub sent_keeps : (f' : Flood) → f' ≡ sent_on f link → IsRouter (control_of r f' es spent)
  sent_keeps f' is =
      router_of r f.up spent f' es k.sound k.control.links
      (subst (λ (x : Flood). Kept r.system f.up spent x es) (sym is) (sent_kept r.system f.up spent f es link whole))
      k.control.entries

  pub up_spent : spent ≡ true → (f' : Flood) → f' ≡ link_up f es link → control_of r f' es spent ≡ (end_up (control_of r f es spent) link).control
  unfolding end_up reissue_unless_spent
  up_spent h f' is = ap (λ (x : Flood). control_of r x es spent) is ∙ ap (λ (b : Bool). if b then control_of r (link_up f es link) es spent else reissue (control_of r (link_up f es link) es spent) (seq_of (entry_in es (fragment_0 r.system)))) (sym h)

  pub down_spent : spent ≡ true → (f' : Flood) → f' ≡ link_down f link → control_of r f' es spent ≡ (end_down (control_of r f es spent) link).control
  unfolding end_down reissue_unless_spent
  down_spent h f' is = ap (λ (x : Flood). control_of r x es spent) is ∙ ap (λ (b : Bool). if b then control_of r (link_down f link) es spent else reissue (control_of r (link_down f link) es spent) (seq_of (entry_in es (fragment_0 r.system)))) (sym h)

  up_unspent : spent ≡ false → (end_up (control_of r f es spent) link).control ≡ reissue (control_of r (link_up f es link) es spent) (seq_of (entry_in es (fragment_0 r.system)))
  unfolding end_up reissue_unless_spent
  up_unspent h = ap (λ (b : Bool). if b then control_of r (link_up f es link) es spent else reissue (control_of r (link_up f es link) es spent) (seq_of (entry_in es (fragment_0 r.system)))) h

  down_unspent : spent ≡ false → (end_down (control_of r f es spent) link).control ≡ reissue (control_of r (link_down f link) es spent) (seq_of (entry_in es (fragment_0 r.system)))
  unfolding end_down reissue_unless_spent
  down_unspent h = ap (λ (b : Bool). if b then control_of r (link_down f link) es spent else reissue (control_of r (link_down f link) es spent) (seq_of (entry_in es (fragment_0 r.system)))) h

  -- the own LSP was made for the links that are up then, and is issued
  module _ (s : ℕ) (ups : List Bool) (own : Entry) (is : own ≡ own_past r ups s) (f' : Flood) (es' : List Entry) (now : Bool) (put : es' ≡ put_entry own es) (now_is : now ≡ spent_past spent s) (database : IsDatabase es') where
    pub up_issued_keeps : f' ≡ mark_all (link_up f es link) own.id → link < length r.ends → IsRouter (control_of r f' es' now)
    up_issued_keeps marked lt =
        reissued_keeps r (link_up f es link) es spent s ups own is f' es' now marked put now_is (set f.up link true) spent k.sound (set_long true) (up_kept r.system f.up spent f es link whole (omega (arith, lt, k.control.links))) database

    pub down_issued_keeps : f' ≡ mark_all (link_down f link) own.id → IsRouter (control_of r f' es' now)
    down_issued_keeps marked =
        reissued_keeps r (link_down f link) es spent s ups own is f' es' now marked put now_is (set f.up link false) spent k.sound (set_long false) (down_kept r.system f.up spent f es link whole) database

    pub up_issued_is : f' ≡ mark_all (link_up f es link) own.id → link < length r.ends → spent ≡ false → s ≡ seq_of (entry_in es (fragment_0 r.system)) → ups ≡ set f.up link true → control_of r f' es' now ≡ (end_up (control_of r f es spent) link).control
    up_issued_is marked lt unspent seq links =
        reissued_is r (link_up f es link) es spent s ups own is f' es' now marked put now_is (links ∙ sym (up_kept r.system f.up spent f es link whole (omega (arith, lt, k.control.links))).up_is)
        ∙ ap (λ n. reissue (control_of r (link_up f es link) es spent) n) seq ∙ sym (up_unspent unspent)

    pub down_issued_is : f' ≡ mark_all (link_down f link) own.id → spent ≡ false → s ≡ seq_of (entry_in es (fragment_0 r.system)) → ups ≡ set f.up link false → control_of r f' es' now ≡ (end_down (control_of r f es spent) link).control
    down_issued_is marked unspent seq links =
        reissued_is r (link_down f link) es spent s ups own is f' es' now marked put now_is (links ∙ sym (down_kept r.system f.up spent f es link whole).up_is)
        ∙ ap (λ n. reissue (control_of r (link_down f link) es spent) n) seq ∙ sym (down_unspent unspent)

-- ---- a second

below_missing : (es : List Entry) (id : LspId) → AllByRecursion (λ z. is_below id z ≡ true) (ids_of es) → entry_in (filter_map after_second es) id ≡ None
below_missing [] id low = refl
below_missing (e ∷ es) id low = cases (aged e) (below_missing es id low.1)
  where
    other : same_id e.id id ≡ false
    other = same_turned e.id id ∙ below_differs id e.id low.0

    skipped : (x : Entry) → x.id ≡ e.id → entry_in (filter_map after_second es) id ≡ None → entry_in (x ∷ filter_map after_second es) id ≡ None
    skipped x is rest = ap (λ (b : Bool). if b then Some x else entry_in (filter_map after_second es) id) (ap (λ (i : LspId). same_id i id) is ∙ other) ∙ rest

    cases : (a : Aged) → entry_in (filter_map after_second es) id ≡ None → entry_in (cons_option (aged_to a e) (filter_map after_second es)) id ≡ None
    cases Live rest = skipped (record e { life = e.life - 1 }) refl rest
    cases Expired rest = skipped (purge e.id e.seq) refl rest
    cases Held rest = skipped (record e { hold = e.hold - 1 }) refl rest
    cases Removed rest = rest

-- an identifier has what its entry is a second later
pub aged_reads : (es : List Entry) (id : LspId) → AreAscending (ids_of es) → entry_in (filter_map after_second es) id ≡ option_and_then after_second (entry_in es id)
aged_reads [] id asc = refl
aged_reads (e ∷ es) id asc = cases (same_id e.id id) refl (aged e) (aged_reads es id asc.1) ∙ sym (pushed (same_id e.id id))
  where
    pushed : (b : Bool) → option_and_then after_second (if b then Some e else entry_in es id) ≡ (if b then after_second e else option_and_then after_second (entry_in es id))
    pushed true = refl
    pushed false = refl

    gone : same_id e.id id ≡ true → entry_in (filter_map after_second es) id ≡ None
    gone same = let P : LspId → Type 0 = λ i. AllByRecursion (λ z. is_below i z ≡ true) (ids_of es) in below_missing es id (subst P (same_is e.id id same) asc.0)

    read : (x : Entry) (b : Bool) → x.id ≡ e.id → same_id e.id id ≡ b → entry_in (x ∷ filter_map after_second es) id ≡ (if b then Some x else entry_in (filter_map after_second es) id)
    read x b is same = ap (λ (c : Bool). if c then Some x else entry_in (filter_map after_second es) id) (ap (λ (i : LspId). same_id i id) is ∙ same)

    cases : (b : Bool) → same_id e.id id ≡ b → (a : Aged) → entry_in (filter_map after_second es) id ≡ option_and_then after_second (entry_in es id)
        → entry_in (cons_option (aged_to a e) (filter_map after_second es)) id ≡ (if b then aged_to a e else option_and_then after_second (entry_in es id))
    cases true same Live rest = read (record e { life = e.life - 1 }) true refl same
    cases true same Expired rest = read (purge e.id e.seq) true refl same
    cases true same Held rest = read (record e { hold = e.hold - 1 }) true refl same
    cases true same Removed rest = gone same
    cases false same Live rest = read (record e { life = e.life - 1 }) false refl same ∙ rest
    cases false same Expired rest = read (purge e.id e.seq) false refl same ∙ rest
    cases false same Held rest = read (record e { hold = e.hold - 1 }) false refl same ∙ rest
    cases false same Removed rest = rest

-- of one with 301 seconds to live 300 are left, and of no other
near_stale : (o : Option Entry) → is_stale (option_and_then after_second o) ≡ is_near o
near_stale None = refl
near_stale (Some e) = cases (nat_lt 0 e.life) (e.life == 1) (nat_le e.hold 1) refl refl
  where
    cases : (live last gone : Bool) → nat_lt 0 e.life ≡ live → (e.life == 1) ≡ last → is_stale (aged_to (if live then (if last then Expired else Live) else (if gone then Removed else Held)) e) ≡ (e.life == 301)
    cases true true gone p q = grind (arith, nat_tests)
    cases true false gone p q = grind (arith, nat_tests)
    cases false last true p q = grind (arith, nat_tests)
    cases false last false p q = grind (arith, nat_tests)

near_seq : (o : Option Entry) → is_near o ≡ true → seq_of (option_and_then after_second o) ≡ seq_of o
near_seq None h = refl
near_seq (Some e) h = cases (nat_lt 0 e.life) (e.life == 1) (nat_le e.hold 1) refl
  where
    cases : (live last gone : Bool) → nat_lt 0 e.life ≡ live → seq_of (aged_to (if live then (if last then Expired else Live) else (if gone then Removed else Held)) e) ≡ e.seq
    cases true true gone p = refl
    cases true false gone p = refl
    cases false last gone p = absurd (grind (arith, nat_tests))

near_has : (o : Option Entry) → is_near o ≡ true → (x : Entry) × (option_and_then after_second o ≡ Some x)
near_has None h = absurd (false≢true h)
near_has (Some e) h = cases (nat_lt 0 e.life) (e.life == 1) (nat_le e.hold 1) refl
  where
    cases : (live last gone : Bool) → nat_lt 0 e.life ≡ live → (x : Entry) × (aged_to (if live then (if last then Expired else Live) else (if gone then Removed else Held)) e ≡ Some x)
    cases true true gone p = (purge e.id e.seq, refl)
    cases true false gone p = (record e { life = e.life - 1 }, refl)
    cases false last gone p = absurd (grind (arith, nat_tests))

-- what has longer to live than that has it still
far_stands : (e : Entry) → 300 < e.life → (e.life == 301) ≡ false → (x : Entry) × ((after_second e ≡ Some x) × (300 < x.life))
far_stands e more far = cases (nat_lt 0 e.life) (e.life == 1) (nat_le e.hold 1) refl refl
  where
    cases : (live last gone : Bool) → nat_lt 0 e.life ≡ live → (e.life == 1) ≡ last → (x : Entry) × ((aged_to (if live then (if last then Expired else Live) else (if gone then Removed else Held)) e ≡ Some x) × (300 < x.life))
    cases true true gone p q = absurd (grind (arith, nat_tests))
    cases true false gone p q = (record e { life = e.life - 1 }, (refl, grind (arith, nat_tests)))
    cases false last gone p q = absurd (grind (arith, nat_tests))

module _ (r : RouterConf) (f : Flood) (es : List Entry) (spent : Bool) (k : IsRouter (control_of r f es spent)) where
  own_id : LspId
  own_id = fragment_0 r.system

  older : Kept r.system f.up true (fold flood_aged f es) (filter_map after_second es)
  older = all_aged r.system f.up spent f es (kept_of (control_of r f es spent) k)

  read : entry_in (filter_map after_second es) (fragment_0 r.system) ≡ option_and_then after_second (entry_in es (fragment_0 r.system))
  read = aged_reads es (fragment_0 r.system) k.control.entries.in_order

  stale : is_stale (entry_in (filter_map after_second es) (fragment_0 r.system)) ≡ is_near (entry_in es (fragment_0 r.system))
  stale = ap is_stale read ∙ near_stale (entry_in es (fragment_0 r.system))

  tick_by : (b : Bool) → is_near (entry_in es (fragment_0 r.system)) ≡ b
      → (tick (control_of r f es spent)).control ≡ (if b then reissue (control_of r (fold flood_aged f es) (filter_map after_second es) spent) (seq_of (entry_in (filter_map after_second es) (fragment_0 r.system))) else control_of r (fold flood_aged f es) (filter_map after_second es) spent)
  unfolding tick aged_all
  tick_by b h = ap (λ (x : Bool). if x then reissue (control_of r (fold flood_aged f es) (filter_map after_second es) spent) (seq_of (entry_in (filter_map after_second es) (fragment_0 r.system))) else control_of r (fold flood_aged f es) (filter_map after_second es) spent) (stale ∙ h)

  far : is_near (entry_in es (fragment_0 r.system)) ≡ false → spent ≡ false → OwnStands r.system (filter_map after_second es)
  far h unspent = cases (k.own unspent)
    where
      cases : OwnStands r.system es → OwnStands r.system (filter_map after_second es)
      cases (e, (is, more)) = found (far_stands e more (ap is_near (sym is) ∙ h))
        where
          found : (x : Entry) × ((after_second e ≡ Some x) × (300 < x.life)) → OwnStands r.system (filter_map after_second es)
          found (x, (there, left)) = (x, (read ∙ ap (λ (o : Option Entry). option_and_then after_second o) is ∙ there, left))

  -- the own one isn't to be issued anew
  pub tick_keeps : is_near (entry_in es (fragment_0 r.system)) ≡ false → (f' : Flood) (es' : List Entry) → f' ≡ fold flood_aged f es → es' ≡ filter_map after_second es → IsDatabase es' → IsRouter (control_of r f' es' spent)
  tick_keeps h f' es' flood entries database =
      let one : Kept r.system f.up spent (fold flood_aged f es) (filter_map after_second es) =
      record { own_is = older.own_is; up_is = older.up_is; flood = older.flood; flagged = older.flagged; short = older.short; stands = far h } in
      let two : Kept r.system f.up spent f' (filter_map after_second es) = subst (λ (x : Flood). Kept r.system f.up spent x (filter_map after_second es)) (sym flood) one in
      router_of r f.up spent f' es' k.sound k.control.links (subst (λ (x : List Entry). Kept r.system f.up spent f' x) (sym entries) two) database

  pub tick_is : is_near (entry_in es (fragment_0 r.system)) ≡ false → (f' : Flood) (es' : List Entry) → f' ≡ fold flood_aged f es → es' ≡ filter_map after_second es → control_of r f' es' spent ≡ (tick (control_of r f es spent)).control
  tick_is h f' es' flood entries = ap (λ (x : Flood). control_of r x es' spent) flood ∙ ap (λ (x : List Entry). control_of r (fold flood_aged f es) x spent) entries ∙ sym (tick_by false h)

  -- it is
  module _ (near : is_near (entry_in es (fragment_0 r.system)) ≡ true) where
    pub near_known : (id : LspId) → id ≡ fragment_0 r.system → is_refused (filter_map after_second es) id ≡ false
    near_known id is = cases (near_has (entry_in es (fragment_0 r.system)) near)
      where
        cases : (x : Entry) × (option_and_then after_second (entry_in es (fragment_0 r.system)) ≡ Some x) → is_refused (filter_map after_second es) id ≡ false
        cases (x, there) = known_not_refused (filter_map after_second es) id (x, ap (λ (i : LspId). entry_in (filter_map after_second es) i) is ∙ read ∙ there)

    module _ (s : ℕ) (ups : List Bool) (own : Entry) (is : own ≡ own_past r ups s) (f' : Flood) (es' : List Entry) (now : Bool) (marked : f' ≡ mark_all (fold flood_aged f es) own.id) (put : es' ≡ put_entry own (filter_map after_second es)) (now_is : now ≡ spent_past spent s) where
      pub tick_issued_keeps : IsDatabase es' → IsRouter (control_of r f' es' now)
      tick_issued_keeps database = reissued_keeps r (fold flood_aged f es) (filter_map after_second es) spent s ups own is f' es' now marked put now_is f.up true k.sound k.control.links older database

      pub tick_issued_is : s ≡ seq_of (entry_in es (fragment_0 r.system)) → ups ≡ f.up → control_of r f' es' now ≡ (tick (control_of r f es spent)).control
      tick_issued_is seq links =
          reissued_is r (fold flood_aged f es) (filter_map after_second es) spent s ups own is f' es' now marked put now_is (links ∙ sym older.up_is)
          ∙ ap (λ n. reissue (control_of r (fold flood_aged f es) (filter_map after_second es) spent) n) (seq ∙ sym (ap seq_of read ∙ near_seq (entry_in es (fragment_0 r.system)) near))
          ∙ sym (tick_by true near)
