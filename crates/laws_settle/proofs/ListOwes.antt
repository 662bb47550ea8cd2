-- What a router owes a neighbor stays marked, when a CSNP or PSNP of the neighbor arrives that is not ahead of it.
use Rattle.std.proofs.Common.{◌≡◌, ℕ, ◌+◌, ◌≤◌, ◌==◌, ◌&&◌, not, nat_lt, Bool, true, false, if◌then◌else◌, List, slice_index_or, slice_set, Option, Some, None, is_none, refl, sym, ap, subst, ◌∙◌, arith}
use Rattle.std.specs.List.{AllByRecursion, fold}
use Rattle.std.proofs.lemmas.Bool.{and_parts, cond_both}
use Rattle.std.proofs.lemmas.Option.{same_Some}
use Rattle.wire_base.specs.declared.addresses.LspId.{LspId}
use Rattle.wire_base.specs.declared.addresses.SystemId.{SystemId}
use Rattle.wire_base.specs.declared.entry.Age.{Age}
use Rattle.wire_base.specs.declared.entry.Age.TheVariants.{Unknown, Newer, Equal, Older, Confused}
use Rattle.wire_base.specs.declared.entry.Entry.{Entry}
use Rattle.wire_base.specs.declared.triple.Summary.{Summary}
use Rattle.wire_base.specs.model.Control.{Flood, FlagRow, age_of, entry_in, fragment_0, is_full, is_unknown, purge, put_entry, same_id, seq_of}
use Rattle.wire_base.specs.model.Flooding.{SnpAnswer, ask_on, asks, is_live_summary, lacks, listed_aged, mark_all, no_links, nothing_asked, on_csnp, on_list, on_listed, on_psnp, send_lacking, send_on, set_srm, wanted, with_flags, with_row}
use Rattle.wire_base.specs.model.Tlv.{rows_of}
use Rattle.wire_base.proofs.OrderLaws.{same_is}
use Rattle.laws_router.proofs.FlagLaws.{KeepsRow, keeps_acknowledged, keeps_ask, keeps_mark, keeps_send, keeps_srm}
use Rattle.domain_model.proofs.EachLaws.{each_from, fold_keeps}
use Rattle.wire_base.proofs.AgeLaws.{unknown_is_none}
use Rattle.laws_settle.specs.Fresh.{number_in}
use Rattle.laws_settle.proofs.OwesLaws.{OwesIn, clear_owes, clear_put_owes, confused_even, mark_owes, not_older, number_kept, set_owes}
use Rattle.laws_settle.proofs.RowSrm.{IsTidy, tidy_row}

tidy_mark : (up : List Bool) (f : Flood) (x : LspId) → IsTidy up f → IsTidy up (mark_all f x)
unfolding mark_all
tidy_mark up f x t = tidy_row up f x (λ row. record row { srm = f.up; ssn = no_links f }) t (keeps_mark f.up)

own_mark : (f : Flood) (x : LspId) → (mark_all f x).own ≡ f.own
unfolding mark_all
own_mark f x = refl

none_of : {X : Type 0} (o : Option X) → is_none o ≡ true → o ≡ None
none_of None h = refl
none_of (Some x) h = cc

-- Rows change no sequence number. What they leave of flags and what they request of the own LSP:
pub record SnpOwes (id : LspId) (k least : ℕ) (own : SystemId) (up : List Bool) (es : List Entry) (a : SnpAnswer) : Type 0 where
  pub tidy : IsTidy up a.flood
  pub owns : a.flood.own ≡ own
  pub owes : OwesIn id k least a.flood a.entries
  pub numbers : (i : LspId) → number_in a.entries i ≡ number_in es i
  pub asked : (s : ℕ) → a.answer.reissue ≡ Some s → number_in es (fragment_0 own) ≤ s

module _ (id : LspId) (k least : ℕ) (own : SystemId) (up : List Bool) (es : List Entry) (link : ℕ) (open_ : slice_index_or up link false ≡ true) where
  abbrev Done : SnpAnswer → Type 0
  Done a = SnpOwes id k least own up es a

  -- the row is not ahead of the neighbor
  abbrev IsBehind : Summary → Type 0
  IsBehind s = link ≡ k → s.id ≡ id → s.seq ≤ least

  module _ (a : SnpAnswer) (d : Done a) where
    here : slice_index_or a.flood.up link false ≡ true
    here = ap (λ (u : List Bool). slice_index_or u link false) d.tidy.up_is ∙ open_

    sets : (x : LspId) → Done (with_flags a x (send_on link))
    sets x = record {
      tidy = tidy_row up a.flood x (send_on link) d.tidy (keeps_send a.flood.up link here);
      owns = d.owns;
      owes = set_owes id k least up a.flood d.tidy a.entries d.owes link x (send_on link) (λ row. refl) (λ row. refl);
      numbers = d.numbers;
      asked = d.asked;
    }

    clears : (x : LspId) (change : FlagRow → FlagRow) → KeepsRow a.flood.up change → ((row : FlagRow) → (change row).srm ≡ slice_set row.srm link false) → (link ≡ k → x ≡ id → number_in a.entries x ≤ least) → Done (with_flags a x change)
    clears x change keeps clear low = record {
      tidy = tidy_row up a.flood x change d.tidy keeps;
      owns = d.owns;
      owes = clear_owes id k least up a.flood d.tidy a.entries d.owes link x change keeps.id clear low;
      numbers = d.numbers;
      asked = d.asked;
    }

    requested : (s : Summary) → entry_in a.entries s.id ≡ None → Done (record a { flood = with_row a.flood s.id (ask_on link); entries = put_entry (wanted s) a.entries })
    requested s none =
        let same : 0 ≡ number_in a.entries s.id = sym (ap seq_of none) in
        record {
          tidy = tidy_row up a.flood s.id (ask_on link) d.tidy (keeps_ask a.flood.up link here);
          owns = d.owns;
          owes = clear_put_owes id k least up a.flood d.tidy a.entries d.owes link (wanted s) (ask_on link) (λ row. refl) (λ row. refl) same (λ at e. omega arith);
          numbers = λ i. number_kept (wanted s) a.entries same i ∙ d.numbers i;
          asked = d.asked;
        }

    purged : (s : Summary) → s.seq ≡ number_in a.entries s.id → Done (record a { flood = mark_all a.flood s.id; entries = put_entry (purge s.id s.seq) a.entries })
    purged s same = record {
      tidy = tidy_mark up a.flood s.id d.tidy;
      owns = own_mark a.flood s.id ∙ d.owns;
      owes = mark_owes id k least up a.flood d.tidy a.entries d.owes (purge s.id s.seq);
      numbers = λ i. number_kept (purge s.id s.seq) a.entries same i ∙ d.numbers i;
      asked = d.asked;
    }

    asked_own : (s : Summary) → s.seq ≡ number_in a.entries s.id → same_id s.id (fragment_0 a.flood.own) ≡ true → Done (record a { answer = record a.answer { reissue = Some s.seq } })
    asked_own s same mine =
        let is : s.id ≡ fragment_0 own = same_is s.id (fragment_0 a.flood.own) mine ∙ ap fragment_0 d.owns in
        let number : number_in es (fragment_0 own) ≡ s.seq = sym (d.numbers (fragment_0 own)) ∙ ap (λ (i : LspId). number_in a.entries i) (sym is) ∙ sym same in
        record {
          tidy = d.tidy;
          owns = d.owns;
          owes = d.owes;
          numbers = d.numbers;
          asked = λ n e. subst (λ (r : ℕ). number_in es (fragment_0 own) ≤ r) (same_Some s.seq n e) (omega (arith, number));
        }

    full : (answer : ℕ) → Done (record a { answer = record a.answer { full = answer } })
    full answer = record { tidy = d.tidy; owns = d.owns; owes = d.owes; numbers = d.numbers; asked = d.asked }

    module _ (spent : Bool) (s : Summary) (behind : IsBehind s) where
      aged : (age : Age) → age_of (entry_in a.entries s.id) s ≡ age → Done (listed_aged a link s spent age)
      aged Unknown is =
          cond_both (is_live_summary s) (asks a link s) a Done
          (λ live. cond_both (is_full a.entries) (record a { answer = record a.answer { full = a.answer.full + 1 } }) (record a { flood = with_row a.flood s.id (ask_on link); entries = put_entry (wanted s) a.entries }) Done
          (λ none. full (a.answer.full + 1))
          (λ room. requested s (none_of (entry_in a.entries s.id) (sym (unknown_is_none (entry_in a.entries s.id) s) ∙ ap is_unknown is))))
          (λ dead. d)
      aged Newer is = clears s.id (ask_on link) (keeps_ask a.flood.up link here) (λ row. refl) (λ at e. (let n = not_older (entry_in a.entries s.id) s Newer is (λ q. cc) in let b = behind at e in omega (arith, n, b)))
      aged Equal is = clears s.id (set_srm link false) (keeps_acknowledged a.flood.up link) (λ row. refl) (λ at e. (let n = not_older (entry_in a.entries s.id) s Equal is (λ q. cc) in let b = behind at e in omega (arith, n, b)))
      aged Older is = sets s.id
      aged Confused is =
          let same : s.seq ≡ number_in a.entries s.id = sym (confused_even (entry_in a.entries s.id) s is) in
          cond_both (same_id s.id (fragment_0 a.flood.own) && not spent) (record a { answer = record a.answer { reissue = Some s.seq } }) (record a { flood = mark_all a.flood s.id; entries = put_entry (purge s.id s.seq) a.entries }) Done
          (λ own. asked_own s same (and_parts (same_id s.id (fragment_0 a.flood.own)) (not spent) own).0)
          (λ other. purged s same)

      row_owes : Done (on_listed link spent a s)
      unfolding on_listed
      row_owes =
          cond_both (s.seq == 0) (if nat_lt 0 (seq_of (entry_in a.entries s.id)) then with_flags a s.id (send_on link) else a) (listed_aged a link s spent (age_of (entry_in a.entries s.id) s)) Done
          (λ none. cond_both (nat_lt 0 (seq_of (entry_in a.entries s.id))) (with_flags a s.id (send_on link)) a Done (λ known. sets s.id) (λ unknown. d))
          (λ some. aged (age_of (entry_in a.entries s.id) s) refl)

  module _ (spent : Bool) (f : Flood) (rows : List Summary) (behind : AllByRecursion IsBehind rows) (start : IsTidy up f) (owns : f.own ≡ own) (o : OwesIn id k least f es) where
    list_owes : Done (on_list f es link rows spent)
    unfolding on_list
    list_owes =
        fold_keeps Done IsBehind (on_listed link spent) (λ a s b d. row_owes a d spent s b) rows (record { flood = f; entries = es; answer = nothing_asked }) behind
        (record { tidy = start; owns = owns; owes = o; numbers = λ i. refl; asked = λ s e. cc })

    lacking_owes : (first last : LspId) → Done (record (on_list f es link rows spent) { flood = fold (send_lacking link first last rows) (on_list f es link rows spent).flood (on_list f es link rows spent).entries })
    lacking_owes first last =
        let a = on_list f es link rows spent in
        let d = list_owes in
        let Left : Flood → Type 0 = λ g. Done (record a { flood = g }) in
        fold_keeps Left (λ e. Unit {0}) (send_lacking link first last rows) (λ g e u left. cond_both (lacks first last rows e) (with_row g e.id (set_srm link true)) g Left (λ yes. one a g e.id left) (λ no. left)) a.entries a.flood (each_from (λ e. Unit {0}) (λ e. tt) a.entries) d
      where
        one : (a : SnpAnswer) (g : Flood) (x : LspId) → Done (record a { flood = g }) → Done (record a { flood = with_row g x (set_srm link true) })
        one a g x d = record {
          tidy = tidy_row up g x (set_srm link true) d.tidy (keeps_srm g.up link (here (record a { flood = g }) d));
          owns = d.owns;
          owes = set_owes id k least up g d.tidy a.entries d.owes link x (set_srm link true) (λ row. refl) (λ row. refl);
          numbers = d.numbers;
          asked = d.asked;
        }

  pub csnp_owes : (spent : Bool) (f : Flood) (first last : LspId) (tlvs : List ℕ) → AllByRecursion IsBehind (rows_of tlvs) → IsTidy up f → f.own ≡ own → OwesIn id k least f es → Done (on_csnp f es link first last tlvs spent)
  unfolding on_csnp
  csnp_owes spent f first last tlvs behind start owns o = lacking_owes spent f (rows_of tlvs) behind start owns o first last

  pub psnp_owes : (spent : Bool) (f : Flood) (tlvs : List ℕ) → AllByRecursion IsBehind (rows_of tlvs) → IsTidy up f → f.own ≡ own → OwesIn id k least f es → Done (on_psnp f es link tlvs spent)
  unfolding on_psnp
  psnp_owes spent f tlvs behind start owns o = list_owes spent f (rows_of tlvs) behind start owns o
