-- What a router contributes itself is what its own LSP says.
use Rattle.std.proofs.Common.{◌≡◌, ◌<◌, ◌==◌, lt-ltb, Bool, true, false, List, [], ◌∷◌, map, filter, Some, refl, sym, ap, subst, ◌∙◌, arith}
use mathlib.Core.Bool.{true≢false}
use Rattle.std.specs.List.{AllByRecursion, flat_map}
use Rattle.std.proofs.lemmas.Bool.{and_parts, ltb-true}
use Rattle.std.proofs.lemmas.List.{append-nil}
use Rattle.std.proofs.lemmas.Option.{same_Some}
use Rattle.wire_base.specs.declared.addresses.LspId.{LspId}
use Rattle.wire_base.specs.declared.addresses.SystemId.{SystemId}
use Rattle.wire_base.specs.declared.conf.RouterConf.{RouterConf}
use Rattle.wire_base.specs.declared.entry.Entry.{Entry}
use Rattle.wire_base.specs.declared.view.ViewSub.{ViewSub}
use Rattle.wire_base.specs.model.Configuration.{IsSound}
use Rattle.wire_base.specs.model.Control.{AreAscending, Control, entry_in, fragment_0, ids_of, is_below, same_id, same_system}
use Rattle.wire_base.specs.model.OwnLsp.{info_of, own_content, own_flags, picked}
use Rattle.wire_base.specs.model.Tlv.{tlvs_before}
use Rattle.wire_base.specs.model.View.{Link, claim_of, end_link, is_overload_flag, is_part_of, links_in, own_claim, sub_of, subs_in, tlvs_of}
use Rattle.wire_base.proofs.OrderLaws.{below_differs}
use Rattle.laws_router.specs.State.{IsRouter, IssuesAlone}
use Rattle.domain_model.proofs.EachLaws.{each_weaker}
use Rattle.domain_model.proofs.FlagLaws.{each_is_found, found_id, same_id_is, same_id_self}
use Rattle.domain_model.proofs.ReadBack.{own_links, own_overload, own_places}
use Rattle.quiet_domain.specs.Live.{is_live}

-- ---- the own LSP

-- the router's own LSP, live, and alone among the live LSPs in its name
pub record HasOwnLsp (r : RouterConf) (up : List Bool) (entries : List Entry) : Type 0 where
  pub lsp : Entry
  pub there : entry_in entries (fragment_0 r.system) ≡ Some lsp
  pub live : is_live lsp ≡ true
  pub flags : lsp.flags ≡ own_flags r
  pub content : lsp.content ≡ own_content r up
  pub alone : AllByRecursion (λ e. is_live e ≡ true → same_system e.id.system r.system ≡ true → e.id ≡ fragment_0 r.system) entries

pub system_self : (s : SystemId) → same_system s s ≡ true
system_self s = (and_parts (same_system s s) _ (same_id_self (fragment_0 s))).0

pub own_lsp_of : (c : Control) → IsRouter c → IssuesAlone c → c.spent ≡ false → HasOwnLsp c.conf c.flood.up c.entries
own_lsp_of c kept issued unspent =
    let own = kept.own unspent in
    let live : 0 < own.0.life = omega (arith, own.1.1) in
    let is = issued.each (fragment_0 c.conf.system) own.0 own.1.0 live (system_self c.conf.system) in
    record {
      lsp = own.0;
      there = own.1.0;
      live = lt-ltb _ _ live;
      flags = is.flags;
      content = is.content;
      alone = each_weaker _ _ (λ e found lives same. (issued.each e.id e found (ltb-true 0 e.life lives) same).fragment) c.entries (each_is_found c.entries kept.control.entries.in_order);
    }

-- ---- its TLVs

module _ (s : SystemId) where
  abbrev Alone : Entry → Type 0
  Alone e = is_live e ≡ true → same_system e.id.system s ≡ true → e.id ≡ fragment_0 s

  part_parts : (e : Entry) → is_part_of s e ≡ true → (same_system e.id.system s ≡ true) × (is_live e ≡ true)
  part_parts e h =
      let a = and_parts (same_system e.id.system s) _ h in
      let b = and_parts (e.id.pseudonode == 0) _ a.1 in
      (a.0, b.1)

  no_part : (es : List Entry) → AllByRecursion (λ i. is_below (fragment_0 s) i ≡ true) (ids_of es) → AllByRecursion Alone es → filter (is_part_of s) es ≡ []
  no_part [] under all = refl
  no_part (e ∷ es) under all = by (is_part_of s e) refl (no_part es under.1 all.1)
    where
      by : (b : Bool) → is_part_of s e ≡ b → filter (is_part_of s) es ≡ [] → filter (is_part_of s) (e ∷ es) ≡ []
      by true h more =
          let p = part_parts e h in
          absurd (true≢false (sym (same_id_self (fragment_0 s)) ∙ ap (same_id (fragment_0 s)) (sym (all.0 p.1 p.0)) ∙ below_differs (fragment_0 s) e.id under.0))
      by false h more = rw h more

  only_part : (es : List Entry) (own : Entry) → AreAscending (ids_of es) → AllByRecursion Alone es → entry_in es (fragment_0 s) ≡ Some own → is_live own ≡ true → filter (is_part_of s) es ≡ own ∷ []
  only_part [] own asc all there live = cc
  only_part (e ∷ es) own asc all there live = by (same_id e.id (fragment_0 s)) refl (λ k. only_part es own asc.1 all.1 k live)
    where
      by : (b : Bool) → same_id e.id (fragment_0 s) ≡ b → (entry_in es (fragment_0 s) ≡ Some own → filter (is_part_of s) es ≡ own ∷ []) → filter (is_part_of s) (e ∷ es) ≡ own ∷ []
      by true h more =
          let found : Some e ≡ Some own = rw h at there in
          let is : e ≡ own = same_Some e own found in
          let id : e.id ≡ fragment_0 s = same_id_is e.id (fragment_0 s) h in
          let lives : is_live e ≡ true = ap is_live is ∙ live in
          let part : is_part_of s e ≡ true = rw (ap (λ (i : LspId). same_system i.system s) id ∙ system_self s, ap (λ (i : LspId). i.pseudonode == 0) id) lives in
          let none = no_part es (subst (λ (i : LspId). AllByRecursion (λ j. is_below i j ≡ true) (ids_of es)) id asc.0) all.1 in
          rw (part, none) (ap (λ (x : Entry). x ∷ []) is)
      by false h more = other (is_part_of s e) refl
        where
          other : (b : Bool) → is_part_of s e ≡ b → filter (is_part_of s) (e ∷ es) ≡ own ∷ []
          other true part =
              let p = part_parts e part in
              absurd (true≢false (sym (same_id_self (fragment_0 s)) ∙ ap (λ (i : LspId). same_id i (fragment_0 s)) (sym (all.0 p.1 p.0)) ∙ h))
          other false part = let k : entry_in es (fragment_0 s) ≡ Some own = rw h at there in rw part (more k)

-- the TLVs that an LSDB has of the router are those that it originates
pub own_tlvs_are : (r : RouterConf) (up : List Bool) (entries : List Entry) → AreAscending (ids_of entries) → HasOwnLsp r up entries → tlvs_of entries r.system ≡ tlvs_before (own_content r up)
own_tlvs_are r up entries asc own =
    ap (flat_map (λ (e : Entry). tlvs_before e.content)) (only_part r.system entries own.lsp asc own.alone own.there own.live)
    ∙ append-nil (tlvs_before own.lsp.content)
    ∙ ap tlvs_before own.content

pub own_links_are : (r : RouterConf) (up : List Bool) (entries : List Entry) → IsSound r → AreAscending (ids_of entries) → HasOwnLsp r up entries → flat_map links_in (tlvs_of entries r.system) ≡ map end_link (picked up r.ends)
own_links_are r up entries sound asc own = ap (flat_map links_in) (own_tlvs_are r up entries asc own) ∙ own_links r up sound

-- ---- its claim

pub own_claim_is : (r : RouterConf) (up : List Bool) (entries : List Entry) → IsSound r → AreAscending (ids_of entries) → (own : HasOwnLsp r up entries) → own_claim r up ≡ claim_of entries own.lsp
own_claim_is r up entries sound asc own =
    let system : own.lsp.id.system ≡ r.system = ap (λ (i : LspId). i.system) (same_id_is own.lsp.id (fragment_0 r.system) (found_id entries (fragment_0 r.system) own.lsp own.there)) in
    let overload : is_overload_flag own.lsp.flags ≡ r.overload = ap is_overload_flag own.flags ∙ own_overload r in
    let tlvs : tlvs_of entries own.lsp.id.system ≡ tlvs_before (own_content r up) = ap (tlvs_of entries) system ∙ own_tlvs_are r up entries asc own in
    let links : flat_map links_in (tlvs_of entries own.lsp.id.system) ≡ map end_link (picked up r.ends) = ap (flat_map links_in) tlvs ∙ own_links r up sound in
    let subs : flat_map subs_in (tlvs_of entries own.lsp.id.system) ≡ map (λ s. sub_of r.prefix.0 (info_of r.kinds s)) r.subs = ap (flat_map subs_in) tlvs ∙ own_places r up sound in
    let own_links_now = map end_link (picked up r.ends) in
    let own_subs_now = map (λ s. sub_of r.prefix.0 (info_of r.kinds s)) r.subs in
    ap (λ (s : SystemId). record { system = s; overload = r.overload; links = own_links_now; subs = own_subs_now }) (sym system)
    ∙ ap (λ (b : Bool). record { system = own.lsp.id.system; overload = b; links = own_links_now; subs = own_subs_now }) (sym overload)
    ∙ ap (λ (ls : List Link). record { system = own.lsp.id.system; overload = is_overload_flag own.lsp.flags; links = ls; subs = own_subs_now }) (sym links)
    ∙ ap (λ (ss : List ViewSub). record { system = own.lsp.id.system; overload = is_overload_flag own.lsp.flags; links = flat_map links_in (tlvs_of entries own.lsp.id.system); subs = ss }) (sym subs)
