-- Where flooding answers at once, the router is unchanged; so what it answers can be told and queued after that.
use Rattle.std.proofs.Common.{◌≡◌, ◌⊎◌, inl, inr, ℕ, ◌==◌, ◌&&◌, Bool, List, [], ◌∷◌, map, None, if◌then◌else◌, refl, sym, ap, ◌∙◌}
use Rattle.std.proofs.lemmas.Bool.{cond_both}
use Rattle.wire_base.specs.declared.entry.Age.{Age}
use Rattle.wire_base.specs.declared.entry.Age.TheVariants.{Unknown, Newer, Equal, Older, Confused}
use Rattle.wire_base.specs.declared.flood_out.FloodOut.{FloodOut}
use Rattle.wire_base.specs.declared.flood_out.FloodOut.TheVariants as out
use Rattle.wire_base.specs.model.Control.{Control, is_full, is_unknown, age_of, entry_in, purge}
use Rattle.wire_base.specs.model.Flooding.{LspAnswer, Reply, only_says, puts_marked, stores, kept, lsp_aged, is_unheld_own, is_own_ahead, lsp_in, lsp_done, on_lsp, on_pdu}
use Rattle.wire_base.specs.model.OnFrame.{Effects}
use Rattle.wire_base.specs.model.Pdu.{Head, head_summary, Pdu, LspPdu, CsnpPdu, PsnpPdu, HelloPdu, OtherPdu}
use Rattle.wire_base.specs.declared.conf.RouterConf.{RouterConf}
use Rattle.domain_model.specs.Moves.{replied}
use Rattle.frames_in_flight.specs.Told.{IsSilent}
use Rattle.frames_in_flight.specs.Framed.{IsFramed}

-- nothing is sent, or the control state stays
abbrev pub IsStill : Control → Reply → Type 0
IsStill c r = (r.sent ≡ []) ⊎ (r.control ≡ c)

module _ (c : Control) (link : ℕ) (h : Head) (tlvs : List ℕ) where
  abbrev Done : LspAnswer → Type 0
  Done a = IsStill c (lsp_done c a)

  says : (o : FloodOut) → Done (only_says c.flood c.entries o)
  says out.Kept = inl refl
  says (out.Reissue s) = inl refl
  says (out.Ack s) = inr refl
  says out.Full = inl refl
  says out.Zero = inl refl

  aged : (age : Age) → Done (lsp_aged c.flood c.entries link h tlvs age)
  aged Unknown =
      cond_both (h.life == 0) (only_says c.flood c.entries (out.Ack (head_summary h))) (if is_full c.entries then only_says c.flood c.entries out.Full else stores c.flood c.entries link (kept h tlvs)) Done
      (λ e. says (out.Ack (head_summary h)))
      (λ e. cond_both (is_full c.entries) (only_says c.flood c.entries out.Full) (stores c.flood c.entries link (kept h tlvs)) Done (λ f. says out.Full) (λ f. inl refl))
  aged Newer = inl refl
  aged Confused = inl refl
  aged Equal = inl refl
  aged Older = inl refl

  strays : Age → LspAnswer
  strays age = if is_unknown age && is_full c.entries then only_says c.flood c.entries out.Full else puts_marked c.flood c.entries (purge h.id h.seq)

  rest : Bool → Age → LspAnswer
  rest spent age = if is_unheld_own c.flood h age then strays age else lsp_aged c.flood c.entries link h tlvs age

  lsp_still : (spent : Bool) (age : Age) → Done (lsp_in c.flood c.entries link h tlvs spent age)
  unfolding strays rest
  lsp_still spent age =
      cond_both (h.seq == 0) (only_says c.flood c.entries out.Zero) (if is_own_ahead c.flood h.id spent age then only_says c.flood c.entries (out.Reissue h.seq) else rest spent age) Done (λ e. says out.Zero)
      (λ e. cond_both (is_own_ahead c.flood h.id spent age) (only_says c.flood c.entries (out.Reissue h.seq)) (rest spent age) Done (λ g. says (out.Reissue h.seq))
      (λ g. cond_both (is_unheld_own c.flood h age) (strays age) (lsp_aged c.flood c.entries link h tlvs age) Done
      (λ k. cond_both (is_unknown age && is_full c.entries) (only_says c.flood c.entries out.Full) (puts_marked c.flood c.entries (purge h.id h.seq)) Done (λ l. says out.Full) (λ l. inl refl))
      (λ k. aged age)))

pub pdu_still : (c : Control) (link : ℕ) (p : Pdu) → IsStill c (on_pdu c link p)
unfolding on_pdu on_lsp
pdu_still c link (LspPdu h tlvs) = lsp_still c link h tlvs c.spent (age_of (entry_in c.entries h.id) (head_summary h))
pdu_still c link (CsnpPdu source start last tlvs) = inl refl
pdu_still c link (PsnpPdu source tlvs) = inl refl
pdu_still c link HelloPdu = inl refl
pdu_still c link (OtherPdu number) = inl refl

-- ---- what is silent in items is silent on octets

nil_mapped : {X Y : Type 0} (f : X → Y) (xs : List X) → [] ≡ map f xs → xs ≡ []
nil_mapped f [] e = refl
nil_mapped f (x ∷ xs) e = cc

pub silent_framed : (os confs : List RouterConf) (b : ℕ) (e : Effects) (link : ℕ) (r : Reply) → IsFramed os confs b None [] e (replied os b link r) → r.sent ≡ [] → r.drops ≡ [] → IsSilent e
silent_framed os confs b e link r k sent drops = record {
  sent = nil_mapped _ e.sent (sym (ap (map _) sent) ∙ k.sent);
  got = nil_mapped _ e.got k.got;
  drops = nil_mapped _ e.drops (sym (ap (map _) drops) ∙ k.drops);
}
