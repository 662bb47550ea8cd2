-- The entry of a router's own LSP can be sent, and so can a dead one.
use Rattle.std.proofs.Common.{◌≡◌, ℕ, ◌+◌, ◌^◌, ◌<◌, Bool, true, false, cond, List, [], refl, sym, subst, arith}
use Rattle.wire_base.specs.declared.conf.Level.{Level}
use Rattle.wire_base.specs.declared.conf.Level.TheVariants.{One, Two}
use Rattle.wire_base.specs.declared.conf.RouterConf.{RouterConf}
use Rattle.wire_base.specs.declared.entry.Entry.{Entry}
use Rattle.wire_base.specs.model.Checksum.{IsRight}
use Rattle.wire_base.specs.model.Configuration.{IsSound}
use Rattle.wire_base.specs.model.OwnLsp.{own_tlvs, own_content, own_head, level_bits}
use Rattle.wire_base.specs.model.Pdu.{AreTlvs, lsp_covered, lsp_sum}
use Rattle.wire_base.specs.model.Tlv.{LspIdFits}
use Rattle.laws_format.proofs.PduLaws.{lsp_sum_right, lsp_sum_fits}
use Rattle.laws_format.proofs.TlvListLaws.{are_spelled}
use Rattle.laws_format.proofs.ContentLaws.{content_short}
use Rattle.laws_item.specs.Fits.{EntryFits, IsOwn}

flags_small : (level : Level) (overload : Bool) → level_bits level + cond overload 4 0 < 256
flags_small One true = omega arith
flags_small One false = omega arith
flags_small Two true = omega arith
flags_small Two false = omega arith

pub content_tlvs : (r : RouterConf) (up : List Bool) → AreTlvs false (own_content r up)
unfolding own_content
content_tlvs r up = are_spelled (own_tlvs r up)

pub own_fits : (r : RouterConf) (up : List Bool) (e : Entry) → IsSound r → IsOwn r up e → e.seq < 2 ^ 32 → e.life < 2 ^ 16 → EntryFits e
own_fits r up e sound is seq life =
    let short = content_short r up (own_content r up) sound refl in
    let small = flags_small r.level r.overload in
    let six = sound.system.long in
    let id : LspIdFits e.id = subst LspIdFits (sym is.id) (record { system = six; pseudonode = omega arith; fragment = omega arith }) in
    let right : IsRight (lsp_covered (record (own_head r e.seq) { sum = lsp_sum (own_head r e.seq) (own_content r up) }) (own_content r up)) = lsp_sum_right (own_head r e.seq) (own_content r up) (subst LspIdFits is.id id) in
    record {
      lsp = record {
        head_fits = record { life = life; id = id; seq = seq; sum = subst (λ (n : ℕ). n < 256 ^ 2) (sym is.sum) (lsp_sum_fits (own_head r e.seq) (own_content r up)); flags = subst (λ (n : ℕ). n < 256) (sym is.flags) small };
        size = rw is.content (omega (arith, short));
        live = λ alive. rw (is.id, is.flags, is.sum, is.content) right;
        tlvs_are = rw is.content (content_tlvs r up);
      };
      short = rw is.content (omega (arith, short));
    }

-- a dead one has no content
pub dead_fits : (e : Entry) → LspIdFits e.id → e.seq < 2 ^ 32 → e.life ≡ 0 → e.sum < 2 ^ 16 → e.flags < 256 → e.content ≡ [] → EntryFits e
dead_fits e id seq dead sum flags none = record {
  lsp = record {
    head_fits = record { life = omega (arith, dead); id = id; seq = seq; sum = sum; flags = flags };
    size = rw none (omega arith);
    live = λ alive. absurd (omega (arith, dead));
    tlvs_are = rw none (are_spelled []);
  };
  short = rw none (omega arith);
}
