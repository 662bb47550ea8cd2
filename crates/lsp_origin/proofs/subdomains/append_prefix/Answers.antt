use Rattle.std.proofs.Common.{◌∙◌}
use Rattle.wire_base.proofs.SoundLemmas.{sound_subs}
use Rattle.laws_format.proofs.ContentLaws.{subs_follow, prefix_room}
use Rattle.lsp_origin.proofs.subdomains.append_prefix.Goals as goal

pub sub_infos-requires : goal.sub_infos-requires
sub_infos-requires c = rw c.as_slice-subs.ensures (sound_subs c.args.conf.now c.requires).each

pub push_prefix-requires-clause-subs : goal.push_prefix-requires-clause-subs
push_prefix-requires-clause-subs c = rw (c.as_slice-2.ensures, c.in_ok-infos.ensures, c.control_for.ensures, c.as_slice-subs.ensures, c.as_slice.ensures) (subs_follow c.args.conf.now.kinds c.args.conf.now.subs (sound_subs c.args.conf.now c.requires).room)

pub push_tlv-requires : goal.push_tlv-requires
push_tlv-requires c =
    rw c.as_slice-3.ensures (prefix_room c.args.conf.now c.push_prefix.new.out c.new-value.result c.as_slice-2.result.now c.control_for.result c.requires (rw c.as_slice-subs.ensures at c.control_for.ensures) (c.as_slice-2.ensures ∙ (rw (c.as_slice.ensures, c.as_slice-subs.ensures) at c.in_ok-infos.ensures)) c.new-value.ensures c.in_ok-push_prefix.ensures.ok)
