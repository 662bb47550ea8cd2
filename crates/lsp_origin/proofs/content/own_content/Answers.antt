use Rattle.laws_format.proofs.ContentLaws.{content_is, content_short}
use Rattle.lsp_origin.proofs.content.own_content.Goals as goal

pub returns-clause-content : goal.returns-clause-content
returns-clause-content c = content_is c.args.conf.now c.args.up.now c.new-out.result c.append_identity.new.out c.append_links.new.out c.append_prefix.new.out c.in_ok-append_identity.ensures c.new-out.ensures (rw c.as_slice.ensures at c.in_ok-append_links.ensures) c.in_ok-append_prefix.ensures.ok

pub returns-clause-short : goal.returns-clause-short
returns-clause-short c = content_short c.args.conf.now c.args.up.now c.append_prefix.new.out c.requires.sound (content_is c.args.conf.now c.args.up.now c.new-out.result c.append_identity.new.out c.append_links.new.out c.append_prefix.new.out c.in_ok-append_identity.ensures c.new-out.ensures (rw c.as_slice.ensures at c.in_ok-append_links.ensures) c.in_ok-append_prefix.ensures.ok)
