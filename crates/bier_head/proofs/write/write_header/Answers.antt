use Rattle.bier_head.proofs.Laws.{held, written_again, written_coded, written_only}
use Rattle.bier_head.proofs.write.write_header.Goals as goal

pub returns-clause-again : goal.returns-clause-again
returns-clause-again c = written_again c.args.h.now c.write_words.new.out (held c.args.h.now c.requires.fits c.bsl-bsl.ensures.ordered) c.write_words.ensures

pub returns-clause-again_by_field : goal.returns-clause-again_by_field
returns-clause-again_by_field c = written_coded c.args.h.now c.write_words.new.out (held c.args.h.now c.requires.fits c.bsl-bsl.ensures.ordered) c.write_words.ensures

pub returns-clause-only : goal.returns-clause-only
returns-clause-only c = written_only c.args.h.now c.write_words.new.out (held c.args.h.now c.requires.fits c.bsl-bsl.ensures.ordered) c.write_words.ensures
