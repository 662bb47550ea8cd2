use Rattle.std.proofs.Common.{List, ℕ, ◌++◌, ap, ◌∙◌}
use Rattle.isis_hello.specs.Hello.{hello, hello_at}
use Rattle.isis_hello.proofs.ReadLemmas.{hello_again}
use Rattle.isis_hello.proofs.writer.write_hello.Goals as goal

pub returns-clause-again : goal.returns-clause-again
returns-clause-again c = λ rest.
    ap (λ (l : List ℕ). hello_at (l ++ rest)) (c.in_ok-append_hello.ensures.ok ∙ ap (λ (l : List ℕ). l ++ hello c.args.level c.as_slice.result.now c.args.h.now) c.in_ok-out.ensures ∙ ap (λ (l : List ℕ). hello c.args.level l c.args.h.now) c.as_slice.ensures)
    ∙ hello_again c.args.level c.args.area.now c.args.h.now rest c.requires c.append_hello.ensures.fits
