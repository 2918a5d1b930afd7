-- `keep_out` meets its contract.
use native.Mathlib.Omega.{arith}
use mathlib.Core.Path.{refl}
use Rattle.layout.proofs.Words.{keep_refl}
use Rattle.rules.specs.Going.{kept}
use Rattle.rules.proofs.Ends.{words_stand, both_kept}
use Rattle.rules.proofs.keep_out.Goals as goal

pub returns-then-keeps : goal.returns-then-keeps
unfolding kept
returns-then-keeps c =
    rw (c.if-keeps.true, c.plain_out.ensures.is) (record {
      finished = λ q. both_kept c.args.r.st c.args.r.st 0 (keep_refl _ _ _) (omega arith) refl refl refl (omega
          (arith, c.requires.room)) c.solved_and_right-o.ensures (λ A d. d);
    })

pub returns : goal.returns
unfolding kept
returns c = rw (c.if-keeps.false, c.plain_out-2.ensures.is) (record { finished = λ q. words_stand q _ _ (λ Γ n. c.right_of.ensures.run n) })
