-- What `?` hands on: the type error, or that the budget is spent, as it came.
use mathlib.Core.Path.{◌≡◌, sym, ◌∙◌}
use mathlib.Core.List.{List}
use Prim.Native.Nat.{ℕ}
use Rattle.std.specs.Prelude.{Err, IsErr, IsErrAnd}
use Rattle.layout.specs.declared.Span.{Span}
use Rattle.layout.specs.declared.State.{State}
use Rattle.judging.specs.Ending.{Step, Fires}
use Rattle.judging.specs.declared.Ask.{Ask}
use Rattle.judging.specs.declared.Here.{Here}
use Rattle.judging.specs.declared.Stop.{Stop}
use Rattle.judging.proofs.Steps.{NotDone, not_done, stop_is}

-- a judgement that did not end well ends its rule
pub hands : {m : Here} {q w w' : List ℕ} {s : State} {g : Span} {a : Ask} {z o : Step} {x : Stop} → z ≡ Err x
    → IsErr o × IsErrAnd o (λ e. e ≡ x) → (NotDone z → Fires m q w w' s g a z) → Fires m q w w' s g a o
hands {o = o} d h f = rw (stop_is o h.1 ∙ sym d) (f (not_done d))
