-- The stored monotype marks in what a judgement gives are what a walk finds.
use Rattle.std.specs.Prelude.{◌≡◌, List, ◌∷◌, ◌++◌, ℕ, ◌+◌, ◌*◌, length, get_or}
use Rattle.definition.specs.Syntax.{Ty, Entry, Ctx}
use Rattle.definition.specs.Contexts.{held}
use Rattle.definition.specs.Types.{is_mono}
use Rattle.layout.specs.Monotypes.{mono_of}
use Rattle.judging.specs.declared.Answer.{Answer}

-- of the type C, and of the type in each entry of the output context Δ: the one behind those of L
pub record Marked (w : List ℕ) (a : Answer) (C : Ty) (Δ : Ctx) : Type 0 where
  pub type : mono_of w a.ty ≡ is_mono C
  pub entry : (L : Ctx) (e : Entry) (R : Ctx) → Δ ≡ L ++ (e ∷ R) → mono_of w (get_or w (a.g.at + 4 * length L + 2) 0) ≡ is_mono (held e)
