-- An unknown solved as an arrow of two fresh ones.
use Rattle.std.specs.Prelude.{◌≡◌, List, ℕ, suc, ◌+◌, ◌*◌, ◌≤◌, length}
use Rattle.definition.specs.Syntax.{etvar, Ctx}
use Rattle.definition.specs.Rules.{split}
use Rattle.layout.specs.Sizes.{CAP}
use Rattle.layout.specs.Names.{ty}
use Rattle.layout.specs.States.{fresh_name}
use Rattle.layout.specs.Words.{Keep}
use Rattle.layout.specs.Denotes.{Den, Run, Base}
use Rattle.layout.specs.declared.Span.{Span}
use Rattle.layout.specs.declared.State.{State}
use Rattle.layout.specs.declared.TyVar.{TyVar}
use Rattle.judging.specs.Asking.{here}
use Rattle.judging.specs.declared.Here.{Here}
use Rattle.rules.specs.declared.Parted.{Parted}

-- room for three records and for a run with three entries more, and two names
pub record PartPre (q w : List ℕ) (s : State) (g : Span) : Type 0 where
  pub base : Base q w s.top
  pub below : g.at + 4 * g.n ≤ s.top
  pub room : s.top + 4 * g.n + 20 ≤ s.low
  pub low : s.low ≤ length w
  pub cap : length w ≤ CAP
  pub names : s.fresh + 2 ≤ CAP

pub record Parts (h : Here) (q w w' : List ℕ) (s : State) (g : Span) (a : TyVar) (o : Parted) : Type 0 where
  pub keep : Keep s.top s.low w w'
  pub up : s.top ≤ o.st.top
  pub built : o.st.top ≤ s.top + 4 * g.n + 20
  pub low : o.st.low ≡ s.low
  pub left : o.st.left ≡ s.left
  pub fresh : o.st.fresh ≡ suc (suc s.fresh)
  pub first : Den q w' o.st.top o.b (etvar (fresh_name s.fresh))
  pub second : Den q w' o.st.top o.c (etvar (fresh_name (suc s.fresh)))
  pub run : (Γ : Ctx) → Run q w s.top g.at g.n Γ
      → Run q w' o.st.top o.g.at o.g.n (split (here h) (ty a) (fresh_name s.fresh) (fresh_name (suc s.fresh)) Γ)
