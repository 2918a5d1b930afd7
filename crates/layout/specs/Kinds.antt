-- The numbers of what is asked, as document 01 has them for a question's kind.
use Rattle.std.specs.Prelude.{ℕ, ◌≡◌, ◌≤◌, ◌<◌, Result, MatchResult}
use Rattle.layout.specs.declared.Kind.{Kind}
use Rattle.layout.specs.declared.NoKind.{NoKind}
use Rattle.layout.specs.declared.Kind.TheVariants.{Infer, Check, InferApp, Subtype, InstL, InstR, Resolve}

abbrev pub kind_number : Kind → ℕ
kind_number Infer = 1
kind_number Check = 2
kind_number InferApp = 3
kind_number Subtype = 4
kind_number InstL = 5
kind_number InstR = 6
kind_number Resolve = 7

-- the kind with the number n; or none, which is so of no n from 1 to 7
abbrev pub OfNumber : ℕ → Result Kind NoKind → Type 0
OfNumber n r = MatchResult r (λ k. kind_number k ≡ n) (λ _. 1 ≤ n → 7 < n)
