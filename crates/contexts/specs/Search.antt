-- What a search finds in a run of entries.
use Rattle.std.specs.Prelude.{◌≡◌, Bool, true, false, List, [], ℕ, ◌+◌, ◌-◌, ◌*◌, ◌≤◌, ◌<◌, ◌^◌, get_or, Option, Some, None}
use Rattle.std.proofs.Math.Option.{none, some}
use Rattle.definition.specs.Syntax.{TyVar, Ty, Ctx}
use Rattle.definition.specs.Contexts.{Key, find, left_of, right_of, has, before}
use Rattle.layout.specs.Denotes.{Den, Run}
use Rattle.layout.specs.declared.Span.{Span}

-- entry i of the run from a place on has that kind and name
pub record Hit (w : List ℕ) (at kind name i : ℕ) : Type 0 where
  pub kind_is : get_or w (at + 4 * i) 0 ≡ kind
  pub name_is : get_or w (at + 4 * i + 1) 0 ≡ name

-- entry i is the earliest of n that has, or i is n
pub record First (w : List ℕ) (at n kind name i : ℕ) : Type 0 where
  pub within : i ≤ n
  pub earlier : (j : ℕ) → j < i → Hit w at kind name j → ⊥
  pub hit : i < n → Hit w at kind name i

-- no entry has that key
pub record Missing (k : Key) (Γ : Ctx) : Type 0 where
  pub find_is : find k Γ ≡ none
  pub has_is : has k Γ ≡ false
  pub left_is : left_of k Γ ≡ Γ
  pub right_is : right_of k Γ ≡ []

-- entry i has that key: what it holds, and what is right of it
pub record Found (q w : List ℕ) (t at n i : ℕ) (k : Key) (Γ : Ctx) : Type 0 where
  pub ty : Ty
  pub find_is : find k Γ ≡ some ty
  pub has_is : has k Γ ≡ true
  pub den : Den q w t (get_or w (at + 4 * i + 2) 0) ty
  pub right : Run q w t (at + 4 * (i + 1)) (n - (i + 1)) (right_of k Γ)

-- find and break3 at once: entry i is the earliest that has the key, or i is n
pub record Split (w : List ℕ) (g : Span) (k : Key) (i : ℕ) : Type 0 where
  pub within : i ≤ g.n
  pub left : {q : List ℕ} {t : ℕ} {Γ : Ctx} → Run q w t g.at g.n Γ → Run q w t g.at i (left_of k Γ)
  pub missing : i ≡ g.n → {q : List ℕ} {t : ℕ} {Γ : Ctx} → Run q w t g.at g.n Γ → Missing k Γ
  pub found : i < g.n → {q : List ℕ} {t : ℕ} {Γ : Ctx} → Run q w t g.at g.n Γ → Found q w t g.at g.n i k Γ

-- what the earliest entry that has the key holds, a word
pub data Looked (w : List ℕ) (g : Span) (k : Key) : Option ℕ → Type 0 where
  absent : Split w g k g.n → Looked w g k None
  holds : {i : ℕ} → i < g.n → Split w g k i → get_or w (g.at + 4 * i + 2) 0 < 2 ^ 32 → Looked w g k (Some (get_or w (g.at + 4 * i + 2) 0))

-- whether the first's earliest unsolved entry stands later than the second's
pub record Before (w : List ℕ) (g : Span) (a b : TyVar) (r : Bool) : Type 0 where
  pub is : {q : List ℕ} {t : ℕ} {Γ : Ctx} → Run q w t g.at g.n Γ → r ≡ before Γ a b

-- h is the run right of the earliest entry that has the key
pub record Right (w : List ℕ) (g : Span) (k : Key) (h : Span) : Type 0 where
  pub less : h.n ≤ g.n
  pub within : h.at + 4 * h.n ≤ g.at + 4 * g.n
  pub run : {q : List ℕ} {t : ℕ} {Γ : Ctx} → Run q w t g.at g.n Γ → Run q w t h.at h.n (right_of k Γ)
