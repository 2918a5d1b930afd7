-- Renaming the names of a well-formed question one to one, and changing its literals, makes a question that is alike.
use mathlib.Core.Path.{◌≡◌, refl, sym, ◌∙◌}
use Prim.Native.Nat.{ℕ, ◌≤◌, ◌<◌}
use mathlib.Core.List.{List, [], ◌∷◌}
use Rattle.definition.specs.Reply.{reply}
use Rattle.alike.specs.Alike.{Label, the, variable, type_name, half, truth, Pairing, OneToOne, itself, InQuestions, Each, none, more, AlikeQuestions, AlikeReplies, WellFormed}
use Rattle.alike.proofs.WellFormed.{alike_itself}
use Rattle.alike.proofs.Demand3.{alike}

-- written names to written names
pub record Renames (f : ℕ → ℕ) : Type 0 where
  pub one : (a b : ℕ) → f a ≡ f b → a ≡ b
  pub low : (a : ℕ) → a < 1_000_000 → f a < 1_000_000

pub record Change : Type 0 where
  pub variables : ℕ → ℕ
  pub types : ℕ → ℕ
  pub halves : ℕ → ℕ
  pub truths : ℕ → ℕ
  pub variables_rename : Renames variables
  pub types_rename : Renames types
  pub truths_low : (b : ℕ) → truths b ≤ 1

-- a name with what it becomes
pub becomes : {f : ℕ → ℕ} → Renames f → OneToOne (λ a b. f a ≡ b)
becomes r = record { right = λ p q. sym p ∙ q; left = λ p q. r.one _ _ (p ∙ sym q) }

abbrev pub pairing : Change → Pairing
pairing c = record {
  variables = λ a b. c.variables a ≡ b;
  types = λ a b. c.types a ≡ b;
  variables_pair = becomes c.variables_rename;
  types_pair = becomes c.types_rename;
}

abbrev pub change_word : Change → Label → ℕ → ℕ
change_word c (the n) w = w
change_word c variable w = c.variables w
change_word c type_name w = c.types w
change_word c half w = c.halves w
change_word c truth w = c.truths w

-- under these labels
abbrev pub change : Change → List Label → List ℕ → List ℕ
change c [] ws = ws
change c (k ∷ s) [] = []
change c (k ∷ s) (w ∷ ws) = change_word c k w ∷ change c s ws

changed_word : (c : Change) {k : Label} {w w' : ℕ} → InQuestions itself k w w' → InQuestions (pairing c) k w (change_word c k w)
changed_word c InQuestions.same = InQuestions.same
changed_word c (InQuestions.variables x) =
    InQuestions.variables (record { paired = refl; low = x.low; low' = c.variables_rename.low _ x.low })
changed_word c (InQuestions.type_names a) = InQuestions.type_names (record { paired = refl; low = a.low; low' = c.types_rename.low _ a.low })
changed_word c InQuestions.halves = InQuestions.halves
changed_word c (InQuestions.truths b b') = InQuestions.truths b (c.truths_low _)

changed_words : (c : Change) {s : List Label} {u u' : List ℕ} → Each (InQuestions itself) s u u' → Each (InQuestions (pairing c)) s u (change c s u)
changed_words c none = none
changed_words c (more x e) = more (changed_word c x) (changed_words c e)

pub changed : (c : Change) {ws : List ℕ} (h : WellFormed ws) → AlikeQuestions (pairing c) ws (change c (alike_itself h).labels ws)
changed c h = let a = alike_itself h in record { labels = a.labels; format = a.format; words = changed_words c a.words }

pub replies_changed : (c : Change) {ws : List ℕ} (h : WellFormed ws) (budget work room : ℕ)
    → AlikeReplies (pairing c) (reply budget work room ws) (reply budget work room (change c (alike_itself h).labels ws))
replies_changed c h = alike (changed c h)
