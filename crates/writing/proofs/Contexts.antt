-- Entries by their parts, and contexts by their entries.
use mathlib.Core.Path.{◌≡◌, refl, ◌∙◌}
use mathlib.Core.List.{List, [], ◌∷◌}
use Rattle.std.specs.Prelude.{Option}
use Rattle.std.specs.Bool.{then_some}
use Prim.Native.Nat.{ℕ, ◌+◌, ◌-◌, ◌*◌, ◌≤◌, ◌<◌}
use native.Mathlib.Omega.{arith}
use lib.ListN.{length, get_or}
use Rattle.definition.specs.Syntax.{ty_words, Binding, var_bnd, tvar_bnd, etvar_bnd, setvar_bnd, mark, binding_words, entry_words, Ctx, ctx_words}
use Rattle.definition.specs.Contexts.{binding_key, key_of, kind_of, name_of, binding_type, held}
use Rattle.layout.specs.Denotes.{Den, CtxAt, nil, cons, Run}
use Rattle.layout.specs.declared.Span.{Span}
use Rattle.writing.specs.Spelling.{Just, ◌Then◌}
use Rattle.writing.specs.Types.{OfPart}
use Rattle.writing.specs.Contexts.{holds_type, held_at, OfEntry, OfEntries, OfContext}
use Rattle.writing.proofs.Spelling.{join}

-- ## An entry: its kind, its name, and its type if it holds one

typed : {q w : List ℕ} {t r : ℕ} (b : Binding) → Den q w t r (binding_type b)
    → (Just (kind_of (binding_key b) ∷ name_of (binding_key b) ∷ []) Then OfPart q w t (then_some (holds_type (kind_of (binding_key b))) r)) (binding_words b)
unfolding binding_words binding_key kind_of name_of binding_type
typed (var_bnd x A) d = join (32 ∷ x.number ∷ []) (ty_words A) (record { is = refl }) (record { it = A; stands = d; is = refl })
typed (tvar_bnd a) d = join (33 ∷ a.number ∷ []) [] (record { is = refl }) (record { is = refl })
typed (etvar_bnd a) d = join (34 ∷ a.number ∷ []) [] (record { is = refl }) (record { is = refl })
typed (setvar_bnd a A) d = join (35 ∷ a.number ∷ []) (ty_words A) (record { is = refl }) (record { it = A; stands = d; is = refl })
typed (mark a) d = join (36 ∷ a.number ∷ []) [] (record { is = refl }) (record { is = refl })

pub entry_parts : {q w : List ℕ} {t at k n : ℕ} {o : Option ℕ} → k ≡ get_or w at 0 → n ≡ get_or w (at + 1) 0 → o ≡ held_at w at
    → (ws : List ℕ) → OfEntry q w t at ws → (Just (k ∷ n ∷ []) Then OfPart q w t o) ws
unfolding entry_words key_of held
entry_parts ek en eo ws x =
    let y = x.stands in
    rw (x.is, eo, ek, en, y.kind, y.name, y.ref_is) (typed x.it.binding y.den)

-- ## A context

-- the entries of g from the k-th on
abbrev pub EntriesFrom : List ℕ → List ℕ → ℕ → Span → ℕ → List ℕ → Type 0
EntriesFrom q w t g k = OfEntries q w t (g.at + 4 * k) (g.n - k)

module _ {q w : List ℕ} {t : ℕ} (g : Span) where
  pub entries_all : (ws : List ℕ) → OfContext q w t g ws → EntriesFrom q w t g 0 ws
  entries_all ws x =
      let i : g.at + 4 * 0 ≡ g.at = omega arith in
      let n : g.n - 0 ≡ g.n = omega arith in
      rw (i, n) x

  module _ {k : ℕ} where
    pub entries_first : k < g.n → (ws : List ℕ) → EntriesFrom q w t g k ws
        → (OfEntry q w t (g.at + 4 * k) Then EntriesFrom q w t g (k + 1)) ws
    unfolding ctx_words
    entries_first l ws x = rw x.is (go x.it x.stands.ctx x.stands.count x.stands.below)
      where
        go : (Γ : Ctx) → CtxAt q w t (g.at + 4 * k) Γ → g.n - k ≡ length Γ → g.at + 4 * k + 4 * (g.n - k) ≤ t
            → (OfEntry q w t (g.at + 4 * k) Then EntriesFrom q w t g (k + 1)) (ctx_words Γ)
        go [] nil c b = absurd (omega arith)
        go (e ∷ Γ) (cons y z) c b =
            let i : g.at + 4 * k + 4 ≡ g.at + 4 * (k + 1) = omega arith in
            let run : Run q w t (g.at + 4 * (k + 1)) (g.n - (k + 1)) Γ = record { ctx = rw i at z; count = omega arith; below = omega arith } in
            record {
              us = entry_words e;
              vs = ctx_words Γ;
              first = record { it = e; stands = y; is = refl };
              second = record { it = Γ; stands = run; is = refl };
              is = refl;
            }

    pub entries_none : g.n ≤ k → (ws : List ℕ) → EntriesFrom q w t g k ws → ws ≡ []
    unfolding ctx_words
    entries_none l ws x = x.is ∙ go x.it x.stands.count
      where
        go : (Γ : Ctx) → g.n - k ≡ length Γ → ctx_words Γ ≡ []
        go [] e = refl
        go (y ∷ Γ) e = absurd (omega arith)
