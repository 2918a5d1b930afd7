-- Copying the solved entries of a run.
use mathlib.Core.Path.{◌≡◌, refl, sym, ◌∙◌, ap}
use mathlib.Core.Bool.{Bool, true, false}
use mathlib.Core.List.{List, [], ◌∷◌, ◌++◌}
use Prim.Native.Nat.{ℕ, zero, suc, ◌+◌, ◌*◌, ◌≤◌}
use native.Mathlib.Nat.{le_refl}
use native.Mathlib.Omega.{arith}
use lib.ListN.{length, get_or, length-append}
use borrow.Author.Tests.{eq-eqb, ne_eqb}
use Rattle.definition.specs.Syntax.{pick, Entry, Ctx}
use Rattle.definition.specs.Contexts.{Key, key_of, kind_of, right_of, is_solved, solved, solved_and_right}
use Rattle.layout.specs.Words.{Keep, Copied}
use Rattle.layout.specs.Denotes.{EntryAt, CtxAt, nil, cons, Run}
use Rattle.layout.specs.declared.Span.{Span}
use Rattle.layout.specs.declared.State.{State}
use Rattle.layout.proofs.Words.{keep_refl, keep_less}
use Rattle.layout.proofs.Denotes.{ctx_move, ctx_join, ctx_frame, run_frame}
use Rattle.contexts.specs.Search.{Split}
use Rattle.contexts.specs.Build.{Past, CopiedRight, Kept, KeptBoth}
use Rattle.contexts.specs.declared.Opened.{Opened}
use Rattle.contexts.proofs.Search.{split_right}
use Rattle.contexts.proofs.Build.{keep_then, as_many}

-- ## The definition's solved

solved_none : solved [] ≡ []
unfolding solved
solved_none = refl

solved_yes : (e : Entry) → kind_of (key_of e) ≡ 35 → solved (e ∷ []) ≡ e ∷ []
unfolding solved is_solved pick
solved_yes e h = rw (eq-eqb (kind_of (key_of e)) 35 h)

solved_no : (e : Entry) → (kind_of (key_of e) ≡ 35 → ⊥) → solved (e ∷ []) ≡ []
unfolding solved is_solved pick
solved_no e h = rw (ne_eqb (kind_of (key_of e)) 35 h)

solved_append : (L R : Ctx) → solved (L ++ R) ≡ solved L ++ solved R
unfolding solved pick
solved_append [] R = refl
solved_append (e ∷ L) R = go (is_solved e) (solved_append L R)
  where
    go : {Δ : Ctx} (x : Bool) → Δ ≡ solved L ++ solved R → pick x (e ∷ Δ) Δ ≡ pick x (e ∷ solved L) (solved L) ++ solved R
    go true h = ap (λ (Γ : Ctx). e ∷ Γ) h
    go false h = h

-- ## A run in two

record TwoRuns (q w : List ℕ) (t at i j : ℕ) (Γ : Ctx) : Type 0 where
  L : Ctx
  R : Ctx
  is : Γ ≡ L ++ R
  left : Run q w t at i L
  right : Run q w t (at + 4 * i) j R

further : {q w : List ℕ} {t at i j : ℕ} {e : Entry} {Γ : Ctx} → EntryAt q w t at e → TwoRuns q w t (at + 4) i j Γ → TwoRuns q w t at (suc i) j (e ∷ Γ)
further {at = at} {i = i} {e = e} x h =
    let l = h.left in
    let p : at + 4 * suc i ≡ at + 4 + 4 * i = omega arith in
    record {
      L = e ∷ h.L;
      R = h.R;
      is = ap (λ (Δ : Ctx). e ∷ Δ) h.is;
      left = record { ctx = cons x l.ctx; count = ap suc l.count; below = omega (arith, l.below) };
      right = rw p h.right;
    }

halves : {q w : List ℕ} {t at : ℕ} (i j : ℕ) {Γ : Ctx} → CtxAt q w t at Γ → i + j ≡ length Γ → at + 4 * (i + j) ≤ t → TwoRuns q w t at i j Γ
halves {q} {w} {t} {at} zero j {Γ} g c b =
    let e : at + 4 * 0 ≡ at = omega arith in
    let run : Run q w t at j Γ = record { ctx = g; count = omega arith; below = omega arith } in
    record { L = []; R = Γ; is = refl; left = record { ctx = nil; count = refl; below = omega arith }; right = rw e run }
halves (suc i) j nil c b = absurd (omega arith)
halves {at = at} (suc i) j (cons x g) c b = further x (halves {at = at + 4} i j g (omega arith) (omega arith))

-- ## What is copied

pub kept_none : {w : List ℕ} {at to : ℕ} → Kept w w at 0 to 0
kept_none {w} {at} {to} = record { keep = keep_refl _ _ _; few = omega arith; run = λ l u. go u.ctx u.count }
  where
    go : {q : List ℕ} {t : ℕ} {Γ : Ctx} → CtxAt q w t at Γ → 0 ≡ length Γ → Run q w (to + 4 * 0) to 0 (solved Γ)
    go nil c = rw solved_none (record { ctx = nil; count = refl; below = omega arith })
    go (cons x g) c = absurd (omega arith)

module _ {w : List ℕ} {from to k : ℕ} (kw : k ≡ get_or w from 0) where
  pub kept_yes : {w' : List ℕ} → k ≡ 35 → Copied w w' from to 4 → Kept w w' from 1 to 1
  kept_yes {w'} e x = record { keep = x.keep; few = omega arith; run = λ l u. go l u.ctx u.count }
    where
      go : {q : List ℕ} {t : ℕ} {Γ : Ctx} → t ≤ to → CtxAt q w t from Γ → 1 ≡ length Γ → Run q w' (to + 4 * 1) to 1 (solved Γ)
      go l nil c = absurd (omega arith)
      go l (cons {e = f} y nil) c = rw (solved_yes f (sym y.kind ∙ sym kw ∙ e)) (record {
        ctx = ctx_move to (keep_less l (le_refl _) x.keep) (omega arith) (omega arith) (λ j h. x.same j (omega arith)) (cons y (nil {at = from + 4}));
        count = refl;
        below = omega arith;
      })
      go l (cons y (cons z g)) c = absurd (omega arith)

  pub kept_no : (k ≡ 35 → ⊥) → Kept w w from 1 to 0
  kept_no e = record { keep = keep_refl _ _ _; few = omega arith; run = λ l u. go u.ctx u.count }
    where
      go : {q : List ℕ} {t : ℕ} {Γ : Ctx} → CtxAt q w t from Γ → 1 ≡ length Γ → Run q w (to + 4 * 0) to 0 (solved Γ)
      go nil c = absurd (omega arith)
      go (cons {e = f} y nil) c = rw (solved_no f (λ h. e (kw ∙ y.kind ∙ h))) (record { ctx = nil; count = refl; below = omega arith })
      go (cons y (cons z g)) c = absurd (omega arith)

-- one run after the other
joined : {q w₁ w₂ : List ℕ} {to m m' : ℕ} {L R Γ : Ctx} → Run q w₁ (to + 4 * m) to m L → Keep (to + 4 * m) (to + 4 * m + 4 * m') w₁ w₂
    → Run q w₂ (to + 4 * m + 4 * m') (to + 4 * m) m' R → Γ ≡ L ++ R → Run q w₂ (to + 4 * (m + m')) to (m + m') Γ
joined {q} {w₁} {w₂} {to} {m} {m'} {L} {R} a kp c e =
    let end : to + 4 * (m + m') ≡ to + 4 * m + 4 * m' = omega arith in
    let n = a.count in
    let n' = c.count in
    let place : to + 4 * m ≡ to + 4 * length L = omega arith in
    let left : CtxAt q w₂ (to + 4 * (m + m')) to L = ctx_frame kp (omega arith) a.ctx in
    let right : CtxAt q w₂ (to + 4 * (m + m')) (to + 4 * m) R = rw end c.ctx in
    rw e (record { ctx = ctx_join L left (rw place at right); count = simp length-append (omega arith); below = omega arith })

-- one copy after the other
pub kept_more : {w w₁ w₂ : List ℕ} {at to i j m m' : ℕ} → at + 4 * i ≤ to → Kept w w₁ at i to m → Kept w₁ w₂ (at + 4 * i) j (to + 4 * m) m'
    → Kept w w₂ at (i + j) to (m + m')
kept_more {w} {w₁} {w₂} {at} {to} {i} {j} {m} {m'} b x y =
    let e : to + 4 * (m + m') ≡ to + 4 * m + 4 * m' = omega arith in
    record {
      keep = rw e (keep_then (omega arith) (omega arith) x.keep y.keep);
      few = omega (arith, x.few, y.few);
      run = λ l u. go l (halves i j u.ctx u.count u.below);
    }
  where
    go : {q : List ℕ} {t : ℕ} {Γ : Ctx} → t ≤ to → TwoRuns q w t at i j Γ → Run q w₂ (to + 4 * (m + m')) to (m + m') (solved Γ)
    go {q} {t} l h =
        let a = x.run l h.left in
        let r : Run q w₁ t (at + 4 * i) j h.R = run_frame (keep_less l (le_refl _) x.keep) (le_refl _) h.right in
        let c = y.run (omega arith) r in
        joined a y.keep c (ap solved h.is ∙ solved_append h.L h.R)

-- the solved entries of left, then right
pub kept_both : {w w₁ w₂ : List ℕ} {s : State} {g : Span} {k : Key} {i m c : ℕ} {o : Opened} → g.at + 4 * g.n ≤ s.top → Split w g k i
    → Kept w w₁ g.at i s.top m → CopiedRight w₁ w₂ g i (s.top + 4 * m) c → Past s (m + c) o → KeptBoth w w₂ s g k o
unfolding solved_and_right
kept_both {w} {w₁} {w₂} {s} {g} {k} {i} {m} {c} {o} b f x y p =
    let e : s.top + 4 * (m + c) ≡ s.top + 4 * m + 4 * c = omega arith in
    let n = y.count in
    let d = y.copied in
    let kp : Keep s.top (s.top + 4 * (m + c)) w w₂ = rw e (keep_then (omega arith) (omega arith) x.keep d.keep) in
    record {
      grown = as_many (record { past = p; keep = kp });
      few = omega (arith, p.count, x.few, f.within);
      run = λ u. rw (p.top, p.at, p.count) (joined (x.run (le_refl _) (f.left u)) d.keep (right kp u) refl);
    }
  where
    right : {q : List ℕ} {Γ : Ctx} → Keep s.top (s.top + 4 * (m + c)) w w₂ → Run q w s.top g.at g.n Γ
        → Run q w₂ (s.top + 4 * m + 4 * c) (s.top + 4 * m) c (right_of k Γ)
    right kp u =
        let r = split_right f u in
        let n = y.count in
        let z = r.1 in
        let d = y.copied in
        record {
          ctx = ctx_move (s.top + 4 * m) kp (omega arith) (omega arith)
              (λ j h. d.same j (omega arith) ∙ sym (x.keep.below (g.at + 4 * (i + 1) + j) (omega (arith, f.within)))) r.0;
          count = n ∙ z;
          below = omega arith;
        }
