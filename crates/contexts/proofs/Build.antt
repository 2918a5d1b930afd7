-- What stands at top once runs are copied and entries are put there.
use mathlib.Core.Path.{◌≡◌, refl, sym, ◌∙◌, ap, subst}
use mathlib.Core.List.{List, [], ◌∷◌, ◌++◌, append_assoc}
use Prim.Native.Nat.{ℕ, zero, suc, ◌+◌, ◌-◌, ◌*◌, ◌≤◌, ◌<◌}
use native.Mathlib.Nat.{le_refl}
use native.Mathlib.Omega.{arith}
use lib.ListN.{length, length-append, take, get_or}
use Rattle.std.proofs.lemmas.List.{append-nil, length-take-le, take_more}
use Rattle.definition.specs.Syntax.{TyVar, Entry, Ctx}
use Rattle.definition.specs.Contexts.{k_etvar, ◌▹◌, replace}
use Rattle.layout.specs.Words.{Keep}
use Rattle.layout.specs.Denotes.{AsEntry, SmallEntry, PutEntry, CtxAt, nil, cons, Run}
use Rattle.layout.specs.declared.Entry as program
use Rattle.layout.specs.declared.Span.{Span}
use Rattle.layout.specs.declared.State.{State}
use Rattle.layout.proofs.Words.{keep_refl, keep_trans, keep_less}
use Rattle.layout.proofs.Denotes.{den_frame, entry_stays, ctx_move, ctx_join, ctx_frame}
use Rattle.contexts.specs.Search.{Split}
use Rattle.contexts.specs.Build.{Grown, Spliced, SmallEntries, no_entries, small_entry, AsEntries, no_more, then, Put, Pushed, Replaced}
use Rattle.contexts.specs.declared.Opened.{Opened}
use Rattle.contexts.proofs.Search.{split_right}

-- words change in one part, then in the next
pub keep_then : {a b d : ℕ} {w w₁ w₂ : List ℕ} → a ≤ b → b ≤ d → Keep a b w w₁ → Keep b d w₁ w₂ → Keep a d w w₂
keep_then l m k h = keep_trans (keep_less (le_refl _) m k) (keep_less l (le_refl _) h)

-- a run of as many entries as it says
pub as_many : {w w' : List ℕ} {s : State} {n : ℕ} {o : Opened} → Grown w w' s n o → Grown w w' s o.g.n o
as_many {w} {w'} {s} {n} {o} x = subst (λ (m : ℕ). Grown w w' s m o) (sym x.past.count) x

-- ## Lists of entries

module _ {p : program.Entry} where
  pub small_one : SmallEntry p → SmallEntries (p ∷ [])
  small_one x = small_entry x no_entries

  module _ {p₂ : program.Entry} where
    pub small_two : SmallEntry p → SmallEntry p₂ → SmallEntries (p ∷ p₂ ∷ [])
    small_two x y = small_entry x (small_entry y no_entries)

    pub small_three : {p₃ : program.Entry} → SmallEntry p → SmallEntry p₂ → SmallEntry p₃ → SmallEntries (p ∷ p₂ ∷ p₃ ∷ [])
    small_three x y z = small_entry x (small_entry y (small_entry z no_entries))

-- each of them is small
pub small_at : {ps : List program.Entry} (i : ℕ) (d : program.Entry) → SmallEntries ps → i < length ps → SmallEntry (get_or ps i d)
small_at i d no_entries l = absurd (omega arith)
small_at zero d (small_entry x h) l = x
small_at (suc i) d (small_entry x h) l = small_at i d h (omega arith)

-- as many as the context's
as_many_entries : {q w : List ℕ} {t : ℕ} {ps : List program.Entry} {es : Ctx} → AsEntries q w t ps es → length ps ≡ length es
as_many_entries no_more = refl
as_many_entries (then x h) = ap suc (as_many_entries h)

-- they stay where words below t stay
entries_frame : {q w w' : List ℕ} {t h : ℕ} {ps : List program.Entry} {es : Ctx} → Keep t h w w' → AsEntries q w t ps es → AsEntries q w' t ps es
entries_frame k no_more = no_more
entries_frame k (then x h) = then (record { key_is = x.key_is; den = den_frame k (le_refl _) x.den }) (entries_frame k h)

-- ## Entries that are put one after another

record Last (q w : List ℕ) (t : ℕ) (ps : List program.Entry) (p : program.Entry) (es : Ctx) : Type 0 where
  front : Ctx
  e : Entry
  is : es ≡ front ++ (e ∷ [])
  fronts : AsEntries q w t ps front
  last : AsEntry q w t p e

last_of : {q w : List ℕ} {t : ℕ} (ps : List program.Entry) {p : program.Entry} {es : Ctx} → AsEntries q w t (ps ++ (p ∷ [])) es → Last q w t ps p es
last_of [] (then {e = e} x no_more) = record { front = []; e = e; is = refl; fronts = no_more; last = x }
last_of (p₁ ∷ ps) (then {e = e} x h) =
    let r = last_of ps h in
    record { front = e ∷ r.front; e = r.e; is = ap (λ (Γ : Ctx). e ∷ Γ) r.is; fronts = then x r.fronts; last = r.last }

pub put_none : {w : List ℕ} {at : ℕ} → Put w w at []
put_none = record { keep = keep_refl _ _ _; stand = λ l x. go x }
  where
    go : {q w w' : List ℕ} {t e at : ℕ} {es : Ctx} → AsEntries q w t [] es → CtxAt q w' e at es
    go no_more = nil

put_last : {w w₁ w₂ : List ℕ} {at : ℕ} (ps : List program.Entry) (p : program.Entry) → Put w w₁ at ps → PutEntry w₁ w₂ (at + 4 * length ps) p
    → Put w w₂ at (ps ++ (p ∷ []))
put_last {w} {w₁} {w₂} {at} ps p x y = record { keep = rw end kp; stand = λ l h. rw end (go l (last_of ps h)) }
  where
    end : at + 4 * length (ps ++ (p ∷ [])) ≡ at + 4 * length ps + 4
    end = simp length-append (omega arith)

    kp : Keep at (at + 4 * length ps + 4) w w₂
    kp = keep_then (omega arith) (omega arith) x.keep y.keep

    go : {q : List ℕ} {t : ℕ} {es : Ctx} → t ≤ at → Last q w t ps p es → CtxAt q w₂ (at + 4 * length ps + 4) at es
    go {q} {t} l h =
        let n = as_many_entries h.fronts in
        let a : at + 4 * length ps ≡ at + 4 * length h.front = omega arith in
        let k : Keep t (at + 4 * length ps + 4) w w₂ = keep_less l (le_refl _) kp in
        let one : CtxAt q w₂ (at + 4 * length ps + 4) (at + 4 * length ps) (h.e ∷ []) =
        cons (entry_stays y (keep_refl _ 0 _) k (omega arith) (omega arith) h.last) nil in
        rw h.is (ctx_join h.front (ctx_frame y.keep (omega arith) (x.stand l h.fronts))
        (subst (λ (i : ℕ). CtxAt q w₂ (at + 4 * length ps + 4) i (h.e ∷ [])) a one))

-- one more of them
pub put_more : {w w₁ w₂ : List ℕ} {at i : ℕ} (ps : List program.Entry) (d : program.Entry) → i < length ps → Put w w₁ at (take i ps)
    → PutEntry w₁ w₂ (at + 4 * i) (get_or ps i d) → Put w w₂ at (take (i + 1) ps)
put_more {w₁ = w₁} {w₂ = w₂} {at = at} {i = i} ps d l x y =
    let n : i ≡ length (take i ps) = sym (length-take-le i ps (omega arith)) in
    rw (take_more ps i d l) (put_last (take i ps) _ x (subst (λ (j : ℕ). PutEntry w₁ w₂ (at + 4 * j) (get_or ps i d)) n y))

-- ## Filling the gap

-- the place past what is right of it
abbrev end : State → Span → ℕ → ℕ → ℕ
end s g i m = s.top + 4 * (i + m + (g.n - (i + 1)))

module _ {w w₁ w' : List ℕ} {s : State} {g : Span} {i m : ℕ} {o : Opened} (below : g.at + 4 * g.n ≤ s.top) (sp : Spliced w w₁ s g i m o)
    (kp : Keep (s.top + 4 * i) (s.top + 4 * (i + m)) w₁ w') where
  filled : Grown w w' s (i + m + (g.n - (i + 1))) o
  filled = record { past = sp.grown.past; keep = keep_trans sp.grown.keep (keep_less (omega arith) (omega arith) kp) }

  -- entries in the gap stand between what was left and what was right of i
  filled_run : {q : List ℕ} {L Θ R : Ctx} → Run q w s.top g.at i L → CtxAt q w s.top (g.at + 4 * (i + 1)) R
      → g.n - (i + 1) ≡ length R → m ≡ length Θ → CtxAt q w' (end s g i m) (s.top + 4 * i) Θ
      → Run q w' o.st.top o.g.at o.g.n (L ++ (Θ ++ R))
  filled_run {q} {L} {Θ} {R} u r e f h =
      let p = sp.grown.past in
      let c = u.count in
      let a : s.top + 4 * (i + m) ≡ s.top + 4 * i + 4 * length Θ = omega arith in
      let b : s.top + 4 * i ≡ s.top + 4 * length L = omega arith in
      let left : CtxAt q w' (end s g i m) s.top L =
      ctx_move s.top filled.keep (omega arith) (omega arith) (λ j l. sym (kp.below (s.top + j) (omega arith)) ∙ sp.left j (omega arith)) u.ctx in
      let right : CtxAt q w' (end s g i m) (s.top + 4 * (i + m)) R =
      ctx_move (s.top + 4 * (i + m)) filled.keep (omega arith) (omega arith)
      (λ j l. sym (kp.above (s.top + 4 * (i + m) + j) (omega arith)) ∙ sp.right j (omega arith)) r in
      rw (p.top, p.at, p.count) (record {
        ctx = ctx_join L left (rw b at (ctx_join Θ h (rw a at right)));
        count = simp length-append (omega arith);
        below = omega arith;
      })

  -- entries that were put in the gap stand there to the end
  filled_entries : {q : List ℕ} {ps : List program.Entry} {es : Ctx} → m ≡ length ps → Put w₁ w' (s.top + 4 * i) ps → AsEntries q w s.top ps es
      → (m ≡ length es) × CtxAt q w' (end s g i m) (s.top + 4 * i) es
  filled_entries e x z = (
    e ∙ as_many_entries z,
    ctx_frame (keep_refl _ 0 _) (omega arith) (x.stand (omega arith) (entries_frame sp.grown.keep z)),
  )

-- ## Entries after a run

appended : {w w₁ w' : List ℕ} {s : State} {g : Span} {m : ℕ} {o : Opened} → g.at + 4 * g.n ≤ s.top → Spliced w w₁ s g g.n m o
    → Keep (s.top + 4 * g.n) (s.top + 4 * (g.n + m)) w₁ w' → Grown w w' s (g.n + m) o
appended {g = g} {m = m} b sp kp = let e : g.n + m ≡ g.n + m + (g.n - (g.n + 1)) = omega arith in rw e (filled b sp kp)

pub pushed : {w w₁ w₂ : List ℕ} {s : State} {g : Span} {ps : List program.Entry} {o : Opened} {m : ℕ} → g.at + 4 * g.n ≤ s.top
    → length ps ≡ m → Spliced w w₁ s g g.n m o → Put w₁ w₂ (s.top + 4 * g.n) ps → Pushed w w₂ s g ps o
pushed {w} {w₁} {w₂} {s} {g} {ps} {o} b e y x =
    let sp = rw (← e) at y in
    let kp : Keep (s.top + 4 * g.n) (s.top + 4 * (g.n + length ps)) w₁ w₂ = keep_less (le_refl _) (omega arith) x.keep in
    record {
      grown = appended b sp kp;
      run = λ u z.
          let h = filled_entries b sp kp refl x z in
          rw append-nil at (filled_run b sp kp u nil (omega arith) h.0 h.1);
    }

module _ {q w w' : List ℕ} {s : State} {g : Span} {Γ : Ctx} {o : Opened} {p : program.Entry} {e : Entry} where
  -- one entry
  pub push_one : Pushed w w' s g (p ∷ []) o → Run q w s.top g.at g.n Γ → AsEntry q w s.top p e → Run q w' o.st.top o.g.at o.g.n (Γ ▹ e)
  unfolding ◌▹◌
  push_one x u h = x.run u (then h no_more)

  -- two entries
  pub push_two : {p₂ : program.Entry} {e₂ : Entry} → Pushed w w' s g (p ∷ p₂ ∷ []) o → Run q w s.top g.at g.n Γ → AsEntry q w s.top p e
      → AsEntry q w s.top p₂ e₂ → Run q w' o.st.top o.g.at o.g.n (Γ ▹ e ▹ e₂)
  unfolding ◌▹◌
  push_two x u h h₂ = rw append_assoc (x.run u (then h (then h₂ no_more)))

-- ## Entries in the place of one

pub replaced : {w w₁ w₂ : List ℕ} {s : State} {g : Span} {a : TyVar} {ps : List program.Entry} {i m : ℕ} {o : Opened} → g.at + 4 * g.n ≤ s.top
    → Split w g (k_etvar a) i → length ps ≡ m → Spliced w w₁ s g i m o → Put w₁ w₂ (s.top + 4 * i) ps → Replaced w w₂ s g a ps o
unfolding replace
replaced {w} {w₁} {w₂} {s} {g} {a} {ps} {i} {o} b f e y x =
    let sp = rw (← e) at y in
    let kp : Keep (s.top + 4 * i) (s.top + 4 * (i + length ps)) w₁ w₂ = keep_less (le_refl _) (omega arith) x.keep in
    record {
      grown = as_many (filled b sp kp);
      few = omega (arith, sp.grown.past.count, f.within);
      run = λ u z.
          let r = split_right f u in
          let h = filled_entries b sp kp refl x z in
          filled_run b sp kp (f.left u) r.0 r.1 h.0 h.1;
    }

module _ {q w w' : List ℕ} {s : State} {g : Span} {a : TyVar} {Γ : Ctx} {o : Opened} {p : program.Entry} {e : Entry} where
  -- one entry
  pub replace_one : Replaced w w' s g a (p ∷ []) o → Run q w s.top g.at g.n Γ → AsEntry q w s.top p e
      → Run q w' o.st.top o.g.at o.g.n (replace a (e ∷ []) Γ)
  replace_one x u h = x.run u (then h no_more)

  -- three entries
  pub replace_three : {p₂ p₃ : program.Entry} {e₂ e₃ : Entry} → Replaced w w' s g a (p ∷ p₂ ∷ p₃ ∷ []) o → Run q w s.top g.at g.n Γ
      → AsEntry q w s.top p e → AsEntry q w s.top p₂ e₂ → AsEntry q w s.top p₃ e₃
      → Run q w' o.st.top o.g.at o.g.n (replace a (e ∷ e₂ ∷ e₃ ∷ []) Γ)
  replace_three x u h h₂ h₃ = x.run u (then h (then h₂ (then h₃ no_more)))
