-- What `part` builds: two unknowns, their arrow, and the context with a solved by it.
use mathlib.Core.Path.{◌≡◌, ◌∙◌, ap}
use mathlib.Core.List.{List, [], ◌∷◌}
use Prim.Native.Nat.{ℕ, suc, ◌+◌, ◌*◌, ◌≤◌}
use native.Mathlib.Nat.{le_trans, le_refl}
use native.Mathlib.Omega.{arith}
use lib.ListN.{length}
use Rattle.definition.specs.Syntax.{Ty, etvar, arrow}
use Rattle.definition.specs.Rules.{split}
use Rattle.layout.specs.Sizes.{INT}
use Rattle.layout.specs.Names.{ty}
use Rattle.layout.specs.States.{fresh_name, named, raised, Draws}
use Rattle.layout.specs.Words.{Keep}
use Rattle.layout.specs.Denotes.{Den, Base}
use Rattle.layout.specs.declared.Drawn.{Drawn}
use Rattle.layout.specs.declared.Entry.{Entry}
use Rattle.layout.specs.declared.Key.{Key}
use Rattle.layout.specs.declared.Key.TheVariants.{ETVar, SETVar}
use Rattle.layout.specs.declared.Span.{Span}
use Rattle.layout.specs.declared.State.{State}
use Rattle.layout.specs.declared.TyVar.{TyVar}
use Rattle.layout.proofs.Words.{keep_less, keep_trans}
use Rattle.layout.proofs.Denotes.{den_frame, den_small, run_frame, base_frame}
use Rattle.types.specs.Making.{ArrowRoom, PutETVar, PutArrow}
use Rattle.types.specs.Reading.{Held}
use Rattle.contexts.specs.Build.{Space, SmallEntries, Replaced}
use Rattle.contexts.specs.declared.Opened.{Opened}
use Rattle.contexts.proofs.Build.{small_three, replace_three}
use Rattle.judging.specs.Asking.{EntryFrom}
use Rattle.judging.specs.declared.Here.{Here}
use Rattle.judging.proofs.Entries.{entry_small, as_solved, as_unsolved}
use Rattle.rules.specs.declared.Parted.{Parted}
use Rattle.rules.specs.Built.{Built}
use Rattle.rules.specs.Parting.{PartPre, Parts}

-- ## Two names

module _ {s : State} {d e : Drawn} (one : Draws s d) (two : Draws d.st e) where
  twice : e.st ≡ named (named s)
  twice = two.st ∙ ap named one.st

  second_name : ty e.name ≡ fresh_name (suc s.fresh)
  second_name = two.name ∙ ap (λ (t : State). fresh_name t.fresh) one.st

-- ## Three records

module _ {q w w₁ w₂ : List ℕ} {s : State} {g : Span} {x y : TyVar} {b c : ℕ} (pre : PartPre q w s g) (one : PutETVar w w₁ s.top x b)
    (two : PutETVar w₁ w₂ (s.top + 2) y c) where
  keep₂ : Keep s.top s.low w w₂
  keep₂ =
      keep_trans (keep_less (le_refl _) (omega (arith, pre.room)) one.keep)
      (keep_less (omega arith) (omega (arith, pre.room)) two.keep)

  den_b : Den q w₂ (s.top + 4) b (etvar (ty x))
  den_b = den_frame two.keep (omega arith) (one.den q)

  den_c : Den q w₂ (s.top + 4) c (etvar (ty y))
  den_c = let t : s.top + 2 + 2 ≡ s.top + 4 = omega arith in rw t at (two.den q)

  base₂ : Base q w₂ (s.top + 4)
  base₂ = base_frame keep₂ (omega arith) pre.base

  pub arrow_room : ArrowRoom q w₂ (s.top + 4) b c
  arrow_room = record { room = omega (arith, fits); left = held den_b; right = held den_c }
    where
      fits : s.top + 8 ≤ length w₂
      fits = omega (arith, pre.room, pre.low, keep₂.long)

      held : {r : ℕ} {T : Ty} → Den q w₂ (s.top + 4) r T → Held q w₂ (s.top + 4) r
      held d = record { base = base₂; fits = omega (arith, fits); cap = omega (arith, pre.cap, keep₂.long); type = _; den = d }

  -- three records are made, and two names are taken
  abbrev past : State
  past = raised (named (named s)) 8

  module _ {w₃ : List ℕ} {r : ℕ} (put : PutArrow q w₂ w₃ (s.top + 4) b c r) where
    keep₃ : Keep s.top s.low w w₃
    keep₃ = keep_trans keep₂ (keep_less (omega arith) (omega (arith, pre.room)) put.keep)

    den_r : Den q w₃ (s.top + 8) r (arrow (etvar (ty x)) (etvar (ty y)))
    den_r = let t : s.top + 4 + 4 ≡ s.top + 8 = omega arith in rw t at (put.den _ _ den_b den_c)

    space : {h : Here} {n n₂ n₃ : Entry} {k k₂ k₃ : Key} → EntryFrom h k r n → EntryFrom h k₂ INT n₂ → EntryFrom h k₃ INT n₃
        → Space w₃ past g 3 × SmallEntries (n ∷ n₂ ∷ n₃ ∷ [])
    space en en₂ en₃ =
        let l = keep₃.long in (
          record { below = omega (arith, pre.below); room = omega (arith, pre.room); low = omega (arith, pre.low); cap = omega (arith, pre.cap) },
          small_three (entry_small en (omega (arith, den_small den_r, pre.room, pre.low, pre.cap))) (entry_small en₂ (omega arith))
              (entry_small en₃ (omega arith)),
        )

    module _ {h : Here} {n n₂ n₃ : Entry} {a : TyVar} (en : EntryFrom h (SETVar a) r n) (en₂ : EntryFrom h (ETVar x) INT n₂)
        (en₃ : EntryFrom h (ETVar y) INT n₃) where
      parted : {w₄ : List ℕ} {o : Opened} → ty x ≡ fresh_name s.fresh → ty y ≡ fresh_name (suc s.fresh) → Replaced w₃ w₄ past g (ty a) (n ∷ n₂ ∷ n₃ ∷ []) o
          → Parts h q w w₄ s g a (record { st = o.st; g = o.g; b = b; c = c })
      unfolding split
      parted {w₄} {o} ex ey in₁ =
          let p = in₁.grown.past in
          let up₄ : s.top + 8 ≤ o.st.top = omega (arith, p.top) in
          let k₃ : Keep (s.top + 4) s.low w₂ w₃ = keep_less (le_refl _) (omega (arith, pre.room)) put.keep in
          let k₄ : Keep (s.top + 8) s.low w₃ w₄ = keep_less (le_refl _) (omega (arith, pre.room, in₁.few)) in₁.grown.keep in
          let db : Den q w₄ o.st.top b (etvar (ty x)) = den_frame k₄ up₄ (den_frame k₃ (omega arith) den_b) in
          let dc : Den q w₄ o.st.top c (etvar (ty y)) = den_frame k₄ up₄ (den_frame k₃ (omega arith) den_c) in
          let bs : Base q w₃ (s.top + 8) = base_frame keep₃ (omega arith) pre.base in
          record {
            keep = keep_trans keep₃ (keep_less (omega arith) (le_refl _) k₄);
            up = le_trans (omega arith) up₄;
            built = omega (arith, p.top, in₁.few);
            low = p.low;
            left = p.left;
            fresh = p.fresh;
            first = rw ex at db;
            second = rw ey at dc;
            run = λ Γ rn. rw (ex, ey) at (replace_three in₁ (run_frame keep₃ (omega arith) rn) (as_solved en den_r) (as_unsolved en₂ bs) (as_unsolved en₃ bs));
          }

-- ## The run with three entries more, from the state past them

module _ {q w w₁ w₂ w₃ : List ℕ} {s p : State} {g : Span} {d e : Drawn} {b c r : ℕ} (pre : PartPre q w s g) (one : Draws s d) (two : Draws d.st e)
    (put : PutETVar w w₁ s.top d.name b) (put₂ : PutETVar w₁ w₂ (s.top + 2) e.name c) (put₃ : PutArrow q w₂ w₃ (s.top + 4) b c r)
    (ep : p ≡ raised e.st 8) where
  is_past : p ≡ raised (named (named s)) 8
  is_past = ep ∙ ap (λ (t : State). raised t 8) (twice one two)

  pub part_space : {h : Here} {n n₂ n₃ : Entry} {k k₂ k₃ : Key} → EntryFrom h k r n → EntryFrom h k₂ INT n₂ → EntryFrom h k₃ INT n₃
      → Space w₃ p g 3 × SmallEntries (n ∷ n₂ ∷ n₃ ∷ [])
  part_space en en₂ en₃ = rw is_past (space pre put put₂ put₃ en en₂ en₃)

  module _ {h : Here} {n n₂ n₃ : Entry} {a : TyVar} (en : EntryFrom h (SETVar a) r n) (en₂ : EntryFrom h (ETVar d.name) INT n₂)
      (en₃ : EntryFrom h (ETVar e.name) INT n₃) where
    pub parts : {w₄ : List ℕ} {o : Opened} → Replaced w₃ w₄ p g (ty a) (n ∷ n₂ ∷ n₃ ∷ []) o → Parts h q w w₄ s g a (record { st = o.st; g = o.g; b = b; c = c })
    parts in₁ = parted pre put put₂ put₃ en en₂ en₃ one.name (second_name one two) (rw is_past at in₁)

-- ## Before and after

pub parts_built : {h : Here} {q w w' : List ℕ} {s : State} {g : Span} {a : TyVar} {o : Parted} → Parts h q w w' s g a o → Built w w' s o.st (4 * g.n + 20)
parts_built p = let lf = p.left in record { keep = p.keep; up = p.up; low = p.low; less = omega arith; built = omega (arith, p.built) }
